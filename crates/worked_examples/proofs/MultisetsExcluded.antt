-- Wrong scores by multisets that the contract excludes, each at an example.
-- Assumes nothing.
use mathlib.Core.Path.{◌≡◌, ap, ◌∙◌}
use mathlib.Core.List.{List, [], ◌∷◌, ◌++◌, map}
use Prim.Native.Nat.{ℕ, ◌≤◌, ◌<◌}
use native.Mathlib.Omega.{arith}
use lib.ListN.{length, get_or, replicate}
use Rattle.vertex_set.proofs.Lists.{exactly-unique}
use Rattle.setup.specs.Calls.{written}
use Rattle.questions.specs.Contract.{Contract, Reply, gives, refuses, Outcome, ends, turns_away, Fulfils}
use Rattle.questions.proofs.Contract.{only-given, only-short}
use Rattle.multisets.specs.Multisets.{highest_first}
use Rattle.multiset_scores.specs.Scores.{multiset_of, all_lengths, MultisetScore, FirstInScore}
use Rattle.multiset_scores.specs.Answers.{bags_call}
use Rattle.multiset_scores.proofs.Unique.{one-bags}
use Rattle.worked_examples.specs.Sheets.{ReadsSheet, zeroed, outer, inner, later}
use Rattle.worked_examples.specs.Table.{set_of}
use Rattle.worked_examples.specs.Multisets.{MultisetExample, HasBagScore}
use Rattle.worked_examples.proofs.Reading.{reads-well, read-zeroed, read-outer, read-inner, read-later}
use Rattle.worked_examples.proofs.Table.{held}
use Rattle.worked_examples.proofs.Multisets.{all-scored, places-written}

-- the score of an example is the only list that the definition allows
only-score : (x : MultisetExample) → ReadsSheet x.sheet → HasBagScore x → (l : List ℕ) → MultisetScore x.sheet.setup x.target l → l ≡ x.sets
only-score x r h l m =
    let k = (held x.sheet (λ s. MultisetScore s x.target x.sets × (map (λ y. highest_first (multiset_of s y)) x.sets ≡ x.multisets)) r h).0 in
    exactly-unique (FirstInScore x.sheet.setup x.target) l x.sets m k

zeroed-is : (l : List ℕ) → MultisetScore zeroed.setup 5 l → l ≡ set_of (0 ∷ []) ∷ set_of (1 ∷ 2 ∷ []) ∷ []
zeroed-is = only-score _ read-zeroed all-scored.1.1.1.0

outer-is : (l : List ℕ) → MultisetScore outer.setup 6 l → l ≡ set_of (0 ∷ 1 ∷ []) ∷ set_of (2 ∷ 3 ∷ []) ∷ []
outer-is = only-score _ read-outer all-scored.1.1.1.1.0

inner-is : (l : List ℕ) → MultisetScore inner.setup 6 l → l ≡ set_of (0 ∷ 1 ∷ []) ∷ set_of (2 ∷ 3 ∷ []) ∷ []
inner-is = only-score _ read-inner all-scored.1.1.1.1.1.0

later-is : (l : List ℕ) → MultisetScore later.setup 4 l → l ≡ set_of (2 ∷ 3 ∷ []) ∷ []
later-is = only-score _ read-later all-scored.1.1.1.1.1.1.0

first_of : (l k : List ℕ) → l ≡ k → get_or l 0 0 ≡ get_or k 0 0
first_of l k e = ap (λ (m : List ℕ). get_or m 0 0) e

-- Equal bags both kept: 3 and 0 stand there once, though two sets have them.
pub no-bag-twice : MultisetScore zeroed.setup 5 (set_of (0 ∷ []) ∷ set_of (1 ∷ 2 ∷ []) ∷ set_of (3 ∷ 4 ∷ []) ∷ []) → ⊥
no-bag-twice m = let e = ap length (zeroed-is _ m) in omega arith

-- Equal bags both dropped.
pub no-bag-lost : MultisetScore zeroed.setup 5 (set_of (0 ∷ []) ∷ []) → ⊥
no-bag-lost m = let e = ap length (zeroed-is _ m) in omega arith

-- The last set that has a bag: 5 and 1 behind 3 and 3.
pub no-last-set : MultisetScore outer.setup 6 (set_of (2 ∷ 3 ∷ []) ∷ set_of (4 ∷ 5 ∷ []) ∷ []) → ⊥
no-last-set m = let e = first_of _ _ (outer-is _ m) in omega arith

-- The lower values first, or the higher ones.
pub no-lowest-first : MultisetScore outer.setup 6 (set_of (2 ∷ 3 ∷ []) ∷ set_of (0 ∷ 1 ∷ []) ∷ []) → ⊥
no-lowest-first m = let e = first_of _ _ (outer-is _ m) in omega arith

pub no-highest-first : MultisetScore inner.setup 6 (set_of (2 ∷ 3 ∷ []) ∷ set_of (0 ∷ 1 ∷ []) ∷ []) → ⊥
no-highest-first m = let e = first_of _ _ (inner-is _ m) in omega arith

-- A bag kept that a later one is at most.
pub no-higher-kept : MultisetScore later.setup 4 (set_of (0 ∷ 1 ∷ []) ∷ set_of (2 ∷ 3 ∷ []) ∷ []) → ⊥
no-higher-kept m = let e = ap length (later-is _ m) in omega arith

-- ---- how the lent lists end: 28 places and two lengths, of the bags {4} and {3, 0}

abbrev sets : List ℕ
sets = set_of (0 ∷ []) ∷ set_of (1 ∷ 2 ∷ []) ∷ []

are-sets : MultisetScore zeroed.setup 5 sets
are-sets = (held zeroed (λ s. MultisetScore s 5 sets × (map (λ y. highest_first (multiset_of s y)) sets ≡ (4 ∷ []) ∷ (3 ∷ 0 ∷ []) ∷ [])) read-zeroed all-scored.1.1.1.0).0

abbrev both_places : List ℕ
both_places = 4 ∷ (replicate 13 0 ++ (3 ∷ replicate 13 0))

module _ (places lengths : List ℕ) (o : Outcome) (f : Fulfils (bags_call zeroed.setup 5 places lengths) o) where
  abbrev call : Contract
  call = bags_call zeroed.setup 5 places lengths

  with-room : 28 ≤ length places → 2 ≤ length lengths → o ≡ ends (gives (2 ∷ [])) (written both_places places ∷ written (1 ∷ 2 ∷ []) lengths ∷ [])
  with-room l k =
      let p = places-written.values in
      let q = places-written.lengths in
      only-given call (one-bags zeroed.setup 5 places lengths) sets are-sets o f (reads-well zeroed read-zeroed, (omega arith, tt))
      (let e = ap length p in omega arith, (let e = ap length q in omega arith, tt))
      ∙ ap (λ (x : List ℕ). ends (gives (2 ∷ [])) (written x places ∷ written (all_lengths zeroed.setup sets) lengths ∷ [])) p
      ∙ ap (λ (x : List ℕ). ends (gives (2 ∷ [])) (written both_places places ∷ written x lengths ∷ [])) q

  short : (28 ≤ length places → 2 ≤ length lengths → ⊥) → o ≡ turns_away (places ∷ lengths ∷ []) 15
  short n =
      let p = places-written.values in
      let q = places-written.lengths in
      only-short call (one-bags zeroed.setup 5 places lengths) sets are-sets o f (reads-well zeroed read-zeroed, (omega arith, tt))
      (λ r. let e = ap length p in let i = ap length q in let a = r.0 in let b = r.1.0 in n (omega arith) (omega arith))

-- Padding that is not 0: the place behind {4} is 0, whatever stood there.
pub no-padding-left : (places lengths after counts : List ℕ) (reply : Reply) → 28 ≤ length places → 2 ≤ length lengths
    → Fulfils (bags_call zeroed.setup 5 places lengths) (ends reply (after ∷ counts ∷ [])) → (get_or after 1 0 ≡ 0 → ⊥) → ⊥
no-padding-left places lengths after counts reply l k f n = n (ap (λ (o : Outcome). get_or (get_or o.lent 0 []) 1 0) (with-room places lengths _ f l k))

-- .. nor is the last of the 28 places left.
pub no-last-place-left : (places lengths after counts : List ℕ) (reply : Reply) → 28 ≤ length places → 2 ≤ length lengths
    → Fulfils (bags_call zeroed.setup 5 places lengths) (ends reply (after ∷ counts ∷ [])) → (get_or after 27 0 ≡ 0 → ⊥) → ⊥
no-last-place-left places lengths after counts reply l k f n = n (ap (λ (o : Outcome). get_or (get_or o.lent 0 []) 27 0) (with-room places lengths _ f l k))

-- Lengths not written, where other numbers stood.
pub no-lengths-left : (places lengths after : List ℕ) (reply : Reply) → 28 ≤ length places → 2 ≤ length lengths → (get_or lengths 1 0 ≡ 2 → ⊥)
    → Fulfils (bags_call zeroed.setup 5 places lengths) (ends reply (after ∷ lengths ∷ [])) → ⊥
no-lengths-left places lengths after reply l k n f = n (ap (λ (o : Outcome). get_or (get_or o.lent 1 []) 1 0) (with-room places lengths _ f l k))

refused-not-given : {values : List ℕ} {lent left : List (List ℕ)} → ends (gives values) lent ≡ turns_away left 15 → ⊥
refused-not-given e = let z : ◌≡◌ {A = ℕ} 0 15 = ap (λ (o : Outcome). o.reply.number) e in omega arith

-- 15 judged by the values' list alone, or by the lengths' alone.
pub no-room-by-places : (places lengths values : List ℕ) (lent : List (List ℕ)) → length lengths < 2 → Fulfils (bags_call zeroed.setup 5 places lengths) (ends (gives values) lent) → ⊥
no-room-by-places places lengths values lent l f = refused-not-given (short places lengths _ f (λ a b. omega arith))

pub no-room-by-lengths : (places lengths values : List ℕ) (lent : List (List ℕ)) → length places < 28 → Fulfils (bags_call zeroed.setup 5 places lengths) (ends (gives values) lent) → ⊥
no-room-by-lengths places lengths values lent l f = refused-not-given (short places lengths _ f (λ a b. omega arith))

-- 15 at equality.
pub no-refusal-at-equality : (places lengths : List ℕ) (lent : List (List ℕ)) → length places ≡ 28 → length lengths ≡ 2
    → Fulfils (bags_call zeroed.setup 5 places lengths) (ends (refuses 15) lent) → ⊥
no-refusal-at-equality places lengths lent l k f =
    let z : ◌≡◌ {A = ℕ} 15 0 = ap (λ (o : Outcome). o.reply.number) (with-room places lengths _ f (omega arith) (omega arith)) in
    omega arith
