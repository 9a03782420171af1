-- A table of closures becomes one of bases, and what is read from it: lists, and the scores of all vertices.
-- Assumes nothing.
use mathlib.Core.Path.{◌≡◌, refl, sym, ap, subst, ◌∙◌}
use mathlib.Core.Bool.{Bool}
use mathlib.Core.List.{List, ◌++◌}
use mathlib.Core.Logic.{inl, inr, ⊎_elim}
use Prim.Native.Nat.{ℕ, ◌+◌, ◌*◌, ◌^◌, ◌≤◌, ◌<◌}
use native.Mathlib.Omega.{arith}
use lib.ListN.{length, get_or, take, drop, set, length-append, length-drop, length-set, get_or-eq_default}
use lib.Seq.{length-take-le, take-append_seam, drop-append_seam, take_at, drop_at, get_or-take, get_or-drop, get_or-set_same, get_or-set_other, ext_get_or}
use borrow.Rule.Slice.PartMut.{put_mid}
use Rattle.vertex_set.proofs.Cases.{same_or, less-or}
use Rattle.vertex_set.proofs.Sets.{one_set}
use Rattle.vertex_set.proofs.Sums.{sum-over-same}
use Rattle.setup.specs.declared.Graph.{Graph}
use Rattle.setup.specs.declared.Setup.{Setup}
use Rattle.setup.specs.Setup.{ChosenSet, Chosen}
use Rattle.formed.specs.WellFormed.{WellFormed}
use Rattle.derivations.specs.Both.{rule_of}
use Rattle.families.specs.Inner.Family.{size, MinimalMembers}
use Rattle.family_lists.specs.Inner.Lists.{ListOf, Writable, WroteSets, Summable, SumTables, LeastBy}
use Rattle.family_lists.proofs.Order.{Words, size-bound}
use Rattle.family_lists.proofs.MinimalSets.{least-of-minimal}
use Rattle.tables.specs.Inner.Table.{Table, FamilyOfVertex}
use Rattle.tables.proofs.Parts.{put-length, put_other}
use Rattle.tables.proofs.Tables.{family-of}
use Rattle.bases.specs.Base.{Base}
use Rattle.bases.specs.Inner.Readers.{Values}
use Rattle.bases.specs.Score.{points_at}
use Rattle.bases.proofs.Formed.{few, points-range}
use Rattle.bases.proofs.Bridge.{on-chosen, base-of, score-of}
use Rattle.report_scores.specs.Inner.Scores.{words_at, BaseTable, Scored, CanRead, Listing, Kept, KeptAt, KeptAll}

-- ---- the words of a vertex

words_long : (w : List ℕ) (v : ℕ) → length w ≡ 16384 → v < 64 → length (words_at w v) ≡ 256
words_long w v e h = length-take-le 256 (drop (v * 256) w) (let d = length-drop (v * 256) w in omega arith)

word_at : (w : List ℕ) (v b : ℕ) → b < 256 → get_or (words_at w v) b 0 ≡ get_or w (v * 256 + b) 0
word_at w v b h = get_or-take 256 (drop (v * 256) w) b 0 h ∙ get_or-drop (v * 256) w b 0

-- there are no more members than masks
members-most : (w : List ℕ) (v : ℕ) → length w ≡ 16384 → v < 64 → Words w → size (words_at w v) ≤ 16384
members-most w v e h words =
    let long = words_long w v e h in
    let b = size-bound (words_at w v) (λ i. ⊎_elim
    (λ l. rw (word_at w v i l) (words (v * 256 + i)))
    (λ l. rw (get_or-eq_default (words_at w v) 0 {n = i} (omega arith)) (omega arith)) (less-or i 256)) in
    omega arith

-- the words that are put at a vertex are its words then, and those of other vertices are kept
module _ (w d : List ℕ) (v k : ℕ) (hw : length w ≡ 16384) (hv : v < 64) (hk : k ≡ 256) (hd : length d ≡ 256) where
  fit : v * 256 + k ≤ length w
  fit = omega arith

  own-long : length d ≡ k
  own-long = omega arith

  table-long : length (put_mid (v * 256) k w d) ≡ 16384
  table-long = put-length w d (v * 256) k fit own-long ∙ hw

  words-put : words_at (put_mid (v * 256) k w d) v ≡ d
  words-put =
      ap (take 256) (drop_at (take (v * 256) w) (d ++ drop k (drop (v * 256) w)) (v * 256) (length-take-le (v * 256) w (omega arith)))
      ∙ take_at d (drop k (drop (v * 256) w)) 256 hd

  words-kept : (u : ℕ) → u < 64 → (u ≡ v → ⊥) → words_at (put_mid (v * 256) k w d) u ≡ words_at w u
  words-kept u hu n =
      let long = words_long (put_mid (v * 256) k w d) u table-long hu in
      ext_get_or 0 (words_at (put_mid (v * 256) k w d) u) (words_at w u) (long ∙ sym (words_long w u hw hu))
      (λ i l. let h : i < 256 = omega arith in
      word_at (put_mid (v * 256) k w d) u i h ∙ put_other w d (v * 256) k fit own-long (u * 256 + i) (⊎_elim (λ s. inl (omega arith)) (λ s. inr (omega (arith, n))) (less-or u v)) ∙ sym (word_at w u i h))

  -- the minimal members are put in the family's place, and their least sum is r
  pub kept_at : (low high family : List ℕ) (r : ℕ) → MinimalMembers (take k (drop (v * 256) w)) d → family ≡ words_at (put_mid (v * 256) k w d) v
      → LeastBy family low high r → KeptAt w low high v r (put_mid (v * 256) k w d)
  kept_at low high family r min e least =
      record {
        words = table-long;
        own = record {
          minimal = subst (MinimalMembers (words_at w v)) (sym words-put) (subst (λ (n : ℕ). MinimalMembers (take n (drop (v * 256) w)) d) hk min);
          least = subst (λ (f : List ℕ). LeastBy f low high r) e least;
        };
        other = words-kept;
      }

-- ---- all vertices

-- So it is at the vertices below n, and the words of the others are as before.
pub record KeptBelow (entry low high : List ℕ) (n : ℕ) (exit out : List ℕ) : Type 0 where
  pub words : length exit ≡ 16384
  pub long : length out ≡ 64
  pub done : (v : ℕ) → v < n → Kept (words_at entry v) low high (words_at exit v) (get_or out v 0)
  pub left : (v : ℕ) → v < 64 → n ≤ v → words_at exit v ≡ words_at entry v

pub kept-none : (entry low high out : List ℕ) → length entry ≡ 16384 → length out ≡ 64 → KeptBelow entry low high 0 entry out
kept-none entry low high out e l = record { words = e; long = l; done = λ v h. absurd (omega arith); left = λ v h n. refl }

pub kept_more : (entry low high w out next : List ℕ) (n r : ℕ) → n < 64 → KeptBelow entry low high n w out → KeptAt w low high n r next
    → KeptBelow entry low high (n + 1) next (set out n r)
kept_more entry low high w out next n r l p k =
    record {
      words = k.words;
      long = length-set out n r ∙ p.long;
      done = λ v h. ⊎_elim
          (λ e. subst (λ (u : ℕ). Kept (words_at entry u) low high (words_at next u) (get_or (set out n r) u 0)) (sym e)
          (rw (get_or-set_same out n r 0 (let o = p.long in omega arith))
          (subst (λ (f : List ℕ). Kept f low high (words_at next n) r) (p.left n l (omega arith)) k.own)))
          (λ o. rw (get_or-set_other out n v r 0 o, k.other v (omega arith) o) (p.done v (omega (arith, o)))) (same_or v n);
      left = λ v h o. k.other v h (omega arith) ∙ p.left v h (omega arith);
    }

-- ---- what is read from a table of bases

-- a target's words can be written as a list,
pub writable : (w : List ℕ) (chosen target : ℕ) (family out : List ℕ) → family ≡ words_at w target → Words w → CanRead w chosen target out
    → Writable chosen family (length out)
writable w chosen target family out e words c =
    let b = c.table.each target c.vertex in
    subst (λ (f : List ℕ). Writable chosen f (length out)) (sym e)
    (record {
      words = words_long w target c.table.words c.vertex;
      few = c.few;
      exact = on-chosen c.loss c.graph target chosen b.family (words_at w target) b.is_family b.is_minimal;
      room = let m = members-most w target c.table.words c.vertex words in let l = c.room in omega arith;
    })

-- and what is written is the base
pub listing : (w : List ℕ) (chosen target : ℕ) (family entry exit : List ℕ) (r : ℕ) → family ≡ words_at w target → chosen < 2 ^ 64
    → CanRead w chosen target entry → length exit ≡ length entry → WroteSets chosen family entry r exit → Listing w chosen target entry r exit
listing w chosen target family entry exit r e fits c kept h =
    record {
      room = kept ∙ c.room;
      count = let l = ap length h.wrote ∙ length-append h.list (drop (length h.list) entry) in omega (arith, h.count, kept, c.room);
      behind = ap (λ (n : ℕ). drop n exit) h.count ∙ ap (drop (length h.list)) h.wrote ∙ drop-append_seam h.list (drop (length h.list) entry)
          ∙ ap (λ (n : ℕ). drop n entry) (sym h.count);
      each = λ loss s g formed ch t.
          let b = t.each target c.vertex in
          subst (Base loss s g target) (sym front)
          (base-of loss s g target chosen ch b.family fits c.few b.is_family (words_at w target) b.is_minimal h.list
          (subst (λ (f : List ℕ). ListOf chosen f h.list) e h.is));
    }
  where
    front : take r exit ≡ h.list
    front = ap (λ (n : ℕ). take n exit) h.count ∙ ap (take (length h.list)) h.wrote ∙ take-append_seam h.list (drop (length h.list) entry)

-- ---- all scores

-- tables of sums of equal values
sums_same : (chosen : ℕ) (value other : ℕ → ℕ) (low high : List ℕ) → ((v : ℕ) → value v ≡ other v) → SumTables chosen value low high → SumTables chosen other low high
sums_same chosen value other low high e t =
    record { fit = t.fit; word = t.word; below = t.below; sum = λ m x l o. t.sum m x l o ∙ sum-over-same value other x e }

chosen-unique : (loss : Bool) (s : Setup) (a b : ℕ) → ChosenSet loss s a → ChosenSet loss s b → a ≡ b
chosen-unique loss s a b p q = one_set (Chosen loss s) a b p.each q.each

pub scored : (loss : Bool) (s : Setup) (g : Graph) (chosen : ℕ) (values low high w exit out : List ℕ) → WellFormed s → ChosenSet loss s chosen
    → Values loss s values → SumTables chosen (λ (v : ℕ). get_or values v 0) low high → Table (rule_of loss g) chosen w
    → KeptAll w low high exit out → Scored loss s g exit (λ (v : ℕ). get_or out v 0)
scored loss s g chosen values low high w exit out formed ch values-are sums t kept =
    record {
      table = λ c h. subst (λ (k : ℕ). BaseTable (rule_of loss g) k exit) (chosen-unique loss s chosen c ch h)
          (record {
            words = kept.words;
            each = λ v l. record { family = words_at w v; is_family = family v l; is_minimal = (kept.each v l).minimal };
          });
      each = λ v l.
          score-of loss s g v chosen ch (words_at w v) sums.word (few loss s chosen formed ch) (family v l) (get_or out v 0) (points_at loss s)
          (λ x. refl)
          (least-of-minimal chosen (words_at w v) (words_at exit v) (points_at loss s) (get_or out v 0) sums.word (kept.each v l).minimal
          ((kept.each v l).least.each chosen (points_at loss s) points));
    }
  where
    family : (v : ℕ) → v < 64 → FamilyOfVertex (rule_of loss g) chosen v (words_at w v)
    family v l = family-of (rule_of loss g) chosen v 256 w l refl t

    points : SumTables chosen (points_at loss s) low high
    points = sums_same chosen (λ (u : ℕ). get_or values u 0) (points_at loss s) low high values-are.each sums

pub summable : (loss : Bool) (s : Setup) (chosen : ℕ) (values : List ℕ) → WellFormed s → ChosenSet loss s chosen → Values loss s values
    → Summable chosen (λ (v : ℕ). get_or values v 0)
summable loss s chosen values formed ch values-are =
    record {
      few = few loss s chosen formed ch;
      small = λ v m. let p = points-range loss s formed v in let e = values-are.each v in omega arith;
    }
