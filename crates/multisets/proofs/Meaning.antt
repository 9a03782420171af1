-- The theorems of specs/Meaning: counts, sorted lists, an order, one arrangement, one written form.
-- Assumes nothing.
use mathlib.Core.Path.{◌≡◌, refl, sym, ap, ◌∙◌}
use mathlib.Core.List.{List, [], ◌∷◌, ◌++◌}
use mathlib.Core.Logic.{inl, inr, ⊎_elim}
use Rattle.std.specs.Prelude.{IsTrue, EachIndex, ◌↔◌}
use mathlib.Core.Bool.{Bool, true, false}
use Prim.Native.Nat.{ℕ, ◌-◌, ◌≤◌}
use native.Mathlib.Omega.{arith}
use lib.ListN.{length, get_or, take, replicate, length-append, length-replicate}
use lib.Seq.{take-append_seam}
use Rattle.vertex_set.specs.Set.{Decides}
use Rattle.vertex_set.specs.Order.{Listed}
use Rattle.vertex_set.proofs.Cases.{false-true}
use Rattle.vertex_set.proofs.Decisions.{decide_iff, iff-trans}
use Rattle.vertex_set.proofs.Lists.{place_of}
use Rattle.multisets.specs.Multisets.{Pairing, BagAtMost, SameMultiset, most_values, highest_first, places_of}
use Rattle.multisets.specs.Meaning.{at_least, PairingCounts, PairingSorts, Reflexive, Transitive, Antisymmetric, OrderFree, OneAtMostAnswer, Arranges, OneArrangement, FourteenPlaces, WrittenApart}
use Rattle.multisets.specs.Inner.{FewerThan}
use Rattle.multisets.proofs.Counts.{gap, at-least-falls, take-lowest, none-high, same-of-counts, counts-of-same, at-least-all}
use Rattle.multisets.proofs.Pairs.{fewer-pairing, pairing-fewer}
use Rattle.multisets.proofs.Arranged.{at-least-arranged, length-arranged, arranged-descends, fewer-places, places-fewer, one-arrangement}

pub pairing-counts : PairingCounts
pairing-counts m n = record { to = pairing-fewer m n; from = fewer-pairing m n }

pub pairing-sorts : PairingSorts
pairing-sorts m n = iff-trans (pairing-counts m n) (record { to = fewer-places m n; from = places-fewer m n })

-- ---- an order

pub reflexive : Reflexive
reflexive m = fewer-pairing m m (λ t. omega arith)

pub transitive : Transitive
transitive k m n p q = fewer-pairing k n (λ t. let a = pairing-fewer k m p t in let b = pairing-fewer m n q t in omega arith)

pub antisymmetric : Antisymmetric
antisymmetric m n p q = same-of-counts m n (λ t. let a = pairing-fewer m n p t in let b = pairing-fewer n m q t in omega arith)

pub same-pairing : (m n : List ℕ) → SameMultiset m n → Pairing m n
same-pairing m n s = fewer-pairing m n (λ t. let e = counts-of-same m n s t in omega arith)

pub same-turned : (m n : List ℕ) → SameMultiset m n → SameMultiset n m
same-turned m n s = record { each = λ t. sym (s.each t) }

same_length : (m n : List ℕ) → SameMultiset m n → length m ≡ length n
same_length m n s = let e = counts-of-same m n s 0 in let a = at-least-all m in let b = at-least-all n in omega arith

pub order-free : OrderFree
order-free m m' n n' s r h =
    record {
      first = let e = same_length m m' s in let f = h.first in omega arith;
      second = let e = same_length n n' r in let f = h.second in omega arith;
      pairing = transitive m' m n' (same-pairing m' m (same-turned m m' s)) (transitive m n n' h.pairing (same-pairing n n' r));
    }

-- ---- the arrangement

pub arranges : Arranges
arranges m = (arranged-descends m, same-of-counts (highest_first m) m (at-least-arranged m))

pub arrangement-same : OneArrangement
arrangement-same m n =
    record {
      to = λ s. one-arrangement m n (counts-of-same m n s);
      from = λ e. same-of-counts m n (λ t. sym (at-least-arranged m t) ∙ ap (λ (l : List ℕ). at_least l t) e ∙ at-least-arranged n t);
    }

pub fourteen-places : FourteenPlaces
unfolding places_of
fourteen-places m l =
    let a = length-append (highest_first m) (replicate (14 - length m) 0) in
    let b = length-replicate {A = ℕ} (14 - length m) 0 in
    let c = length-arranged m in omega arith

pub written_apart : WrittenApart
unfolding places_of
written_apart m n l k e f =
    let a = take-append_seam (highest_first m) (replicate (14 - length m) 0) in
    let b = take-append_seam (highest_first n) (replicate (14 - length n) 0) in
    let long : length (highest_first m) ≡ length (highest_first n) = let p = length-arranged m in let q = length-arranged n in omega arith in
    (arrangement-same m n).from
    (sym a ∙ (ap (λ (q : List ℕ). take (length (highest_first m)) q) f
    ∙ (ap (λ (j : ℕ). take j (highest_first n ++ replicate (14 - length n) 0)) long ∙ b)))

-- ---- the values of the one are thresholds enough

pub fewer-at : (m n : List ℕ) → ((x : ℕ) → Listed m x → at_least m x ≤ at_least n x) → FewerThan m n
fewer-at m n h =
    record {
      each = λ t. ⊎_elim
          (λ r.
          let e = gap m t r.value r.value r.lowest r.high (omega arith) in
          let q = h r.value (in-middle m r.front r.value r.back r.is) in
          let f = at-least-falls n t r.value r.high in
          omega arith)
          (λ none. let z = none-high m t none in omega arith)
          (take-lowest t m);
    }
  where
    middle : (a : List ℕ) (x : ℕ) (b : List ℕ) → Listed (a ++ (x ∷ b)) x
    middle [] x b = inl refl
    middle (y ∷ a) x b = inr (middle a x b)

    in-middle : (l a : List ℕ) (x : ℕ) (b : List ℕ) → l ≡ a ++ (x ∷ b) → Listed l x
    in-middle l a x b e = rw e (middle a x b)

pub one-at-most-answer : OneAtMostAnswer
one-at-most-answer m n true true d e = refl
one-at-most-answer m n true false d e = absurd (e.no refl (d.yes refl))
one-at-most-answer m n false true d e = absurd (d.no refl (e.yes refl))
one-at-most-answer m n false false d e = refl

pub at-most-decided : (m n : List ℕ) → length m ≤ most_values → length n ≤ most_values → (r : Bool) → Decides (FewerThan m n) r → Decides (BagAtMost m n) r
at-most-decided m n l k r d =
    decide_iff
    (record {
      to = λ f. record { first = l; second = k; pairing = fewer-pairing m n f.each };
      from = λ a. record { each = pairing-fewer m n a.pairing };
    }) d

-- ---- the values of m are thresholds enough

pub fewer-by-all : (m n : List ℕ) (r : Bool) → IsTrue r ↔ EachIndex m (λ i. at_least m (get_or m i 0) ≤ at_least n (get_or m i 0)) → Decides (FewerThan m n) r
fewer-by-all m n true h =
    record {
      yes = λ e. fewer-at m n (λ x l. let p = place_of m x l in rw (sym p.2) (h.0 refl p.0 (let q = p.1 in omega arith)));
      no = λ e. absurd (false-true (sym e));
    }
fewer-by-all m n false h =
    record { yes = λ e. absurd (false-true e); no = λ e f. false-true (h.1 (λ i l. f.each (get_or m i 0))) }
