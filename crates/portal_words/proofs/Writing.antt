-- Writing words one after the other.
-- Assumes nothing.
use mathlib.Core.Path.{◌≡◌, refl, ap, subst, ◌∙◌}
use mathlib.Core.List.{List, [], ◌∷◌, ◌++◌}
use Prim.Native.Nat.{ℕ, suc, ◌+◌, ◌<◌}
use native.Mathlib.Numerals.{add-one}
use native.Mathlib.Omega.{arith}
use lib.ListN.{length, get_or, set, drop, length-append}
use lib.Seq.{drop-length, drop-cons}
use Rattle.written.specs.Inner.{Wrote}
use Rattle.written.proofs.Writing.{Writing, writing-none, writing-part, writing-end, wrote_one, wrote-length, wrote_then}
use Rattle.portal_words.specs.Words.{flat}
use Rattle.portal_words.specs.Inner.{WroteAll}

-- ---- the words of a list's elements: those of the first v stand

module _ {A : Type 0} (f : A → List ℕ) (xs : List A) (d : List ℕ) (at : ℕ) where
  abbrev pub Put : List ℕ → ℕ → ℕ → Type 0
  Put out next v = Writing d at (flat f xs) (flat f (drop v xs)) out next

  pub put-none : Put d at 0
  put-none = writing-none d at (flat f xs)

  pub put-more : (out : List ℕ) (next v : ℕ) (z : A) (after : List ℕ) (r : ℕ) → v < length xs → Put out next v → Wrote out next (f (get_or xs v z)) after r
      → Put after r (v + 1)
  unfolding flat
  put-more out next v z after r h w p =
      rw (add-one v) (writing-part d at (flat f xs) (f (get_or xs v z)) (flat f (drop (suc v) xs)) out next after r (rw (drop-cons xs v z h) at w) p)

  pub put_all : (out : List ℕ) (next v n : ℕ) → v ≡ length xs → next ≡ at + n → Put out next v → WroteAll n d at (flat f xs) out next
  unfolding flat
  put_all out next v n e k w =
      let none : flat f (drop v xs) ≡ [] = rw (e, drop-length xs) in
      let all = writing-end d at (flat f xs) (flat f (drop v xs)) out next none w in
      record { long = omega (arith, all.next); wrote = all }

-- ---- one run of words behind another

pub wrote_as : {d : List ℕ} {at : ℕ} {xs ys out : List ℕ} {r : ℕ} → xs ≡ ys → Wrote d at xs out r → Wrote d at ys out r
wrote_as {d} {at} {out = out} {r = r} e w = subst (λ (l : List ℕ). Wrote d at l out r) e w

pub all_one : (d : List ℕ) (at x : ℕ) → WroteAll 1 d at (x ∷ []) (set d at x) (at + 1)
all_one d at x = record { long = refl; wrote = wrote_one d at x }

module _ (n : ℕ) (d : List ℕ) (at : ℕ) (xs out : List ℕ) (next : ℕ) (w : WroteAll n d at xs out next) where
  pub all-long : length out ≡ length d
  all-long = wrote-length d at xs out next w.wrote

  pub all-next : next ≡ at + n
  all-next = w.wrote.next ∙ ap (λ (k : ℕ). at + k) w.long

  pub all_then : (m : ℕ) (ys after : List ℕ) (r : ℕ) → WroteAll m out next ys after r → WroteAll (n + m) d at (xs ++ ys) after r
  all_then m ys after r v =
      let a = length-append xs ys in
      let l = w.long in
      let k = v.long in
      record { long = omega arith; wrote = wrote_then d at xs out next w.wrote ys after r v.wrote }
