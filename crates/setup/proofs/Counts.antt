-- Counting edges, and initial and losable vertices.
-- Assumes nothing.
use mathlib.Core.Path.{◌≡◌, refl, sym, ap, ◌∙◌}
use mathlib.Core.Bool.{Bool, true, false}
use mathlib.Core.List.{List, [], ◌∷◌, ◌++◌}
use mathlib.Core.Logic.{inl, inr, ⊎_elim}
use Prim.Native.Nat.{ℕ, zero, suc, ◌+◌, ◌*◌, ◌^◌, ◌≤◌, ◌<◌}
use native.Mathlib.Nat.{add-zero, zero-add, add_assoc}
use native.Mathlib.Numerals.{add-one}
use native.Mathlib.Omega.{arith}
use lib.ListN.{length, get_or, set, take, get_or-eq_default}
use lib.Seq.{take-suc, take_all}
use lib.Count.{ones, ones_cat}
use lib.Bits.{bit_or, or_shifted_r}
use Rattle.vertex_set.specs.Set.{Member, Iff, Inserted}
use Rattle.vertex_set.proofs.Cases.{less-or}
use Rattle.vertex_set.proofs.Sets.{same_set, in-or, in_one, bounded-by-members}
use Rattle.vertex_set.proofs.Taking.{taken_none, taken_more, taken-same}
use Rattle.std.specs.Prelude.{Option, None, Some}
use Rattle.setup.specs.declared.Vertex.{Vertex}
use Rattle.setup.specs.declared.Setup.{Setup}
use Rattle.setup.specs.Setup.{total, given, value_of, unused_vertex, vertex_at, Chosen, chosen_count, ChosenSet}

-- the sum over two lists together
pub total-append : {A : Type 0} (f : A → ℕ) (xs ys : List A) → total f (xs ++ ys) ≡ total f xs + total f ys
total-append f [] ys = sym (zero-add (total f ys))
total-append f (x ∷ xs) ys = ap (λ (n : ℕ). f x + n) (total-append f xs ys) ∙ sym (add_assoc (f x) (total f xs) (total f ys))

-- one element more
pub total-more : {A : Type 0} (f : A → ℕ) (xs : List A) (i : ℕ) (d : A) → i < length xs → total f (take (i + 1) xs) ≡ total f (take i xs) + f (get_or xs i d)
total-more f xs i d h =
    rw (add-one i, take-suc xs i d h, total-append f (take i xs) (get_or xs i d ∷ [])) (ap (λ (n : ℕ). total f (take i xs) + n) (add-zero (f (get_or xs i d))))

-- another element at one place
pub total-set : {A : Type 0} (h : A → ℕ) (l : List A) (i : ℕ) (a d : A) → i < length l → total h (set l i a) + h (get_or l i d) ≡ total h l + h a
total-set h [] i a d b = absurd (omega arith)
total-set h (x ∷ xs) zero a d b = omega arith
total-set h (x ∷ xs) (suc i) a d b = let e = total-set h xs i a d (omega arith) in omega arith

-- r holds the chosen vertices below v
pub record ChosenBelow (loss : Bool) (s : Setup) (v r : ℕ) : Type 0 where
  pub each : (i : ℕ) → Iff (Member r i) ((i < v) × Chosen loss s i)
  pub size : ones r ≡ total (λ x. given (value_of loss x)) (take v s.vertices)

pub chosen_none : (loss : Bool) (s : Setup) → ChosenBelow loss s 0 0
unfolding ones
chosen_none loss s =
    record { each = (taken_none (Chosen loss s)).each; size = refl }

module _ (loss : Bool) (s : Setup) (v r : ℕ) (l : v < 64) (long : length s.vertices ≡ 64) (b : ChosenBelow loss s v r) where
  more_given : total (λ x. given (value_of loss x)) (take (v + 1) s.vertices) ≡ total (λ x. given (value_of loss x)) (take v s.vertices) + given (value_of loss (vertex_at s v))
  more_given = total-more (λ x. given (value_of loss x)) s.vertices v unused_vertex (omega arith)

  below : r < 2 ^ v
  below = bounded-by-members v r (λ i m. ((b.each i).to m).0)

  -- a chosen vertex is taken in
  pub chosen_more : (r' : ℕ) → given (value_of loss (vertex_at s v)) ≡ 1 → Inserted r v r' → ChosenBelow loss s (v + 1) r'
  unfolding ones
  chosen_more r' g t =
      record {
        each = (taken_more (Chosen loss s) v r (record { each = b.each }) r' l g t).each;
        size = ap ones whole ∙ ones_cat v 1 r below ∙ count;
      }
    where
      same : r' ≡ bit_or r (2 ^ v)
      same = same_set r' (bit_or r (2 ^ v))
          (record { each = λ i m. (in-or r (2 ^ v) i).from (⊎_elim (λ p. inl p) (λ e. inr ((in_one v i).from e)) ((t.taken l i).to m)) })
          (record { each = λ i m. (t.taken l i).from (⊎_elim (λ p. inl p) (λ p. inr ((in_one v i).to p)) ((in-or r (2 ^ v) i).to m)) })

      whole : r' ≡ 1 * 2 ^ v + r
      whole = same ∙ ap (λ (x : ℕ). bit_or r x) (let e : 2 ^ v ≡ 1 * 2 ^ v = omega arith in e) ∙ or_shifted_r 1 v r below

      count : ones 1 + ones r ≡ total (λ x. given (value_of loss x)) (take (v + 1) s.vertices)
      count = let m = more_given in let z = b.size in let o : ones 1 ≡ 1 = refl in omega arith

  -- any other is left out
  pub chosen-same : (given (value_of loss (vertex_at s v)) ≡ 1 → ⊥) → given (value_of loss (vertex_at s v)) ≡ 0 → ChosenBelow loss s (v + 1) r
  chosen-same n z =
      record {
        each = (taken-same (Chosen loss s) v r (record { each = b.each }) n).each;
        size = b.size ∙ (let m = more_given in omega arith);
      }

pub given-or : (x : Option ℕ) → (given x ≡ 1 → ⊥) → given x ≡ 0
given-or None n = refl
given-or (Some k) n = absurd (n refl)

pub chosen-all : (loss : Bool) (s : Setup) (r : ℕ) → length s.vertices ≡ 64 → ChosenBelow loss s 64 r → ChosenSet loss s r
unfolding chosen_count
chosen-all loss s r long b =
    record {
      each = λ i. record { to = λ m. ((b.each i).to m).1; from = λ g. (b.each i).from (inside i g, g) };
      size = b.size ∙ ap (total (λ x. given (value_of loss x))) (take_all 64 s.vertices (omega arith));
    }
  where
    outside : (i : ℕ) → 64 ≤ i → vertex_at s i ≡ unused_vertex
    outside i h = get_or-eq_default s.vertices unused_vertex (omega arith)

    blanks : (b : Bool) → given (value_of b unused_vertex) ≡ 0
    blanks true = refl
    blanks false = refl

    inside : (i : ℕ) → Chosen loss s i → i < 64
    inside i g = ⊎_elim (λ h. h) (λ h. absurd (let z = ap (λ (x : Vertex). given (value_of loss x)) (outside i h) in let y = blanks loss in omega arith)) (less-or i 64)
