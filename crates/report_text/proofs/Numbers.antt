-- Lists over consecutive numbers, and those of the numbers that pass a test.
-- Assumes nothing.
use mathlib.Core.Path.{◌≡◌, refl, ap}
use mathlib.Core.List.{map}
use mathlib.Core.Logic.{◌⊎◌, inl, inr, ⊎_elim}
use Prim.Native.Nat.{ℕ, zero, suc, ◌+◌, ◌≤◌, ◌<◌}
use native.Mathlib.Omega.{arith}
use lib.ListN.{length, get_or}
use Rattle.vertex_set.specs.Set.{Iff}
use Rattle.vertex_set.specs.Order.{Listed}
use Rattle.vertex_set.proofs.Cases.{same_or}
use Rattle.vertex_set.proofs.Sorted.{Sorted}
use Rattle.report_text.specs.Rows.{numbers_from}

pub length-numbers : {A : Type 0} (f : ℕ → A) (k n : ℕ) → length (map f (numbers_from k n)) ≡ n
unfolding numbers_from
length-numbers f k zero = refl
length-numbers f k (suc n) = ap suc (length-numbers f (suc k) n)

pub at-numbers : {A : Type 0} (f : ℕ → A) (k n i : ℕ) (d : A) → i < n → get_or (map f (numbers_from k n)) i d ≡ f (k + i)
unfolding numbers_from
at-numbers f k zero i d h = absurd (omega arith)
at-numbers f k (suc n) zero d h = let e : k + 0 ≡ k = omega arith in rw e
at-numbers f k (suc n) (suc i) d h = let e : k + suc i ≡ suc k + i = omega arith in rw e (at-numbers f (suc k) n i d (omega arith))

pub listed-numbers : (k n v : ℕ) → Iff (Listed (numbers_from k n) v) ((k ≤ v) × (v < k + n))
unfolding numbers_from
listed-numbers k zero v = record { to = λ z. absurd z; from = λ h. let a = h.0 in let b = h.1 in absurd (omega arith) }
listed-numbers k (suc n) v =
    let ih = listed-numbers (suc k) n v in
    record {
      to = ⊎_elim (λ e. (omega arith, omega arith)) (λ m. let h = ih.to m in let a = h.0 in let b = h.1 in (omega arith, omega arith));
      from = λ h. let a = h.0 in let b = h.1 in ⊎_elim inl (λ n. inr (ih.from (omega arith, omega arith))) (same_or v k);
    }

pub sorted-numbers : (k n : ℕ) → Sorted ◌<◌ (numbers_from k n)
unfolding numbers_from
sorted-numbers k zero = tt
sorted-numbers k (suc n) = (λ v m. ((listed-numbers (suc k) n v).to m).0, sorted-numbers (suc k) n)
