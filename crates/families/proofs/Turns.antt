-- What a turn of a loop over a set's vertices takes: the lowest vertex that is left, as a number, and what is left then.
-- Assumes nothing.
use mathlib.Core.Path.{◌≡◌, subst}
use Prim.Native.Nat.{ℕ, ◌-◌, ◌*◌, ◌%◌, ◌^◌, ◌<◌}
use native.Mathlib.Omega.{arith}
use lib.Count.{count_trailing_zeros}
use Rattle.vertex_set.specs.Set.{Member}
use Rattle.vertex_set.proofs.Sets.{none-in-zero, same_set}
use Rattle.vertex_set.proofs.Places.{Lowest, lowest}
use Rattle.successors.specs.Inner.{LowestOf, Without}
use Rattle.successors.proofs.Members.{lowest-trailing, without-removed}

pub record Turn (s v r : ℕ) : Type 0 where
  pub some : s ≡ 0 → ⊥
  pub lowest : Lowest s
  pub vertex : v ≡ count_trailing_zeros 64 s
  pub rest : r ≡ s - (1 * 2 ^ count_trailing_zeros 64 s) % 2 ^ 64

-- two sets without the same vertex are one
without-same : (s v r q : ℕ) → Without s v r → Without s v q → r ≡ q
without-same s v r q a b =
    same_set r q (record { each = λ i m. (b.each i).from ((a.each i).to m) }) (record { each = λ i m. (a.each i).from ((b.each i).to m) })

pub turn : (s v r : ℕ) → s < 2 ^ 64 → LowestOf s v → Without s v r → Turn s v r
turn s v r h l w =
    let some : s ≡ 0 → ⊥ = λ e. none-in-zero v (subst (λ (x : ℕ). Member x v) e l.vertex.member) in
    let t = lowest-trailing s some h in
    let a = l.lower (count_trailing_zeros 64 s) t.vertex.member in
    let b = t.lower v l.vertex.member in
    let same : v ≡ count_trailing_zeros 64 s = omega arith in
    record {
      some = some;
      lowest = lowest s h some;
      vertex = same;
      rest = without-same s (count_trailing_zeros 64 s) r _ (subst (λ (u : ℕ). Without s u r) same w) (without-removed s (count_trailing_zeros 64 s) t.vertex);
    }
