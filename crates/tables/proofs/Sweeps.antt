-- Sweeps up and down: which vertices come later than one.
-- Assumes nothing.
use mathlib.Core.Path.{◌≡◌, refl}
use mathlib.Core.Bool.{Bool, true, false, not}
use mathlib.Core.Logic.{⊎_elim}
use Prim.Native.Nat.{ℕ, ◌-◌, ◌*◌, ◌%◌, ◌^◌, ◌≤◌, ◌<◌}
use native.Mathlib.Omega.{arith}
use borrow.Author.Tests.{ne_eqb}
use lib.Pow.{pow_pos, pow_mono}
use Rattle.vertex_set.proofs.Cases.{less-or}
use Rattle.vertex_set.proofs.Sets.{in-not, below-shifted, shifted_one}
use Rattle.tables.specs.Inner.Steps.{way_on, Later, Beyond}

pub way_back : (later : ℕ) (up : Bool) → later ≡ 0 → not up ≡ way_on later up
unfolding way_on
way_back later up e = rw e refl

pub way_on_lem : (later : ℕ) (up : Bool) → (later ≡ 0 → ⊥) → up ≡ way_on later up
unfolding way_on
way_on_lem later up n = rw (ne_eqb later 0 n) refl

-- what is below v, as the machine counts it, is a set of vertices
pub below-fits : (v : ℕ) → v < 64 → (1 ≤ (1 * 2 ^ v) % 2 ^ 64) × ((1 * 2 ^ v) % 2 ^ 64 - 1 < 2 ^ 64)
below-fits v h = rw (shifted_one v h) (let p = pow_pos v in let q = pow_mono {i = v} {j = 64} (omega arith) in (omega arith, omega arith))

pub beyond-down : (v : ℕ) → v < 64 → Beyond v false ((1 * 2 ^ v) % 2 ^ 64 - 1)
unfolding Later
beyond-down v h =
    let b = below-shifted v h in record { each = λ u l. record { to = λ m. ((b.each u).to m).0; from = λ k. (b.each u).from (k, l) } }

pub beyond-up : (v : ℕ) → v < 64 → Beyond v true ((2 ^ 64 - 1) - ((1 * 2 ^ v) % 2 ^ 64 - 1))
unfolding Later
beyond-up v h =
    let b = below-shifted v h in
    record {
      each = λ u l.
          let n = in-not ((1 * 2 ^ v) % 2 ^ 64 - 1) u (below-fits v h).1 l in
          record {
            to = λ m. ⊎_elim (λ k. absurd (n.to m ((b.each u).from (k, l)))) (λ k. k) (less-or u v);
            from = λ k. n.from (λ m. let q = ((b.each u).to m).0 in omega arith);
          };
    }
