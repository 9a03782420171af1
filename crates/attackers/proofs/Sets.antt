-- The kind of a set: each of its vertices has at most that kind, and it is the least such kind.
-- Assumes nothing.
use mathlib.Core.Path.{◌≡◌, refl, ap, subst}
use mathlib.Core.List.{List}
use mathlib.Core.Logic.{⊎_elim}
use Prim.Native.Nat.{ℕ, zero, suc, ◌^◌, ◌≤◌, ◌<◌}
use native.Mathlib.Omega.{arith}
use lib.ListN.{get_or}
use Rattle.vertex_set.specs.Set.{Member}
use Rattle.vertex_set.proofs.Cases.{same_or}
use Rattle.vertex_set.proofs.Digits.{digit, digit_lt}
use Rattle.vertex_set.proofs.Sets.{member-or, not-member, member_below}
use Rattle.attackers.proofs.Table.{at-most-trans}
use Rattle.attackers.specs.Attackers.{location, skill, KindAtMost, largest_below, largest_over, attacker_of, KindOfSet}

-- ---- the largest value of a set

largest-up : (value : ℕ → ℕ) (s n v : ℕ) → v < n → Member s v → value v ≤ largest_below value s n
unfolding Member
largest-up value s zero v l m = absurd (omega arith)
largest-up value s (suc n) v l m =
    ⊎_elim (λ e. rw e (let d : digit s n ≡ 1 = subst (λ (i : ℕ). digit s i ≡ 1) e m in rw d (omega arith)))
    (λ o. let h = largest-up value s n v (omega (arith, o)) m in omega arith) (same_or v n)

largest-bound : (value : ℕ → ℕ) (s n b : ℕ) → ((v : ℕ) → Member s v → value v ≤ b) → largest_below value s n ≤ b
unfolding Member
largest-bound value s zero b h = omega arith
largest-bound value s (suc n) b h =
    let r = largest-bound value s n b h in
    let d = digit_lt s n in
    ⊎_elim (λ e. rw e (omega arith)) (λ o. let z : digit s n ≡ 1 = omega (arith, o) in let k = h n z in rw z (omega arith)) (same_or (digit s n) 0)

largest-same : (value other : ℕ → ℕ) (s n : ℕ) → ((v : ℕ) → Member s v → value v ≡ other v) → largest_below value s n ≡ largest_below other s n
unfolding Member
largest-same value other s zero h = refl
largest-same value other s (suc n) h =
    let ih = largest-same value other s n h in
    ⊎_elim (λ m. let e = h n m in rw (ih, e)) (λ o. let z = not-member s n o in rw (ih, z) (omega arith)) (member-or s n)

over-up : (value : ℕ → ℕ) (s v : ℕ) → v < 64 → Member s v → value v ≤ largest_over value s
unfolding largest_over
over-up value s v l m = largest-up value s 64 v l m

over-bound : (value : ℕ → ℕ) (s b : ℕ) → ((v : ℕ) → Member s v → value v ≤ b) → largest_over value s ≤ b
unfolding largest_over
over-bound value s b h = largest-bound value s 64 b h

over-same : (value other : ℕ → ℕ) (s : ℕ) → ((v : ℕ) → Member s v → value v ≡ other v) → largest_over value s ≡ largest_over other s
unfolding largest_over
over-same value other s h = largest-same value other s 64 h

-- ---- the kind of a set

-- two lists with the same entries at the set's vertices give it one kind
pub attacker-same : (kinds other : List ℕ) (x : ℕ) → ((v : ℕ) → Member x v → get_or kinds v 0 ≡ get_or other v 0) → attacker_of kinds x ≡ attacker_of other x
unfolding attacker_of
attacker-same kinds other x h =
    rw (
      over-same (λ v. location (get_or kinds v 0)) (λ v. location (get_or other v 0)) x (λ v m. ap location (h v m)),
      over-same (λ v. skill (get_or kinds v 0)) (λ v. skill (get_or other v 0)) x (λ v m. ap skill (h v m)),
    ) refl

module _ (kinds : List ℕ) (x : ℕ) where
  parts : (location (attacker_of kinds x) ≡ largest_over (λ v. location (get_or kinds v 0)) x) × (skill (attacker_of kinds x) ≡ largest_over (λ v. skill (get_or kinds v 0)) x)
  unfolding attacker_of
  parts = let b = over-bound (λ v. skill (get_or kinds v 0)) x 2 (λ v m. omega arith) in (omega arith, omega arith)

  pub attacker-small : ((v : ℕ) → Member x v → get_or kinds v 0 ≤ 5) → attacker_of kinds x < 6
  unfolding attacker_of
  attacker-small fit =
      let a = over-bound (λ v. location (get_or kinds v 0)) x 1 (λ v m. let f = fit v m in omega arith) in
      let b = over-bound (λ v. skill (get_or kinds v 0)) x 2 (λ v m. omega arith) in
      omega arith

  pub each-at-most : ((v : ℕ) → Member x v → v < 64) → (v : ℕ) → Member x v → KindAtMost (get_or kinds v 0) (attacker_of kinds x)
  each-at-most low v m =
      let a = over-up (λ v. location (get_or kinds v 0)) x v (low v m) m in
      let b = over-up (λ v. skill (get_or kinds v 0)) x v (low v m) m in
      let p = parts.0 in
      let q = parts.1 in
      record { locations = omega arith; skills = omega arith }

  pub least-attacker : (t : ℕ) → ((v : ℕ) → Member x v → KindAtMost (get_or kinds v 0) t) → KindAtMost (attacker_of kinds x) t
  least-attacker t h =
      let a = over-bound (λ v. location (get_or kinds v 0)) x (location t) (λ v m. (h v m).locations) in
      let b = over-bound (λ v. skill (get_or kinds v 0)) x (skill t) (λ v m. (h v m).skills) in
      let p = parts.0 in
      let q = parts.1 in
      record { locations = omega arith; skills = omega arith }

pub kind-of-set : KindOfSet
kind-of-set kinds x t l =
    record {
      to = λ h v m. at-most-trans (get_or kinds v 0) (attacker_of kinds x) t (each-at-most kinds x (λ i k. member_below 64 x i l k) v m) h;
      from = λ h. least-attacker kinds x t h;
    }
