-- Who takes in a vertex leaves fewer outside.
-- Assumes nothing.
use mathlib.Core.Path.{◌≡◌, sym, subst}
use mathlib.Core.Logic.{◌⊎◌, ⊎_elim}
use Prim.Native.Nat.{ℕ, zero, suc, ◌≤◌, ◌<◌}
use native.Mathlib.Nat.{not-suc-le-zero}
use native.Mathlib.Omega.{arith}
use Rattle.vertex_set.specs.Set.{Member, Within, count_outside}
use Rattle.vertex_set.proofs.Cases.{same_or, less-or}
use Rattle.vertex_set.proofs.Digits.{digit, digit_lt}
use Rattle.vertex_set.proofs.Sets.{member-or, not-member, same_set}

pub outside-most : (n s : ℕ) → count_outside n s ≤ n
unfolding count_outside
outside-most zero s = omega arith
outside-most (suc n) s = let ih = outside-most n s in omega arith

digit-within : (s t n : ℕ) → Within s t → digit s n ≤ digit t n
unfolding Member
digit-within s t n w = ⊎_elim (λ m. let k = w.each n m in omega arith) (λ o. let z = not-member s n o in omega arith) (member-or s n)

pub outside-within : (n s t : ℕ) → Within s t → count_outside n t ≤ count_outside n s
unfolding count_outside
outside-within zero s t w = omega arith
outside-within (suc n) s t w = let ih = outside-within n s t w in let d = digit-within s t n w in omega arith

-- one vertex more leaves fewer outside
pub outside-less : (n s t v : ℕ) → Within s t → v < n → (Member s v → ⊥) → Member t v → count_outside n t < count_outside n s
unfolding count_outside Member
outside-less zero s t v w l o m = absurd (not-suc-le-zero l)
outside-less (suc n) s t v w l o m =
    let d = digit-within s t n w in
    ⊎_elim
    (λ e.
    let a = outside-within n s t w in
    let x : digit s n ≡ 0 = subst (λ (k : ℕ). digit s k ≡ 0) e (not-member s v o) in
    let y : digit t n ≡ 1 = subst (λ (k : ℕ). digit t k ≡ 1) e m in
    omega arith)
    (λ e. let ih = outside-less n s t v w (omega (arith, e)) o m in omega arith)
    (same_or v n)

-- where none is outside, each is a member
pub outside-none : (n s v : ℕ) → count_outside n s ≡ 0 → v < n → Member s v
unfolding count_outside Member
outside-none zero s v e l = absurd (not-suc-le-zero l)
outside-none (suc n) s v e l =
    let d = digit_lt s n in
    ⊎_elim
    (λ q. let z : digit s n ≡ 1 = omega arith in subst (λ (k : ℕ). digit s k ≡ 1) (sym q) z)
    (λ q. outside-none n s v (omega arith) (omega (arith, q)))
    (same_or v n)

-- a set that has grown by vertices below n leaves fewer outside
pub outside-falls : (n s t : ℕ) → Within s t → (t ≡ s → ⊥) → ((v : ℕ) → Member t v → Member s v ⊎ (v < n)) → count_outside n t < count_outside n s
outside-falls n s t w d below =
    ⊎_elim (λ l. l) (λ l. absurd (d (same_set t s (record { each = back l }) w))) (less-or (count_outside n t) (count_outside n s))
  where
    back : count_outside n s ≤ count_outside n t → (v : ℕ) → Member t v → Member s v
    back l v m =
        ⊎_elim (λ k. k)
        (λ k. ⊎_elim (λ o. o) (λ o. absurd (let f = outside-less n s t v w k o m in omega arith)) (member-or s v))
        (below v m)
