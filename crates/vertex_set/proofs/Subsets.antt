-- Proper subsets: each lies within the set less one vertex; and minimal ones among the subsets that have a property.
-- Assumes nothing.
use mathlib.Core.Path.{subst}
use mathlib.Core.Logic.{◌⊎◌, inl, inr, ⊎_elim}
use Prim.Native.Nat.{ℕ, ◌-◌, ◌^◌, ◌<◌}
use native.Mathlib.Nat.{lt_of_le_of_lt}
use native.Mathlib.Omega.{arith}
use lib.Bits.{bit_and}
use lib.Pow.{pow_pos}
use Rattle.vertex_set.specs.Set.{Member, Within, ProperlyWithin}
use Rattle.vertex_set.proofs.Cases.{by_test, less-or, same_or, lowest}
use Rattle.vertex_set.proofs.Sets.{some-member, same_set, in_and, in-not, member_below, within-refl, within-trans, within-le, within-decided, within-test}
use Rattle.vertex_set.proofs.Places.{member-le, in-removed, removed-within}

-- a proper subset lacks some member
pub proper-lacks : (a b : ℕ) → b < 2 ^ 64 → ProperlyWithin a b → (i : ℕ) × Member b i × (Member a i → ⊥)
proper-lacks a b h p =
    let ha = lt_of_le_of_lt (within-le a b p.within) h in
    let rest : ℕ = bit_and b ((2 ^ 64 - 1) - a) in
    ⊎_elim (λ e. absurd (p.other (same_set a b p.within ((within-test b a h ha).to e))))
    (λ n.
    let s = some-member rest n in
    let q = (in_and b ((2 ^ 64 - 1) - a) s.0).to s.1 in
    (s.0, q.0, (in-not a s.0 ha (member_below 64 b s.0 h q.0)).to q.1))
    (same_or rest 0)

pub within-removed : (a b i : ℕ) → Within a b → Member b i → (Member a i → ⊥) → Within a (b - 2 ^ i)
within-removed a b i w m n =
    record { each = λ j k. (in-removed b i j m).from (w.each j k, λ e. n (subst (λ (x : ℕ). Member a x) e k)) }

pub removed-proper : (b i : ℕ) → Member b i → ProperlyWithin (b - 2 ^ i) b
removed-proper b i m =
    record { within = removed-within b i m; other = λ e. let p = pow_pos i in let l = member-le i b m in omega arith }

pub proper-less : (a b : ℕ) → ProperlyWithin a b → a < b
proper-less a b p = let l = within-le a b p.within in let n = p.other in omega arith

-- ---- minimal subsets

-- k lies within m and has the property
record Among (P : ℕ → Type 0) (m k : ℕ) : Type 0 where
  within : Within k m
  has : P k

within-or : (a b : ℕ) → b < 2 ^ 64 → Within a b ⊎ (Within a b → ⊥)
within-or a b h =
    ⊎_elim (λ l. inr (λ w. let le = within-le a b w in omega arith))
    (λ l. let d = within-decided a b (omega arith) h in by_test _ (λ e. inl (d.yes e)) (λ e. inr (d.no e))) (less-or b a)

-- within each set that has a property which is decided there is a minimal one: that of the lowest number
pub minimal-below : (P : ℕ → Type 0) → ((k : ℕ) → P k ⊎ (P k → ⊥)) → (m : ℕ) → m < 2 ^ 64 → P m
    → (k : ℕ) × Within k m × P k × ((j : ℕ) → ProperlyWithin j k → P j → ⊥)
minimal-below P dec m h p =
    let k = lowest (Among P m) among-or m (record { within = within-refl m; has = p }) in (
      k.0,
      k.1.within,
      k.1.has,
      λ j q r. k.2 j (proper-less j k.0 q) (record { within = within-trans q.within k.1.within; has = r }),
    )
  where
    among-or : (k : ℕ) → Among P m k ⊎ (Among P m k → ⊥)
    among-or k =
        ⊎_elim
        (λ w. ⊎_elim (λ q. inl (record { within = w; has = q })) (λ n. inr (λ a. n a.has)) (dec k))
        (λ n. inr (λ a. n a.within))
        (within-or k m h)
