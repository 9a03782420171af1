-- The lowest and the highest vertex of a set, and the set without a vertex; what holds of the vertices that a loop over a set has passed.
-- Assumes nothing.
use mathlib.Core.Path.{◌≡◌, sym, ap, subst, ◌∙◌}
use mathlib.Core.List.{List}
use mathlib.Core.Logic.{◌⊎◌, inl, inr, ⊎_elim}
use Prim.Native.Nat.{ℕ, suc, ◌+◌, ◌-◌, ◌*◌, ◌/◌, ◌%◌, ◌^◌, ◌≤◌, ◌<◌}
use native.Mathlib.Nat.{pow-suc}
use native.Mathlib.Omega.{arith}
use lib.Count.{count_trailing_zeros, count_leading_zeros, leading_top, trailing_le, leading_le}
use lib.Pow.{pow_pos, high}
use Rattle.vertex_set.specs.Set.{Member, Within, Iff}
use Rattle.vertex_set.specs.Order.{Listed}
use Rattle.vertex_set.proofs.Cases.{same_or}
use Rattle.vertex_set.proofs.Sets.{member_below, shifted_one, none-in-zero}
use Rattle.vertex_set.proofs.Places.{lowest-member, places-lowest, listed-places, sorted-places, in-removed, member-le}
use Rattle.vertex_set.proofs.Sorted.{Sorted}
use Rattle.successors.specs.Inner.{VertexOf, LowestOf, HighestOf, Without}

pub lowest-trailing : (s : ℕ) → (s ≡ 0 → ⊥) → s < 2 ^ 64 → LowestOf s (count_trailing_zeros 64 s)
lowest-trailing s p h =
    let m = lowest-member 64 s h p in
    let e = places-lowest 64 s h p in
    let t = subst (Sorted ◌<◌) e (sorted-places 64 s) in
    record {
      vertex = record { place = member_below 64 s (count_trailing_zeros 64 s) h m; member = m };
      lower = λ i k.
          ⊎_elim (λ q. omega (arith, q)) (λ q. let l = t.0 i q in omega arith)
          (subst (λ (l : List ℕ). Listed l i) e ((listed-places 64 s i).from (k, member_below 64 s i h k)));
    }

-- a number of n + 1 digits that is no number of n digits has the vertex n
pub top-member : (n x : ℕ) → x < 2 ^ suc n → 2 ^ n ≤ x → Member x n
unfolding Member
top-member n x l h =
    let p = pow-suc 2 n in
    let e : x ≡ 1 * 2 ^ n + (x - 2 ^ n) = omega arith in
    let q : x / 2 ^ n ≡ 1 = ap (λ (y : ℕ). y / 2 ^ n) e ∙ high 1 n {lo = x - 2 ^ n} (omega arith) in
    rw q

pub highest-leading : (s : ℕ) → (s ≡ 0 → ⊥) → s < 2 ^ 64 → (count_leading_zeros 64 s ≤ 63) × HighestOf s (63 - count_leading_zeros 64 s)
highest-leading s p h =
    let t = leading_top 64 s (omega (arith, p)) h in
    let q = t.1 in
    let e : 63 - count_leading_zeros 64 s ≡ t.0 = omega arith in (
      omega arith,
      subst (HighestOf s) (sym e) (record {
        vertex = record { place = omega arith; member = top-member t.0 s t.3 t.2 };
        higher = λ i m. let l = member_below (suc t.0) s i t.3 m in omega arith;
      }),
    )

module _ (s v : ℕ) (l : VertexOf s v) where
  pub without-fits : (1 * 2 ^ v) % 2 ^ 64 ≤ s
  without-fits = rw (shifted_one v l.place) (member-le v s l.member)

  pub without-removed : Without s v (s - (1 * 2 ^ v) % 2 ^ 64)
  without-removed = rw (shifted_one v l.place) (record { each = λ i. in-removed s v i l.member; less = let p = pow_pos v in let q = member-le v s l.member in omega arith })

-- ---- a loop over a set, vertex by vertex

-- A vertex of the set that is not left has been passed.
abbrev pub Passed : ℕ → ℕ → ℕ → Type 0
Passed s left v = Member s v × (Member left v → ⊥)

pub passed_none : (s v : ℕ) → Passed s s v → ⊥
passed_none s v p = p.1 p.0

-- one vertex more has been passed
pub passed-more : (s left v rest : ℕ) → Within left s → Member left v → Without left v rest → (u : ℕ) → Iff (Passed s left u ⊎ (u ≡ v)) (Passed s rest u)
passed-more s left v rest w m o u =
    record {
      to = ⊎_elim (λ p. (p.0, λ r. p.1 ((o.each u).to r).0)) (λ q. (w.each u (subst (Member left) (sym q) m), λ r. ((o.each u).to r).1 q));
      from = λ p. ⊎_elim (λ q. inr q) (λ q. inl (p.0, λ r. p.1 ((o.each u).from (r, q)))) (same_or u v);
    }

-- nothing is left
pub passed-all : (s left : ℕ) → left ≡ 0 → (v : ℕ) → Iff (Passed s left v) (Member s v)
passed-all s left e v = record { to = λ p. p.0; from = λ m. (m, λ r. none-in-zero v (subst (λ (x : ℕ). Member x v) e r)) }

-- what is left stays within the set
pub left-within : (s left v rest : ℕ) → Within left s → Without left v rest → Within rest s
left-within s left v rest w o = record { each = λ i r. w.each i ((o.each i).to r).0 }

-- what the operations on a set answer
pub ruleset set_answers = (lowest-trailing, highest-leading, without-fits, without-removed, trailing_le, leading_le)
