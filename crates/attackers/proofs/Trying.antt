-- Kinds tried in an order in which each settles as many others as it can: those that get in, and those that do not, settle all six.
-- Assumes nothing.
use mathlib.Core.Path.{◌≡◌, refl, sym, subst}
use mathlib.Core.List.{List, [], ◌∷◌}
use mathlib.Core.Logic.{◌⊎◌, inl, inr, ⊎_elim}
use Prim.Native.Nat.{ℕ, ◌+◌, ◌<◌}
use native.Mathlib.Omega.{arith}
use borrow.Author.Count.{below_none, below_more}
use borrow.Author.Tests.{eqb-true, ltb-true}
use lib.Dec.{eqb, ltb}
use lib.ListN.{get_or}
use Rattle.vertex_set.specs.Set.{Member, Within, Inserted, Iff}
use Rattle.vertex_set.proofs.Sets.{none-in-zero, within-refl}
use Rattle.vertex_set.proofs.Shifts.{all-at}
use Rattle.setup.specs.declared.Graph.{Graph}
use Rattle.derivations.specs.Access.{access}
use Rattle.derivations.proofs.Rules.{monotone}
use Rattle.derivations.proofs.Graphs.{access-lawful}
use Rattle.attackers.specs.Inner.{BothAtMost, OfKind, KindOpens, KindSettled, LowestKinds, LowestOpen}
use Rattle.attackers.proofs.Table.{at-most-refl, at-most-le}
use Rattle.attackers.proofs.Lowering.{both-trans, weaker-less}

-- ---- the order, as the code has it

abbrev pub kind_at : ℕ → ℕ
kind_at place = get_or (4 ∷ 1 ∷ 3 ∷ 0 ∷ 5 ∷ 2 ∷ []) place 0

-- where each of the six kinds stands in it
abbrev place_of : ℕ → ℕ
place_of k = get_or (3 ∷ 1 ∷ 5 ∷ 2 ∷ 0 ∷ 4 ∷ []) k 0

kind-small : (place : ℕ) → place < 6 → kind_at place < 6
kind-small place l = ltb-true (kind_at place) 6 (all-at (λ p. ltb (kind_at p) 6) 6 refl place l)

-- none of the six is left out
in_order : (k : ℕ) → k < 6 → (place : ℕ) × (place < 6) × (kind_at place ≡ k)
in_order k l = (
  place_of k,
  ltb-true (place_of k) 6 (all-at (λ i. ltb (place_of i) 6) 6 refl k l),
  eqb-true (kind_at (place_of k)) k (all-at (λ i. eqb (kind_at (place_of i)) i) 6 refl k l),
)

-- ---- what was tried

both_refl : (k : ℕ) → k < 6 → BothAtMost k k
both_refl k l = record { first = l; second = l; is = at-most-refl k }

known_more : (able unable able' unable' t : ℕ) → Within able able' → Within unable unable' → KindSettled able unable t → KindSettled able' unable' t
known_more able unable able' unable' t a u k =
    record { attacker = k.attacker; settles = ⊎_elim (λ p. inl (a.each k.attacker p.0, p.1)) (λ p. inr (u.each k.attacker p.0, p.1)) k.settles }

module _ (g : Graph) (kinds : List ℕ) (initial target : ℕ) where
  -- who is above one that gets in gets in
  opens_up : (j t : ℕ) → BothAtMost j t → KindOpens g kinds initial target j → KindOpens g kinds initial target t
  opens_up j t b =
      monotone (access g) (access-lawful g) (OfKind kinds initial j) (OfKind kinds initial t) (λ v p. (p.0, both-trans (get_or kinds v 0) j t p.1 b)) target

  -- The kinds of able open the target, those of unable do not, and they settle each kind at the places below n.
  pub record Trying (n able unable : ℕ) : Type 0 where
    pub opens : (k : ℕ) → Member able k → KindOpens g kinds initial target k
    pub shut : (k : ℕ) → Member unable k → KindOpens g kinds initial target k → ⊥
    pub known : (place : ℕ) → place < n → KindSettled able unable (kind_at place)

  pub trying-none : Trying 0 0 0
  trying-none = record { opens = λ k m. absurd (none-in-zero k m); shut = λ k m. absurd (none-in-zero k m); known = below_none _ }

  module _ (n able unable : ℕ) (small : n < 6) (h : Trying n able unable) where
    low : kind_at n < 6
    low = kind-small n small

    pub trying-known : KindSettled able unable (kind_at n) → Trying (n + 1) able unable
    trying-known k = record { opens = h.opens; shut = h.shut; known = below_more _ n h.known k }

    pub trying-able : (able' : ℕ) → KindOpens g kinds initial target (kind_at n) → Inserted able (kind_at n) able' → Trying (n + 1) able' unable
    trying-able able' o i =
        record {
          opens = λ k m. ⊎_elim (h.opens k) (λ e. subst (KindOpens g kinds initial target) (sym e) o) ((taken k).to m);
          shut = h.shut;
          known = below_more _ n
              (λ p l. known_more able unable able' unable (kind_at p) (record { each = λ k m. (taken k).from (inl m) }) (within-refl unable) (h.known p l))
              (record { attacker = kind_at n; settles = inl ((taken (kind_at n)).from (inr refl), both_refl (kind_at n) low) });
        }
      where
        taken : (k : ℕ) → Iff (Member able' k) (Member able k ⊎ (k ≡ kind_at n))
        taken = i.taken (omega (arith, low))

    pub trying-unable : (unable' : ℕ) → (KindOpens g kinds initial target (kind_at n) → ⊥) → Inserted unable (kind_at n) unable' → Trying (n + 1) able unable'
    trying-unable unable' d i =
        record {
          opens = h.opens;
          shut = λ k m. ⊎_elim (h.shut k) (λ e o. d (subst (KindOpens g kinds initial target) e o)) ((taken k).to m);
          known = below_more _ n
              (λ p l. known_more able unable able unable' (kind_at p) (within-refl able) (record { each = λ k m. (taken k).from (inl m) }) (h.known p l))
              (record { attacker = kind_at n; settles = inr ((taken (kind_at n)).from (inr refl), both_refl (kind_at n) low) });
        }
      where
        taken : (k : ℕ) → Iff (Member unable' k) (Member unable k ⊎ (k ≡ kind_at n))
        taken = i.taken (omega (arith, low))

  -- the lowest of those that were tried and get in are the lowest of all that do
  pub trying-done : (able unable r : ℕ) → Trying 6 able unable → LowestKinds (Member able) r → LowestOpen g kinds initial target r
  trying-done able unable r h w =
      record {
        is = λ k m. let p = w.is k m in (p.0, h.opens k p.1);
        lowest = λ k j m o b.
            let c = below j b.at_most.first o in
            let x = at-most-le c.0 j c.2.is in
            let y = weaker-less j k b in
            w.lowest k c.0 m c.1 (record { at_most = both-trans c.0 j k c.2 b.at_most; other = λ e. omega (arith, e) });
        cover = λ j l o.
            let c = below j l o in
            let d = w.cover c.0 c.2.first c.1 in
            (d.0, d.1, both-trans d.0 c.0 j d.2 c.2);
      }
    where
      -- one that was tried and gets in is at most j, if j gets in
      below : (j : ℕ) → j < 6 → KindOpens g kinds initial target j → (i : ℕ) × Member able i × BothAtMost i j
      below j l o =
          let p = in_order j l in
          let k = subst (KindSettled able unable) p.2 (h.known p.0 p.1) in
          ⊎_elim (λ x. (k.attacker, x.0, x.1)) (λ x. absurd (h.shut k.attacker x.0 (opens_up j k.attacker x.1 o))) k.settles
