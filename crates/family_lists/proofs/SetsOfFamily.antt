-- From masks to sets: what the family of a rising predicate says of the sets of chosen vertices that have it.
-- Assumes nothing.
use mathlib.Core.Path.{subst}
use mathlib.Core.List.{List}
use Prim.Native.Nat.{ℕ, ◌^◌, ◌≤◌, ◌<◌}
use native.Mathlib.Omega.{arith}
use lib.Count.{ones}
use Rattle.vertex_set.specs.Set.{Member, Within, Iff}
use Rattle.vertex_set.specs.Order.{Listed, Smallest, ListsExactly}
use Rattle.vertex_set.proofs.Decisions.{iff-trans}
use Rattle.vertex_set.proofs.Sets.{within-le}
use Rattle.families.specs.Inner.Family.{masks, In, Minimal, MinimalMembers}
use Rattle.families.specs.Inner.Masks.{Picked, SetOfMask, MaskOf}
use Rattle.families.specs.Inner.Exact.{FamilyOf}
use Rattle.families.proofs.Masks.{spread, gather, set-of, set-unique, set-within, submask-subset, proper-subset, proper-submask, mask-exists}
use Rattle.families.proofs.Exact.{Rising, family-monotone, minimal-within-mask}
use Rattle.family_lists.specs.Inner.Lists.{ListOf}

-- The set x lies within the chosen vertices, and P holds of it.
abbrev pub Has : ℕ → ((ℕ → Type 0) → Type 0) → ℕ → Type 0
Has chosen P x = Within x chosen × P (Member x)

-- x has a mask in the family.
pub record MaskFor (f : List ℕ) (chosen x : ℕ) : Type 0 where
  pub mask : ℕ
  pub is : MaskOf chosen x mask
  pub member : In f mask

module _ (chosen : ℕ) (P : (ℕ → Type 0) → Type 0) (up : Rising P) (f : List ℕ)
    (fits : chosen < 2 ^ 64) (few : ones chosen ≤ 14) (e : FamilyOf chosen P f) where
  -- a mask is in the family if its set has P
  pub by-set : (m x : ℕ) → m < masks → SetOfMask chosen m x → Iff (In f m) (P (Member x))
  by-set m x l o =
      iff-trans (e.each m l)
      (record { to = up (Picked chosen m) (Member x) (λ v. (o.each v).from); from = up (Member x) (Picked chosen m) (λ v. (o.each v).to) })

  -- each set of chosen vertices that has P has a mask in the family
  pub mask-for : (x : ℕ) → Has chosen P x → MaskFor f chosen x
  mask-for x h =
      let o = mask-exists chosen x fits few in
      record { mask = gather 64 chosen x; is = o; member = (by-set (gather 64 chosen x) x o.room (o.of h.0)).from h.1 }

  -- and each mask in the family stands for such a set
  pub set-for : (m x : ℕ) → m < masks → In f m → SetOfMask chosen m x → Has chosen P x
  set-for m x l i o = (set-within chosen m x o, (by-set m x l o).to i)

  -- a minimal mask stands for a smallest set
  pub smallest-set : (m x : ℕ) → m < masks → Minimal f m → SetOfMask chosen m x → Smallest (Has chosen P) x
  smallest-set m x l h o =
      record {
        is = set-for m x l h.is o;
        none = λ y p t.
            let k = mask-for y t in
            h.none k.mask (proper-submask chosen k.mask m y x fits k.is.exact (k.is.of t.0) o p) k.member;
      }

  -- and a smallest set has a minimal mask
  pub smallest-mask : (x : ℕ) → Smallest (Has chosen P) x → (k : MaskFor f chosen x) → Minimal f k.mask
  smallest-mask x h k =
      record {
        is = k.member;
        none = λ j p i.
            let le = within-le j k.mask p.within in
            let b = k.is.exact in
            let r = k.is.room in
            let o = set-of chosen j fits in
            h.none (spread 64 chosen j)
            (proper-subset chosen j k.mask (spread 64 chosen j) x fits (omega arith) b o (k.is.of h.is.0) p)
            (set-for j (spread 64 chosen j) (omega arith) i o);
      }

  -- every set with P has a smallest one within it
  pub smallest-within : (x : ℕ) → Has chosen P x → (y : ℕ) × Within y x × Smallest (Has chosen P) y
  smallest-within x h =
      let k = mask-for x h in
      let r = minimal-within-mask f k.mask k.is.room k.member in
      let y = spread 64 chosen r.0 in
      let o = set-of chosen r.0 fits in
      (y, submask-subset chosen r.0 k.mask y x o (k.is.of h.0) r.2, smallest-set r.0 y r.1 r.3 o)

  module _ (g : List ℕ) (min : MinimalMembers f g) where
    -- the minimal members are the masks of the smallest sets,
    pub in-minimal : (m x : ℕ) → Within x chosen → MaskOf chosen x m → Iff (In g m) (Smallest (Has chosen P) x)
    in-minimal m x w o =
        let i = min.minimal (family-monotone chosen P up f e) m o.room in
        record {
          to = λ h. smallest-set m x o.room (i.to h) (o.of w);
          from = λ h. i.from (smallest-mask x h (record { mask = m; is = o; member = (by-set m x o.room (o.of w)).from h.is.1 }));
        }

    -- and the list of their sets is the list of the smallest sets
    pub list-smallest : (l : List ℕ) → ListOf chosen g l → ListsExactly (Smallest (Has chosen P)) l
    list-smallest l o =
        record {
          sound = λ x i.
              let h = o.sound x i in
              smallest-set h.0 x h.1 ((min.minimal (family-monotone chosen P up f e) h.0 h.1).to h.2) h.3;
          whole = λ x h.
              let k = mask-exists chosen x fits few in
              let w = o.whole (gather 64 chosen x) k.room ((in-minimal (gather 64 chosen x) x h.is.0 k).from h) in
              subst (Listed l) (set-unique chosen (gather 64 chosen x) w.0 x w.2 (k.of h.is.0)) w.1;
          ordered = o.ordered;
        }
