-- Of a monotone family's least sum, the minimal members tell all.
-- Assumes nothing.
use mathlib.Core.List.{List}
use Prim.Native.Nat.{ℕ, ◌^◌, ◌<◌}
use native.Mathlib.Nat.{le_trans}
use Rattle.vertex_set.specs.Set.{Within}
use Rattle.vertex_set.specs.Order.{sum_over}
use Rattle.vertex_set.proofs.Sums.{sum-within}
use Rattle.families.specs.Inner.Family.{In, MinimalMembers}
use Rattle.families.proofs.Masks.{spread, set-of, submask-subset}
use Rattle.families.proofs.Exact.{above-minimal}
use Rattle.family_lists.specs.Inner.Lists.{LeastSum}

-- The least sum over the minimal members is the least over all members.
pub least-of-minimal : (c : ℕ) (f g : List ℕ) (value : ℕ → ℕ) (r : ℕ) → c < 2 ^ 64 → MinimalMembers f g → LeastSum c g value r → LeastSum c f value r
unfolding sum_over
least-of-minimal c f g value r h q s =
    let down : (m : ℕ) → m < 16384 → In f m → (k : ℕ) × (k < 16384) × Within k m × In g k = above-minimal f g q in
    record {
      none = λ no. s.none (λ m l i. no m l ((q.least m l).to i).is);
      below = λ m l i. let k = down m l i in s.below k.0 k.1 k.3;
      reached = λ m l i.
          let k = down m l i in
          let t = s.reached k.0 k.1 k.3 in
          record { mask = t.mask; set = t.set; below = t.below; is = ((q.least t.mask t.below).to t.is).is; of = t.of; sum = t.sum };
      least = λ m x l i o.
          let k = down m l i in
          let p = set-of c k.0 h in
          le_trans (s.least k.0 (spread 64 c k.0) k.1 k.3 p)
          (sum-within value 64 (spread 64 c k.0) x (submask-subset c k.0 m (spread 64 c k.0) x p o k.2));
    }
