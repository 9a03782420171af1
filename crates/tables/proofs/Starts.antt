-- The start of a table: each lane is the set that its mask stands for.
-- Assumes nothing.
use mathlib.Core.Path.{◌≡◌, sym, subst}
use mathlib.Core.List.{List}
use mathlib.Core.Logic.{⊎_elim}
use Prim.Native.Nat.{ℕ, ◌+◌, ◌*◌, ◌%◌, ◌^◌, ◌≤◌, ◌<◌}
use native.Mathlib.Nat.{mod-lt}
use native.Mathlib.Omega.{arith}
use lib.Count.{ones, ones-le}
use lib.ListN.{length, get_or-eq_default}
use lib.Pow.{pow_pos}
use borrow.Rule.Slice.PartMut.{put_mid}
use Rattle.vertex_set.specs.Set.{Member, Iff}
use Rattle.vertex_set.proofs.Cases.{same_or, less-or}
use Rattle.vertex_set.proofs.Decisions.{iff-trans}
use Rattle.vertex_set.proofs.Sets.{shifted_one, none-in-zero, member_below}
use Rattle.families.specs.Inner.Masks.{place_among, Picked}
use Rattle.family_words.specs.Inner.Words.{PartWhere}
use Rattle.family_words.proofs.Families.{part-as}
use Rattle.lanes.specs.Inner.Lanes.{Lane}
use Rattle.tables.specs.Inner.Steps.{Started}
use Rattle.tables.proofs.Parts.{part_length, lane-put, lane-kept}

pub place-le : (chosen v : ℕ) → place_among chosen v ≤ v
unfolding place_among
place-le chosen v = ones-le v (chosen % 2 ^ v) (mod-lt chosen (pow_pos v))

-- a place, as the machine counts it
pub place-counted : (chosen v : ℕ) → v < 64 → ones (chosen % ((1 * 2 ^ v) % 2 ^ 64)) ≡ place_among chosen v
unfolding place_among
place-counted chosen v h = rw (shifted_one v h)

pub picked-part : (chosen v k : ℕ) (d : List ℕ) → Member chosen v → k ≡ place_among chosen v → PartWhere (λ b i. Member (b * 64 + i) k) d
    → PartWhere (λ b i. Picked chosen (b * 64 + i) v) d
unfolding Picked
picked-part chosen v k d m e l =
    part-as d (subst (λ (j : ℕ). PartWhere (λ b i. Member (b * 64 + i) j) d) e l) (λ b i hb hi. record { to = λ p. (m, p); from = λ p. p.1 })

pub other-part : (chosen v : ℕ) (d : List ℕ) → (Member chosen v → ⊥) → PartWhere (λ b i. Member 0 i) d → PartWhere (λ b i. Picked chosen (b * 64 + i) v) d
unfolding Picked
other-part chosen v d n l = part-as d l (λ b i hb hi. record { to = λ m. absurd (none-in-zero i m); from = λ p. absurd (n p.0) })

-- ---- all vertices

-- a place past the table is in no lane
pub lane_below : (w : List ℕ) (b i v : ℕ) → length w ≡ 1024 → Lane w b i v → v < 64
unfolding Lane
lane_below w b i v e m =
    ⊎_elim (λ l. l)
    (λ l. absurd (none-in-zero i (subst (λ (x : ℕ). Member x i) (get_or-eq_default w 0 {n = v * 16 + b} (omega arith)) m)))
    (less-or v 64)

-- the families of the first n vertices are written
pub record StartedBelow (chosen n : ℕ) (w : List ℕ) : Type 0 where
  pub place : n ≤ 64
  pub words : length w ≡ 1024
  pub each : (b i v : ℕ) → b < 16 → i < 64 → v < n → Iff (Lane w b i v) (Picked chosen (b * 64 + i) v)

module _ (chosen : ℕ) where
  pub started_none : (w : List ℕ) → length w ≡ 1024 → StartedBelow chosen 0 w
  started_none w e = record { place = omega arith; words = e; each = λ b i v hb hi l. absurd (omega arith) }

  pub started-more : (n k : ℕ) (w part d : List ℕ) → n < 64 → k ≡ 16 → StartedBelow chosen n w → PartWhere (λ b i. Picked chosen (b * 64 + i) n) part → d ≡ part
      → StartedBelow chosen (n + 1) (put_mid (n * 16) k w d)
  started-more n k w part d h hk s p e =
      let l = subst (PartWhere (λ b i. Picked chosen (b * 64 + i) n)) (sym e) p in
      subst (λ (j : ℕ). StartedBelow chosen (n + 1) (put_mid (n * 16) j w d)) (sym hk)
      (record {
        place = omega arith;
        words = part_length w d n s.words h l.words;
        each = λ b i v hb hi hv. ⊎_elim
            (λ q. subst (λ (u : ℕ). Iff (Lane (put_mid (n * 16) 16 w d) b i u) (Picked chosen (b * 64 + i) u)) (sym q)
            (iff-trans (lane-put w d n s.words h l.words b i hb) (l.each b i hb hi)))
            (λ q. iff-trans (lane-kept w d n s.words h l.words b i v hb q) (s.each b i v hb hi (omega (arith, q))))
            (same_or v n);
      })

  pub started-done : (n : ℕ) (w : List ℕ) → chosen < 2 ^ 64 → 64 ≤ n → StartedBelow chosen n w → Started chosen w
  unfolding Picked
  started-done n w hc h s =
      record {
        words = s.words;
        each = λ b i v hb hi. record {
          to = λ m. let l = lane_below w b i v s.words m in (s.each b i v hb hi (omega arith)).to m;
          from = λ p. let l = member_below 64 chosen v hc p.0 in (s.each b i v hb hi (omega arith)).from p;
        };
      }
