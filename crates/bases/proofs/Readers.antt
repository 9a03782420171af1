-- A list filled from the front: the values of all vertices, and the family of a target.
-- Assumes nothing.
use mathlib.Core.Path.{◌≡◌, sym, ap, subst, ◌∙◌}
use mathlib.Core.Bool.{Bool}
use mathlib.Core.List.{List}
use mathlib.Core.Logic.{⊎_elim}
use Prim.Native.Nat.{ℕ, ◌+◌, ◌*◌, ◌/◌, ◌%◌, ◌≤◌, ◌<◌}
use native.Mathlib.Omega.{arith}
use lib.Count.{ones}
use lib.ListN.{length, get_or, set, take, drop, length-set, length-drop, get_or-eq_default}
use lib.Seq.{get_or-take, get_or-drop, length-take-le}
use Rattle.vertex_set.specs.Set.{Member, Iff}
use Rattle.vertex_set.proofs.Cases.{less-or}
use Rattle.vertex_set.proofs.Decisions.{iff-trans}
use Rattle.vertex_set.proofs.Shifts.{in-low}
use Rattle.vertex_set.proofs.Filling.{fill_more}
use Rattle.setup.specs.declared.Vertex.{Vertex}
use Rattle.setup.specs.declared.Setup.{Setup}
use Rattle.setup.specs.Setup.{points, value_of, unused_vertex}
use Rattle.setup.specs.declared.Graph.{Graph}
use Rattle.derivations.specs.Both.{rule_of}
use Rattle.derivations.specs.Derivation.{Rule, Derivation}
use Rattle.families.specs.Inner.Family.{In}
use Rattle.families.specs.Inner.Masks.{place_among, Picked}
use Rattle.families.proofs.Exact.{place-lt}
use Rattle.lanes.specs.Inner.Lanes.{Lane}
use Rattle.tables.specs.Inner.Blocks.{Block}
use Rattle.tables.specs.Inner.Table.{Table, FamilyOfVertex}
use Rattle.tables.proofs.Extending.{same-derivable}
use Rattle.bases.specs.Inner.Readers.{Values}
use Rattle.bases.specs.Score.{points_at}
use Rattle.bases.proofs.Formed.{blank}

-- ---- a list filled from the front

-- out has its length, and at each place below n what g says.
pub record FilledBelow (g : ℕ → ℕ) (long n : ℕ) (out : List ℕ) : Type 0 where
  pub words : length out ≡ long
  pub each : (i : ℕ) → i < n → get_or out i 0 ≡ g i

pub filled_none : (g : ℕ → ℕ) (long : ℕ) (out : List ℕ) → length out ≡ long → FilledBelow g long 0 out
filled_none g long out e = record { words = e; each = λ i l. absurd (omega arith) }

pub filled_more : (g : ℕ → ℕ) (long n x : ℕ) (out : List ℕ) → n < long → FilledBelow g long n out → x ≡ g n → FilledBelow g long (n + 1) (set out n x)
filled_more g long n x out l b e =
    record {
      words = length-set out n x ∙ b.words;
      each = fill_more 0 (λ i y. y ≡ g i) out n x (let w = b.words in omega arith) b.each e;
    }

-- ---- values

pub filled-all : (g : ℕ → ℕ) (long n : ℕ) (out : List ℕ) → long ≤ n → FilledBelow g long n out → FilledBelow g long long out
filled-all g long n out h b = record { words = b.words; each = λ i l. b.each i (omega arith) }

-- words that are copied from a place on
pub copied : (w : List ℕ) (from n m : ℕ) (out : List ℕ) → m ≡ n → from + n ≤ length w → out ≡ take m (drop from w) → FilledBelow (λ b. get_or w (from + b) 0) n n out
copied w from n m out q h e =
    let all : out ≡ take n (drop from w) = e ∙ ap (λ (k : ℕ). take k (drop from w)) q in
    record {
      words = ap length all ∙ length-take-le n (drop from w) (omega (arith, length-drop from w));
      each = λ i l. ap (λ (k : List ℕ). get_or k i 0) all ∙ get_or-take n (drop from w) i 0 l ∙ get_or-drop from w i 0;
    }

pub values-all : (loss : Bool) (s : Setup) (r : List ℕ) → length s.vertices ≡ 64 → FilledBelow (points_at loss s) 64 64 r → Values loss s r
values-all loss s r long b = record { long = b.words; each = λ v. ⊎_elim (b.each v) (outside v) (less-or v 64) }
  where
    outside : (v : ℕ) → 64 ≤ v → get_or r v 0 ≡ points_at loss s v
    outside v k =
        get_or-eq_default r 0 (let w = b.words in omega arith)
        ∙ sym (ap (λ (x : Vertex). points (value_of loss x)) (get_or-eq_default s.vertices unused_vertex (omega arith)) ∙ blank loss)

-- ---- the family of a target

-- the words of a table from target * 256 on, copied
pub copied-family : (r : Rule) (chosen target : ℕ) (w out : List ℕ) → target < 64 → Table r chosen w
    → FilledBelow (λ b. get_or w (target * 256 + b) 0) 256 256 out → FamilyOfVertex r chosen target out
unfolding In
copied-family r chosen target w out h t b =
    record {
      each = λ m hm. subst (λ (x : ℕ). Iff (Member x (m % 64)) (Derivation r (Picked chosen m) target)) (sym (b.each (m / 64) (omega arith))) (t.each target m h hm);
    }

-- with at most ten chosen vertices a mask's further bits pick nothing
low_bits : (chosen m v : ℕ) → ones chosen ≤ 10 → Iff (Picked chosen (m % 1024) v) (Picked chosen m v)
unfolding Picked
low_bits chosen m v few =
    record {
      to = λ p. (p.0, (in-low 10 (place_among chosen v) m (let l = place-lt chosen v p.0 in omega arith)).to p.1);
      from = λ p. (p.0, (in-low 10 (place_among chosen v) m (let l = place-lt chosen v p.0 in omega arith)).from p.1);
    }

-- so the target's words of the first block are those of every block
pub repeated-family : (loss : Bool) (g : Graph) (chosen target : ℕ) (x out : List ℕ) → ones chosen ≤ 10 → Block (rule_of loss g) chosen 0 x
    → FilledBelow (λ b. get_or x (target * 16 + b % 16) 0) 256 256 out → FamilyOfVertex (rule_of loss g) chosen target out
unfolding In Lane
repeated-family loss g chosen target x out few k b =
    record {
      each = λ m hm.
          let e : 0 * 1024 + (m / 64 % 16 * 64 + m % 64) ≡ m % 1024 = omega arith in
          subst (λ (y : ℕ). Iff (Member y (m % 64)) (Derivation (rule_of loss g) (Picked chosen m) target)) (sym (b.each (m / 64) (omega arith)))
          (iff-trans (k.each (m / 64 % 16) (m % 64) target (omega arith) (omega arith))
          (subst (λ (n : ℕ). Iff (Derivation (rule_of loss g) (Picked chosen n) target) (Derivation (rule_of loss g) (Picked chosen m) target)) (sym e)
          (same-derivable loss g (Picked chosen (m % 1024)) (Picked chosen m) (λ v. low_bits chosen m v few) target)));
    }
