-- The families that a filled table holds.
-- Assumes nothing.
use mathlib.Core.Path.{◌≡◌, sym, subst, ◌∙◌}
use mathlib.Core.Bool.{Bool}
use mathlib.Core.List.{List}
use Prim.Native.Nat.{ℕ, ◌*◌, ◌/◌, ◌%◌, ◌<◌}
use native.Mathlib.Omega.{arith}
use lib.ListN.{take, drop}
use lib.Seq.{get_or-take, get_or-drop}
use Rattle.vertex_set.specs.Set.{Member, Iff}
use Rattle.setup.specs.declared.Graph.{Graph}
use Rattle.derivations.specs.Derivation.{Rule, Derivation}
use Rattle.derivations.specs.Both.{rule_of}
use Rattle.derivations.proofs.Rules.{monotone}
use Rattle.derivations.proofs.Both.{lawful}
use Rattle.families.specs.Inner.Masks.{Picked}
use Rattle.families.specs.Inner.Family.{In}
use Rattle.families.proofs.Exact.{Rising}
use Rattle.tables.specs.Inner.Table.{Table, FamilyOfVertex}

-- the words from v * 256 on are the family of v
pub family-of : (r : Rule) (chosen v k : ℕ) (w : List ℕ) → v < 64 → k ≡ 256 → Table r chosen w → FamilyOfVertex r chosen v (take k (drop (v * 256) w))
unfolding In
family-of r chosen v k w h e t =
    record {
      each = λ m hm.
          let q = get_or-take k (drop (v * 256) w) (m / 64) 0 (omega arith) ∙ get_or-drop (v * 256) w (m / 64) 0 in
          subst (λ (x : ℕ). Iff (Member x (m % 64)) (Derivation r (Picked chosen m) v)) (sym q) (t.each v m h hm);
    }

-- more is derivable from more
pub derivation-rising : (loss : Bool) (g : Graph) (v : ℕ) → Rising (λ held. Derivation (rule_of loss g) held v)
derivation-rising loss g v A B h d = monotone (rule_of loss g) (lawful loss g) A B h v d
