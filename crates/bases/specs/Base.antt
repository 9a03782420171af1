-- The sets of an account's base, and their list (document 003, definitions 4 to 6 and 19 to 21; document 01, "Lists"). The flag `loss` says
-- which is meant: access, with initial vertices and access derivations, or lockout, with losable vertices and loss derivations.
use Rattle.std.specs.Prelude.{Bool, List, ℕ}
use Rattle.vertex_set.specs.Set.{Member, ProperlyWithin}
use Rattle.vertex_set.specs.Order.{ListsExactly}
use Rattle.setup.specs.declared.Graph.{Graph}
use Rattle.setup.specs.declared.Setup.{Setup}
use Rattle.setup.specs.Setup.{Chosen}
use Rattle.derivations.specs.Derivation.{Derivation}
use Rattle.derivations.specs.Both.{rule_of}

-- The target has a derivation from the set x.
abbrev pub Derives : Bool → Graph → ℕ → ℕ → Type 0
Derives loss g target x = Derivation (rule_of loss g) (Member x) target

-- x is an access set of the target, or a lockout set: a set of initial (losable) vertices from which the target has a derivation.
pub record TargetSet (loss : Bool) (s : Setup) (g : Graph) (target x : ℕ) : Type 0 where
  pub chosen : (v : ℕ) → Member x v → Chosen loss s v
  pub derives : Derives loss g target x

-- x is a minimal access set or lockout set: from no proper subset is there a derivation (document 01: a set of the opening list, or of the lockout list).
pub record MinimalSet (loss : Bool) (s : Setup) (g : Graph) (target x : ℕ) : Type 0 where
  pub is : TargetSet loss s g target x
  pub minimal : (y : ℕ) → ProperlyWithin y x → Derives loss g target y → ⊥

-- l is the base of the target: exactly the minimal sets, each once, fewer vertices first, then the smaller number.
abbrev pub Base : Bool → Setup → Graph → ℕ → List ℕ → Type 0
Base loss s g target = ListsExactly (MinimalSet loss s g target)
