-- Access and lockout as two cases of one thing.
use Rattle.std.specs.Prelude.{Bool, true, false}
use Rattle.setup.specs.declared.Graph.{Graph}
use Rattle.derivations.specs.Derivation.{Rule}
use Rattle.derivations.specs.Access.{access}
use Rattle.derivations.specs.Lockout.{lockout}

-- The rule of access, or where `loss` is true that of lockout.
abbrev pub rule_of : Bool → Graph → Rule
rule_of false g = access g
rule_of true g = lockout g
