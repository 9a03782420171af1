-- Access and lockout are lawful, whichever is meant.
-- Assumes nothing.
use mathlib.Core.Bool.{Bool, true, false}
use Rattle.setup.specs.declared.Graph.{Graph}
use Rattle.derivations.specs.Both.{rule_of}
use Rattle.derivations.specs.Inner.Laws.{Laws}
use Rattle.derivations.proofs.Rules.{Lawful, held, monotone, union, twice, least}
use Rattle.derivations.proofs.Graphs.{access-lawful, lockout-lawful}

pub lawful : (loss : Bool) (g : Graph) → Lawful (rule_of loss g)
lawful false g = access-lawful g
lawful true g = lockout-lawful g

pub laws : (loss : Bool) (g : Graph) → Laws (rule_of loss g)
laws loss g =
    record {
      held = held (rule_of loss g);
      monotone = monotone (rule_of loss g) (lawful loss g);
      union = union (rule_of loss g) (lawful loss g);
      twice = twice (rule_of loss g) (lawful loss g);
      least = least (rule_of loss g) (lawful loss g);
    }
