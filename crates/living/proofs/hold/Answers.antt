use mathlib.Core.Path.{refl}
use Rattle.derivations.specs.Access.{access}
use Rattle.derivations.proofs.Graphs.{access-lawful}
use Rattle.derivations.proofs.Passes.{passes-closure}
use Rattle.living.proofs.hold.Goals as goal

pub returns : goal.returns
returns c = record {
  count = refl;
  vertices = refl;
  graph = refl;
  recovery = refl;
  is_held = refl;
  opened = passes-closure (access _) (access-lawful _) c.closure-closed.result.passes _ _ c.closure-closed.ensures;
}
