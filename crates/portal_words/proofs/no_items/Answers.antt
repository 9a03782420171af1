use mathlib.Core.Path.{refl}
use Rattle.setup.specs.Setup.{empty_graph}
use Rattle.portal_words.proofs.no_items.Goals as goal

pub returns : goal.returns
unfolding empty_graph
returns c = refl
