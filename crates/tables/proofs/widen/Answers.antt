-- `tables::widen` meets its contract, whether or not there is a vertex at the bit.
-- Assumes nothing.
use mathlib.Core.Path.{◌≡◌}
use lib.ListN.{length}
use borrow.Author.Rules.{rules}
use Rattle.tables.proofs.Extending.{widened, kept}
use Rattle.tables.proofs.widen.Goals as goal

pub returns-in-Some : goal.returns-in-Some
returns-in-Some c = widened _ c.args.graph _ _ _ _ _ c.in-Some.ensures c.extend.ensures

pub returns-in_default : goal.returns-in_default
returns-in_default c =
    let long : length c.args.graph.rows ≡ 64 = c.well_formed.0.1.1.0.1.0.1 in
    kept _ c.args.graph _ _ _ (search rules) long c.in_default.ensures c.requires.quiet
