-- `cut_sets::duals::turn_round` meets its contract: six exchanges of lanes.
-- Assumes nothing.
use Rattle.cut_sets.proofs.Turning.{turned_round}
use Rattle.cut_sets.proofs.duals.turn_round.Goals as goal

pub returns : goal.returns
returns c = turned_round c.args.x
