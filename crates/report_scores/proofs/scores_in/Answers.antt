-- `report_scores::scores_in` meets its contract: one table, and one struct of sums, serve all vertices.
-- Assumes nothing.
use Rattle.report_scores.proofs.Reading.{scored}
use Rattle.report_scores.proofs.scores_in.Goals as goal

pub returns : goal.returns
returns c =
    scored c.args.loss c.args.s c.args.graph c.chosen-chosen.result.0 _ _ _ _ _ _ c.requires.formed c.chosen-chosen.ensures c.values_of-values.ensures
    c.sum_tables-sums.ensures c.fill.ensures.table c.keep_bases.ensures
