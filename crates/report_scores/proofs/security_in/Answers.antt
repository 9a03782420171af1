-- `report_scores::security_in` meets its contract: the scores have the numbers that were read from the table.
-- Assumes nothing.
use mathlib.Core.Bool.{false}
use borrow.Author.Rules.{rules}
use Rattle.report_scores.proofs.Numbers.{scored-as}
use Rattle.report_scores.proofs.security_in.Goals as goal

pub returns : goal.returns
returns c =
    scored-as false _ _ _ _ _ c.scores_in.ensures (record { each = λ v h. search (rules, (c.map.ensures.items.at v 0 (record { 0 = 0; 1 = record {} }) h).2.met) })
