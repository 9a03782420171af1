-- `report_rows::fields::ItemNames::put_items` meets its contract: the loop goes from the lowest vertex to the highest; the set that is left falls.
use Rattle.sheet_format.specs.Names.{name_of}
use Rattle.report_rows.proofs.Items.{ItemsWriting}
use Rattle.report_rows.proofs.fields.ItemNames.put_items.Given as goal

-- The names of the vertices passed are written, and those of the vertices in `rest` go behind them.
abbrev pub invariant-loop-rest : goal.invariant-loop-rest
invariant-loop-rest l = ItemsWriting (name_of l.self.sheet.now) l.x l.initial.pen l.rest l.pen

abbrev pub decreases-loop-rest : goal.decreases-loop-rest
decreases-loop-rest l = l.rest
