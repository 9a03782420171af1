-- `report_sections::accounts::put_pairs` meets its contract: the loop goes from the lowest vertex to the highest.
use Rattle.sheet_format.specs.Names.{name_of}
use Rattle.report_sections.proofs.Pairs.{PairsWriting}
use Rattle.report_sections.proofs.accounts.put_pairs.Given as goal

-- The rows of the vertices passed are written, and those of the vertices that are left go behind them.
abbrev pub invariant-loop-w : goal.invariant-loop-w
invariant-loop-w l = PairsWriting (name_of l.names.sheet.now) l.v l.x l.initial.pen l.w-iterator.left l.pen
