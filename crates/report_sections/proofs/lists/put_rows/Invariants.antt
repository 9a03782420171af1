use Rattle.writing.specs.Inner.{SameBuffer}
use Rattle.sheet_format.specs.Names.{name_of}
use Rattle.report_sections.proofs.Rows.{RowsWriting}
use Rattle.report_sections.proofs.lists.put_rows.Given as goal

-- The rows of the list from row i up to `row` stand behind the pen's first place; as long as there is none, nothing does.
abbrev pub invariant-loop-row : goal.invariant-loop-row
invariant-loop-row l =
    SameBuffer l.initial.pen l.pen
    × RowsWriting (name_of l.names.sheet.now) l.loss l.target l.values l.list l.i l.n l.initial.pen.out.now l.initial.pen.at l.pen.out.now l.row l.pen.at
