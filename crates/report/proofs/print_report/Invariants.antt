use Rattle.report_writer.specs.Inner.Steps.{steps_left}
use Rattle.report.proofs.Printing.{Printing}
use Rattle.report.proofs.print_report.Given as goal

-- What was handed to `write` so far, followed by what is left at the cursor, is the report; the tables, the list and the bytes that go out have their lengths.
abbrev pub invariant-loop-source : goal.invariant-loop-source
invariant-loop-source g l = Printing l.source.sheet.now l.source.facts.now l.source.opening.now l.source.lockout.now l.list l.out l.cursor

abbrev pub decreases-loop-source : goal.decreases-loop-source
decreases-loop-source g l = steps_left l.source.facts.now.count l.cursor
