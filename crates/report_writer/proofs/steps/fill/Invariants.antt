use Rattle.writing.specs.Inner.{SameBuffer}
use Rattle.report_writer.specs.Inner.Steps.{steps_left}
use Rattle.report_writer.proofs.Filling.{Filling}
use Rattle.report_writer.proofs.steps.fill.Given as goal

-- What the loop has written and what is left of the report at c make what was left before the loop; the report can go on at c.
abbrev pub invariant-loop-source : goal.invariant-loop-source
invariant-loop-source l =
    SameBuffer l.initial.pen l.pen
    × Filling l.source.sheet.now l.source.facts.now l.source.opening.now l.source.lockout.now l.initial.list l.initial.next l.initial.pen.out.now l.initial.pen.at l.list l.pen.out.now l.next l.pen.at

abbrev pub decreases-loop-source : goal.decreases-loop-source
decreases-loop-source l = steps_left l.source.facts.now.count l.next
