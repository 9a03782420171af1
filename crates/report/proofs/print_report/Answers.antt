use mathlib.Core.Path.{sym}
use native.Mathlib.Omega.{arith}
use lib.Seq.{length-take-le}
use borrow.Author.Rules.{rules}
use Rattle.report_writer.proofs.Filling.{went-inside, left-some}
use Rattle.report.proofs.Printing.{going, printing-begun, printing-more}
use Rattle.report.proofs.print_report.Goals as goal

pub loop-source-init : goal.loop-source-init
loop-source-init g c =
    printing-begun _ _ _ _ _ _ _ c.begin-report.result c.begin-report.ensures (search rules) (search rules) (search rules) (search rules)

pub fill-next-requires : goal.fill-next-requires
fill-next-requires g c =
    let l = c.loop-source.invariant in
    let o = l.long_out in
    record { can_step = going _ _ _ _ _ _ _ l; in_bounds = omega arith }

pub slice_bounds-out-end : goal.slice_bounds-out-end
slice_bounds-out-end g c = went-inside _ _ _ _ _ _ _ _ _ _ _ (going _ _ _ _ _ _ _ c.loop-source.invariant) c.fill-next.ensures

pub slice_bounds-write_whole-end : goal.slice_bounds-write_whole-end
slice_bounds-write_whole-end g c =
    sym (length-take-le _ _ (went-inside _ _ _ _ _ _ _ _ _ _ _ (going _ _ _ _ _ _ _ c.loop-source.invariant) c.fill-next.ensures))

pub loop-source-smaller : goal.loop-source-smaller
loop-source-smaller g c = c.fill-next.ensures.less (left-some _ _ (c.unfinished.ensures.yes (search rules)))

pub loop-source-preserved : goal.loop-source-preserved
loop-source-preserved g c = printing-more _ _ _ _ _ _ _ _ _ _ c.loop-source.invariant c.fill-next.ensures (search rules) (search rules)
