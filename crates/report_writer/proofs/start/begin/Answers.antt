use mathlib.Core.Path.{refl}
use Rattle.std.specs.Prelude.{Ok, Err}
use mir.Val.{Fits}
use mir.Syntax.{w64}
use borrow.Author.Rules.{rules}
use Rattle.questions.proofs.Refusals.{number_some}
use Rattle.sheet_format.specs.Read.{reading}
use Rattle.report_writer.proofs.Names.{accepted-yields}
use Rattle.report_writer.proofs.Whole.{begun-refused, begun-accepted}
use Rattle.report_writer.proofs.start.begin.Goals as goal

pub facts_of-requires : goal.facts_of-requires
facts_of-requires c =
    let y = accepted-yields _ (reading (Ok c.in-Ok.setup)) c.in-Ok.ensures refl in
    record { well_formed = (y.formed, y.names); tables_len = c.requires }

pub returns-in-Ok : goal.returns-in-Ok
returns-in-Ok c =
    let f = c.facts_of.ensures in
    begun-accepted _ (reading (Ok c.in-Ok.setup)) c.in-Ok.ensures _ _ _ _ _ refl f.0 f.1

pub returns-in-Err : goal.returns-in-Err
returns-in-Err c =
    let number-low : Fits w64 c.number.result = search rules in
    let line_low : Fits w64 c.in-Err.refused.line = search rules in
    rw c.number.ensures (begun-refused _ (reading (Err c.in-Err.refused)) c.in-Err.ensures _ _ _ (number_some _) (rw c.number.ensures at number-low.fits) line_low.fits)
