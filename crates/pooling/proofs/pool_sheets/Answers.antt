-- `pooling::pool_sheets` meets its contract: the first sheet, the second, then both.
use mathlib.Core.Path.{◌≡◌, refl, sym, ap, ◌∙◌}
use Rattle.std.proofs.Common.{rules}
use Rattle.std.proofs.lemmas.Result.{err_from_is_err_and}
use Rattle.questions.proofs.Refusals.{number_some}
use Rattle.sheet_format.specs.Read.{reading}
use Rattle.sheet_lines.proofs.Refusing.{mapped-no, mapped-yes}
use Rattle.pooling.proofs.Calls.{call-refused, call-refused-second, call-pools}
use Rattle.pooling.proofs.pool_sheets.Goals as goal

pub returns-in_err-a : goal.returns-in_err-a
returns-in_err-a c =
    let p = err_from_is_err_and c.from_residual.result c.from_residual.ensures.1 in
    let m = mapped-no c.read_sheet.result c.map_err.result _ (λ e d. d ≡ record { refusal = e.refusal; sheet = 1; line = e.line }) (λ e d h. search rules) c.map_err.ensures.cases _ c.in_err-a.was in
    rw (p.1, p.2, m.2) (call-refused _ _ _ _ _ _ (ap reading (sym m.1) ∙ c.read_sheet.ensures) (number_some _) refl refl)

pub returns-in_err-b : goal.returns-in_err-b
returns-in_err-b c =
    let p = err_from_is_err_and c.from_residual-in_err-b.result c.from_residual-in_err-b.ensures.1 in
    let m = mapped-no c.read_sheet-2.result c.map_err-2.result _ (λ e d. d ≡ record { refusal = e.refusal; sheet = 2; line = e.line }) (λ e d h. search rules) c.map_err-2.ensures.cases _ c.in_err-b.was in
    let y = mapped-yes c.read_sheet.result c.map_err.result _ c.map_err.ensures.cases _ c.in_ok-a.was in
    rw (p.1, p.2, m.2) (call-refused-second _ _ _ _ _ _ _ (ap reading (sym y) ∙ c.read_sheet.ensures) refl (ap reading (sym m.1) ∙ c.read_sheet-2.ensures) (number_some _) refl refl)

pub pool_read-requires : goal.pool_read-requires
pool_read-requires c =
    let y = mapped-yes c.read_sheet.result c.map_err.result _ c.map_err.ensures.cases _ c.in_ok-a.was in
    let z = mapped-yes c.read_sheet-2.result c.map_err-2.result _ c.map_err-2.ensures.cases _ c.in_ok-b.was in
    (record { reading = sym (ap reading (sym y) ∙ c.read_sheet.ensures) }, record { reading = sym (ap reading (sym z) ∙ c.read_sheet-2.ensures) })

pub returns : goal.returns
returns c =
    let y = mapped-yes c.read_sheet.result c.map_err.result _ c.map_err.ensures.cases _ c.in_ok-a.was in
    let z = mapped-yes c.read_sheet-2.result c.map_err-2.result _ c.map_err-2.ensures.cases _ c.in_ok-b.was in
    call-pools _ _ _ _ _ _ _ (ap reading (sym y) ∙ c.read_sheet.ensures) refl (ap reading (sym z) ∙ c.read_sheet-2.ensures) refl c.pool_read.ensures
