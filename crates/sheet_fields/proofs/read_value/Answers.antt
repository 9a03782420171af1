use mathlib.Core.Path.{ap, ◌∙◌}
use Rattle.std.specs.Option.{option_map}
use Rattle.std.specs.Prelude.{Some}
use Rattle.std.proofs.lemmas.Slice.Eq.{slice_eq-Decides}
use Rattle.std.proofs.lemmas.Bool.Decides.{Decides-eqb}
use Rattle.sheet_fields.proofs.Forms.{value-dash, value-number, not-the-dash}
use Rattle.sheet_fields.proofs.read_value.Goals as goal

pub returns-then-eq : goal.returns-then-eq
returns-then-eq c = value-dash c.args.f.now ((slice_eq-Decides Decides-eqb _ _ _ c.eq.ensures).0 c.if-eq.true ∙ c.as_slice.ensures)

pub returns-in_err-n : goal.returns-in_err-n
returns-in_err-n c =
    c.from_residual.ensures ∙ ap (option_map Some) c.in_err-n.ensures
    ∙ value-number c.args.f.now (not-the-dash c.eq.result c.as_slice.result.now c.as_slice.ensures (slice_eq-Decides Decides-eqb _ _ _ c.eq.ensures) c.if-eq.false)

pub returns : goal.returns
returns c =
    ap (option_map Some) c.in_ok-n.ensures
    ∙ value-number c.args.f.now (not-the-dash c.eq.result c.as_slice.result.now c.as_slice.ensures (slice_eq-Decides Decides-eqb _ _ _ c.eq.ensures) c.if-eq.false)
