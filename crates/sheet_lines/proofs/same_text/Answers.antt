use Rattle.std.proofs.lemmas.Slice.Eq.{slice_eq-Decides}
use Rattle.std.proofs.lemmas.Bool.Decides.{Decides-eqb}
use Rattle.sheet_lines.proofs.Texts.{same-decided}
use Rattle.sheet_lines.proofs.same_text.Goals as goal

pub returns : goal.returns
returns c = same-decided c.args.s.now c.args.t.now c.eq.result (slice_eq-Decides Decides-eqb _ _ _ c.eq.ensures)
