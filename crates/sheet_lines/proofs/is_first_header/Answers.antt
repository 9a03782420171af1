use Rattle.sheet_format.specs.Rows.{first_header}
use Rattle.sheet_format.specs.Questions.{question3}
use Rattle.sheet_lines.proofs.is_first_header.Goals as goal

pub returns : goal.returns
unfolding question3 first_header
returns c = c.same_text.ensures
