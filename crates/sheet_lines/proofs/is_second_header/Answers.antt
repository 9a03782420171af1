use Rattle.sheet_format.specs.Rows.{second_header}
use Rattle.sheet_format.specs.Questions.{question3}
use Rattle.sheet_lines.proofs.is_second_header.Goals as goal

pub returns : goal.returns
unfolding question3 second_header
returns c = c.same_text.ensures
