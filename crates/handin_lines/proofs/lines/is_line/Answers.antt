use Rattle.std.proofs.Common.{rules, tests, ◌∙◌}
use Rattle.std.proofs.lemmas.Iterator.{YieldsList-from_slice}
use Rattle.std.proofs.lemmas.Iterator.Search.{all_from_yields_List}
use Rattle.sheet_fields.proofs.Scans.{all-list}
use Rattle.handin_format.specs.Lines.{is_line_byte}
use Rattle.handin_lines.proofs.lines.is_line.Goals as goal

pub returns : goal.returns
returns c = all_from_yields_List is_line_byte _ _ c.all.result c.all.ensures.ran (YieldsList-from_slice c.args.l.now cc) (λ x b q k. search (rules, tests)) ∙ all-list is_line_byte c.args.l.now
