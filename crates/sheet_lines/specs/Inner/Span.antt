-- The part of a sheet that holds an item's name.
use Rattle.std.specs.Prelude.{List, ℕ, suc, ◌+◌, length}
use Rattle.sheet_format.specs.Text.{lines_of, fields_of}
use Rattle.sheet_format.specs.Questions.{field}
use Rattle.sheet_format.specs.Names.{line_start, row_of_item}
use Rattle.sheet_lines.specs.declared.names.Span.{Span}

-- From the start of the item's row, as long as its first field.
unfoldable pub span_of : List ℕ → ℕ → Span
span_of s i = record { from = line_start (lines_of s) (suc i); to = line_start (lines_of s) (suc i) + length (field (fields_of (row_of_item s i)) 0) }
