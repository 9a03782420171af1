-- What the reader of all edge rows answers.
use Rattle.std.specs.Prelude.{◌≡◌, Result, Ok, Err, List, [], ℕ, ◌^◌, length, drop, set}
use Rattle.std.specs.Int.Bits.{bit_or}
use Rattle.setup.specs.declared.Rows.{Rows}
use Rattle.setup.specs.Setup.{row_of, no_vertices}
use Rattle.questions.specs.Refusals.{number}
use Rattle.sheet_format.specs.declared.SheetRefusal.{SheetRefusal}
use Rattle.sheet_format.specs.Text.{lines_of}
use Rattle.sheet_format.specs.Rows.{ItemRow, vertices_of}
use Rattle.sheet_format.specs.Read.{AmongEdges, accepted, refused, read_lines}
use Rattle.sheet_rows.specs.Inner.NameKeys.{NameKeys}
use Rattle.sheet_edges.specs.declared.Edges.{Edges}

-- A vertex's rows with f among the items needed by colour c.
abbrev pub with_need : Rows → ℕ → ℕ → Rows
with_need r c f = record { needs = set r.needs c (bit_or (row_of r c) (2 ^ f)) }

-- The edge rows from `start` on, where the line `first` begins, below whatever item rows the table is of: they are taken, or the reading ends with the
-- first no among them.
abbrev pub ReadsEdges : List ℕ → ℕ → ℕ → List ℕ → List ℕ → ℕ → Result Edges SheetRefusal → Type 0
ReadsEdges s start first low high count (Ok r) =
    (items : List ItemRow) → NameKeys items low high count
    → read_lines AmongEdges (record { items = items; edges = [] }) first (lines_of (drop start s))
    ≡ accepted (record { count = length items; vertices = vertices_of items; graph = r.graph; recovery = r.recovery; held = no_vertices; opened = no_vertices })
ReadsEdges s start first low high count (Err refusal) =
    (items : List ItemRow) → NameKeys items low high count
    → read_lines AmongEdges (record { items = items; edges = [] }) first (lines_of (drop start s)) ≡ refused (number refusal.refusal) refusal.line
