-- The whole sheet: from its parts, as the code reads them, to what reading it comes to.
-- Assumes nothing.
use mathlib.Core.Path.{◌≡◌, refl, sym, ap, ◌∙◌}
use mathlib.Core.List.{List, [], ◌∷◌}
use mathlib.Core.Bool.{true, false}
use Prim.Native.Nat.{ℕ, ◌+◌, ◌-◌, ◌≤◌, ◌<◌}
use native.Mathlib.Nat.{sub-zero}
use native.Mathlib.Numerals.{add-one}
use native.Mathlib.Omega.{arith}
use lib.ListN.{length, take, drop}
use borrow.Author.Tests.{le-leb, lt-leb}
use Rattle.setup.specs.Bounds.{most_bytes}
use Rattle.setup.specs.Setup.{no_vertices}
use Rattle.vertex_set.proofs.Cases.{false-true}
use Rattle.std.specs.Prelude.{Ok, Err}
use Rattle.questions.specs.Refusals.{number}
use Rattle.sheet_format.specs.declared.SheetRefusal.{SheetRefusal}
use Rattle.sheet_format.specs.Read.{Reading, accepted}
use Rattle.sheet_format.specs.Text.{lines_of, all}
use Rattle.sheet_format.specs.Rows.{first_header, second_header}
use Rattle.sheet_format.specs.Questions.{question1, question2, question3, ends_in_lf}
use Rattle.sheet_format.specs.Read.{AtFirstHeader, AmongItems, AtSecondHeader, AmongEdges, no_rows, question11, refused, read_lines, read_sheet}
use Rattle.sheet_fields.specs.Inner.Parts.{until}
use Rattle.sheet_items.specs.declared.Items.{Items}
use Rattle.sheet_edges.specs.declared.Edges.{Edges}
use Rattle.sheet_items.specs.Inner.Items.{ItemsTaken, ReadsItems}
use Rattle.sheet_edges.specs.Inner.Edges.{ReadsEdges}
use Rattle.sheet_fields.proofs.Lines.{line_at, lines-over}
use Rattle.sheet_lines.proofs.Reading.{header1-no, header1-yes, header2-no, header2-yes, over_no}
use Rattle.sheet.specs.Inner.Rest.{ReadsRest}

-- ---- behind the item rows

module _ (s : List ℕ) (items : Items) where
  pub rest_over : (r : Reading) → length s ≤ items.at → r ≡ refused 11 (items.line + 1) → ReadsRest s items r
  unfolding question11
  rest_over r h e =
      record {
        each = λ start t. e ∙ sym (t.reading ∙ rw (lines-over s items.at h) (over_no AtSecondHeader (record { items = t.items; edges = [] }) (items.line + 1) refl));
      }

  module _ (inside : items.at < length s) (e : ℕ) (found : e ≡ items.at + until 10 (drop items.at s)) where
    abbrev pub header : List ℕ
    header = take (e - items.at) (drop items.at s)

    here : (start : ℕ) (t : ItemsTaken s start items)
        → read_lines AmongItems no_rows 2 (lines_of (drop start s))
        ≡ read_lines AtSecondHeader (record { items = t.items; edges = [] }) (items.line + 1) (header ∷ lines_of (drop (e + 1) s))
    here start t = t.reading ∙ ap (read_lines AtSecondHeader (record { items = t.items; edges = [] }) (items.line + 1)) (line_at s items.at e inside found)

    pub rest-header : (r : Reading) → question3 second_header header ≡ false → r ≡ refused 3 (items.line + 1) → ReadsRest s items r
    rest-header r h q =
        record {
          each = λ start t. q ∙ sym (here start t ∙ header2-no (record { items = t.items; edges = [] }) (items.line + 1) header (lines_of (drop (e + 1) s)) h);
        }

    module _ (yes3 : question3 second_header header ≡ true) where
      behind : (start : ℕ) (t : ItemsTaken s start items)
          → read_lines AmongItems no_rows 2 (lines_of (drop start s))
          ≡ read_lines AmongEdges (record { items = t.items; edges = [] }) (items.line + 1 + 1) (lines_of (drop (e + 1) s))
      behind start t =
          here start t ∙ header2-yes (record { items = t.items; edges = [] }) (items.line + 1) header (lines_of (drop (e + 1) s)) yes3
          ∙ ap (λ (k : ℕ). read_lines AmongEdges (record { items = t.items; edges = [] }) k (lines_of (drop (e + 1) s))) (sym (add-one (items.line + 1)))

      pub rest-no : (x : SheetRefusal) → ReadsEdges s (e + 1) (items.line + 1 + 1) items.keys.low items.keys.high items.keys.count (Err x) → ReadsRest s items (refused (number x.refusal) x.line)
      rest-no x reads = record { each = λ start t. sym (behind start t ∙ reads t.items t.table) }

      pub rest-yes : (edges : Edges) → ReadsEdges s (e + 1) (items.line + 1 + 1) items.keys.low items.keys.high items.keys.count (Ok edges)
          → ReadsRest s items (accepted (record { count = items.keys.count; vertices = items.vertices; graph = edges.graph; recovery = edges.recovery; held = no_vertices; opened = no_vertices }))
      rest-yes edges reads = record { each = λ start t. rw (t.vertices, t.table.size) (sym (behind start t ∙ reads t.items t.table)) }

-- ---- the whole

pub too_long : (s : List ℕ) (r : Reading) → most_bytes < length s → r ≡ refused 1 0 → r ≡ read_sheet s
unfolding read_sheet question1
too_long s r h e = rw (lt-leb (length s) most_bytes h) e

pub no_text : (s : List ℕ) (r : Reading) → length s ≤ most_bytes → question2 s ≡ false → r ≡ refused 2 0 → r ≡ read_sheet s
unfolding read_sheet question1
no_text s r h q e = rw (le-leb (length s) most_bytes h, q) e

some-text : (s : List ℕ) → question2 s ≡ true → 0 < length s
unfolding question2 ends_in_lf all
some-text [] q = absurd (false-true q)
some-text (b ∷ s) q = omega arith

module _ (s : List ℕ) (short : length s ≤ most_bytes) (text : question2 s ≡ true) (e : ℕ) (found : e ≡ 0 + until 10 s) where
  lines : read_sheet s ≡ read_lines AtFirstHeader no_rows 1 (take e s ∷ lines_of (drop (e + 1) s))
  unfolding read_sheet question1
  lines = rw (le-leb (length s) most_bytes short, text) (ap (read_lines AtFirstHeader no_rows 1) (line_at s 0 e (some-text s text) found ∙ rw (sub-zero e)))

  pub no_header : (r : Reading) → question3 first_header (take e s) ≡ false → r ≡ refused 3 1 → r ≡ read_sheet s
  no_header r h q = q ∙ sym (lines ∙ header1-no no_rows 1 (take e s) (lines_of (drop (e + 1) s)) h)

  module _ (yes3 : question3 first_header (take e s) ≡ true) where
    rows : read_sheet s ≡ read_lines AmongItems no_rows 2 (lines_of (drop (e + 1) s))
    rows = lines ∙ header1-yes no_rows 1 (take e s) (lines_of (drop (e + 1) s)) yes3

    pub no_item : (x : SheetRefusal) → ReadsItems s (e + 1) (Err x) → refused (number x.refusal) x.line ≡ read_sheet s
    no_item x reads = sym (rows ∙ reads)

    pub all_read : (items : Items) → ReadsItems s (e + 1) (Ok items) → (r : Reading) → ReadsRest s items r → r ≡ read_sheet s
    all_read items taken r h = h.each (e + 1) taken ∙ sym rows
