-- The sheets' bytes are accepted with the setups that the table has: the reader's definition, computed. So the setups are well formed.
-- Assumes nothing.
use mathlib.Core.Path.{◌≡◌, refl, sym, ap, subst, ◌∙◌}
use mathlib.Core.List.{List, [], ◌∷◌}
use Prim.Native.Nat.{ℕ}
use Rattle.formed.specs.WellFormed.{WellFormed}
use Rattle.sheet_format.specs.Text.{grow, lines_of, fields_of, is_empty, same_text, all}
use Rattle.sheet_format.specs.Fields.{is_digit, is_name_byte, is_name, is_number, value_behind, number_of, is_number_to, is_kind, kind_of, is_value, field_value}
use Rattle.sheet_format.specs.Rows.{Doc, Valid, render, first_header, second_header, start_count, loss_count, number_in, vertices_of, with_edge, with_edges, recovery_rows, setup_of}
use Rattle.setup.specs.Setup.{empty_graph}
use Rattle.sheet_format.specs.Questions.{question1, is_text_byte, ends_in_lf, question2, question3, question10, none_empty, question4, question5_item, question5_edge, item_of, edge_of, is_known, question6, question8, same_edge, is_repeated, question9, question7_item, question7_edge}
use Rattle.sheet_format.specs.Read.{Place, AmongEdges, item_questions, edge_questions, questions_of, behind, first_no, question11, unless, read_lines, read_sheet}
use Rattle.sheet_format.specs.Meaning.{start, next, Passed}
use Rattle.sheet_format.proofs.Meaning.{valid-read}
use Rattle.sheet_format.proofs.Question12.{yielded-formed}
use Rattle.save_format.proofs.Meaning.{rows_of}
use Rattle.worked_examples.specs.Sheets.{Sheet, ReadsSheet, AllRead, AllRefused, lines_text, bench, ring, closed, pair, spare, relay, alone, loop, full, halves, figure1, figure6, zeroed, outer, inner, later}

-- One more entry shown.
infixr 20 ◌&◌
pub ◌&◌ : {P Q : Type 0} → P → Q → P × Q
p & q = (p, q)

pub all_read : AllRead
unfolding grow lines_of fields_of is_empty same_text all is_digit is_name_byte is_name is_number value_behind number_of is_number_to is_kind kind_of is_value field_value first_header second_header start_count loss_count number_in vertices_of empty_graph with_edge with_edges recovery_rows setup_of question1 is_text_byte ends_in_lf question2 question3 question10 none_empty question4 question5_item question5_edge item_of edge_of is_known question6 question8 same_edge is_repeated question9 question7_item question7_edge item_questions edge_questions questions_of behind first_no question11 unless read_lines read_sheet
all_read = refl & refl & refl & refl & refl & refl & refl & refl & refl & refl & refl & refl & refl & refl & refl & refl & tt

-- the refused ones: the number, and the line
pub all-refused : AllRefused
unfolding grow lines_of fields_of is_empty same_text all is_digit is_name_byte is_name is_number value_behind number_of is_number_to is_kind kind_of is_value field_value first_header second_header start_count loss_count number_in vertices_of empty_graph with_edge with_edges recovery_rows setup_of question1 is_text_byte ends_in_lf question2 question3 question10 none_empty question4 question5_item question5_edge item_of edge_of is_known question6 question8 same_edge is_repeated question9 question7_item question7_edge item_questions edge_questions questions_of behind first_no question11 unless read_lines read_sheet
all-refused =
    refl & refl & refl & refl & refl & refl & refl & refl & refl & refl & refl & refl & refl & refl & refl
    & refl & refl & refl & refl & refl & refl & refl & refl & refl & refl & refl & refl & refl & refl & refl & refl & refl & tt

-- question 12: what an accepted sheet yields is well formed
pub reads-well : (x : Sheet) → ReadsSheet x → WellFormed x.setup
reads-well x e = yielded-formed (lines_text x.lines) x.setup e

-- ---- the rows of an accepted sheet, computed

-- The place behind the lines.
abbrev behind_all : Place → List (List ℕ) → Place
behind_all p [] = p
behind_all p (line ∷ lines) = behind_all (next p line) lines

passed-behind : (p : Place) (lines : List (List ℕ)) (q : Place) → Passed p lines q → behind_all p lines ≡ q
passed-behind p [] q h = h
passed-behind p (line ∷ lines) q h = passed-behind (next p line) lines q h.1

-- The rows that reading gathers.
abbrev pub rows_in : List ℕ → Doc
rows_in text = (behind_all start (lines_of text)).above

-- They are valid, and the text is their written form.
pub record HasRows (text : List ℕ) (d : Doc) : Type 0 where
  pub valid : Valid d
  pub is : text ≡ render d

pub rows-read : (text : List ℕ) (d : Doc) → (read_sheet text).number ≡ 0 → rows_in text ≡ d → HasRows text d
rows-read text d z e =
    let r = rows_of text z in
    let p : Passed start (lines_of text) (record { phase = AmongEdges; above = r.0 }) = subst (λ (t : List ℕ). Passed start (lines_of t) (record { phase = AmongEdges; above = r.0 })) (sym r.2) (valid-read r.0 r.1).passed in
    let same : r.0 ≡ d = sym (ap (λ (q : Place). q.above) (passed-behind start (lines_of text) _ p)) ∙ e in
    record { valid = subst Valid same r.1; is = r.2 ∙ ap render same }

-- ---- one by one

pub read-bench : ReadsSheet bench
read-bench = all_read.0

pub read-ring : ReadsSheet ring
read-ring = all_read.1.0

pub read-alone : ReadsSheet alone
read-alone = all_read.1.1.0

pub read-closed : ReadsSheet closed
read-closed = all_read.1.1.1.0

pub read-loop : ReadsSheet loop
read-loop = all_read.1.1.1.1.0

pub read-pair : ReadsSheet pair
read-pair = all_read.1.1.1.1.1.0

pub read-spare : ReadsSheet spare
read-spare = all_read.1.1.1.1.1.1.0

pub read-full : ReadsSheet full
read-full = all_read.1.1.1.1.1.1.1.0

pub read-halves : ReadsSheet halves
read-halves = all_read.1.1.1.1.1.1.1.1.0

pub read-relay : ReadsSheet relay
read-relay = all_read.1.1.1.1.1.1.1.1.1.0

pub read-figure1 : ReadsSheet figure1
read-figure1 = all_read.1.1.1.1.1.1.1.1.1.1.0

pub read-figure6 : ReadsSheet figure6
read-figure6 = all_read.1.1.1.1.1.1.1.1.1.1.1.0

pub read-zeroed : ReadsSheet zeroed
read-zeroed = all_read.1.1.1.1.1.1.1.1.1.1.1.1.0

pub read-outer : ReadsSheet outer
read-outer = all_read.1.1.1.1.1.1.1.1.1.1.1.1.1.0

pub read-inner : ReadsSheet inner
read-inner = all_read.1.1.1.1.1.1.1.1.1.1.1.1.1.1.0

pub read-later : ReadsSheet later
read-later = all_read.1.1.1.1.1.1.1.1.1.1.1.1.1.1.1.0
