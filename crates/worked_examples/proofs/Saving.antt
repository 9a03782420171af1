-- What is saved of the redrawn sheet is exactly the text, and wrong texts are excluded: there is one list of rows, and its text is computed.
-- Assumes nothing.
use mathlib.Core.Path.{◌≡◌, refl, ap, ◌∙◌}
use mathlib.Core.Bool.{false}
use mathlib.Core.List.{List, [], ◌∷◌}
use Prim.Native.Nat.{ℕ, ◌≤◌}
use Prim.Native.String.{String}
use native.Mathlib.Omega.{arith}
use lib.ListN.{length}
use Rattle.setup.specs.Setup.{empty_graph}
use Rattle.setup.specs.Inner.{graph_with_row}
use Rattle.setup.specs.Calls.{written}
use Rattle.questions.specs.Contract.{gives, ends}
use Rattle.questions.proofs.Contract.{only-given, only-short}
use Rattle.sheet_format.specs.Read.{Reading}
use Rattle.sheet_format.specs.Text.{grow, lines_of, fields_of, is_empty, same_text, all}
use Rattle.sheet_format.specs.Fields.{is_digit, is_name_byte, is_name, is_number, value_behind, number_of, is_number_to, is_kind, kind_of, is_value, field_value, decimal, digits_in}
use Rattle.sheet_format.specs.Rows.{Doc, render, first_header, second_header, start_count, loss_count, number_in, vertices_of, with_edge, with_edges, recovery_rows, setup_of}
use Rattle.sheet_format.specs.Questions.{question1, is_text_byte, ends_in_lf, question2, question3, question10, none_empty, question4, question5_item, question5_edge, item_of, edge_of, is_known, question6, question8, same_edge, is_repeated, question9, question7_item, question7_edge}
use Rattle.sheet_format.specs.Read.{item_questions, edge_questions, questions_of, behind, first_no, question11, unless, read_lines, read_sheet}
use Rattle.sheet_format.specs.Names.{has_item, name_of}
use Rattle.sheet_format.proofs.SetupRows.{doc_of}
use Rattle.reference.specs.Tests.{with_vertex}
use Rattle.save_format.specs.Inner.{texts, item_text, edge_text, row_text, place_text, edges_text, items_text, saved_text}
use Rattle.save_format.specs.Rows.{SavedRows}
use Rattle.save_format.specs.Call.{save_call}
use Rattle.save_format.proofs.Texts.{text-is}
use Rattle.save_format.proofs.Unique.{saved-unique}
use Rattle.save_format.proofs.Meaning.{saved-doc, one-save}
use Rattle.worked_examples.specs.Sheets.{lines_text, bench}
use Rattle.worked_examples.specs.Saving.{with_rows, bench_items, saved_lines, RedrawnSaved}
use Rattle.worked_examples.proofs.Reading.{read-bench}
use Rattle.worked_examples.proofs.Living.{more, marked, fresh, one, first, marking, add-mark, marking-well}
use Rattle.worked_examples.proofs.Pooling.{differ}

abbrev pub sheet : List ℕ
sheet = lines_text bench.lines

computed : saved_text (name_of sheet) marking ≡ lines_text saved_lines
unfolding grow lines_of fields_of is_empty same_text all is_digit is_name_byte is_name is_number value_behind number_of is_number_to is_kind kind_of is_value field_value first_header second_header start_count loss_count number_in vertices_of empty_graph with_edge with_edges recovery_rows setup_of question1 is_text_byte ends_in_lf question2 question3 question10 none_empty question4 question5_item question5_edge item_of edge_of is_known question6 question8 same_edge is_repeated question9 question7_item question7_edge item_questions edge_questions questions_of behind first_no question11 unless read_lines read_sheet decimal digits_in has_item name_of with_vertex graph_with_row more marked texts item_text edge_text row_text place_text edges_text items_text saved_text
computed = refl

read-well : (read_sheet sheet).number ≡ 0
read-well = ap (λ (r : Reading). r.number) read-bench

names-enough : marking.count ≤ (read_sheet sheet).setup.count
names-enough = let e : (read_sheet sheet).setup.count ≡ 5 = ap (λ (r : Reading). r.setup.count) read-bench in omega arith

rows : SavedRows sheet marking (doc_of (name_of sheet) marking)
rows = saved-doc sheet marking read-well marking-well names-enough

text : render (doc_of (name_of sheet) marking) ≡ lines_text saved_lines
text = text-is (name_of sheet) marking ∙ computed

pub redrawn-saved : RedrawnSaved
redrawn-saved =
    record {
      setup = fresh;
      reading = read-bench;
      holds = record {
        drawn = marking;
        ran = (one, first, (marking, add-mark, refl));
        saved = λ out o f l.
            only-given (save_call sheet marking out) (one-save sheet marking out) (doc_of (name_of sheet) marking) rows o f (read-well, (marking-well, (names-enough, tt)))
            (let e = ap length text in omega arith, tt)
            ∙ ap (λ (t : List ℕ). ends (gives (length t ∷ [])) (written t out ∷ [])) text;
        short = λ out o f l.
            only-short (save_call sheet marking out) (one-save sheet marking out) (doc_of (name_of sheet) marking) rows o f (read-well, (marking-well, (names-enough, tt)))
            (λ r. let k = r.0 in let e = ap length text in omega arith);
      };
    }

-- ---- wrong texts

-- The lines are the text of the redrawn setup's rows.
pub record Saves (t : List String) : Type 0 where
  pub d : Doc
  pub rows : SavedRows sheet marking d
  pub is : lines_text t ≡ render d

other_text : (t : List String) → same_text (lines_text t) (lines_text saved_lines) ≡ false → Saves t → ⊥
other_text t h s = differ _ _ h (s.is ∙ ap render (saved-unique sheet marking s.d (doc_of (name_of sheet) marking) s.rows rows) ∙ text)

-- Edge rows in the order in which they were drawn.
abbrev pub as_drawn : List String
as_drawn = with_rows bench_items ("mailpw mail 0 0" ∷ "ordpw order 0 0" ∷ "token order 0 0" ∷ "mail order 1 1" ∷ "token mail 1 1" ∷ [])

pub no-order-of-drawing : Saves as_drawn → ⊥
unfolding same_text
no-order-of-drawing = other_text as_drawn refl

-- .. or by colour first.
abbrev pub by_colour : List String
by_colour = with_rows bench_items ("mailpw mail 0 0" ∷ "ordpw order 0 0" ∷ "token order 0 0" ∷ "token mail 1 1" ∷ "mail order 1 1" ∷ [])

pub no-colour-first : Saves by_colour → ⊥
unfolding same_text
no-colour-first = other_text by_colour refl

-- The new edge's mark lost.
abbrev pub mark_lost : List String
mark_lost = with_rows bench_items ("mailpw mail 0 0" ∷ "token mail 1 0" ∷ "ordpw order 0 0" ∷ "token order 0 0" ∷ "mail order 1 1" ∷ [])

pub no-mark-lost : Saves mark_lost → ⊥
unfolding same_text
no-mark-lost = other_text mark_lost refl

-- The new edge left out: the sheet as it was read, in its own order or in the saved one's.
abbrev pub edge_lost : List String
edge_lost = with_rows bench_items ("mailpw mail 0 0" ∷ "ordpw order 0 0" ∷ "token order 0 0" ∷ "mail order 1 1" ∷ [])

pub no-edge-lost : Saves edge_lost → ⊥
unfolding same_text
no-edge-lost = other_text edge_lost refl

-- What is held written into its row: the mail password costs nothing, and cannot be lost.
abbrev pub held_written : List String
held_written =
    with_rows ("ordpw c 1 2 0" ∷ "mailpw c 0 - 0" ∷ "token c 3 2 0" ∷ "mail a - - 1" ∷ "order a - - 3" ∷ [])
    ("mailpw mail 0 0" ∷ "token mail 1 1" ∷ "ordpw order 0 0" ∷ "token order 0 0" ∷ "mail order 1 1" ∷ [])

pub no-held-written : Saves held_written → ⊥
unfolding same_text
no-held-written = other_text held_written refl
