-- A 257th edge is refused with 7: the sheet of 256 is read, and its edges counted, by computation.
-- Assumes nothing.
use mathlib.Core.Path.{◌≡◌, refl, sym, subst}
use mathlib.Core.Bool.{false}
use mathlib.Core.List.{[], ◌∷◌}
use Prim.Native.Nat.{ℕ}
use native.Mathlib.Omega.{arith}
use lib.Count.{ones}
use Rattle.vertex_set.specs.Set.{Member}
use Rattle.vertex_set.proofs.Sets.{none-in-zero}
use Rattle.setup.specs.Setup.{empty_graph, row, edge_count}
use Rattle.formed.specs.WellFormed.{WellFormed}
use Rattle.questions.specs.Questions.{asks12, asks13}
use Rattle.questions.proofs.Asks.{first-no}
use Rattle.living.specs.Calls.{AddEdge, asks18, asks19, asks7, back, Done}
use Rattle.sheet_format.specs.Text.{grow, lines_of, fields_of, is_empty, same_text, all}
use Rattle.sheet_format.specs.Fields.{is_digit, is_name_byte, is_name, is_number, value_behind, number_of, is_number_to, is_kind, kind_of, is_value, field_value}
use Rattle.sheet_format.specs.Rows.{first_header, second_header, start_count, loss_count, number_in, vertices_of, with_edge, with_edges, recovery_rows, setup_of}
use Rattle.sheet_format.specs.Questions.{question1, is_text_byte, ends_in_lf, question2, question3, question10, none_empty, question4, question5_item, question5_edge, item_of, edge_of, is_known, question6, question8, same_edge, is_repeated, question9, question7_item, question7_edge}
use Rattle.sheet_format.specs.Read.{item_questions, edge_questions, questions_of, behind, first_no, question11, unless, read_lines, read_sheet}
use Rattle.sheet_format.proofs.Question12Yielded.{well-formed-of-valid}
use Rattle.save_format.proofs.Meaning.{rows_of}
use Rattle.worked_examples.specs.Crowded.{crowded, EdgeTooMany}

-- What is computed of the sheet.
record Counted : Type 0 where
  reads : (read_sheet crowded).number ≡ 0
  count : (read_sheet crowded).setup.count ≡ 16
  edges : edge_count (read_sheet crowded).setup.graph ≡ 256
  free : row (read_sheet crowded).setup.graph 0 1 ≡ 0

counted : Counted
unfolding grow lines_of fields_of is_empty same_text all is_digit is_name_byte is_name is_number value_behind number_of is_number_to is_kind kind_of is_value field_value first_header second_header start_count loss_count number_in vertices_of empty_graph with_edge with_edges recovery_rows setup_of question1 is_text_byte ends_in_lf question2 question3 question10 none_empty question4 question5_item question5_edge item_of edge_of is_known question6 question8 same_edge is_repeated question9 question7_item question7_edge item_questions edge_questions questions_of behind first_no question11 unless read_lines read_sheet edge_count ones
counted = record { reads = refl; count = refl; edges = refl; free = refl }

well : WellFormed (read_sheet crowded).setup
well = let r = rows_of crowded counted.reads in subst WellFormed (sym r.3) (well-formed-of-valid r.0 r.1)

pub edge-too-many : EdgeTooMany
edge-too-many =
    record {
      reads = counted.reads;
      refused = λ r c.
          let s = (read_sheet crowded).setup in
          let n = counted.count in
          let e = counted.edges in
          first-no (back s) (Done (AddEdge 0 0 1 false) s) (asks12 s ∷ asks13 s 0 ∷ asks13 s 0 ∷ asks18 1 ∷ asks19 s 0 0 1 ∷ []) (asks7 s) [] r c
          (well, (omega arith, (omega arith, (omega arith, (λ m. none-in-zero 0 (subst (λ (x : ℕ). Member x 0) counted.free m), tt))))) (λ l. omega arith);
    }
