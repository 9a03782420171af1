-- Document 01's sheet is accepted, and some refusals have their number and line: the definitions of specs/, computed.
-- Assumes nothing.
use mathlib.Core.Path.{◌≡◌, refl}
use mathlib.Core.List.{List, [], ◌∷◌, ◌++◌}
use mathlib.Core.Bool.{true}
use Prim.Native.Nat.{ℕ}
use lib.ListN.{replicate}
use Rattle.setup.specs.declared.Kind.TheVariants.{Credential, Account}
use Rattle.std.specs.Prelude.{None, Some}
use Rattle.setup.specs.Setup.{unused_vertex, empty_graph, no_vertices}
use Rattle.sheet_format.specs.Text.{grow, lines_of, fields_of, is_empty, same_text, all}
use Rattle.sheet_format.specs.Fields.{is_digit, is_name_byte, is_name, is_number, value_behind, number_of, is_number_to, digits_in, decimal, is_kind, kind_of, is_value, field_value}
use Rattle.sheet_format.specs.Rows.{first_header, second_header, item_lines, edge_lines, render, start_count, loss_count, number_in, vertices_of, with_edge, with_edges, recovery_rows, setup_of}
use Rattle.sheet_format.specs.Questions.{question1, is_text_byte, ends_in_lf, question2, question3, question10, none_empty, question4, question5_item, question5_edge, item_of, edge_of, is_known, question6, question8, same_edge, is_repeated, question9, question7_item, question7_edge}
use Rattle.sheet_format.specs.Read.{item_questions, edge_questions, questions_of, behind, first_no, question11, unless, read_lines, read_sheet, accepted, refused}

abbrev sheet : List ℕ
sheet = 110 ∷ 97 ∷ 109 ∷ 101 ∷ 32 ∷ 107 ∷ 105 ∷ 110 ∷ 100 ∷ 32 ∷ 115 ∷ 116 ∷ 97 ∷ 114 ∷ 116 ∷ 32 ∷ 108 ∷ 111 ∷ 115 ∷ 115 ∷ 32 ∷ 114 ∷ 97 ∷ 110 ∷ 107 ∷ 10 ∷ 111 ∷ 114 ∷ 100 ∷ 112 ∷ 119 ∷ 32 ∷ 99 ∷ 32 ∷ 49 ∷ 32 ∷ 50 ∷ 32 ∷ 48 ∷ 10 ∷ 109 ∷ 97 ∷ 105 ∷ 108 ∷ 112 ∷ 119 ∷ 32 ∷ 99 ∷ 32 ∷ 49 ∷ 32 ∷ 49 ∷ 32 ∷ 48 ∷ 10 ∷ 116 ∷ 111 ∷ 107 ∷ 101 ∷ 110 ∷ 32 ∷ 99 ∷ 32 ∷ 51 ∷ 32 ∷ 50 ∷ 32 ∷ 48 ∷ 10 ∷ 109 ∷ 97 ∷ 105 ∷ 108 ∷ 32 ∷ 97 ∷ 32 ∷ 45 ∷ 32 ∷ 45 ∷ 32 ∷ 49 ∷ 10 ∷ 111 ∷ 114 ∷ 100 ∷ 101 ∷ 114 ∷ 32 ∷ 97 ∷ 32 ∷ 45 ∷ 32 ∷ 45 ∷ 32 ∷ 51 ∷ 10 ∷ 10 ∷ 102 ∷ 114 ∷ 111 ∷ 109 ∷ 32 ∷ 116 ∷ 111 ∷ 32 ∷ 99 ∷ 111 ∷ 108 ∷ 111 ∷ 117 ∷ 114 ∷ 32 ∷ 114 ∷ 101 ∷ 99 ∷ 10 ∷ 109 ∷ 97 ∷ 105 ∷ 108 ∷ 112 ∷ 119 ∷ 32 ∷ 109 ∷ 97 ∷ 105 ∷ 108 ∷ 32 ∷ 48 ∷ 32 ∷ 48 ∷ 10 ∷ 111 ∷ 114 ∷ 100 ∷ 112 ∷ 119 ∷ 32 ∷ 111 ∷ 114 ∷ 100 ∷ 101 ∷ 114 ∷ 32 ∷ 48 ∷ 32 ∷ 48 ∷ 10 ∷ 116 ∷ 111 ∷ 107 ∷ 101 ∷ 110 ∷ 32 ∷ 111 ∷ 114 ∷ 100 ∷ 101 ∷ 114 ∷ 32 ∷ 48 ∷ 32 ∷ 48 ∷ 10 ∷ 109 ∷ 97 ∷ 105 ∷ 108 ∷ 32 ∷ 111 ∷ 114 ∷ 100 ∷ 101 ∷ 114 ∷ 32 ∷ 49 ∷ 32 ∷ 49 ∷ 10 ∷ []

-- vertices 0 to 4; mail (3) needs 1 by colour 0; order (4) needs 0 and 2 by colour 0, and 3 by colour 1, which is a recovery edge
whole : read_sheet sheet ≡ accepted (record {
  count = 5;
  vertices =
      record { kind = Credential; start = Some 1; loss = Some 2; rank = 0 }
      ∷ record { kind = Credential; start = Some 1; loss = Some 1; rank = 0 }
      ∷ record { kind = Credential; start = Some 3; loss = Some 2; rank = 0 }
      ∷ record { kind = Account; start = None; loss = None; rank = 1 }
      ∷ record { kind = Account; start = None; loss = None; rank = 3 }
      ∷ replicate 59 unused_vertex;
  graph = record { rows = replicate 3 (record { needs = replicate 8 0 }) ++ (record { needs = 2 ∷ replicate 7 0 } ∷ record { needs = 5 ∷ 8 ∷ replicate 6 0 } ∷ replicate 59 (record { needs = replicate 8 0 })) };
  recovery = record { rows = replicate 4 (record { needs = replicate 8 0 }) ++ (record { needs = 0 ∷ 8 ∷ replicate 6 0 } ∷ replicate 59 (record { needs = replicate 8 0 })) };
  held = no_vertices;
  opened = no_vertices;
})
unfolding grow lines_of fields_of is_empty same_text all is_digit is_name_byte is_name is_number value_behind number_of is_number_to is_kind kind_of is_value field_value first_header second_header start_count loss_count number_in vertices_of empty_graph with_edge with_edges recovery_rows setup_of question1 is_text_byte ends_in_lf question2 question3 question10 none_empty question4 question5_item question5_edge item_of edge_of is_known question6 question8 same_edge is_repeated question9 question7_item question7_edge item_questions edge_questions questions_of behind first_no question11 unless read_lines read_sheet
whole = refl

over : read_sheet (110 ∷ 97 ∷ 109 ∷ 101 ∷ 32 ∷ 107 ∷ 105 ∷ 110 ∷ 100 ∷ 32 ∷ 115 ∷ 116 ∷ 97 ∷ 114 ∷ 116 ∷ 32 ∷ 108 ∷ 111 ∷ 115 ∷ 115 ∷ 32 ∷ 114 ∷ 97 ∷ 110 ∷ 107 ∷ 10 ∷ 97 ∷ 32 ∷ 99 ∷ 32 ∷ 48 ∷ 32 ∷ 48 ∷ 32 ∷ 48 ∷ 10 ∷ []) ≡ refused 11 3
unfolding grow lines_of fields_of is_empty same_text all is_digit is_name_byte is_name is_number value_behind number_of is_number_to is_kind kind_of is_value field_value first_header second_header start_count loss_count number_in vertices_of empty_graph with_edge with_edges recovery_rows setup_of question1 is_text_byte ends_in_lf question2 question3 question10 none_empty question4 question5_item question5_edge item_of edge_of is_known question6 question8 same_edge is_repeated question9 question7_item question7_edge item_questions edge_questions questions_of behind first_no question11 unless read_lines read_sheet
over = refl

four-fields : read_sheet (110 ∷ 97 ∷ 109 ∷ 101 ∷ 32 ∷ 107 ∷ 105 ∷ 110 ∷ 100 ∷ 32 ∷ 115 ∷ 116 ∷ 97 ∷ 114 ∷ 116 ∷ 32 ∷ 108 ∷ 111 ∷ 115 ∷ 115 ∷ 32 ∷ 114 ∷ 97 ∷ 110 ∷ 107 ∷ 10 ∷ 97 ∷ 32 ∷ 99 ∷ 32 ∷ 48 ∷ 32 ∷ 48 ∷ 32 ∷ 48 ∷ 10 ∷ 102 ∷ 114 ∷ 111 ∷ 109 ∷ 32 ∷ 116 ∷ 111 ∷ 32 ∷ 99 ∷ 111 ∷ 108 ∷ 111 ∷ 117 ∷ 114 ∷ 32 ∷ 114 ∷ 101 ∷ 99 ∷ 10 ∷ []) ≡ refused 4 3
unfolding grow lines_of fields_of is_empty same_text all is_digit is_name_byte is_name is_number value_behind number_of is_number_to is_kind kind_of is_value field_value first_header second_header start_count loss_count number_in vertices_of empty_graph with_edge with_edges recovery_rows setup_of question1 is_text_byte ends_in_lf question2 question3 question10 none_empty question4 question5_item question5_edge item_of edge_of is_known question6 question8 same_edge is_repeated question9 question7_item question7_edge item_questions edge_questions questions_of behind first_no question11 unless read_lines read_sheet
four-fields = refl

zeros : read_sheet (110 ∷ 97 ∷ 109 ∷ 101 ∷ 32 ∷ 107 ∷ 105 ∷ 110 ∷ 100 ∷ 32 ∷ 115 ∷ 116 ∷ 97 ∷ 114 ∷ 116 ∷ 32 ∷ 108 ∷ 111 ∷ 115 ∷ 115 ∷ 32 ∷ 114 ∷ 97 ∷ 110 ∷ 107 ∷ 10 ∷ 97 ∷ 32 ∷ 99 ∷ 32 ∷ 48 ∷ 48 ∷ 32 ∷ 48 ∷ 32 ∷ 48 ∷ 10 ∷ []) ≡ refused 5 2
unfolding grow lines_of fields_of is_empty same_text all is_digit is_name_byte is_name is_number value_behind number_of is_number_to is_kind kind_of is_value field_value first_header second_header start_count loss_count number_in vertices_of empty_graph with_edge with_edges recovery_rows setup_of question1 is_text_byte ends_in_lf question2 question3 question10 none_empty question4 question5_item question5_edge item_of edge_of is_known question6 question8 same_edge is_repeated question9 question7_item question7_edge item_questions edge_questions questions_of behind first_no question11 unless read_lines read_sheet
zeros = refl

same_name : read_sheet (110 ∷ 97 ∷ 109 ∷ 101 ∷ 32 ∷ 107 ∷ 105 ∷ 110 ∷ 100 ∷ 32 ∷ 115 ∷ 116 ∷ 97 ∷ 114 ∷ 116 ∷ 32 ∷ 108 ∷ 111 ∷ 115 ∷ 115 ∷ 32 ∷ 114 ∷ 97 ∷ 110 ∷ 107 ∷ 10 ∷ 97 ∷ 32 ∷ 99 ∷ 32 ∷ 48 ∷ 32 ∷ 48 ∷ 32 ∷ 48 ∷ 10 ∷ 97 ∷ 32 ∷ 97 ∷ 32 ∷ 49 ∷ 32 ∷ 49 ∷ 32 ∷ 49 ∷ 10 ∷ []) ≡ refused 6 3
unfolding grow lines_of fields_of is_empty same_text all is_digit is_name_byte is_name is_number value_behind number_of is_number_to is_kind kind_of is_value field_value first_header second_header start_count loss_count number_in vertices_of empty_graph with_edge with_edges recovery_rows setup_of question1 is_text_byte ends_in_lf question2 question3 question10 none_empty question4 question5_item question5_edge item_of edge_of is_known question6 question8 same_edge is_repeated question9 question7_item question7_edge item_questions edge_questions questions_of behind first_no question11 unless read_lines read_sheet
same_name = refl

unknown : read_sheet (110 ∷ 97 ∷ 109 ∷ 101 ∷ 32 ∷ 107 ∷ 105 ∷ 110 ∷ 100 ∷ 32 ∷ 115 ∷ 116 ∷ 97 ∷ 114 ∷ 116 ∷ 32 ∷ 108 ∷ 111 ∷ 115 ∷ 115 ∷ 32 ∷ 114 ∷ 97 ∷ 110 ∷ 107 ∷ 10 ∷ 97 ∷ 32 ∷ 99 ∷ 32 ∷ 48 ∷ 32 ∷ 48 ∷ 32 ∷ 48 ∷ 10 ∷ 10 ∷ 102 ∷ 114 ∷ 111 ∷ 109 ∷ 32 ∷ 116 ∷ 111 ∷ 32 ∷ 99 ∷ 111 ∷ 108 ∷ 111 ∷ 117 ∷ 114 ∷ 32 ∷ 114 ∷ 101 ∷ 99 ∷ 10 ∷ 97 ∷ 32 ∷ 98 ∷ 32 ∷ 48 ∷ 32 ∷ 48 ∷ 10 ∷ []) ≡ refused 8 5
unfolding grow lines_of fields_of is_empty same_text all is_digit is_name_byte is_name is_number value_behind number_of is_number_to is_kind kind_of is_value field_value first_header second_header start_count loss_count number_in vertices_of empty_graph with_edge with_edges recovery_rows setup_of question1 is_text_byte ends_in_lf question2 question3 question10 none_empty question4 question5_item question5_edge item_of edge_of is_known question6 question8 same_edge is_repeated question9 question7_item question7_edge item_questions edge_questions questions_of behind first_no question11 unless read_lines read_sheet
unknown = refl

repeated : read_sheet (110 ∷ 97 ∷ 109 ∷ 101 ∷ 32 ∷ 107 ∷ 105 ∷ 110 ∷ 100 ∷ 32 ∷ 115 ∷ 116 ∷ 97 ∷ 114 ∷ 116 ∷ 32 ∷ 108 ∷ 111 ∷ 115 ∷ 115 ∷ 32 ∷ 114 ∷ 97 ∷ 110 ∷ 107 ∷ 10 ∷ 97 ∷ 32 ∷ 99 ∷ 32 ∷ 48 ∷ 32 ∷ 48 ∷ 32 ∷ 48 ∷ 10 ∷ 10 ∷ 102 ∷ 114 ∷ 111 ∷ 109 ∷ 32 ∷ 116 ∷ 111 ∷ 32 ∷ 99 ∷ 111 ∷ 108 ∷ 111 ∷ 117 ∷ 114 ∷ 32 ∷ 114 ∷ 101 ∷ 99 ∷ 10 ∷ 97 ∷ 32 ∷ 97 ∷ 32 ∷ 48 ∷ 32 ∷ 48 ∷ 10 ∷ 97 ∷ 32 ∷ 97 ∷ 32 ∷ 48 ∷ 32 ∷ 49 ∷ 10 ∷ []) ≡ refused 9 6
unfolding grow lines_of fields_of is_empty same_text all is_digit is_name_byte is_name is_number value_behind number_of is_number_to is_kind kind_of is_value field_value first_header second_header start_count loss_count number_in vertices_of empty_graph with_edge with_edges recovery_rows setup_of question1 is_text_byte ends_in_lf question2 question3 question10 none_empty question4 question5_item question5_edge item_of edge_of is_known question6 question8 same_edge is_repeated question9 question7_item question7_edge item_questions edge_questions questions_of behind first_no question11 unless read_lines read_sheet
repeated = refl

empty-edge : read_sheet (110 ∷ 97 ∷ 109 ∷ 101 ∷ 32 ∷ 107 ∷ 105 ∷ 110 ∷ 100 ∷ 32 ∷ 115 ∷ 116 ∷ 97 ∷ 114 ∷ 116 ∷ 32 ∷ 108 ∷ 111 ∷ 115 ∷ 115 ∷ 32 ∷ 114 ∷ 97 ∷ 110 ∷ 107 ∷ 10 ∷ 97 ∷ 32 ∷ 99 ∷ 32 ∷ 48 ∷ 32 ∷ 48 ∷ 32 ∷ 48 ∷ 10 ∷ 10 ∷ 102 ∷ 114 ∷ 111 ∷ 109 ∷ 32 ∷ 116 ∷ 111 ∷ 32 ∷ 99 ∷ 111 ∷ 108 ∷ 111 ∷ 117 ∷ 114 ∷ 32 ∷ 114 ∷ 101 ∷ 99 ∷ 10 ∷ 10 ∷ []) ≡ refused 4 5
unfolding grow lines_of fields_of is_empty same_text all is_digit is_name_byte is_name is_number value_behind number_of is_number_to is_kind kind_of is_value field_value first_header second_header start_count loss_count number_in vertices_of empty_graph with_edge with_edges recovery_rows setup_of question1 is_text_byte ends_in_lf question2 question3 question10 none_empty question4 question5_item question5_edge item_of edge_of is_known question6 question8 same_edge is_repeated question9 question7_item question7_edge item_questions edge_questions questions_of behind first_no question11 unless read_lines read_sheet
empty-edge = refl

written : render (record {
  items =
      record { name = 111 ∷ 114 ∷ 100 ∷ 112 ∷ 119 ∷ []; kind = Credential; start = Some 1; loss = Some 4000000000; rank = 0 } ∷ [];
  edges = record { from = 111 ∷ 114 ∷ 100 ∷ 112 ∷ 119 ∷ []; to = 111 ∷ 114 ∷ 100 ∷ 112 ∷ 119 ∷ []; colour = 7; rec = true } ∷ [];
}) ≡ 110 ∷ 97 ∷ 109 ∷ 101 ∷ 32 ∷ 107 ∷ 105 ∷ 110 ∷ 100 ∷ 32 ∷ 115 ∷ 116 ∷ 97 ∷ 114 ∷ 116 ∷ 32 ∷ 108 ∷ 111 ∷ 115 ∷ 115 ∷ 32 ∷ 114 ∷ 97 ∷ 110 ∷ 107 ∷ 10 ∷ 111 ∷ 114 ∷ 100 ∷ 112 ∷ 119 ∷ 32 ∷ 99 ∷ 32 ∷ 49 ∷ 32 ∷ 52 ∷ 48 ∷ 48 ∷ 48 ∷ 48 ∷ 48 ∷ 48 ∷ 48 ∷ 48 ∷ 48 ∷ 32 ∷ 48 ∷ 10 ∷ 10 ∷ 102 ∷ 114 ∷ 111 ∷ 109 ∷ 32 ∷ 116 ∷ 111 ∷ 32 ∷ 99 ∷ 111 ∷ 108 ∷ 111 ∷ 117 ∷ 114 ∷ 32 ∷ 114 ∷ 101 ∷ 99 ∷ 10 ∷ 111 ∷ 114 ∷ 100 ∷ 112 ∷ 119 ∷ 32 ∷ 111 ∷ 114 ∷ 100 ∷ 112 ∷ 119 ∷ 32 ∷ 55 ∷ 32 ∷ 49 ∷ 10 ∷ []
unfolding digits_in decimal first_header second_header item_lines edge_lines render
written = refl
