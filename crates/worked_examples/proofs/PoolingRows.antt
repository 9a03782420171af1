-- The rows of the sheets that two labs pool, read from their bytes.
-- Assumes nothing.
use mathlib.Core.Path.{◌≡◌, refl}
use mathlib.Core.Bool.{true, false}
use mathlib.Core.List.{[], ◌∷◌}
use Prim.Native.Nat.{ℕ}
use Prim.Native.String.{String}
use Rattle.setup.specs.declared.Kind.TheVariants.{Credential, Account}
use Rattle.std.specs.Prelude.{None, Some}
use Rattle.setup.specs.Setup.{empty_graph}
use Rattle.sheet_format.specs.Text.{bytes_of, grow, lines_of, fields_of, is_empty, same_text, all}
use Rattle.sheet_format.specs.Fields.{is_digit, is_name_byte, is_name, is_number, value_behind, number_of, is_number_to, is_kind, kind_of, is_value, field_value}
use Rattle.sheet_format.specs.Rows.{ItemRow, EdgeRow, Doc, first_header, second_header, start_count, loss_count, number_in, vertices_of, with_edge, with_edges, recovery_rows, setup_of}
use Rattle.sheet_format.specs.Questions.{question1, is_text_byte, ends_in_lf, question2, question3, question10, none_empty, question4, question5_item, question5_edge, item_of, edge_of, is_known, question6, question8, same_edge, is_repeated, question9, question7_item, question7_edge}
use Rattle.sheet_format.specs.Read.{item_questions, edge_questions, questions_of, behind, first_no, question11, unless, read_lines, read_sheet, refused}
use Rattle.worked_examples.specs.Sheets.{lines_text}
use Rattle.worked_examples.specs.Pooling.{first_lab, second_lab, other_lab, wrong_lab, eight_ways, ninth_way, eight_starts, seven_starts}
use Rattle.worked_examples.proofs.Reading.{HasRows, rows-read}

-- ---- the rows

abbrev pub badge : ItemRow
badge = record { name = bytes_of "badge"; kind = Credential; start = Some 2; loss = Some 1; rank = 0 }

abbrev pub store : ItemRow
store = record { name = bytes_of "store"; kind = Account; start = None; loss = None; rank = 1 }

abbrev pub bench : ItemRow
bench = record { name = bytes_of "bench"; kind = Account; start = None; loss = None; rank = 2 }

abbrev pub pin : ItemRow
pin = record { name = bytes_of "pin"; kind = Credential; start = Some 1; loss = Some 0; rank = 0 }

abbrev pub mail : ItemRow
mail = record { name = bytes_of "mail"; kind = Account; start = None; loss = None; rank = 3 }

abbrev pub other_store : ItemRow
other_store = record { name = bytes_of "store"; kind = Account; start = None; loss = None; rank = 2 }

abbrev pub first : Doc
first =
    record {
      items = badge ∷ store ∷ bench ∷ [];
      edges = record { from = badge.name; to = store.name; colour = 0; rec = false } ∷ record { from = store.name; to = bench.name; colour = 0; rec = false } ∷ [];
    }

abbrev pub second : Doc
second =
    record {
      items = store ∷ pin ∷ mail ∷ [];
      edges =
          record { from = pin.name; to = store.name; colour = 3; rec = false }
          ∷ record { from = mail.name; to = store.name; colour = 0; rec = true }
          ∷ record { from = store.name; to = mail.name; colour = 5; rec = false }
          ∷ [];
    }

abbrev pub other : Doc
other = record { items = other_store ∷ []; edges = [] }

-- eight colours and a ninth
abbrev way : ℕ → EdgeRow
way c = record { from = badge.name; to = store.name; colour = c; rec = false }

abbrev pub eight : Doc
eight = record { items = badge ∷ store ∷ []; edges = way 0 ∷ way 1 ∷ way 2 ∷ way 3 ∷ way 4 ∷ way 5 ∷ way 6 ∷ way 7 ∷ [] }

abbrev pub ninth : Doc
ninth = record { items = store ∷ pin ∷ []; edges = record { from = pin.name; to = store.name; colour = 0; rec = false } ∷ [] }

-- starting items
abbrev starter : String → ItemRow
starter n = record { name = bytes_of n; kind = Credential; start = Some 1; loss = None; rank = 0 }

abbrev pub starts : Doc
starts = record { items = starter "a1" ∷ starter "a2" ∷ starter "a3" ∷ starter "a4" ∷ starter "a5" ∷ starter "a6" ∷ starter "a7" ∷ starter "a8" ∷ []; edges = [] }

abbrev pub others : Doc
others = record { items = starter "b1" ∷ starter "b2" ∷ starter "b3" ∷ starter "b4" ∷ starter "b5" ∷ starter "b6" ∷ starter "b7" ∷ []; edges = [] }

-- ---- the sheets have these rows, and one is refused: the reader's definition, computed

pub record LabsRead : Type 0 where
  pub first : HasRows (lines_text first_lab) first
  pub second : HasRows (lines_text second_lab) second
  pub other : HasRows (lines_text other_lab) other
  pub eight : HasRows (lines_text eight_ways) eight
  pub ninth : HasRows (lines_text ninth_way) ninth
  pub starts : HasRows (lines_text eight_starts) starts
  pub others : HasRows (lines_text seven_starts) others
  pub wrong : read_sheet (lines_text wrong_lab) ≡ refused 6 3

pub labs-read : LabsRead
unfolding grow lines_of fields_of is_empty same_text all is_digit is_name_byte is_name is_number value_behind number_of is_number_to is_kind kind_of is_value field_value first_header second_header start_count loss_count number_in vertices_of empty_graph with_edge with_edges recovery_rows setup_of question1 is_text_byte ends_in_lf question2 question3 question10 none_empty question4 question5_item question5_edge item_of edge_of is_known question6 question8 same_edge is_repeated question9 question7_item question7_edge item_questions edge_questions questions_of behind first_no question11 unless read_lines read_sheet
labs-read =
    record {
      first = rows-read _ first refl refl;
      second = rows-read _ second refl refl;
      other = rows-read _ other refl refl;
      eight = rows-read _ eight refl refl;
      ninth = rows-read _ ninth refl refl;
      starts = rows-read _ starts refl refl;
      others = rows-read _ others refl refl;
      wrong = refl;
    }
