-- The report of document 01's sheet, byte for byte, and of sheets with no account, with no pair, with accounts that nothing opens, and a refused one; and
-- of one with a mixed colour, as it is and as it was.
-- Assumes nothing.
use mathlib.Core.Path.{◌≡◌, refl}
use mathlib.Core.Bool.{false}
use mathlib.Core.List.{List, [], ◌∷◌}
use Prim.Native.Nat.{ℕ}
use lib.Count.{ones}
use Rattle.vertex_set.specs.Order.{sum_over}
use Rattle.sheet_format.specs.Text.{grow, lines_of, fields_of, is_empty, same_text, all}
use Rattle.sheet_format.specs.Fields.{is_digit, is_name_byte, is_name, is_number, value_behind, number_of, is_number_to, digits_in, decimal, is_kind, kind_of, is_value, field_value}
use Rattle.sheet_format.specs.Rows.{first_header, second_header, start_count, loss_count, number_in, vertices_of, with_edge, with_edges, recovery_rows, setup_of}
use Rattle.setup.specs.Setup.{empty_graph, row_less}
use Rattle.sheet_format.specs.Questions.{question1, is_text_byte, ends_in_lf, question2, question3, question10, none_empty, question4, question5_item, question5_edge, item_of, edge_of, is_known, question6, question8, same_edge, is_repeated, question9, question7_item, question7_edge}
use Rattle.sheet_format.specs.Read.{item_questions, edge_questions, questions_of, behind, first_no, question11, unless, read_lines, read_sheet}
use Rattle.reference.specs.Tests.{lowest, some, every, filtered, is_listed, is_member, is_within, is_meeting, with_vertex}
use Rattle.reference.specs.Closures.{is_complete, is_broken, colour_of, is_added, pass_of, passes_of, closure_of, derives_of}
use Rattle.reference.specs.Bases.{is_chosen, sets_of_size, sets_up_to, sets_of, target_sets_of, is_minimal, base_of, least_sum, score_of}
use Rattle.report_text.specs.Rows.{numbers_from, texts_of, way_text, answer_text, score_text, items_of, joined, set_text, set_row, score_row, pair_row, refused_row, list_header, score_header, pair_header}
use Rattle.sheet_format.specs.Names.{has_item, name_of}
use Rattle.report_text.specs.Report.{rows_less, less_recovery, is_account, accounts_of, is_backdoor, is_idle, is_out_of_rank, below_of, base_row, target_rows, list_section, finding_row, score_section, pair_rows, pair_section, accepted_report, report_after, report_of}
use Rattle.report_text.specs.Unmixed.{less_marked, finding_row_by, accepted_report_by, report_by}

-- Document 01's sheet.
--   name kind start loss rank
--   ordpw c 1 2 0
--   mailpw c 1 1 0
--   token c 3 2 0
--   mail a - - 1
--   order a - - 3
--
--   from to colour rec
--   mailpw mail 0 0
--   ordpw order 0 0
--   token order 0 0
--   mail order 1 1
abbrev document_sheet : List ℕ
document_sheet =
    110 ∷ 97 ∷ 109 ∷ 101 ∷ 32 ∷ 107 ∷ 105 ∷ 110 ∷ 100 ∷ 32 ∷ 115 ∷ 116 ∷ 97 ∷ 114 ∷ 116 ∷ 32 ∷ 108 ∷ 111 ∷ 115 ∷ 115 ∷ 32 ∷ 114 ∷ 97 ∷ 110 ∷ 107 ∷
    10 ∷ 111 ∷ 114 ∷ 100 ∷ 112 ∷ 119 ∷ 32 ∷ 99 ∷ 32 ∷ 49 ∷ 32 ∷ 50 ∷ 32 ∷ 48 ∷ 10 ∷ 109 ∷ 97 ∷ 105 ∷ 108 ∷ 112 ∷ 119 ∷ 32 ∷ 99 ∷ 32 ∷ 49 ∷ 32 ∷ 49 ∷
    32 ∷ 48 ∷ 10 ∷ 116 ∷ 111 ∷ 107 ∷ 101 ∷ 110 ∷ 32 ∷ 99 ∷ 32 ∷ 51 ∷ 32 ∷ 50 ∷ 32 ∷ 48 ∷ 10 ∷ 109 ∷ 97 ∷ 105 ∷ 108 ∷ 32 ∷ 97 ∷ 32 ∷ 45 ∷ 32 ∷ 45 ∷
    32 ∷ 49 ∷ 10 ∷ 111 ∷ 114 ∷ 100 ∷ 101 ∷ 114 ∷ 32 ∷ 97 ∷ 32 ∷ 45 ∷ 32 ∷ 45 ∷ 32 ∷ 51 ∷ 10 ∷ 10 ∷ 102 ∷ 114 ∷ 111 ∷ 109 ∷ 32 ∷ 116 ∷ 111 ∷ 32 ∷ 99 ∷
    111 ∷ 108 ∷ 111 ∷ 117 ∷ 114 ∷ 32 ∷ 114 ∷ 101 ∷ 99 ∷ 10 ∷ 109 ∷ 97 ∷ 105 ∷ 108 ∷ 112 ∷ 119 ∷ 32 ∷ 109 ∷ 97 ∷ 105 ∷ 108 ∷ 32 ∷ 48 ∷ 32 ∷ 48 ∷ 10 ∷
    111 ∷ 114 ∷ 100 ∷ 112 ∷ 119 ∷ 32 ∷ 111 ∷ 114 ∷ 100 ∷ 101 ∷ 114 ∷ 32 ∷ 48 ∷ 32 ∷ 48 ∷ 10 ∷ 116 ∷ 111 ∷ 107 ∷ 101 ∷ 110 ∷ 32 ∷ 111 ∷ 114 ∷ 100 ∷
    101 ∷ 114 ∷ 32 ∷ 48 ∷ 32 ∷ 48 ∷ 10 ∷ 109 ∷ 97 ∷ 105 ∷ 108 ∷ 32 ∷ 111 ∷ 114 ∷ 100 ∷ 101 ∷ 114 ∷ 32 ∷ 49 ∷ 32 ∷ 49 ∷ 10 ∷ []

--   target way size sum items
--   mail open 1 1 mailpw
--   mail lock 1 1 mailpw
--   order open 1 1 mailpw
--   order open 2 4 ordpw+token
--   order lock 2 3 ordpw+mailpw
--   order lock 2 3 mailpw+token
--
--   target score risk back idle
--   mail 1 1 no yes
--   order 1 3 yes no
--
--   above below
--   order mail
abbrev document_report : List ℕ
document_report =
    116 ∷ 97 ∷ 114 ∷ 103 ∷ 101 ∷ 116 ∷ 32 ∷ 119 ∷ 97 ∷ 121 ∷ 32 ∷ 115 ∷ 105 ∷ 122 ∷ 101 ∷ 32 ∷ 115 ∷ 117 ∷ 109 ∷ 32 ∷ 105 ∷ 116 ∷ 101 ∷ 109 ∷ 115 ∷
    10 ∷ 109 ∷ 97 ∷ 105 ∷ 108 ∷ 32 ∷ 111 ∷ 112 ∷ 101 ∷ 110 ∷ 32 ∷ 49 ∷ 32 ∷ 49 ∷ 32 ∷ 109 ∷ 97 ∷ 105 ∷ 108 ∷ 112 ∷ 119 ∷ 10 ∷ 109 ∷ 97 ∷ 105 ∷ 108 ∷
    32 ∷ 108 ∷ 111 ∷ 99 ∷ 107 ∷ 32 ∷ 49 ∷ 32 ∷ 49 ∷ 32 ∷ 109 ∷ 97 ∷ 105 ∷ 108 ∷ 112 ∷ 119 ∷ 10 ∷ 111 ∷ 114 ∷ 100 ∷ 101 ∷ 114 ∷ 32 ∷ 111 ∷ 112 ∷ 101 ∷
    110 ∷ 32 ∷ 49 ∷ 32 ∷ 49 ∷ 32 ∷ 109 ∷ 97 ∷ 105 ∷ 108 ∷ 112 ∷ 119 ∷ 10 ∷ 111 ∷ 114 ∷ 100 ∷ 101 ∷ 114 ∷ 32 ∷ 111 ∷ 112 ∷ 101 ∷ 110 ∷ 32 ∷ 50 ∷ 32 ∷
    52 ∷ 32 ∷ 111 ∷ 114 ∷ 100 ∷ 112 ∷ 119 ∷ 43 ∷ 116 ∷ 111 ∷ 107 ∷ 101 ∷ 110 ∷ 10 ∷ 111 ∷ 114 ∷ 100 ∷ 101 ∷ 114 ∷ 32 ∷ 108 ∷ 111 ∷ 99 ∷ 107 ∷ 32 ∷
    50 ∷ 32 ∷ 51 ∷ 32 ∷ 111 ∷ 114 ∷ 100 ∷ 112 ∷ 119 ∷ 43 ∷ 109 ∷ 97 ∷ 105 ∷ 108 ∷ 112 ∷ 119 ∷ 10 ∷ 111 ∷ 114 ∷ 100 ∷ 101 ∷ 114 ∷ 32 ∷ 108 ∷ 111 ∷ 99 ∷
    107 ∷ 32 ∷ 50 ∷ 32 ∷ 51 ∷ 32 ∷ 109 ∷ 97 ∷ 105 ∷ 108 ∷ 112 ∷ 119 ∷ 43 ∷ 116 ∷ 111 ∷ 107 ∷ 101 ∷ 110 ∷ 10 ∷ 10 ∷ 116 ∷ 97 ∷ 114 ∷ 103 ∷ 101 ∷ 116 ∷
    32 ∷ 115 ∷ 99 ∷ 111 ∷ 114 ∷ 101 ∷ 32 ∷ 114 ∷ 105 ∷ 115 ∷ 107 ∷ 32 ∷ 98 ∷ 97 ∷ 99 ∷ 107 ∷ 32 ∷ 105 ∷ 100 ∷ 108 ∷ 101 ∷ 10 ∷ 109 ∷ 97 ∷ 105 ∷ 108 ∷
    32 ∷ 49 ∷ 32 ∷ 49 ∷ 32 ∷ 110 ∷ 111 ∷ 32 ∷ 121 ∷ 101 ∷ 115 ∷ 10 ∷ 111 ∷ 114 ∷ 100 ∷ 101 ∷ 114 ∷ 32 ∷ 49 ∷ 32 ∷ 51 ∷ 32 ∷ 121 ∷ 101 ∷ 115 ∷ 32 ∷
    110 ∷ 111 ∷ 10 ∷ 10 ∷ 97 ∷ 98 ∷ 111 ∷ 118 ∷ 101 ∷ 32 ∷ 98 ∷ 101 ∷ 108 ∷ 111 ∷ 119 ∷ 10 ∷ 111 ∷ 114 ∷ 100 ∷ 101 ∷ 114 ∷ 32 ∷ 109 ∷ 97 ∷ 105 ∷ 108 ∷
    10 ∷ []

-- A credential alone: the headers and the empty lines stand with no row.
--   name kind start loss rank
--   p c 5 0 0
--
--   from to colour rec
abbrev credential_sheet : List ℕ
credential_sheet =
    110 ∷ 97 ∷ 109 ∷ 101 ∷ 32 ∷ 107 ∷ 105 ∷ 110 ∷ 100 ∷ 32 ∷ 115 ∷ 116 ∷ 97 ∷ 114 ∷ 116 ∷ 32 ∷ 108 ∷ 111 ∷ 115 ∷ 115 ∷ 32 ∷ 114 ∷ 97 ∷ 110 ∷ 107 ∷
    10 ∷ 112 ∷ 32 ∷ 99 ∷ 32 ∷ 53 ∷ 32 ∷ 48 ∷ 32 ∷ 48 ∷ 10 ∷ 10 ∷ 102 ∷ 114 ∷ 111 ∷ 109 ∷ 32 ∷ 116 ∷ 111 ∷ 32 ∷ 99 ∷ 111 ∷ 108 ∷ 111 ∷ 117 ∷ 114 ∷ 32 ∷
    114 ∷ 101 ∷ 99 ∷ 10 ∷ []

--   target way size sum items
--
--   target score risk back idle
--
--   above below
abbrev credential_report : List ℕ
credential_report =
    116 ∷ 97 ∷ 114 ∷ 103 ∷ 101 ∷ 116 ∷ 32 ∷ 119 ∷ 97 ∷ 121 ∷ 32 ∷ 115 ∷ 105 ∷ 122 ∷ 101 ∷ 32 ∷ 115 ∷ 117 ∷ 109 ∷ 32 ∷ 105 ∷ 116 ∷ 101 ∷ 109 ∷ 115 ∷
    10 ∷ 10 ∷ 116 ∷ 97 ∷ 114 ∷ 103 ∷ 101 ∷ 116 ∷ 32 ∷ 115 ∷ 99 ∷ 111 ∷ 114 ∷ 101 ∷ 32 ∷ 114 ∷ 105 ∷ 115 ∷ 107 ∷ 32 ∷ 98 ∷ 97 ∷ 99 ∷ 107 ∷ 32 ∷ 105 ∷
    100 ∷ 108 ∷ 101 ∷ 10 ∷ 10 ∷ 97 ∷ 98 ∷ 111 ∷ 118 ∷ 101 ∷ 32 ∷ 98 ∷ 101 ∷ 108 ∷ 111 ∷ 119 ∷ 10 ∷ []

-- A start value of zero, one of 4,000,000,000, an account that nothing locks, and no pair.
--   name kind start loss rank
--   p c 0 7 0
--   q c 4000000000 - 0
--   low a - - 0
--   high a - - 9
--
--   from to colour rec
--   p low 0 0
--   q high 7 0
abbrev ordered_sheet : List ℕ
ordered_sheet =
    110 ∷ 97 ∷ 109 ∷ 101 ∷ 32 ∷ 107 ∷ 105 ∷ 110 ∷ 100 ∷ 32 ∷ 115 ∷ 116 ∷ 97 ∷ 114 ∷ 116 ∷ 32 ∷ 108 ∷ 111 ∷ 115 ∷ 115 ∷ 32 ∷ 114 ∷ 97 ∷ 110 ∷ 107 ∷
    10 ∷ 112 ∷ 32 ∷ 99 ∷ 32 ∷ 48 ∷ 32 ∷ 55 ∷ 32 ∷ 48 ∷ 10 ∷ 113 ∷ 32 ∷ 99 ∷ 32 ∷ 52 ∷ 48 ∷ 48 ∷ 48 ∷ 48 ∷ 48 ∷ 48 ∷ 48 ∷ 48 ∷ 48 ∷ 32 ∷ 45 ∷ 32 ∷ 48 ∷ 10 ∷ 108 ∷
    111 ∷ 119 ∷ 32 ∷ 97 ∷ 32 ∷ 45 ∷ 32 ∷ 45 ∷ 32 ∷ 48 ∷ 10 ∷ 104 ∷ 105 ∷ 103 ∷ 104 ∷ 32 ∷ 97 ∷ 32 ∷ 45 ∷ 32 ∷ 45 ∷ 32 ∷ 57 ∷ 10 ∷ 10 ∷ 102 ∷ 114 ∷
    111 ∷ 109 ∷ 32 ∷ 116 ∷ 111 ∷ 32 ∷ 99 ∷ 111 ∷ 108 ∷ 111 ∷ 117 ∷ 114 ∷ 32 ∷ 114 ∷ 101 ∷ 99 ∷ 10 ∷ 112 ∷ 32 ∷ 108 ∷ 111 ∷ 119 ∷ 32 ∷ 48 ∷ 32 ∷ 48 ∷
    10 ∷ 113 ∷ 32 ∷ 104 ∷ 105 ∷ 103 ∷ 104 ∷ 32 ∷ 55 ∷ 32 ∷ 48 ∷ 10 ∷ []

--   target way size sum items
--   low open 1 0 p
--   low lock 1 7 p
--   high open 1 4000000000 q
--
--   target score risk back idle
--   low 0 7 no yes
--   high 4000000000 - no yes
--
--   above below
abbrev ordered_report : List ℕ
ordered_report =
    116 ∷ 97 ∷ 114 ∷ 103 ∷ 101 ∷ 116 ∷ 32 ∷ 119 ∷ 97 ∷ 121 ∷ 32 ∷ 115 ∷ 105 ∷ 122 ∷ 101 ∷ 32 ∷ 115 ∷ 117 ∷ 109 ∷ 32 ∷ 105 ∷ 116 ∷ 101 ∷ 109 ∷ 115 ∷
    10 ∷ 108 ∷ 111 ∷ 119 ∷ 32 ∷ 111 ∷ 112 ∷ 101 ∷ 110 ∷ 32 ∷ 49 ∷ 32 ∷ 48 ∷ 32 ∷ 112 ∷ 10 ∷ 108 ∷ 111 ∷ 119 ∷ 32 ∷ 108 ∷ 111 ∷ 99 ∷ 107 ∷ 32 ∷ 49 ∷
    32 ∷ 55 ∷ 32 ∷ 112 ∷ 10 ∷ 104 ∷ 105 ∷ 103 ∷ 104 ∷ 32 ∷ 111 ∷ 112 ∷ 101 ∷ 110 ∷ 32 ∷ 49 ∷ 32 ∷ 52 ∷ 48 ∷ 48 ∷ 48 ∷ 48 ∷ 48 ∷ 48 ∷ 48 ∷ 48 ∷ 48 ∷ 32 ∷ 113 ∷ 10 ∷
    10 ∷ 116 ∷ 97 ∷ 114 ∷ 103 ∷ 101 ∷ 116 ∷ 32 ∷ 115 ∷ 99 ∷ 111 ∷ 114 ∷ 101 ∷ 32 ∷ 114 ∷ 105 ∷ 115 ∷ 107 ∷ 32 ∷ 98 ∷ 97 ∷ 99 ∷ 107 ∷ 32 ∷ 105 ∷ 100 ∷
    108 ∷ 101 ∷ 10 ∷ 108 ∷ 111 ∷ 119 ∷ 32 ∷ 48 ∷ 32 ∷ 55 ∷ 32 ∷ 110 ∷ 111 ∷ 32 ∷ 121 ∷ 101 ∷ 115 ∷ 10 ∷ 104 ∷ 105 ∷ 103 ∷ 104 ∷ 32 ∷ 52 ∷ 48 ∷ 48 ∷ 48 ∷ 48 ∷ 48 ∷ 48 ∷ 48 ∷ 48 ∷ 48 ∷ 32 ∷ 45 ∷ 32 ∷ 110 ∷ 111 ∷ 32 ∷ 121 ∷ 101 ∷ 115 ∷ 10 ∷ 10 ∷ 97 ∷ 98 ∷ 111 ∷ 118 ∷ 101 ∷ 32 ∷ 98 ∷ 101 ∷ 108 ∷ 111 ∷ 119 ∷ 10 ∷
    []

-- Accounts that nothing opens and nothing locks: `-`, no backdoor, idle, and a pair by rank.
--   name kind start loss rank
--   shut a - - 2
--   gone a - - 1
--
--   from to colour rec
--   shut gone 0 1
abbrev unreachable_sheet : List ℕ
unreachable_sheet =
    110 ∷ 97 ∷ 109 ∷ 101 ∷ 32 ∷ 107 ∷ 105 ∷ 110 ∷ 100 ∷ 32 ∷ 115 ∷ 116 ∷ 97 ∷ 114 ∷ 116 ∷ 32 ∷ 108 ∷ 111 ∷ 115 ∷ 115 ∷ 32 ∷ 114 ∷ 97 ∷ 110 ∷ 107 ∷
    10 ∷ 115 ∷ 104 ∷ 117 ∷ 116 ∷ 32 ∷ 97 ∷ 32 ∷ 45 ∷ 32 ∷ 45 ∷ 32 ∷ 50 ∷ 10 ∷ 103 ∷ 111 ∷ 110 ∷ 101 ∷ 32 ∷ 97 ∷ 32 ∷ 45 ∷ 32 ∷ 45 ∷ 32 ∷ 49 ∷ 10 ∷
    10 ∷ 102 ∷ 114 ∷ 111 ∷ 109 ∷ 32 ∷ 116 ∷ 111 ∷ 32 ∷ 99 ∷ 111 ∷ 108 ∷ 111 ∷ 117 ∷ 114 ∷ 32 ∷ 114 ∷ 101 ∷ 99 ∷ 10 ∷ 115 ∷ 104 ∷ 117 ∷ 116 ∷ 32 ∷
    103 ∷ 111 ∷ 110 ∷ 101 ∷ 32 ∷ 48 ∷ 32 ∷ 49 ∷ 10 ∷ []

--   target way size sum items
--
--   target score risk back idle
--   shut - - no yes
--   gone - - no yes
--
--   above below
--   shut gone
abbrev unreachable_report : List ℕ
unreachable_report =
    116 ∷ 97 ∷ 114 ∷ 103 ∷ 101 ∷ 116 ∷ 32 ∷ 119 ∷ 97 ∷ 121 ∷ 32 ∷ 115 ∷ 105 ∷ 122 ∷ 101 ∷ 32 ∷ 115 ∷ 117 ∷ 109 ∷ 32 ∷ 105 ∷ 116 ∷ 101 ∷ 109 ∷ 115 ∷
    10 ∷ 10 ∷ 116 ∷ 97 ∷ 114 ∷ 103 ∷ 101 ∷ 116 ∷ 32 ∷ 115 ∷ 99 ∷ 111 ∷ 114 ∷ 101 ∷ 32 ∷ 114 ∷ 105 ∷ 115 ∷ 107 ∷ 32 ∷ 98 ∷ 97 ∷ 99 ∷ 107 ∷ 32 ∷ 105 ∷
    100 ∷ 108 ∷ 101 ∷ 10 ∷ 115 ∷ 104 ∷ 117 ∷ 116 ∷ 32 ∷ 45 ∷ 32 ∷ 45 ∷ 32 ∷ 110 ∷ 111 ∷ 32 ∷ 121 ∷ 101 ∷ 115 ∷ 10 ∷ 103 ∷ 111 ∷ 110 ∷ 101 ∷ 32 ∷ 45 ∷
    32 ∷ 45 ∷ 32 ∷ 110 ∷ 111 ∷ 32 ∷ 121 ∷ 101 ∷ 115 ∷ 10 ∷ 10 ∷ 97 ∷ 98 ∷ 111 ∷ 118 ∷ 101 ∷ 32 ∷ 98 ∷ 101 ∷ 108 ∷ 111 ∷ 119 ∷ 10 ∷ 115 ∷ 104 ∷ 117 ∷
    116 ∷ 32 ∷ 103 ∷ 111 ∷ 110 ∷ 101 ∷ 10 ∷ []

-- A number with a leading zero: refused.
--   name kind start loss rank
--   a c 00 0 0
abbrev leading_sheet : List ℕ
leading_sheet =
    110 ∷ 97 ∷ 109 ∷ 101 ∷ 32 ∷ 107 ∷ 105 ∷ 110 ∷ 100 ∷ 32 ∷ 115 ∷ 116 ∷ 97 ∷ 114 ∷ 116 ∷ 32 ∷ 108 ∷ 111 ∷ 115 ∷ 115 ∷ 32 ∷ 114 ∷ 97 ∷ 110 ∷ 107 ∷
    10 ∷ 97 ∷ 32 ∷ 99 ∷ 32 ∷ 48 ∷ 48 ∷ 32 ∷ 48 ∷ 32 ∷ 48 ∷ 10 ∷ []

--   refused 5 2
abbrev leading_report : List ℕ
leading_report =
    114 ∷ 101 ∷ 102 ∷ 117 ∷ 115 ∷ 101 ∷ 100 ∷ 32 ∷ 53 ∷ 32 ∷ 50 ∷ 10 ∷ []

-- A mixed colour (document 02, point 3): a phone and a letter recover the mail account, and only the letter's edge is marked. The whole colour is
-- taken out, so that 9 is left; taking out the letter's edge alone would leave 1, and no backdoor.
--   name kind start loss rank
--   finger c 9 - 0
--   phone c 1 3 0
--   letter c 5 1 0
--   mail a - - 1
--
--   from to colour rec
--   finger mail 0 0
--   phone mail 1 0
--   letter mail 1 1
abbrev mixed_sheet : List ℕ
mixed_sheet =
    110 ∷ 97 ∷ 109 ∷ 101 ∷ 32 ∷ 107 ∷ 105 ∷ 110 ∷ 100 ∷ 32 ∷ 115 ∷ 116 ∷ 97 ∷ 114 ∷ 116 ∷ 32 ∷ 108 ∷ 111 ∷ 115 ∷ 115 ∷ 32 ∷ 114 ∷ 97 ∷ 110 ∷ 107 ∷
    10 ∷ 102 ∷ 105 ∷ 110 ∷ 103 ∷ 101 ∷ 114 ∷ 32 ∷ 99 ∷ 32 ∷ 57 ∷ 32 ∷ 45 ∷ 32 ∷ 48 ∷ 10 ∷ 112 ∷ 104 ∷ 111 ∷ 110 ∷ 101 ∷ 32 ∷ 99 ∷ 32 ∷ 49 ∷ 32 ∷ 51 ∷
    32 ∷ 48 ∷ 10 ∷ 108 ∷ 101 ∷ 116 ∷ 116 ∷ 101 ∷ 114 ∷ 32 ∷ 99 ∷ 32 ∷ 53 ∷ 32 ∷ 49 ∷ 32 ∷ 48 ∷ 10 ∷ 109 ∷ 97 ∷ 105 ∷ 108 ∷ 32 ∷ 97 ∷ 32 ∷ 45 ∷ 32 ∷
    45 ∷ 32 ∷ 49 ∷ 10 ∷ 10 ∷ 102 ∷ 114 ∷ 111 ∷ 109 ∷ 32 ∷ 116 ∷ 111 ∷ 32 ∷ 99 ∷ 111 ∷ 108 ∷ 111 ∷ 117 ∷ 114 ∷ 32 ∷ 114 ∷ 101 ∷ 99 ∷ 10 ∷ 102 ∷ 105 ∷
    110 ∷ 103 ∷ 101 ∷ 114 ∷ 32 ∷ 109 ∷ 97 ∷ 105 ∷ 108 ∷ 32 ∷ 48 ∷ 32 ∷ 48 ∷ 10 ∷ 112 ∷ 104 ∷ 111 ∷ 110 ∷ 101 ∷ 32 ∷ 109 ∷ 97 ∷ 105 ∷ 108 ∷ 32 ∷ 49 ∷
    32 ∷ 48 ∷ 10 ∷ 108 ∷ 101 ∷ 116 ∷ 116 ∷ 101 ∷ 114 ∷ 32 ∷ 109 ∷ 97 ∷ 105 ∷ 108 ∷ 32 ∷ 49 ∷ 32 ∷ 49 ∷ 10 ∷ []

--   target way size sum items
--   mail open 1 9 finger
--   mail open 2 6 phone+letter
--
--   target score risk back idle
--   mail 6 - yes yes
--
--   above below
abbrev mixed_report : List ℕ
mixed_report =
    116 ∷ 97 ∷ 114 ∷ 103 ∷ 101 ∷ 116 ∷ 32 ∷ 119 ∷ 97 ∷ 121 ∷ 32 ∷ 115 ∷ 105 ∷ 122 ∷ 101 ∷ 32 ∷ 115 ∷ 117 ∷ 109 ∷ 32 ∷ 105 ∷ 116 ∷ 101 ∷ 109 ∷ 115 ∷
    10 ∷ 109 ∷ 97 ∷ 105 ∷ 108 ∷ 32 ∷ 111 ∷ 112 ∷ 101 ∷ 110 ∷ 32 ∷ 49 ∷ 32 ∷ 57 ∷ 32 ∷ 102 ∷ 105 ∷ 110 ∷ 103 ∷ 101 ∷ 114 ∷ 10 ∷ 109 ∷ 97 ∷ 105 ∷ 108 ∷
    32 ∷ 111 ∷ 112 ∷ 101 ∷ 110 ∷ 32 ∷ 50 ∷ 32 ∷ 54 ∷ 32 ∷ 112 ∷ 104 ∷ 111 ∷ 110 ∷ 101 ∷ 43 ∷ 108 ∷ 101 ∷ 116 ∷ 116 ∷ 101 ∷ 114 ∷ 10 ∷ 10 ∷ 116 ∷ 97 ∷
    114 ∷ 103 ∷ 101 ∷ 116 ∷ 32 ∷ 115 ∷ 99 ∷ 111 ∷ 114 ∷ 101 ∷ 32 ∷ 114 ∷ 105 ∷ 115 ∷ 107 ∷ 32 ∷ 98 ∷ 97 ∷ 99 ∷ 107 ∷ 32 ∷ 105 ∷ 100 ∷ 108 ∷ 101 ∷ 10 ∷
    109 ∷ 97 ∷ 105 ∷ 108 ∷ 32 ∷ 54 ∷ 32 ∷ 45 ∷ 32 ∷ 121 ∷ 101 ∷ 115 ∷ 32 ∷ 121 ∷ 101 ∷ 115 ∷ 10 ∷ 10 ∷ 97 ∷ 98 ∷ 111 ∷ 118 ∷ 101 ∷ 32 ∷ 98 ∷ 101 ∷
    108 ∷ 111 ∷ 119 ∷ 10 ∷ []

-- What it printed where the marked edge alone was taken out.
--   target way size sum items
--   mail open 1 9 finger
--   mail open 2 6 phone+letter
--
--   target score risk back idle
--   mail 6 - no yes
--
--   above below
abbrev mixed_before : List ℕ
mixed_before =
    116 ∷ 97 ∷ 114 ∷ 103 ∷ 101 ∷ 116 ∷ 32 ∷ 119 ∷ 97 ∷ 121 ∷ 32 ∷ 115 ∷ 105 ∷ 122 ∷ 101 ∷ 32 ∷ 115 ∷ 117 ∷ 109 ∷ 32 ∷ 105 ∷ 116 ∷ 101 ∷ 109 ∷ 115 ∷
    10 ∷ 109 ∷ 97 ∷ 105 ∷ 108 ∷ 32 ∷ 111 ∷ 112 ∷ 101 ∷ 110 ∷ 32 ∷ 49 ∷ 32 ∷ 57 ∷ 32 ∷ 102 ∷ 105 ∷ 110 ∷ 103 ∷ 101 ∷ 114 ∷ 10 ∷ 109 ∷ 97 ∷ 105 ∷ 108 ∷
    32 ∷ 111 ∷ 112 ∷ 101 ∷ 110 ∷ 32 ∷ 50 ∷ 32 ∷ 54 ∷ 32 ∷ 112 ∷ 104 ∷ 111 ∷ 110 ∷ 101 ∷ 43 ∷ 108 ∷ 101 ∷ 116 ∷ 116 ∷ 101 ∷ 114 ∷ 10 ∷ 10 ∷ 116 ∷ 97 ∷
    114 ∷ 103 ∷ 101 ∷ 116 ∷ 32 ∷ 115 ∷ 99 ∷ 111 ∷ 114 ∷ 101 ∷ 32 ∷ 114 ∷ 105 ∷ 115 ∷ 107 ∷ 32 ∷ 98 ∷ 97 ∷ 99 ∷ 107 ∷ 32 ∷ 105 ∷ 100 ∷ 108 ∷ 101 ∷ 10 ∷
    109 ∷ 97 ∷ 105 ∷ 108 ∷ 32 ∷ 54 ∷ 32 ∷ 45 ∷ 32 ∷ 110 ∷ 111 ∷ 32 ∷ 121 ∷ 101 ∷ 115 ∷ 10 ∷ 10 ∷ 97 ∷ 98 ∷ 111 ∷ 118 ∷ 101 ∷ 32 ∷ 98 ∷ 101 ∷ 108 ∷
    111 ∷ 119 ∷ 10 ∷ []

pub printed : (report_of document_sheet ≡ document_report)
    × (report_of credential_sheet ≡ credential_report)
    × (report_of ordered_sheet ≡ ordered_report)
    × (report_of unreachable_sheet ≡ unreachable_report)
    × (report_of leading_sheet ≡ leading_report)
    × (report_of mixed_sheet ≡ mixed_report)
    × (report_by (less_marked (read_sheet mixed_sheet).setup) mixed_sheet ≡ mixed_before)
    -- the scores of the mail account: with recovery, without, and less the marked edge alone, which left an easier route
    × (score_of false (read_sheet mixed_sheet).setup (read_sheet mixed_sheet).setup.graph 3 ≡ 6)
    × (score_of false (read_sheet mixed_sheet).setup (less_recovery (read_sheet mixed_sheet).setup) 3 ≡ 9)
    × (score_of false (read_sheet mixed_sheet).setup (less_marked (read_sheet mixed_sheet).setup) 3 ≡ 1)
unfolding grow lines_of fields_of is_empty same_text all is_digit is_name_byte is_name is_number value_behind number_of is_number_to digits_in decimal is_kind kind_of is_value field_value first_header second_header start_count loss_count number_in vertices_of empty_graph with_edge with_edges recovery_rows setup_of question1 is_text_byte ends_in_lf question2 question3 question10 none_empty question4 question5_item question5_edge item_of edge_of is_known question6 question8 same_edge is_repeated question9 question7_item question7_edge item_questions edge_questions questions_of behind first_no question11 unless read_lines read_sheet lowest some every filtered is_listed is_member is_within is_meeting with_vertex is_complete is_broken colour_of is_added pass_of passes_of closure_of derives_of is_chosen sets_of_size sets_up_to sets_of target_sets_of is_minimal base_of least_sum score_of numbers_from texts_of way_text answer_text score_text items_of joined set_text set_row score_row pair_row refused_row list_header score_header pair_header row_less rows_less less_recovery is_account accounts_of is_backdoor is_idle is_out_of_rank below_of base_row target_rows list_section finding_row score_section pair_rows pair_section accepted_report has_item name_of report_after report_of less_marked finding_row_by accepted_report_by report_by sum_over ones
printed = (refl, refl, refl, refl, refl, refl, refl, refl, refl, refl)
