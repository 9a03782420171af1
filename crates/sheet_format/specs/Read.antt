-- Reading a sheet: questions 1 and 2 of the whole text, then the lines from the top. The first no ends it.
use Rattle.std.specs.Prelude.{◌≡◌, Result, Ok, Err, List, [], ◌∷◌, ◌++◌, Bool, true, false, cond, ℕ, zero, suc}
use Rattle.setup.specs.declared.Setup.{Setup}
use Rattle.questions.specs.Asks.{Question}
use Rattle.questions.specs.Refusals.{number}
use Rattle.sheet_format.specs.declared.SheetRefusal.{SheetRefusal}
use Rattle.sheet_format.specs.Text.{lines_of, fields_of, is_empty}
use Rattle.sheet_format.specs.Rows.{ItemRow, EdgeRow, Doc, setup_of, first_header, second_header}
use Rattle.sheet_format.specs.Questions.{question1, question2, question3, question4, question5_item, question5_edge, question6, question7_item, question7_edge, question8, question9, question10, item_of, edge_of}

-- The part of the sheet that the reading has come to: which lines belong here.
pub data Phase : Type 0 where
  AtFirstHeader : Phase
  AmongItems : Phase
  AtSecondHeader : Phase
  AmongEdges : Phase

-- Where the reading stands: the part of the sheet, and the rows above.
pub record Place : Type 0 where
  pub phase : Phase
  pub above : Doc

-- No rows at all: what stands above the first line.
abbrev pub no_rows : Doc
no_rows = record { items = []; edges = [] }

-- The rows with an item row more.
abbrev pub with_item : Doc → ItemRow → Doc
with_item d x = record { items = d.items ++ (x ∷ []); edges = d.edges }

-- The rows with an edge row more.
abbrev pub with_row : Doc → EdgeRow → Doc
with_row d e = record { items = d.items; edges = d.edges ++ (e ∷ []) }

-- ---- one line

-- A question's number, and whether the answer is yes.
pub record Asked : Type 0 where
  pub number : ℕ
  pub answer : Bool

-- The question with the number n, answered with b.
abbrev pub ask : ℕ → Bool → Asked
ask n b = record { number = n; answer = b }

-- An item row: 4, 5, 6, 7.
unfoldable pub item_questions : Doc → List (List ℕ) → List Asked
item_questions d fs = ask 4 (question4 5 fs) ∷ ask 5 (question5_item fs) ∷ ask 6 (question6 d (item_of fs)) ∷ ask 7 (question7_item d (item_of fs)) ∷ []

-- An edge row: 4, 5, 8, 9, 7.
unfoldable pub edge_questions : Doc → List (List ℕ) → List Asked
edge_questions d fs =
    ask 4 (question4 4 fs) ∷ ask 5 (question5_edge fs) ∷ ask 8 (question8 d (edge_of fs)) ∷ ask 9 (question9 d (edge_of fs)) ∷ ask 7 (question7_edge d) ∷ []

-- The questions that are asked of a line, in order.
unfoldable pub questions_of : Phase → Doc → List ℕ → List Asked
questions_of AtFirstHeader d line = ask 3 (question3 first_header line) ∷ []
questions_of AmongItems d line = cond (is_empty line) (ask 10 (question10 d) ∷ []) (item_questions d (fields_of line))
questions_of AtSecondHeader d line = ask 3 (question3 second_header line) ∷ []
questions_of AmongEdges d line = edge_questions d (fields_of line)

-- Where the reading stands after a line whose answers are all yes.
unfoldable pub behind : Phase → Doc → List ℕ → Place
behind AtFirstHeader d line = record { phase = AmongItems; above = d }
behind AmongItems d line =
    cond (is_empty line) (record { phase = AtSecondHeader; above = d }) (record { phase = AmongItems; above = with_item d (item_of (fields_of line)) })
behind AtSecondHeader d line = record { phase = AmongEdges; above = d }
behind AmongEdges d line = record { phase = AmongEdges; above = with_row d (edge_of (fields_of line)) }

-- The number of the first question whose answer is no; 0 where all are yes.
unfoldable pub first_no : List Asked → ℕ
first_no [] = 0
first_no (a ∷ later) = cond a.answer (first_no later) a.number

-- ---- the whole sheet

-- What reading a sheet gives. Number 0 and line 0: it is accepted. Else the number of the first question whose answer is no, its line (0 for the whole
-- text), and a setup of 0 items with no place in use.
pub record Reading : Type 0 where
  pub number : ℕ
  pub line : ℕ
  pub setup : Setup

-- An accepted sheet gives its setup, with number 0 and line 0.
abbrev pub accepted : Setup → Reading
accepted s = record { number = 0; line = 0; setup = s }

-- A refused sheet gives a setup of 0 items with no place in use.
abbrev pub refused : ℕ → ℕ → Reading
refused n k = record { number = n; line = k; setup = setup_of no_rows }

-- What a call that reads a sheet hands back, as the reading: the setup of an accepted sheet, or why it is refused.
abbrev pub reading : Result Setup SheetRefusal → Reading
reading (Ok setup) = accepted setup
reading (Err refusal) = refused (number refusal.refusal) refusal.line

-- 11 (text over): did the second header come?
unfoldable pub question11 : Phase → Bool
question11 AtFirstHeader = false
question11 AmongItems = false
question11 AtSecondHeader = false
question11 AmongEdges = true

-- The reading r where the number of the first no is 0, so that there is none; else the refusal with that number at line k.
unfoldable pub unless : ℕ → ℕ → Reading → Reading
unless zero k r = r
unless (suc n) k r = refused (suc n) k

-- The reading of the lines from line k on.
unfoldable pub read_lines : Phase → Doc → ℕ → List (List ℕ) → Reading
read_lines p d k [] = cond (question11 p) (accepted (setup_of d)) (refused 11 k)
read_lines p d k (line ∷ lines) =
    unless (first_no (questions_of p d line)) k (read_lines (behind p d line).phase (behind p d line).above (suc k) lines)

-- The reading of a text: question 1, question 2, then the lines from line 1 on.
unfoldable pub read_sheet : List ℕ → Reading
read_sheet text = cond (question1 text) (cond (question2 text) (read_lines AtFirstHeader no_rows 1 (lines_of text)) (refused 2 0)) (refused 1 0)

-- 1 to 11: is the text accepted? The number for no is the reading's.
abbrev pub asks_sheet : List ℕ → Question
asks_sheet text = record { number = (read_sheet text).number; Yes = (read_sheet text).number ≡ 0 }
