-- Reading a line: its questions, in the order in which they are asked, and the register's call that it says where all
-- answers are yes.
use Rattle.std.specs.Prelude.{Bool, true, false, cond, not, ◌&&◌, ◌||◌, List, [], ◌∷◌, ◌++◌, map, ℕ, suc, eqb, leb, length}
use Rattle.setup.specs.Bounds.{largest}
use Rattle.sheet_format.specs.Text.{fields_of, is_empty, same_text, all}
use Rattle.sheet_format.specs.Fields.{is_name, is_number_to, number_of}
use Rattle.sheet_format.specs.Rows.{ItemRow, number_in}
use Rattle.sheet_format.specs.Questions.{is_known}
use Rattle.report_text.specs.Rows.{way_text}
use Rattle.register.specs.Afternoon.{RegisterCall, HandIn, Withdraw}
use Rattle.handin_format.specs.Sets.{set_from}
use Rattle.handin_format.specs.Entries.{withdraw_text, most_handed}

-- A question's number, the field that it is asked of (counted from 1; 0 for the whole line), and whether the answer is
-- yes.
pub record FieldAsked : Type 0 where
  pub number : ℕ
  pub place : ℕ
  pub answer : Bool

-- The question with the number n, asked of field k and answered with b.
abbrev pub ask_of : ℕ → ℕ → Bool → FieldAsked
ask_of n k b = record { number = n; place = k; answer = b }

-- ---- the questions

-- 2: only bytes 32 to 126?
unfoldable pub is_line_byte : ℕ → Bool
is_line_byte b = leb 32 b && leb b 126

-- 4: is none of the fields from field k on empty?
unfoldable pub fields_filled : ℕ → List (List ℕ) → List FieldAsked
fields_filled k [] = []
fields_filled k (f ∷ fs) = ask_of 4 k (not (is_empty f)) ∷ fields_filled (suc k) fs

-- 4: do a target and a way stand behind the student, or `withdraw` alone? Asked of the first field that is missing.
unfoldable pub fields_there : List (List ℕ) → FieldAsked
fields_there [] = ask_of 4 1 false
fields_there (f ∷ []) = ask_of 4 2 false
fields_there (f ∷ g ∷ []) = ask_of 4 3 (same_text g withdraw_text)
fields_there (f ∷ g ∷ h ∷ xs) = ask_of 4 3 true

-- 5, of a student: a number up to the largest.
unfoldable pub is_student : List ℕ → Bool
is_student f = is_number_to largest f

-- 5, of a way: `open` or `lock`.
unfoldable pub is_way : List ℕ → Bool
is_way f = same_text f (way_text false) || same_text f (way_text true)

-- 5, 8, 6, of each set from field k on: the first no of its names.
unfoldable pub set_questions : List ItemRow → ℕ → List (List ℕ) → List FieldAsked
set_questions items k [] = []
set_questions items k (x ∷ xs) =
    ask_of (set_from items x).number k (eqb (set_from items x).number 0) ∷ set_questions items (suc k) xs

-- The fields from the left, and last 7: at most 16,384 sets?
unfoldable pub field_questions : List ItemRow → List (List ℕ) → List FieldAsked
field_questions items [] = []
field_questions items (f ∷ []) = []
field_questions items (f ∷ g ∷ []) = ask_of 5 1 (is_student f) ∷ []
field_questions items (f ∷ g ∷ h ∷ xs) =
    ask_of 5 1 (is_student f) ∷ ask_of 5 2 (is_name g) ∷ ask_of 8 2 (is_known items g) ∷ ask_of 5 3 (is_way h)
    ∷ (set_questions items 4 xs ++ (ask_of 7 0 (leb (length xs) most_handed) ∷ []))

-- All questions of a line, in order.
unfoldable pub line_questions : List ItemRow → List ℕ → List FieldAsked
line_questions items l =
    ask_of 2 0 (all is_line_byte l)
    ∷ (fields_filled 1 (fields_of l) ++ (fields_there (fields_of l) ∷ field_questions items (fields_of l)))

-- ---- what the line says

-- The number of a no, and the field that it was asked of; both 0 where there is none.
pub record LineNo : Type 0 where
  pub number : ℕ
  pub place : ℕ

-- The first question whose answer is no.
unfoldable pub first_no_of : List FieldAsked → LineNo
first_no_of [] = record { number = 0; place = 0 }
first_no_of (a ∷ later) = cond a.answer (first_no_of later) (record { number = a.number; place = a.place })

-- The first no of a line; number 0 where it is accepted.
unfoldable pub line_no : List ItemRow → List ℕ → LineNo
line_no items l = first_no_of (line_questions items l)

-- The register's call that fields say whose answers are all yes.
unfoldable pub call_of_fields : List ItemRow → List (List ℕ) → RegisterCall
call_of_fields items [] = Withdraw 0
call_of_fields items (f ∷ []) = Withdraw 0
call_of_fields items (f ∷ g ∷ []) = Withdraw (number_of f)
call_of_fields items (f ∷ g ∷ h ∷ xs) =
    HandIn
    (record {
      student = number_of f;
      target = number_in items g;
      loss = same_text h (way_text true);
      handed = map (λ x. (set_from items x).set) xs;
    })

-- The register's call that an accepted line says.
unfoldable pub line_call : List ItemRow → List ℕ → RegisterCall
line_call items l = call_of_fields items (fields_of l)
