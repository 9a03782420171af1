-- Inner: what the readers of a line's form and of its fields answer.
use Rattle.std.specs.Prelude.{◌≡◌, Option, Some, None, Result, Ok, Err, Bool, true, false, cond, List, [], ◌∷◌, ◌++◌, ℕ, ◌+◌, ◌-◌, ◌≤◌, ◌<◌, length, take, drop}
use Rattle.sheet_format.specs.Text.{fields_of, same_text}
use Rattle.sheet_format.specs.Fields.{is_name}
use Rattle.sheet_format.specs.Rows.{ItemRow, number_in}
use Rattle.sheet_format.specs.Questions.{is_known}
use Rattle.sheet_rows.specs.Inner.NameKeys.{NameKeys}
use Rattle.report_text.specs.Rows.{way_text}
use Rattle.register.specs.Afternoon.{RegisterCall, HandIn, Withdraw}
use Rattle.handin_format.specs.Entries.{most_handed}
use Rattle.handin_format.specs.Lines.{FieldAsked, ask_of, fields_filled, fields_there, field_questions, is_way, first_no_of, line_no, line_call}
use Rattle.questions.specs.Refusals.{number}
use Rattle.handin_format.specs.declared.FieldRefusal.{FieldRefusal}
use Rattle.handin_lines.specs.declared.lines.Form.{Form}
use Rattle.handin_lines.specs.declared.lines.LineRead.{LineRead}
use Rattle.handin_lines.specs.declared.lines.LineRead.TheVariants as read
use Rattle.handin_lines.specs.Inner.Splitting.{split_from}
use Rattle.handin_lines.specs.Inner.Sets.{handed_questions, sets_from}

-- The number and the field of the first no about a line's form; or 0, 0, and where its first three fields end.
pub record FormFound : Type 0 where
  pub number : ℕ
  pub place : ℕ
  pub first : ℕ
  pub second : ℕ
  pub third : ℕ

abbrev pub no_form : ℕ → ℕ → FormFound
no_form q k = record { number = q; place = k; first = 0; second = 0; third = 0 }

abbrev pub form_found : Result Form FieldRefusal → FormFound
form_found (Ok f) = record { number = 0; place = 0; first = f.first; second = f.second; third = f.third }
form_found (Err e) = no_form (number e.refusal) e.place

pub record WayField : Type 0 where
  pub ok : Bool
  pub loss : Bool

abbrev pub way_field : Option Bool → WayField
way_field (Some loss) = record { ok = true; loss = loss }
way_field None = record { ok = false; loss = false }

-- What a line says. Where `number` is not 0, it is that of the first no, `place` is its field, and the rest is 0 or false.
pub record LineFound : Type 0 where
  pub number : ℕ
  pub place : ℕ
  pub withdraws : Bool
  pub student : ℕ
  pub target : ℕ
  pub loss : Bool
  pub start : ℕ
  pub count : ℕ

abbrev pub no_line : ℕ → ℕ → LineFound
no_line q k = record { number = q; place = k; withdraws = false; student = 0; target = 0; loss = false; start = 0; count = 0 }

-- A hand-in whose sets begin at `start`, without its sets.
abbrev pub attempt_read : ℕ → ℕ → Bool → ℕ → ℕ → LineFound
attempt_read student target loss start count =
    record { number = 0; place = 0; withdraws = false; student = student; target = target; loss = loss; start = start; count = count }

-- A withdrawal.
abbrev pub withdrawal_read : ℕ → LineFound
withdrawal_read k = record { number = 0; place = 0; withdraws = true; student = k; target = 0; loss = false; start = 0; count = 0 }

abbrev pub line_said : LineRead → LineFound
line_said (read.Withdrawal k) = withdrawal_read k
line_said (read.Attempt x start) = attempt_read x.student x.target x.loss start x.count

abbrev pub line_found : Result LineRead FieldRefusal → LineFound
line_found (Ok x) = line_said x
line_found (Err e) = no_line (number e.refusal) e.place

-- The bytes from a up to, not including, e.
abbrev pub part_of : List ℕ → ℕ → ℕ → List ℕ
part_of l a e = take (e - a) (drop a l)

-- ---- the form

-- r is the first empty field, where one is empty.
pub record FirstEmpty (l : List ℕ) (r : Option ℕ) : Type 0 where
  pub some : (n : ℕ) → r ≡ Some n → (later : List FieldAsked) → first_no_of (fields_filled 1 (fields_of l) ++ later) ≡ record { number = 4; place = n }
  pub none : r ≡ None → (later : List FieldAsked) → first_no_of (fields_filled 1 (fields_of l) ++ later) ≡ first_no_of later

-- Where the first three fields of a hand-in end.
pub record AttemptPlaces (l : List ℕ) (r : FormFound) : Type 0 where
  pub first : r.first < r.second
  pub second : r.second < r.third
  pub third : r.third ≤ length l

-- The fields of a hand-in.
pub record AttemptFields (l : List ℕ) (r : FormFound) : Type 0 where
  pub places : AttemptPlaces l r
  pub fields : fields_of l ≡ take r.first l ∷ part_of l (r.first + 1) r.second ∷ part_of l (r.second + 1) r.third ∷ split_from 32 (r.third + 1) l

-- A line from which no field is missing: a withdrawal, whose second field ends it, or a hand-in.
pub record FieldsCut (l : List ℕ) (r : FormFound) : Type 0 where
  pub inside : (r.first ≤ length l) × (r.second ≤ length l)
  pub there : (later : List FieldAsked) → first_no_of (fields_there (fields_of l) ∷ later) ≡ first_no_of later
  pub alone : length l ≤ r.second → fields_of l ≡ take r.first l ∷ part_of l (r.first + 1) r.second ∷ []
  pub more : r.second < length l → AttemptFields l r

pub record CutsFields (l : List ℕ) (r : FormFound) : Type 0 where
  pub no : (r.number ≡ 0 → ⊥) → (later : List FieldAsked) → first_no_of (fields_there (fields_of l) ∷ later) ≡ record { number = r.number; place = r.place }
  pub yes : r.number ≡ 0 → FieldsCut l r

-- The first no about the form is that of the line; where there is none, it is that of the fields.
pub record FormOf (l : List ℕ) (r : FormFound) : Type 0 where
  pub no : (r.number ≡ 0 → ⊥) → (items : List ItemRow) → line_no items l ≡ record { number = r.number; place = r.place }
  pub yes : r.number ≡ 0 → (items : List ItemRow) → line_no items l ≡ first_no_of (field_questions items (fields_of l))
  pub cut : r.number ≡ 0 → FieldsCut l r

-- ---- the fields

pub record ReadsWay (f : List ℕ) (r : WayField) : Type 0 where
  pub answer : r.ok ≡ is_way f
  pub way : r.loss ≡ same_text f (way_text true)

-- The questions behind the student's.
unfoldable pub attempt_questions : List ItemRow → List ℕ → List ℕ → List (List ℕ) → List FieldAsked
attempt_questions items g h xs = ask_of 5 2 (is_name g) ∷ ask_of 8 2 (is_known items g) ∷ ask_of 5 3 (is_way h) ∷ handed_questions items xs

-- The first no of the fields behind the student, and what they say where there is none.
pub record ChecksAttempt (low high : List ℕ) (count : ℕ) (l : List ℕ) (form : FormFound) (student : ℕ) (r : LineFound) : Type 0 where
  pub first : (items : List ItemRow) → NameKeys items low high count
      → first_no_of (attempt_questions items (part_of l (form.first + 1) form.second) (part_of l (form.second + 1) form.third) (split_from 32 (form.third + 1) l))
      ≡ record { number = r.number; place = r.place }
  pub says : r.number ≡ 0 → (items : List ItemRow) → NameKeys items low high count
      → r ≡ attempt_read student (number_in items (part_of l (form.first + 1) form.second)) (same_text (part_of l (form.second + 1) form.third) (way_text true))
      (form.third + 1) (length (split_from 32 (form.third + 1) l))
  pub few : r.number ≡ 0 → r.count ≤ most_handed

-- The register's call that was read.
unfoldable pub call_read : List ItemRow → List ℕ → LineFound → RegisterCall
call_read items l r =
    cond r.withdraws (Withdraw r.student)
    (HandIn (record { student = r.student; target = r.target; loss = r.loss; handed = sets_from items r.start l }))

-- What is known of a line without a no: the call that it says, and how many sets a hand-in has; a withdrawal has none, and no target.
pub record SaysCall (items : List ItemRow) (l : List ℕ) (r : LineFound) : Type 0 where
  pub call : line_call items l ≡ call_read items l r
  pub counted : r.withdraws ≡ false → r.count ≡ length (split_from 32 r.start l)
  pub few : r.count ≤ most_handed
  pub alone : r.withdraws ≡ true → (r.target ≡ 0) × (r.loss ≡ false) × (r.count ≡ 0)

-- The line's first no, and what it says where there is none.
pub record ChecksLine (low high : List ℕ) (count : ℕ) (l : List ℕ) (r : LineFound) : Type 0 where
  pub first : (items : List ItemRow) → NameKeys items low high count → line_no items l ≡ record { number = r.number; place = r.place }
  pub says : r.number ≡ 0 → (items : List ItemRow) → NameKeys items low high count → SaysCall items l r
