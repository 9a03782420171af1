-- What the calls on sets by name and on lines answer, for every sheet, text, register and lent list.
use Rattle.std.specs.Prelude.{◌≡◌, Result, Ok, Err, Bool, true, false, List, [], ◌∷◌, ℕ, ◌≤◌, length}
use Rattle.setup.specs.Calls.{written}
use Rattle.questions.specs.declared.Refusal.{Refusal}
use Rattle.questions.specs.Refusals.{number}
use Rattle.questions.specs.Asks.{Question, Asks}
use Rattle.questions.specs.Contract.{Contract}
use Rattle.questions.specs.Questions.{asks14}
use Rattle.sheet_format.specs.Rows.{ItemRow, Doc, Valid, render, setup_of}
use Rattle.sheet_format.specs.Read.{read_sheet, asks_sheet}
use Rattle.sheet_format.specs.Names.{name_of}
use Rattle.records.specs.declared.Record.{Record}
use Rattle.records.specs.declared.Registered.{Registered}
use Rattle.records.specs.Records.{RegisterOutcome, with_slice, hands_back}
use Rattle.register.specs.Calls.{asks25}
use Rattle.register.specs.Afternoon.{RegisterCall, HandIn, Withdraw, MeetsCall}
use Rattle.handin_format.specs.declared.LineSaid.{LineSaid}
use Rattle.handin_format.specs.declared.LineSaid.TheVariants as said
use Rattle.handin_format.specs.declared.Unread.{Unread}
use Rattle.handin_format.specs.declared.Unread.TheVariants as unread
use Rattle.handin_format.specs.Sets.{set_from, set_names}
use Rattle.handin_format.specs.Lines.{line_no, line_call}

-- In the two answers below `number` is that of the refusal, or 0. `text` is 1 where the sheet is refused and 2 where the
-- handed-in text is, else 0; `place` is then the sheet's line, or the line's field, counted from 1, and 0 where the no is
-- about the whole text.

-- ---- a set by its names

-- A set that was read from its names. A refusal gives the set 0.
pub record NamedSet : Type 0 where
  pub number : ℕ
  pub text : ℕ
  pub place : ℕ
  pub set : ℕ

-- 5, 8, 6: does the text name a set? The number for no is that of the first no of its names.
abbrev pub asks_set : List ItemRow → List ℕ → Question
asks_set items l = record { number = (set_from items l).number; Yes = (set_from items l).number ≡ 0 }

-- A refusal with the number q says which text it is about, 1 for the sheet and 2 for the names, and at which place.
abbrev pub set_refused : ℕ → ℕ → ℕ → NamedSet
set_refused text place q = record { number = q; text = text; place = place; set = 0 }

-- The set x was named.
abbrev pub set_told : ℕ → NamedSet
set_told x = record { number = 0; text = 0; place = 0; set = x }

-- What the call hands back, as such an answer.
abbrev pub named_set : Result ℕ Unread → NamedSet
named_set (Ok x) = set_told x
named_set (Err (unread.Sheet e)) = set_refused 1 e.line (number e.refusal)
named_set (Err (unread.Text e)) = set_refused 2 e.place (number e.refusal)
named_set (Err unread.Short) = set_refused 0 0 15

-- The sheet is read, and has the rows d: the refusal of the names, else the set that they name among its items.
pub record ReadsSet (sheet l : List ℕ) (a : NamedSet) : Type 0 where
  pub d : Doc
  pub valid : Valid d
  pub is : sheet ≡ render d
  pub told : Asks (set_refused 2 0) (asks_set d.items l ∷ []) (λ b. b ≡ set_told (set_from d.items l).set) a

-- The sheet's own refusal, with its line; else `ReadsSet`.
abbrev pub ReadSetCall : List ℕ → List ℕ → NamedSet → Type 0
ReadSetCall sheet l = Asks (set_refused 1 (read_sheet sheet).line) (asks_sheet sheet ∷ []) (ReadsSet sheet l)

-- ---- the names of a set

-- The sheet's number; 14, where the set has another item; else the set's names go to the buffer, and their length is
-- the answer; 15.
abbrev pub write_set_call : List ℕ → ℕ → List ℕ → Contract
write_set_call sheet x out =
    record {
      lent = out ∷ [];
      questions = asks_sheet sheet ∷ asks14 (read_sheet sheet).setup x ∷ [];
      Answer = List ℕ;
      Right = λ text. text ≡ set_names (name_of sheet) x;
      values = λ text. length text ∷ [];
      writes = λ text. text ∷ [];
    }

-- The names of a set, written. Number 0: they stand in the lent buffer and have `size` bytes. Else the number of the
-- first question whose answer is no, and size 0.
pub record SetWritten : Type 0 where
  pub number : ℕ
  pub size : ℕ

-- What the call hands back, as such.
abbrev pub set_written : Result ℕ Refusal → SetWritten
set_written (Ok n) = record { number = 0; size = n }
set_written (Err q) = record { number = number q; size = 0 }

-- ---- a line by itself

-- A line that was read: a withdrawal, or a hand-in whose `count` sets stand in a lent list. `loss` is true for lockout
-- sets. A refusal gives false and 0 behind its place, and so does a withdrawal behind its student.
pub record LineAnswer : Type 0 where
  pub number : ℕ
  pub text : ℕ
  pub place : ℕ
  pub withdraws : Bool
  pub student : ℕ
  pub target : ℕ
  pub loss : Bool
  pub count : ℕ

-- 2, 4, 5, 8, 6, 7: is the line accepted beside these item rows? The number for no is that of its first no.
abbrev pub asks_line : List ItemRow → List ℕ → Question
asks_line items line = record { number = (line_no items line).number; Yes = (line_no items line).number ≡ 0 }

-- What is told of the call that a line says.
abbrev pub answer_of : RegisterCall → LineAnswer
answer_of (HandIn x) =
    record {
      number = 0;
      text = 0;
      place = 0;
      withdraws = false;
      student = x.student;
      target = x.target;
      loss = x.loss;
      count = length x.handed;
    }
answer_of (Withdraw k) =
    record { number = 0; text = 0; place = 0; withdraws = true; student = k; target = 0; loss = false; count = 0 }

-- No line is read: the number q, of the sheet, 1, or the line, 2, or neither, 0, and the place.
abbrev pub unread_line : ℕ → ℕ → ℕ → LineAnswer
unread_line q text place =
    record {
      number = q;
      text = text;
      place = place;
      withdraws = false;
      student = 0;
      target = 0;
      loss = false;
      count = 0;
    }

-- What the call hands back, as such an answer.
abbrev pub line_answer : Result LineSaid Unread → LineAnswer
line_answer (Ok (said.Withdrawal k)) =
    record { number = 0; text = 0; place = 0; withdraws = true; student = k; target = 0; loss = false; count = 0 }
line_answer (Ok (said.Attempt x)) =
    record {
      number = 0;
      text = 0;
      place = 0;
      withdraws = false;
      student = x.student;
      target = x.target;
      loss = x.loss;
      count = x.count;
    }
line_answer (Err (unread.Sheet e)) = unread_line (number e.refusal) 1 e.line
line_answer (Err (unread.Text e)) = unread_line (number e.refusal) 2 e.place
line_answer (Err unread.Short) = unread_line 15 0 0

-- The sets that it hands in: a withdrawal none.
abbrev pub handed_of : RegisterCall → List ℕ
handed_of (HandIn x) = x.handed
handed_of (Withdraw k) = []

-- 15: has the lent list a place for each set that the call hands in?
abbrev pub asks_places : RegisterCall → List ℕ → Question
asks_places c lent = record { number = 15; Yes = length (handed_of c) ≤ length lent }

-- What reading a line hands back: its struct, and the lent list as it then is.
pub record LineOutcome : Type 0 where
  pub answer : LineAnswer
  pub sets : List ℕ

-- An answer, and the list as it is after it.
abbrev pub with_sets : LineAnswer → List ℕ → LineOutcome
with_sets a sets = record { answer = a; sets = sets }

-- A refusal with the number q says which text it is about, 1 for the sheet and 2 for the line, or 0, and at which
-- place. The list is as it was.
abbrev pub line_refused : ℕ → ℕ → List ℕ → ℕ → LineOutcome
line_refused text place lent q =
    with_sets (unread_line q text place) lent

-- What the call says is told; its sets stand in the first places of the list, and the places behind them are unchanged.
abbrev pub tells_call : RegisterCall → List ℕ → LineOutcome
tells_call c lent = with_sets (answer_of c) (written (handed_of c) lent)

-- The line is accepted, and says the call c: 15, else what it says.
abbrev pub TellsCall : RegisterCall → List ℕ → LineOutcome → Type 0
TellsCall c lent = Asks (line_refused 0 0 lent) (asks_places c lent ∷ []) (λ o. o ≡ tells_call c lent)

-- The sheet is read, and has the rows d: the line's own refusal, with its field, else the call that it says.
pub record ReadsLine (sheet line lent : List ℕ) (o : LineOutcome) : Type 0 where
  pub d : Doc
  pub valid : Valid d
  pub is : sheet ≡ render d
  pub told :
      Asks (line_refused 2 (line_no d.items line).place lent) (asks_line d.items line ∷ [])
      (TellsCall (line_call d.items line) lent) o

-- The sheet's own refusal, with its line; else `ReadsLine`.
abbrev pub ReadLineCall : List ℕ → List ℕ → LineAnswer → List ℕ → List ℕ → Type 0
ReadLineCall sheet line a entry exit =
    Asks (line_refused 1 (read_sheet sheet).line entry) (asks_sheet sheet ∷ []) (ReadsLine sheet line entry)
    (with_sets a exit)

-- ---- a line taken to the register

-- The sheet is read, and has the rows d: the line's own refusal, else the register's call that it says, with the
-- refusals of that call.
pub record EntersLine (sheet line : List ℕ) (used : ℕ) (slice : List Record) (o : RegisterOutcome) : Type 0 where
  pub d : Doc
  pub valid : Valid d
  pub is : sheet ≡ render d
  pub told :
      Asks (hands_back used slice) (asks_line d.items line ∷ [])
      (λ p. MeetsCall (setup_of d) (line_call d.items line) used slice p.answer p.slice) o

-- 25, the sheet's own refusal; else `EntersLine`. Whose a number is, and where, is told by `ReadLineCall`.
abbrev pub EnterCall : List ℕ → List ℕ → ℕ → Registered → List Record → List Record → Type 0
EnterCall sheet line used a entry exit =
    Asks (hands_back used entry) (asks25 entry used ∷ asks_sheet sheet ∷ []) (EntersLine sheet line used entry)
    (with_slice a exit)
