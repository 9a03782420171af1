-- What C gets of a line that was read: plain numbers, 1 for yes and 0 for no.
use Rattle.std.specs.Prelude.{◌≡◌, cond, List, [], ◌∷◌, ℕ}
use Rattle.questions.specs.Asks.{Asks}
use Rattle.sheet_format.specs.Read.{read_sheet, asks_sheet}
use Rattle.handin_format.specs.Calls.{LineAnswer}
use Rattle.handin_format.specs.Calls.{LineOutcome, line_refused, ReadsLine}
use Rattle.portal_register.specs.declared.ReadLineResult.{ReadLineResult}

-- An answer in numbers.
abbrev pub in_numbers : LineAnswer → ReadLineResult
in_numbers a =
    record {
      number = a.number;
      text = a.text;
      place = a.place;
      withdraws = cond a.withdraws 1 0;
      student = a.student;
      target = a.target;
      lock = cond a.loss 1 0;
      count = a.count;
    }

-- What the call hands back: its struct, and the lent list as it then is.
pub record LineTold : Type 0 where
  pub answer : ReadLineResult
  pub sets : List ℕ

-- What reading a line hands back, in numbers.
abbrev pub told_in_numbers : LineOutcome → LineTold
told_in_numbers o = record { answer = in_numbers o.answer; sets = o.sets }

-- The line is read as `ReadsLine` says, and what that hands back is told in numbers.
pub record TellsLine (sheet line lent : List ℕ) (t : LineTold) : Type 0 where
  pub outcome : LineOutcome
  pub reads : ReadsLine sheet line lent outcome
  pub told : t ≡ told_in_numbers outcome

-- The sheet's own refusal, with its line; else `TellsLine`.
abbrev pub TellLineCall : List ℕ → List ℕ → ReadLineResult → List ℕ → List ℕ → Type 0
TellLineCall sheet line r entry exit =
    Asks (λ q. told_in_numbers (line_refused 1 (read_sheet sheet).line entry q)) (asks_sheet sheet ∷ []) (TellsLine sheet line entry)
    (record { answer = r; sets = exit })
