-- What saving answers, for every text, every setup and every lent buffer.
use Rattle.std.specs.Prelude.{Result, Ok, Err, List, [], ◌∷◌, ℕ, ◌≤◌, length}
use Rattle.setup.specs.declared.Setup.{Setup}
use Rattle.questions.specs.declared.Refusal.{Refusal}
use Rattle.questions.specs.Refusals.{number}
use Rattle.questions.specs.Asks.{Question}
use Rattle.questions.specs.Contract.{Contract}
use Rattle.questions.specs.Questions.{asks12}
use Rattle.sheet_format.specs.Rows.{Doc, render}
use Rattle.sheet_format.specs.Read.{read_sheet, asks_sheet}
use Rattle.save_format.specs.Rows.{SavedRows}

-- 13: has the sheet a name for each item of the setup?
abbrev pub asks_names : List ℕ → Setup → Question
asks_names sheet s = record { number = 13; Yes = s.count ≤ (read_sheet sheet).setup.count }

-- The sheet's number, 12, 13; else the setup's rows, of which there is one list: their text goes to the buffer, and its length is the answer; 15.
abbrev pub save_call : List ℕ → Setup → List ℕ → Contract
save_call sheet s out =
    record {
      lent = out ∷ [];
      questions = asks_sheet sheet ∷ asks12 s ∷ asks_names sheet s ∷ [];
      Answer = Doc;
      Right = SavedRows sheet s;
      values = λ d. length (render d) ∷ [];
      writes = λ d. render d ∷ [];
    }

-- What saving gives. Number 0: the sheet of the setup is written, and `length` is the number of its bytes. Else the number of the first question whose
-- answer is no, and length 0.
pub record Saved : Type 0 where
  pub number : ℕ
  pub length : ℕ

-- What the call hands back, as such: the number of the bytes, or why nothing is saved.
abbrev pub saved : Result ℕ Refusal → Saved
saved (Ok n) = record { number = 0; length = n }
saved (Err q) = record { number = number q; length = 0 }
