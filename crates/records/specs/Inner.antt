-- What a task makes of the lent slice: the outcome of the whole call in one value, and the tasks themselves. Nothing of this has to be believed: no contract
-- of an offered call cites it.
use Rattle.std.specs.Prelude.{◌≡◌, Bool, cond, List, [], ◌∷◌, ℕ, length, take, eqb, ltb, Result, Ok, Err}
use Rattle.setup.specs.declared.Setup.{Setup}
use Rattle.questions.specs.Asks.{Asks}
use Rattle.questions.specs.Questions.{asks12, asks13}
use Rattle.questions.specs.declared.Refusal.{Refusal}
use Rattle.questions.specs.Refusals.{number}
use Rattle.records.specs.declared.Record.{Record}
use Rattle.records.specs.declared.Task.{Task}
use Rattle.records.specs.declared.Task.TheVariants as task
use Rattle.records.specs.declared.Registered.{Registered}
use Rattle.records.specs.Records.{RecordOf, with_record, without, RegisterOutcome, with_slice, hands_back, keeps_used}

abbrev pub hand_in : List Record → ℕ → Record → RegisterOutcome
hand_in ys used n = cond (ltb (length ys) (length (with_record n (take used ys)))) (hands_back used ys 26) (keeps_used (with_record n (take used ys)) ys)

abbrev pub withdraw : List Record → ℕ → ℕ → RegisterOutcome
withdraw ys used k = cond (eqb (length (without k (take used ys))) used) (hands_back used ys 27) (keeps_used (without k (take used ys)) ys)

-- what is done with a slice that has the used records
abbrev pub done_with : List Record → ℕ → Task → RegisterOutcome
done_with ys used (task.Refuse q) = hands_back used ys q
done_with ys used (task.Withdraw k) = withdraw ys used k
done_with ys used (task.HandIn n) = hand_in ys used n

unfoldable pub outcome_of : List Record → ℕ → Task → RegisterOutcome
outcome_of ys used t = cond (ltb (length ys) used) (hands_back used ys 25) (done_with ys used t)

-- how a call tells how many records are used now, or why it was refused
abbrev pub registered : ℕ → Result ℕ Refusal → Registered
registered used (Ok n) = record { number = 0; used = n }
registered used (Err q) = record { number = number q; used = used }

-- what a call answers and leaves in the slice
abbrev pub Leaves : Registered → List Record → RegisterOutcome → Type 0
Leaves a l o = with_slice a l ≡ o

-- the number by which a task is refused, or 0
abbrev pub refused_by : Task → ℕ
refused_by (task.Refuse q) = q
refused_by (task.Withdraw k) = 0
refused_by (task.HandIn n) = 0

-- The task of a hand-in: to lay the attempt's record down, or refused by the marking's own questions.
pub record Laid (s : Setup) (student target : ℕ) (loss : Bool) (handed : List ℕ) (t : Task) : Type 0 where
  pub row : Record
  pub is : t ≡ task.HandIn row
  pub is_record : RecordOf s student target loss handed row

pub record Attempts (s : Setup) (student target : ℕ) (loss : Bool) (handed : List ℕ) (t : Task) : Type 0 where
  pub asked : Asks (λ q. q) (asks12 s ∷ asks13 s target ∷ []) (λ r. (r ≡ 0) × Laid s student target loss handed t) (refused_by t)
