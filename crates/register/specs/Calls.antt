-- What the register's calls answer and leave in the lent slice, for every setup, slice and count (document 02, point 12).
use Rattle.std.specs.Prelude.{◌≡◌, Bool, true, List, [], ◌∷◌, ◌⊎◌, ℕ, ◌≤◌, ◌<◌, length, take}
use Rattle.setup.specs.declared.Setup.{Setup}
use Rattle.questions.specs.Asks.{Question, Asks}
use Rattle.questions.specs.Questions.{asks12, asks13}
use Rattle.records.specs.declared.Record.{Record}
use Rattle.records.specs.declared.Registered.{Registered}
use Rattle.records.specs.Records.{RecordOf, has_three, has_student, with_record, without, RegisterOutcome, with_slice, hands_back, keeps_used}

-- 25: is the used count at most the slice's length?
abbrev pub asks25 : List Record → ℕ → Question
asks25 slice used = record { number = 25; Yes = used ≤ length slice }

-- 26: is no new record needed for n, or is one not used?
abbrev pub asks26 : List Record → ℕ → Record → Question
asks26 slice used n = record { number = 26; Yes = (has_three n (take used slice) ≡ true) ⊎ (used < length slice) }

-- 27: has the student to withdraw a record?
abbrev pub asks27 : List Record → ℕ → ℕ → Question
asks27 slice used student = record { number = 27; Yes = has_student student (take used slice) ≡ true }

-- There is the attempt's record n. Where there is a place for it n goes to the register; else 26.
pub record Enters (s : Setup) (used student target : ℕ) (loss : Bool) (handed : List ℕ) (slice : List Record) (o : RegisterOutcome) : Type 0 where
  pub row : Record
  pub is_record : RecordOf s student target loss handed row
  pub told : Asks (hands_back used slice) (asks26 slice used row ∷ []) (λ p. p ≡ keeps_used (with_record row (take used slice)) slice) o

-- A hand-in: 25, then the marking's own questions 12 and 13, then 26.
abbrev pub HandInCall : Setup → ℕ → ℕ → ℕ → Bool → List ℕ → Registered → List Record → List Record → Type 0
HandInCall s used student target loss handed a entry exit =
    Asks (hands_back used entry) (asks25 entry used ∷ asks12 s ∷ asks13 s target ∷ []) (Enters s used student target loss handed entry)
    (with_slice a exit)

-- A withdrawal: 25, then 27.
abbrev pub WithdrawCall : ℕ → ℕ → Registered → List Record → List Record → Type 0
WithdrawCall used student a entry exit =
    Asks (hands_back used entry) (asks25 entry used ∷ asks27 entry used student ∷ []) (λ p. p ≡ keeps_used (without student (take used entry)) entry)
    (with_slice a exit)
