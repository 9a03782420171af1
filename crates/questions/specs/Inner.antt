-- What the inner functions answer. Nothing of this has to be believed: no contract of an offered call cites it.
use Rattle.std.specs.Prelude.{◌≡◌, Bool, true, Result, Ok, Err, List, [], ◌∷◌, ◌++◌, ℕ, ◌<◌, replicate}
use Rattle.vertex_set.specs.Set.{Member}
use Rattle.questions.specs.Asks.{Question, Asks}
use Rattle.questions.specs.declared.Refusal.{Refusal}
use Rattle.questions.specs.Refusals.{number}
use Rattle.questions.specs.Contract.{Reply}

-- r is the number of the first question that is answered no, and 0 where there is none.
abbrev pub FirstNumber : List Question → ℕ → Type 0
FirstNumber questions = Asks (λ q. q) questions (λ r. r ≡ 0)

-- The number of the refusal, and 0 where there is none.
abbrev pub asked : {A : Type 0} → Result A Refusal → ℕ
asked (Ok answer) = 0
asked (Err refusal) = number refusal

-- r refuses with the first question that is answered no, and is `Ok` where there is none.
abbrev pub FirstRefusal : {A : Type 0} → List Question → Result A Refusal → Type 0
FirstRefusal questions r = FirstNumber questions (asked r)

-- Question 12, where b is the answer to it.
abbrev pub answered12 : Bool → Question
answered12 b = record { number = 12; Yes = b ≡ true }

-- Question 13, where the item count is known.
abbrev pub below13 : ℕ → ℕ → Question
below13 count v = record { number = 13; Yes = v < count }

-- Question 14, where the item count is known.
abbrev pub inside14 : ℕ → ℕ → Question
inside14 count set = record { number = 14; Yes = (v : ℕ) → Member set v → v < count }

-- A struct has this reply's number, its values in the fields behind it, and 0 in every field that no value is for.
pub record InStruct (reply : Reply) (number : ℕ) (fields : List ℕ) : Type 0 where
  pub returned : number ≡ reply.number
  pub unused : ℕ
  pub told : fields ≡ reply.values ++ replicate unused 0
