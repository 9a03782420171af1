-- What the call for the next set answers, for every setup, target and last set shown.
use Rattle.std.specs.Prelude.{Option, Some, None, Result, List, [], ◌∷◌, ℕ}
use Rattle.vertex_set.specs.declared.VertexSet.{VertexSet}
use Rattle.setup.specs.declared.Setup.{Setup}
use Rattle.questions.specs.Asks.{Question}
use Rattle.questions.specs.declared.Refusal.{Refusal}
use Rattle.questions.specs.Contract.{Reply, Contract, telling}
use Rattle.questions.specs.Refusals.{replies}
use Rattle.questions.specs.Questions.{asks12, asks13}
use Rattle.next_sets.specs.Next.{OfInitial, NextSet, NoMore}

-- The papers' values for each case of an answer: 1 and the set, or 0 for "no more".
abbrev pub next_told : Option VertexSet → List ℕ
next_told (Some x) = 1 ∷ x.0 ∷ []
next_told None = 0 ∷ []

abbrev pub next_reply : Result (Option VertexSet) Refusal → Reply
next_reply = replies next_told

-- 21: has the last set only starting items? An item beyond the count is none, so that it gets 21 too.
abbrev pub asks21 : Setup → ℕ → Question
asks21 s last = record { number = 21; Yes = OfInitial s last }

-- The next set, or "no more".
pub data Next : Type 0 where
  Shown : ℕ → Next
  End : Next

-- It is the first set after the last one, or there is none.
abbrev pub IsNext : Setup → ℕ → ℕ → Next → Type 0
IsNext s target last (Shown x) = NextSet s target last x
IsNext s target last End = NoMore s target last

-- 1 and the set, 0 for "no more".
abbrev pub next_values : Next → List ℕ
next_values (Shown x) = 1 ∷ x ∷ []
next_values End = 0 ∷ []

-- 12, 13, 21; else the next set, or "no more".
abbrev pub next_call : Setup → ℕ → ℕ → Contract
next_call s target last = telling (asks12 s ∷ asks13 s target ∷ asks21 s last ∷ []) (IsNext s target last) next_values
