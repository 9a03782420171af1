-- Why a call gives no answer, and what a `Result` replies.
use Rattle.std.specs.Prelude.{Result, Ok, Err, List, ℕ}
use Rattle.questions.specs.declared.Refusal.{Refusal}
use Rattle.questions.specs.declared.Refusal.TheVariants as no
use Rattle.questions.specs.Contract.{Reply, gives, refuses}

-- The papers' number for no.
abbrev pub number : Refusal → ℕ
number no.TooLong = 1
number no.NoText = 2
number no.Header = 3
number no.Fields = 4
number no.Form = 5
number no.NameUsed = 6
number no.Bound = 7
number no.NameUnknown = 8
number no.EdgeTwice = 9
number no.NoRows = 10
number no.NoEdgePart = 11
number no.NoSetup = 12
number no.NoItem = 13
number no.Outside = 14
number no.Short = 15
number no.KindsLength = 16
number no.NoKind = 17
number no.NoColour = 18
number no.EdgeThere = 19
number no.NoEdge = 20
number no.Stranger = 21
number no.Disagree = 22
number no.PoolBound = 23
number no.PoolShort = 24
number no.Overfull = 25
number no.AllUsed = 26
number no.NoRecord = 27

-- What a call replies: the values of its answer, or the number of its refusal.
abbrev pub replies : {A : Type 0} → (A → List ℕ) → Result A Refusal → Reply
replies values (Ok answer) = gives (values answer)
replies values (Err refusal) = refuses (number refusal)
