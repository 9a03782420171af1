-- What the calls answer, for every setup and all vertices.
use Rattle.std.specs.Prelude.{Result, Bool, true, false, [], ◌∷◌, ℕ}
use Rattle.setup.specs.declared.Setup.{Setup}
use Rattle.questions.specs.declared.Refusal.{Refusal}
use Rattle.questions.specs.Contract.{Reply, Contract, telling}
use Rattle.questions.specs.Refusals.{replies}
use Rattle.questions.specs.Questions.{asks12, asks13}
use Rattle.findings.specs.Findings.{FindsBackdoor, FindsIneffective, FindsInconsistent}

-- 1 for yes, 0 for no.
abbrev pub yes_no : Bool → ℕ
yes_no true = 1
yes_no false = 0

-- Document 01's number and values for each case of an answer: one for yes or no.
abbrev pub finding_reply : Result Bool Refusal → Reply
finding_reply = replies (λ b. yes_no b ∷ [])

-- 12, 13; else: has v a backdoor?
abbrev pub backdoor_call : Setup → ℕ → Contract
backdoor_call s v = telling (asks12 s ∷ asks13 s v ∷ []) (FindsBackdoor s v) (λ b. yes_no b ∷ [])

-- 12, 13; else: is v's recovery ineffective (document 01: idle)?
abbrev pub ineffective_call : Setup → ℕ → Contract
ineffective_call s v = telling (asks12 s ∷ asks13 s v ∷ []) (FindsIneffective s v) (λ b. yes_no b ∷ [])

-- 12, 13 of each of the two; else: are v and w, in this order, inconsistent (document 01: out of rank)?
abbrev pub inconsistent_call : Setup → ℕ → ℕ → Contract
inconsistent_call s v w = telling (asks12 s ∷ asks13 s v ∷ asks13 s w ∷ []) (FindsInconsistent s v w) (λ b. yes_no b ∷ [])
