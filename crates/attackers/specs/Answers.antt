-- What the call for a score by kinds of attacker answers, for every setup, target and list of kinds.
use Rattle.std.specs.Prelude.{Result, ◌≡◌, false, List, [], ◌∷◌, ℕ, length, get_or}
use Rattle.setup.specs.declared.Setup.{Setup}
use Rattle.setup.specs.Setup.{Chosen}
use Rattle.questions.specs.Asks.{Question}
use Rattle.questions.specs.declared.Refusal.{Refusal}
use Rattle.questions.specs.Contract.{Reply, Outcome, Contract, telling, Fulfils}
use Rattle.questions.specs.Refusals.{replies}
use Rattle.questions.specs.Questions.{asks12, asks13}
use Rattle.attackers.specs.Attackers.{AttackerScore, EntriesFit}

-- The papers' number and values for each case of an answer: the score alone.
abbrev pub attacker_reply : Result ℕ Refusal → Reply
attacker_reply = replies (λ r. r ∷ [])

-- 16: is the list's length the item count?
abbrev pub asks16 : Setup → List ℕ → Question
asks16 s kinds = record { number = 16; Yes = length kinds ≡ s.count }

-- 17: is each starting item's entry at most 5?
abbrev pub asks17 : Setup → List ℕ → Question
asks17 s kinds = record { number = 17; Yes = EntriesFit s kinds }

-- 12, 13, 16, 17; else the score.
abbrev pub attacker_call : Setup → ℕ → List ℕ → Contract
attacker_call s target kinds = telling (asks12 s ∷ asks13 s target ∷ asks16 s kinds ∷ asks17 s kinds ∷ []) (AttackerScore s kinds target) (λ r. r ∷ [])

-- Two lists of kinds have one length, and the same entries at the initial vertices.
pub record AgreeAtInitial (s : Setup) (kinds kinds' : List ℕ) : Type 0 where
  pub long : length kinds ≡ length kinds'
  pub each : (v : ℕ) → Chosen false s v → get_or kinds v 0 ≡ get_or kinds' v 0

-- The entries of other vertices are not read: two lists that agree at the initial ones get the same answer.
abbrev pub OthersUnread : Type 0
OthersUnread = (s : Setup) (target : ℕ) (kinds kinds' : List ℕ) (o p : Outcome) → AgreeAtInitial s kinds kinds'
    → Fulfils (attacker_call s target kinds) o → Fulfils (attacker_call s target kinds') p → o ≡ p
