-- Each contract leaves one answer, and so each call has one outcome.
-- Assumes nothing.
use mathlib.Core.Path.{◌≡◌, refl}
use mathlib.Core.Bool.{true}
use mathlib.Core.List.{[], ◌∷◌}
use Rattle.setup.specs.declared.Setup.{Setup}
use Rattle.questions.specs.Contract.{OneAnswer}
use Rattle.questions.specs.Questions.{asks12}
use Rattle.questions.proofs.Asks.{positive, Numbered, all-numbered}
use Rattle.access.proofs.Unique.{one-closure, one-lost, one_way}
use Rattle.quick_yes.proofs.Unique.{one-quick}
use Rattle.answers.proofs.Unique.{one-bases, one-score, one-marks}
use Rattle.forecasts.proofs.Unique.{one-forecast}
use Rattle.next_sets.proofs.Unique.{one-next}
use Rattle.findings.proofs.Unique.{one-backdoor, one-ineffective, one-inconsistent}
use Rattle.cut_sets.proofs.Calls.{one-cuts}
use Rattle.attackers.proofs.Unique.{one-attackers}
use Rattle.multiset_scores.proofs.Unique.{one-bags}
use Rattle.save_format.specs.Call.{asks_names}
use Rattle.save_format.proofs.Unique.{saved-unique}
use Rattle.histories.specs.Requests.{Request, Closure, Lost, WayTo, QuickYes, BothBases, ScoreOf, MarksOf, Backdoor, Idle, OutOfRank, ForecastOf, Cuts, Attackers, NextSet, Bags, Save, contract_of}

pub one_answer : (q : Request) (s : Setup) → OneAnswer (contract_of q s)
one_answer (Closure set) s = one-closure s set
one_answer (Lost set) s = one-lost s set
one_answer (WayTo target set vertices colours) s = one_way s target set vertices colours
one_answer (QuickYes target set) s = one-quick s target set
one_answer (BothBases target list) s = one-bases s target list
one_answer (ScoreOf loss target) s = one-score loss s target
one_answer (MarksOf loss target handed) s = one-marks loss s target handed
one_answer (Backdoor item) s = one-backdoor s item
one_answer (Idle item) s = one-ineffective s item
one_answer (OutOfRank above below) s = one-inconsistent s above below
one_answer (ForecastOf target) s = one-forecast s target
one_answer (Cuts target list) s = one-cuts s target list
one_answer (Attackers target kinds) s = one-attackers s target kinds
one_answer (NextSet target last) s = one-next s target last
one_answer (Bags target places lengths) s = one-bags s target places lengths
one_answer (Save sheet out) s = saved-unique sheet s

by-numbers : (q : Request) (s : Setup) → positive (contract_of q s).questions ≡ true → Numbered (contract_of q s).questions
by-numbers q s p = all-numbered (contract_of q s).questions p

-- no refusal has the number 0; a sheet's own number is 0 where it is accepted
pub numbered : (q : Request) (s : Setup) → Numbered (contract_of q s).questions
numbered (Closure set) s = by-numbers (Closure set) s refl
numbered (Lost set) s = by-numbers (Lost set) s refl
numbered (WayTo target set vertices colours) s = by-numbers (WayTo target set vertices colours) s refl
numbered (QuickYes target set) s = by-numbers (QuickYes target set) s refl
numbered (BothBases target list) s = by-numbers (BothBases target list) s refl
numbered (ScoreOf loss target) s = by-numbers (ScoreOf loss target) s refl
numbered (MarksOf loss target handed) s = by-numbers (MarksOf loss target handed) s refl
numbered (Backdoor item) s = by-numbers (Backdoor item) s refl
numbered (Idle item) s = by-numbers (Idle item) s refl
numbered (OutOfRank above below) s = by-numbers (OutOfRank above below) s refl
numbered (ForecastOf target) s = by-numbers (ForecastOf target) s refl
numbered (Cuts target list) s = by-numbers (Cuts target list) s refl
numbered (Attackers target kinds) s = by-numbers (Attackers target kinds) s refl
numbered (NextSet target last) s = by-numbers (NextSet target last) s refl
numbered (Bags target places lengths) s = by-numbers (Bags target places lengths) s refl
numbered (Save sheet out) s = (λ z. z, all-numbered (asks12 s ∷ asks_names sheet s ∷ []) refl)
