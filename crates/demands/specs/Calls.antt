-- Demands 1 and 2 of calls that were made, each with what it handed back.
use Rattle.std.specs.Prelude.{◌≡◌, Bool, true, false, List, [], ◌∷◌, map, ◌⊎◌, ℕ, take, drop}
use Rattle.vertex_set.specs.Set.{Decides}
use Rattle.vertex_set.specs.Order.{Listed}
use Rattle.setup.specs.declared.Setup.{Setup}
use Rattle.questions.specs.Asks.{Settled}
use Rattle.questions.specs.Contract.{Reply, Outcome, ends, Fulfils, Settles}
use Rattle.access.specs.Answers.{closure_reply, lost_reply, way_reply}
use Rattle.quick_yes.specs.Answers.{quick_reply}
use Rattle.answers.specs.declared.AllAnswers.{AllAnswers}
use Rattle.answers.specs.Answers.{bases_reply, score_reply, risk_reply, marks_reply}
use Rattle.forecasts.specs.Answers.{forecast_reply}
use Rattle.next_sets.specs.Answers.{next_reply}
use Rattle.findings.specs.Answers.{finding_reply}
use Rattle.cut_sets.specs.Answers.{cuts_reply}
use Rattle.attackers.specs.Answers.{attacker_reply}
use Rattle.multiset_scores.specs.Answers.{bags_reply}
use Rattle.living.specs.Calls.{Redrawing}
use Rattle.living.specs.Calls.{Call, asks_of, back, CallOf}
use Rattle.records.specs.declared.Record.{Record}
use Rattle.records.specs.declared.Registered.{Registered}
use Rattle.records.specs.Records.{with_slice, hands_back}
use Rattle.register.specs.Calls.{HandInCall, WithdrawCall}
use Rattle.pool_format.specs.Call.{Pooled}
use Rattle.pool_format.specs.Call.{with_buffer, PoolCall}
use Rattle.pool_format.specs.Meaning.{IsPooled}
use Rattle.histories.specs.Requests.{Request, Closure, Lost, WayTo, QuickYes, BothBases, ScoreOf, MarksOf, Backdoor, Idle, OutOfRank, ForecastOf, Cuts, Attackers, NextSet, Bags, contract_of}
use Rattle.demands.specs.declared.Answers.{Answers}
use Rattle.demands.specs.Sheets.{sheet_numbers}

-- P holds of each of them.
unfoldable pub Every : {A : Type 0} → (A → Type 0) → List A → Type 0
Every P [] = Unit {0}
Every P (x ∷ xs) = P x × Every P xs

-- ---- the calls on a setup

-- A call that was made, and what it handed back: its reply, and the lent lists as they then are.
pub record MadeCall : Type 0 where
  pub request : Request
  pub outcome : Outcome

abbrev pub made : Request → Reply → List (List ℕ) → MadeCall
made q reply lent = record { request = q; outcome = ends reply lent }

-- The calls of demand 3. Lent lists stand as they were and, with ', as they are afterwards.
abbrev pub three_made : ℕ → (list list' opened locked : List ℕ) → AllAnswers → List MadeCall
three_made target list list' opened locked r =
    made (BothBases target list) (bases_reply r.bases) (list' ∷ []) ∷ made (ScoreOf false target) (score_reply r.score) [] ∷ made (ScoreOf true target) (risk_reply r.risk) []
    ∷ made (MarksOf false target opened) (marks_reply r.openings) [] ∷ made (MarksOf true target locked) (marks_reply r.lockouts) [] ∷ []

-- The calls that `demand_two` makes.
abbrev pub all_made : ℕ → ℕ → ℕ → (opened locked kinds vertices vertices' colours colours' list list' harden harden' places places' lengths lengths' : List ℕ) → Answers → List MadeCall
all_made set target other opened locked kinds vertices vertices' colours colours' list list' harden harden' places places' lengths lengths' r =
    made (Closure set) (closure_reply r.sets.closure) [] ∷ made (Lost set) (lost_reply r.sets.lost) []
    ∷ made (WayTo target set vertices colours) (way_reply r.sets.way) (vertices' ∷ colours' ∷ []) ∷ made (QuickYes target set) (quick_reply r.sets.quick) []
    ∷ made (Backdoor target) (finding_reply r.findings.backdoor) [] ∷ made (Idle target) (finding_reply r.findings.idle) []
    ∷ made (OutOfRank target other) (finding_reply r.findings.pair) [] ∷ made (ForecastOf target) (forecast_reply r.forecast) []
    ∷ made (Cuts target harden) (cuts_reply r.cuts) (harden' ∷ []) ∷ made (Attackers target kinds) (attacker_reply r.attackers) []
    ∷ made (NextSet target set) (next_reply r.next) [] ∷ made (Bags target places lengths) (bags_reply r.bags.score) (places' ∷ lengths' ∷ [])
    ∷ three_made target list list' opened locked r.lists

-- Demand 1 of a call: its answer, or exactly one refusal, with every lent place as it was; and nothing else fulfils its contract.
abbrev pub SettledOn : Setup → MadeCall → Type 0
SettledOn s m = Settles (contract_of m.request s) m.outcome

-- Demand 2 of a call: what it hands back is as its contract says.
abbrev pub FulfilledOn : Setup → MadeCall → Type 0
FulfilledOn s m = Fulfils (contract_of m.request s) m.outcome

-- Demand 1 of a yes or no: there is one, and no refusal.
pub record SettledYesNo (P : Type 0) (answer : Bool) : Type 0 where
  pub meets : Decides P answer
  pub only : (b : Bool) → Decides P b → b ≡ answer

-- ---- a setup that lives: a refusal hands it back

-- Demand 1 of such a call, by the numbers of its questions.
abbrev pub SettledLiving : Call → Setup → Redrawing → Type 0
SettledLiving c s = Settled (λ r. r.number) (back s) (map (λ q. q.number) (asks_of c s)) (CallOf c s)

-- ---- the class register: a refusal changes no record and no count

-- Demand 1 of a hand-in: 25, 12, 13, 26.
abbrev pub SettledHandIn : Setup → (used student target : ℕ) → Bool → List ℕ → Registered → (entry exit : List Record) → Type 0
SettledHandIn s used student target loss handed a entry exit =
    Settled (λ o. o.answer.number) (hands_back used entry) (25 ∷ 12 ∷ 13 ∷ 26 ∷ [])
    (λ o. HandInCall s used student target loss handed o.answer entry o.slice) (with_slice a exit)

-- Demand 1 of a withdrawal: 25, 27.
abbrev pub SettledWithdrawal : (used student : ℕ) → Registered → (entry exit : List Record) → Type 0
SettledWithdrawal used student a entry exit =
    Settled (λ o. o.answer.number) (hands_back used entry) (25 ∷ 27 ∷ []) (λ o. WithdrawCall used student o.answer entry o.slice) (with_slice a exit)

-- ---- pooling

-- The pooled sheet stands in the buffer's first bytes, as many as are told, and the bytes behind it are as they were.
pub record PoolAnswered (first second : List ℕ) (r : Pooled) (entry exit : List ℕ) : Type 0 where
  pub told : r ≡ record { number = 0; sheet = 0; line = 0; size = r.size }
  pub text : IsPooled first second (take r.size exit)
  pub behind : drop r.size exit ≡ drop r.size entry

-- A refusal: of a sheet, 1 to 11; or of both together, 22 to 24, with line 0 and neither sheet named. The length is 0, and the buffer as it was.
pub record PoolRefusal (r : Pooled) (entry exit : List ℕ) : Type 0 where
  pub asked : (Listed sheet_numbers r.number × Listed (1 ∷ 2 ∷ []) r.sheet) ⊎ (Listed (22 ∷ 23 ∷ 24 ∷ []) r.number × (r.sheet ≡ 0) × (r.line ≡ 0))
  pub size : r.size ≡ 0
  pub buffer : exit ≡ entry

-- Demand 1: an answer or a refusal, and no second answer or buffer meets the contract.
pub record SettledPool (first second : List ℕ) (r : Pooled) (entry exit : List ℕ) : Type 0 where
  pub outcome : PoolAnswered first second r entry exit ⊎ PoolRefusal r entry exit
  pub only : (r' : Pooled) (exit' : List ℕ) → PoolCall first second r' entry exit' → with_buffer r' exit' ≡ with_buffer r exit
