-- No other call heeds what is held (document 02, point 8). Question 12 is asked by all of them; the answers behind it do not depend on what is held.
use Rattle.std.specs.Prelude.{◌≡◌, Bool, List, ℕ}
use Rattle.setup.specs.declared.Setup.{Setup}
use Rattle.formed.specs.WellFormed.{WellFormed}
use Rattle.questions.specs.Contract.{Outcome, Fulfils}
use Rattle.records.specs.declared.Record.{Record}
use Rattle.records.specs.declared.Registered.{Registered}
use Rattle.register.specs.Calls.{HandInCall}
use Rattle.histories.specs.Requests.{Request, contract_of}

-- Two setups that pass question 12 and differ in nothing but what is held and what it opens.
pub record OnlyHolding (s t : Setup) : Type 0 where
  pub first : WellFormed s
  pub second : WellFormed t
  pub count : s.count ≡ t.count
  pub vertices : s.vertices ≡ t.vertices
  pub graph : s.graph ≡ t.graph
  pub recovery : s.recovery ≡ t.recovery

-- What a call may answer on the one, with all that is lent to it, it may answer on the other; a hand-in too.
pub record NoHeed : Type 0 where
  pub calls : (q : Request) (s t : Setup) → OnlyHolding s t → (o : Outcome) → Fulfils (contract_of q s) o → Fulfils (contract_of q t) o
  pub hand_in : (s t : Setup) → OnlyHolding s t → (used student target : ℕ) (loss : Bool) (handed : List ℕ) (a : Registered) (entry exit : List Record)
      → HandInCall s used student target loss handed a entry exit → HandInCall t used student target loss handed a entry exit
