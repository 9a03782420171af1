-- What fulfils a call's contract is an outcome, and the only one.
-- Assumes nothing.
use mathlib.Core.Path.{◌≡◌, refl, sym, ap, subst, ◌∙◌}
use mathlib.Core.Bool.{Bool, true}
use mathlib.Core.List.{List, [], ◌∷◌, map}
use mathlib.Core.Logic.{◌⊎◌, inl, inr, ⊎_elim}
use Prim.Native.Nat.{ℕ}
use lib.ListN.{length, take, drop}
use lib.Seq.{take-append_seam, drop-append_seam}
use Rattle.vertex_set.specs.Set.{Decides}
use Rattle.vertex_set.specs.Order.{Listed}
use Rattle.vertex_set.proofs.Decisions.{decide_iff}
use Rattle.setup.specs.declared.Setup.{Setup}
use Rattle.formed.specs.WellFormed.{WellFormed}
use Rattle.questions.specs.Asks.{TurnedAway}
use Rattle.questions.proofs.Asks.{all-numbered, turned, settled-asks}
use Rattle.questions.proofs.Contract.{settled}
use Rattle.findings.proofs.Unique.{decided-once}
use Rattle.living.specs.Calls.{Redrawing}
use Rattle.living.specs.Calls.{Call, TakeIn, TakeOut, AddEdge, RemoveEdge, drawing_of, after, asks_of, back, Done, CallOf}
use Rattle.living.proofs.Unique.{redrawn-unique}
use Rattle.living.proofs.Kept.{living-numbered}
use Rattle.records.specs.declared.Record.{Record}
use Rattle.records.specs.declared.Registered.{Registered}
use Rattle.records.specs.Records.{RegisterOutcome, with_slice, hands_back}
use Rattle.register.specs.Calls.{HandInCall, WithdrawCall}
use Rattle.register.proofs.Outcomes.{Turned, answer-number, hand_in_numbers, withdraw_numbers, hand-in-outcome, withdraw-outcome, hand-in-no, withdraw-no}
use Rattle.register.proofs.Unique.{one-hand-in, one-withdrawal}
use Rattle.sheet_format.specs.Read.{Reading}
use Rattle.sheet_format.specs.Read.{read_sheet}
use Rattle.sheet_format.proofs.Meaning.{accepted-or-refused}
use Rattle.pool_format.specs.Call.{Pooled}
use Rattle.pool_format.specs.Call.{PoolOutcome, with_buffer, pool_refusal, pools_text, PoolCall}
use Rattle.pool_format.specs.Meaning.{IsPooled}
use Rattle.pool_format.proofs.Meaning.{PoolComes, of-first, of-second, of-both, of-short, of-text, pool-comes, pool-determined}
use Rattle.histories.specs.Histories.{Reached}
use Rattle.histories.specs.Requests.{contract_of}
use Rattle.histories.proofs.Reaching.{question-12}
use Rattle.histories.proofs.Once.{one_answer, numbered}
use Rattle.demands.specs.Sheets.{sheet_numbers}
use Rattle.demands.specs.Calls.{Every, MadeCall, SettledOn, FulfilledOn, SettledYesNo, SettledLiving, SettledHandIn, SettledWithdrawal, PoolAnswered, PoolRefusal, SettledPool}
use Rattle.demands.proofs.Sheets.{sheet-number}

-- ---- the calls on a setup

pub every_of : {A : Type 0} (P Q : A → Type 0) (xs : List A) → ((x : A) → P x → Q x) → Every P xs → Every Q xs
unfolding Every
every_of P Q [] f h = tt
every_of P Q (x ∷ xs) f h = (f x h.0, every_of P Q xs f h.1)

pub settled_on : (s : Setup) (m : MadeCall) → FulfilledOn s m → SettledOn s m
settled_on s m f = settled (contract_of m.request s) (numbered m.request s) (one_answer m.request s) m.outcome f

pub settled-yes-no : (P : Type 0) (answer : Bool) → Decides P answer → SettledYesNo P answer
settled-yes-no P answer d = record { meets = d; only = λ b e. decided-once b answer e d }

pub reached : (s : Setup) (b : Bool) → Decides (WellFormed s) b → Decides (Reached s) b
reached s b d = decide_iff (question-12 s) d

-- ---- a setup that lives

pub settled-living : (c : Call) (s : Setup) (r : Redrawing) → CallOf c s r → SettledLiving c s r
settled-living c s r =
    settled-asks (λ x. x.number) (back s) (λ q. refl) (asks_of c s) (Done c s) (map (λ q. q.number) (asks_of c s)) (all-numbered (asks_of c s) (living-numbered c s)) (λ q l. l) r
    (λ d. inl d.numbered)
    (λ p d e i. record { number = (d.numbered ∙ sym e.numbered) i; setup = redrawn-unique s (after c (drawing_of s)) p.setup r.setup d.redrawn e.redrawn i })

-- ---- the class register

module _ (numbers : List ℕ) (used : ℕ) (entry : List Record) (o : RegisterOutcome) (t : Turned numbers used entry o) (no : (n : ℕ) → Listed numbers n → n ≡ 0 → ⊥) where
  turned-back : TurnedAway (λ x. x.answer.number) (hands_back used entry) numbers o
  turned-back = turned (λ x. x.answer.number) (hands_back used entry) (λ q. refl) numbers o t.number t.listed (no t.number t.listed) t.refused

pub settled-hand-in : (s : Setup) (used student target : ℕ) (loss : Bool) (handed : List ℕ) (a : Registered) (entry exit : List Record)
    → HandInCall s used student target loss handed a entry exit → SettledHandIn s used student target loss handed a entry exit
settled-hand-in s used student target loss handed a entry exit c =
    record {
      outcome = ⊎_elim (λ t. inl (answer-number t.left)) (λ t. inr (turned-back hand_in_numbers used entry (with_slice a exit) t hand-in-no))
          (hand-in-outcome s used student target loss handed a entry exit c);
      only = λ p b. one-hand-in s used student target loss handed entry p.answer a p.slice exit b c;
    }

pub settled-withdrawal : (used student : ℕ) (a : Registered) (entry exit : List Record) → WithdrawCall used student a entry exit
    → SettledWithdrawal used student a entry exit
settled-withdrawal used student a entry exit c =
    record {
      outcome = ⊎_elim (λ e. inl (answer-number e)) (λ t. inr (turned-back withdraw_numbers used entry (with_slice a exit) t withdraw-no))
          (withdraw-outcome used student a entry exit c);
      only = λ p b. one-withdrawal used student entry p.answer a p.slice exit b c;
    }

-- ---- pooling

-- a sheet's own refusal has one of the sheet's numbers
pub sheet-asked : (s : List ℕ) → ((read_sheet s).number ≡ 0 → ⊥) → Listed sheet_numbers (read_sheet s).number
sheet-asked s n =
    ⊎_elim
    (λ a. absurd (n (ap (λ (x : Reading). x.number) a.reading)))
    (λ r. subst (Listed sheet_numbers) (sym (ap (λ (x : Reading). x.number) r.reading)) (sheet-number r.number r.least r.most))
    (accepted-or-refused.either s)

module _ (first second : List ℕ) (r : Pooled) (entry exit : List ℕ) where
  abbrev o : PoolOutcome
  o = with_buffer r exit

  of-sheet : (k l q : ℕ) → Listed (1 ∷ 2 ∷ []) k → Listed sheet_numbers q → o ≡ pool_refusal k l entry q → PoolRefusal r entry exit
  of-sheet k l q i n e =
      record {
        asked = inl (subst (Listed sheet_numbers) (sym (ap (λ (x : PoolOutcome). x.answer.number) e)) n, subst (Listed (1 ∷ 2 ∷ [])) (sym (ap (λ (x : PoolOutcome). x.answer.sheet) e)) i);
        size = ap (λ (x : PoolOutcome). x.answer.size) e;
        buffer = ap (λ (x : PoolOutcome). x.buffer) e;
      }

  of_two : (q : ℕ) → Listed (22 ∷ 23 ∷ 24 ∷ []) q → o ≡ pool_refusal 0 0 entry q → PoolRefusal r entry exit
  of_two q n e =
      record {
        asked = inr (
          subst (Listed (22 ∷ 23 ∷ 24 ∷ [])) (sym (ap (λ (x : PoolOutcome). x.answer.number) e)) n,
          ap (λ (x : PoolOutcome). x.answer.sheet) e,
          ap (λ (x : PoolOutcome). x.answer.line) e,
        );
        size = ap (λ (x : PoolOutcome). x.answer.size) e;
        buffer = ap (λ (x : PoolOutcome). x.buffer) e;
      }

  written : (t : List ℕ) → IsPooled first second t → o ≡ pools_text t entry → PoolAnswered first second r entry exit
  written t h e =
      record {
        told = ap (λ (x : PoolOutcome). x.answer) e ∙ ap (λ (n : ℕ). record { number = 0; sheet = 0; line = 0; size = n }) (sym (ap (λ (x : PoolOutcome). x.answer.size) e));
        text = subst (IsPooled first second) (sym (ap (λ (x : PoolOutcome). take x.answer.size x.buffer) e ∙ take-append_seam t (drop (length t) entry))) h;
        behind = ap (λ (x : PoolOutcome). drop x.answer.size x.buffer) e ∙ drop-append_seam t (drop (length t) entry)
            ∙ sym (ap (λ (x : PoolOutcome). drop x.answer.size entry) e);
      }

  few : (q : ℕ) → Listed (22 ∷ 23 ∷ []) q → Listed (22 ∷ 23 ∷ 24 ∷ []) q
  few q (inl e) = inl e
  few q (inr (inl e)) = inr (inl e)
  few q (inr (inr h)) = absurd h

  either : PoolComes first second entry o → PoolAnswered first second r entry exit ⊎ PoolRefusal r entry exit
  either (of-first n e) = inr (of-sheet 1 (read_sheet first).line (read_sheet first).number (inl refl) (sheet-asked first n) e)
  either (of-second n e) = inr (of-sheet 2 (read_sheet second).line (read_sheet second).number (inr (inl refl)) (sheet-asked second n) e)
  either (of-both q l e) = inr (of_two q (few q l) e)
  either (of-short t h n e) = inr (of_two 24 (inr (inr (inl refl))) e)
  either (of-text t h e) = inl (written t h e)

pub settled-pool : (first second : List ℕ) (r : Pooled) (entry exit : List ℕ) → PoolCall first second r entry exit → SettledPool first second r entry exit
settled-pool first second r entry exit c =
    record {
      outcome = either first second r entry exit (pool-comes first second r entry exit c);
      only = λ r' exit' d. pool-determined first second r' r entry exit' exit d c;
    }
