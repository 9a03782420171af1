-- What each call comes to, by its contract: it is accepted, or refused with one of its numbers.
-- Assumes nothing.
use mathlib.Core.Path.{◌≡◌, refl, ap}
use mathlib.Core.Bool.{Bool}
use mathlib.Core.List.{List, [], ◌∷◌}
use mathlib.Core.Logic.{◌⊎◌, inl, inr, ⊎_elim}
use Prim.Native.Nat.{ℕ}
use native.Mathlib.Omega.{arith}
use lib.ListN.{take}
use Rattle.vertex_set.specs.Order.{Listed}
use Rattle.setup.specs.declared.Setup.{Setup}
use Rattle.questions.specs.Asks.{Asks}
use Rattle.questions.specs.Questions.{asks12, asks13}
use Rattle.questions.proofs.Asks.{asks-either}
use Rattle.records.specs.declared.Record.{Record}
use Rattle.records.specs.declared.Registered.{Registered}
use Rattle.records.specs.Records.{RecordOf, with_record, without, RegisterOutcome, with_slice, hands_back, keeps_used}
use Rattle.register.specs.Calls.{asks25, asks27, Enters, HandInCall, WithdrawCall}

pub record Turned (numbers : List ℕ) (used : ℕ) (entry : List Record) (o : RegisterOutcome) : Type 0 where
  pub number : ℕ
  pub listed : Listed numbers number
  pub refused : o ≡ hands_back used entry number

pub record Taken (s : Setup) (used student target : ℕ) (loss : Bool) (handed : List ℕ) (entry : List Record) (o : RegisterOutcome) : Type 0 where
  pub row : Record
  pub is_record : RecordOf s student target loss handed row
  pub left : o ≡ keeps_used (with_record row (take used entry)) entry

abbrev pub hand_in_numbers : List ℕ
hand_in_numbers = 25 ∷ 12 ∷ 13 ∷ 26 ∷ []

abbrev pub withdraw_numbers : List ℕ
withdraw_numbers = 25 ∷ 27 ∷ []

pub answer-number : {o p : RegisterOutcome} → o ≡ p → o.answer.number ≡ p.answer.number
answer-number e = ap (λ (x : RegisterOutcome). x.answer.number) e

module _ (s : Setup) (used student target : ℕ) (loss : Bool) (handed : List ℕ) (a : Registered) (entry exit : List Record) where
  abbrev o : RegisterOutcome
  o = with_slice a exit

  entered : Enters s used student target loss handed entry o → Taken s used student target loss handed entry o ⊎ Turned hand_in_numbers used entry o
  unfolding Asks
  entered h =
      ⊎_elim (λ n. inr (record { number = 26; listed = inr (inr (inr (inl refl))); refused = n.1 }))
      (λ y. inl (record { row = h.row; is_record = h.is_record; left = y.1 })) h.told

  first_three : (q : ℕ) → Listed (25 ∷ 12 ∷ 13 ∷ []) q → Listed hand_in_numbers q
  first_three q (inl e) = inl e
  first_three q (inr (inl e)) = inr (inl e)
  first_three q (inr (inr (inl e))) = inr (inr (inl e))
  first_three q (inr (inr (inr h))) = absurd h

  pub hand-in-outcome : HandInCall s used student target loss handed a entry exit → Taken s used student target loss handed entry o ⊎ Turned hand_in_numbers used entry o
  hand-in-outcome c =
      ⊎_elim (λ h. entered h.1) (λ h. inr (record { number = h.0; listed = first_three h.0 h.1; refused = h.2 }))
      (asks-either (hands_back used entry) (Enters s used student target loss handed entry) (asks25 entry used ∷ asks12 s ∷ asks13 s target ∷ []) o c)

pub withdraw-outcome : (used k : ℕ) (a : Registered) (entry exit : List Record) → WithdrawCall used k a entry exit
    → (with_slice a exit ≡ keeps_used (without k (take used entry)) entry) ⊎ Turned withdraw_numbers used entry (with_slice a exit)
withdraw-outcome used k a entry exit c =
    ⊎_elim (λ h. inl h.1) (λ h. inr (record { number = h.0; listed = h.1; refused = h.2 }))
    (asks-either (hands_back used entry) (λ p. p ≡ keeps_used (without k (take used entry)) entry) (asks25 entry used ∷ asks27 entry used k ∷ []) (with_slice a exit) c)

-- a refusal's number is not 0
pub hand-in-no : (n : ℕ) → Listed hand_in_numbers n → n ≡ 0 → ⊥
hand-in-no n (inl e) z = omega (arith, e, z)
hand-in-no n (inr (inl e)) z = omega (arith, e, z)
hand-in-no n (inr (inr (inl e))) z = omega (arith, e, z)
hand-in-no n (inr (inr (inr (inl e)))) z = omega (arith, e, z)
hand-in-no n (inr (inr (inr (inr h)))) z = absurd h

pub withdraw-no : (n : ℕ) → Listed withdraw_numbers n → n ≡ 0 → ⊥
withdraw-no n (inl e) z = omega (arith, e, z)
withdraw-no n (inr (inl e)) z = omega (arith, e, z)
withdraw-no n (inr (inr h)) z = absurd h
