-- Small registers, computed, and wrong answers that the contracts exclude.
-- Assumes nothing.
use mathlib.Core.Path.{◌≡◌, refl, sym, ◌∙◌, ap}
use mathlib.Core.Bool.{Bool, true}
use mathlib.Core.List.{List, [], ◌∷◌}
use mathlib.Core.Logic.{inl, inr, ⊎_elim}
use Prim.Native.Nat.{ℕ, ◌<◌}
use native.Mathlib.Omega.{arith}
use lib.ListN.{length, take, drop}
use lib.Seq.{drop-append_seam}
use Rattle.setup.specs.declared.Setup.{Setup}
use Rattle.questions.specs.Questions.{asks12, asks13}
use Rattle.questions.proofs.Asks.{first-no, after-all}
use Rattle.records.specs.declared.Record.{Record}
use Rattle.records.specs.declared.Registered.{Registered}
use Rattle.records.specs.Records.{same_three, has_three, with_record, without, RegisterOutcome, with_slice, hands_back, keeps_used}
use Rattle.register.specs.Calls.{asks25, asks26, Enters, HandInCall, WithdrawCall}
use Rattle.register.proofs.Outcomes.{answer-number, hand-in-outcome, withdraw-outcome}

-- the record of a student's attempt, with its target, way and number of right sets
abbrev attempt : ℕ → ℕ → ℕ → ℕ → Record
attempt student target way right = record { student = student; target = target; way = way; right = right; repeated = 0; shut = 0; loose = 0; missing = 2 }

-- ---- computed

-- the first match is replaced in its place, by the worse attempt; a second one stays
pub in-its-place : with_record (attempt 7 4 0 0) (attempt 8 4 0 1 ∷ attempt 7 4 0 2 ∷ attempt 7 4 0 1 ∷ []) ≡ attempt 8 4 0 1 ∷ attempt 7 4 0 0 ∷ attempt 7 4 0 1 ∷ []
unfolding same_three
in-its-place = refl

-- another student, target or way is another record
pub behind : with_record (attempt 7 4 0 0) (attempt 8 4 0 1 ∷ attempt 7 3 0 2 ∷ attempt 7 4 1 1 ∷ []) ≡ attempt 8 4 0 1 ∷ attempt 7 3 0 2 ∷ attempt 7 4 1 1 ∷ attempt 7 4 0 0 ∷ []
unfolding same_three
behind = refl

-- all records of the student go, and the order is kept
pub gone : without 7 (attempt 7 4 0 1 ∷ attempt 8 4 0 1 ∷ attempt 7 4 1 2 ∷ attempt 9 4 0 1 ∷ []) ≡ attempt 8 4 0 1 ∷ attempt 9 4 0 1 ∷ []
gone = refl

-- ---- excluded

-- 26 where a record is replaced, or where there is a place
module _ (s : Setup) (used student target : ℕ) (loss : Bool) (handed : List ℕ) (entry : List Record) (o : RegisterOutcome)
    (h : Enters s used student target loss handed entry o) where
  no-26 : (asks26 entry used h.row).Yes → o.answer.number ≡ 26 → ⊥
  no-26 y e =
      let m = answer-number (after-all (hands_back used entry) (λ p. p ≡ keeps_used (with_record h.row (take used entry)) entry) (asks26 entry used h.row ∷ []) o h.told (y, tt)) in
      omega (arith, m, e)

  pub no-26-where-replaced : has_three h.row (take used entry) ≡ true → o.answer.number ≡ 26 → ⊥
  no-26-where-replaced d = no-26 (inl d)

  pub no-26-with-a-place : used < length entry → o.answer.number ≡ 26 → ⊥
  no-26-with-a-place l = no-26 (inr l)

module _ (s : Setup) (used student target : ℕ) (loss : Bool) (handed : List ℕ) (a : Registered) (entry exit : List Record)
    (c : HandInCall s used student target loss handed a entry exit) where
  -- a number of the marking before 25
  pub no-12-before-25 : length entry < used → a.number ≡ 12 → ⊥
  no-12-before-25 l e =
      let m = answer-number (first-no (hands_back used entry) (Enters s used student target loss handed entry) [] (asks25 entry used) (asks12 s ∷ asks13 s target ∷ [])
      (with_slice a exit) c tt (λ n. omega (arith, l, n))) in
      omega (arith, m, e)

  -- a refused hand-in that leaves a record, or loses the count
  pub no-record-left : (a.number ≡ 0 → ⊥) → (exit ≡ entry) × (a.used ≡ used)
  no-record-left d =
      ⊎_elim (λ t. absurd (d (answer-number t.left))) (λ t. (ap (λ (o : RegisterOutcome). o.slice) t.refused, ap (λ (o : RegisterOutcome). o.answer.used) t.refused))
      (hand-in-outcome s used student target loss handed a entry exit c)

-- freed places cleared, or filled
pub no-place-cleared : (used student : ℕ) (a : Registered) (entry exit : List Record) → WithdrawCall used student a entry exit → drop a.used exit ≡ drop a.used entry
no-place-cleared used student a entry exit c = ⊎_elim accepted (λ t. ap (λ (o : RegisterOutcome). drop a.used o.slice) t.refused) (withdraw-outcome used student a entry exit c)
  where
    w : List Record
    w = without student (take used entry)

    accepted : with_slice a exit ≡ keeps_used w entry → drop a.used exit ≡ drop a.used entry
    accepted h =
        ap (λ (o : RegisterOutcome). drop o.answer.used o.slice) h ∙ drop-append_seam w (drop (length w) entry)
        ∙ sym (ap (λ (o : RegisterOutcome). drop o.answer.used entry) h)
