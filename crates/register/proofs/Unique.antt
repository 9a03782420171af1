-- One outcome: a record's marks are unique, and so is what each call hands back.
-- Assumes nothing.
use mathlib.Core.Path.{◌≡◌, sym, ◌∙◌, ap, subst}
use mathlib.Core.Bool.{Bool}
use mathlib.Core.List.{List, [], ◌∷◌}
use Prim.Native.Nat.{ℕ}
use lib.ListN.{take}
use Rattle.setup.specs.declared.Setup.{Setup}
use Rattle.questions.specs.Asks.{Asks}
use Rattle.questions.specs.Questions.{asks12, asks13}
use Rattle.questions.proofs.Asks.{asks-once}
use Rattle.reference.proofs.Unique.{counts-unique}
use Rattle.records.specs.declared.Record.{Record}
use Rattle.records.specs.declared.Registered.{Registered}
use Rattle.records.specs.Records.{RecordOf, with_record, without, RegisterOutcome, with_slice, hands_back, keeps_used}
use Rattle.register.specs.Calls.{asks25, asks26, asks27, Enters, HandInCall, WithdrawCall}

-- ---- a record by its fields

record Fields (n m : Record) : Type 0 where
  student : n.student ≡ m.student
  target : n.target ≡ m.target
  way : n.way ≡ m.way
  right : n.right ≡ m.right
  repeated : n.repeated ≡ m.repeated
  shut : n.shut ≡ m.shut
  loose : n.loose ≡ m.loose
  missing : n.missing ≡ m.missing

abbrev row : ℕ → ℕ → ℕ → ℕ → ℕ → ℕ → ℕ → ℕ → Record
row student target way right repeated shut loose missing =
    record { student = student; target = target; way = way; right = right; repeated = repeated; shut = shut; loose = loose; missing = missing }

by-fields : (n m : Record) → Fields n m → n ≡ m
by-fields n m e =
    ap (λ (x : ℕ). row x n.target n.way n.right n.repeated n.shut n.loose n.missing) e.student
    ∙ ap (λ (x : ℕ). row m.student x n.way n.right n.repeated n.shut n.loose n.missing) e.target
    ∙ ap (λ (x : ℕ). row m.student m.target x n.right n.repeated n.shut n.loose n.missing) e.way
    ∙ ap (λ (x : ℕ). row m.student m.target m.way x n.repeated n.shut n.loose n.missing) e.right
    ∙ ap (λ (x : ℕ). row m.student m.target m.way m.right x n.shut n.loose n.missing) e.repeated
    ∙ ap (λ (x : ℕ). row m.student m.target m.way m.right m.repeated x n.loose n.missing) e.shut
    ∙ ap (λ (x : ℕ). row m.student m.target m.way m.right m.repeated m.shut x n.missing) e.loose
    ∙ ap (λ (x : ℕ). row m.student m.target m.way m.right m.repeated m.shut m.loose x) e.missing

pub record-unique : (s : Setup) (student target : ℕ) (loss : Bool) (handed : List ℕ) (n m : Record)
    → RecordOf s student target loss handed n → RecordOf s student target loss handed m → n ≡ m
record-unique s student target loss handed n m a b =
    let e = counts-unique loss s s.graph target handed n.right n.repeated n.shut n.loose n.missing m.right m.repeated m.shut m.loose m.missing
    a.counts b.counts in
    by-fields n m
    (record {
      student = a.is_student ∙ sym b.is_student;
      target = a.is_target ∙ sym b.is_target;
      way = a.is_way ∙ sym b.is_way;
      right = e.0;
      repeated = e.1;
      shut = e.2;
      loose = e.3;
      missing = e.4;
    })

-- ---- one outcome

module _ (s : Setup) (used student target : ℕ) (loss : Bool) (handed : List ℕ) (entry : List Record) where
  enters-once : (o p : RegisterOutcome) → Enters s used student target loss handed entry o → Enters s used student target loss handed entry p → o ≡ p
  enters-once o p h k =
      asks-once (hands_back used entry) (λ x. x ≡ keeps_used (with_record h.row (take used entry)) entry) (asks26 entry used h.row ∷ []) o p (λ e f. e ∙ sym f) h.told
      (subst (λ (n : Record). Asks (hands_back used entry) (asks26 entry used n ∷ []) (λ x. x ≡ keeps_used (with_record n (take used entry)) entry) p)
      (record-unique s student target loss handed k.row h.row k.is_record h.is_record) k.told)

  pub one-hand-in : (a b : Registered) (exit other : List Record) → HandInCall s used student target loss handed a entry exit
      → HandInCall s used student target loss handed b entry other → with_slice a exit ≡ with_slice b other
  one-hand-in a b exit other =
      asks-once (hands_back used entry) (Enters s used student target loss handed entry) (asks25 entry used ∷ asks12 s ∷ asks13 s target ∷ [])
      (with_slice a exit) (with_slice b other) (enters-once (with_slice a exit) (with_slice b other))

pub one-withdrawal : (used student : ℕ) (entry : List Record) (a b : Registered) (exit other : List Record) → WithdrawCall used student a entry exit
    → WithdrawCall used student b entry other → with_slice a exit ≡ with_slice b other
one-withdrawal used student entry a b exit other =
    asks-once (hands_back used entry) (λ x. x ≡ keeps_used (without student (take used entry)) entry) (asks25 entry used ∷ asks27 entry used student ∷ [])
    (with_slice a exit) (with_slice b other) (λ e f. e ∙ sym f)
