-- An afternoon: hand-ins and withdrawals over one setup, from an empty register, and what the register then holds (document 02, point 12).
use Rattle.std.specs.Prelude.{◌≡◌, Bool, List, [], ◌∷◌, ◌⊎◌, ℕ, ◌≤◌, ◌<◌, length, take}
use Rattle.vertex_set.specs.Order.{Rising}
use Rattle.setup.specs.declared.Setup.{Setup}
use Rattle.records.specs.declared.Record.{Record}
use Rattle.records.specs.declared.Registered.{Registered}
use Rattle.records.specs.Records.{way_code, RecordOf}
use Rattle.register.specs.Calls.{HandInCall, WithdrawCall}

-- ---- the calls, one after the other

-- An attempt: whose it is, the target, the way (its lockout sets where `loss` holds, else its opening sets), and the sets that are handed in.
pub record Attempt : Type 0 where
  pub student : ℕ
  pub target : ℕ
  pub loss : Bool
  pub handed : List ℕ

-- A call: an attempt is handed in, or a student is withdrawn.
pub data RegisterCall : Type 0 where
  HandIn : Attempt → RegisterCall
  Withdraw : ℕ → RegisterCall

-- A call that was made: what it answered, and the slice that it left.
pub record Made : Type 0 where
  pub call : RegisterCall
  pub answer : Registered
  pub exit : List Record

-- The call meets its contract, on this slice and count.
abbrev pub MeetsCall : Setup → RegisterCall → ℕ → List Record → Registered → List Record → Type 0
MeetsCall s (HandIn x) used entry a exit = HandInCall s used x.student x.target x.loss x.handed a entry exit
MeetsCall s (Withdraw k) used entry a exit = WithdrawCall used k a entry exit

-- The slice after these calls, of which the latest stands first: as that call left it. At the beginning it is the lent one, whatever stands there.
abbrev pub slice_after : List Record → List Made → List Record
slice_after slice [] = slice
slice_after slice (m ∷ earlier) = m.exit

-- How many records are used after these calls, as the latest one answered: at the beginning none.
abbrev pub used_after : List Made → ℕ
used_after [] = 0
used_after (m ∷ earlier) = m.answer.used

-- Slice and count are handed on as they came back, and each call meets its contract.
abbrev pub Afternoon : Setup → List Record → List Made → Type 0
Afternoon s slice [] = Unit {0}
Afternoon s slice (m ∷ earlier) = MeetsCall s m.call (used_after earlier) (slice_after slice earlier) m.answer m.exit × Afternoon s slice earlier

-- ---- what was accepted, and when: the time of a call is the number of calls made before it

-- The call hands in the attempt x.
abbrev pub IsHandIn : RegisterCall → Attempt → Type 0
IsHandIn (HandIn y) x = y ≡ x
IsHandIn (Withdraw k) x = ⊥

-- The call withdraws the student k.
abbrev pub IsWithdrawal : RegisterCall → ℕ → Type 0
IsWithdrawal (HandIn y) k = ⊥
IsWithdrawal (Withdraw j) k = j ≡ k

-- At the time t the attempt x was handed in and accepted.
abbrev pub HandedIn : List Made → ℕ → Attempt → Type 0
HandedIn [] t x = ⊥
HandedIn (m ∷ earlier) t x = ((t ≡ length earlier) × (m.answer.number ≡ 0) × IsHandIn m.call x) ⊎ HandedIn earlier t x

-- At the time t the student k was withdrawn: the call was accepted.
abbrev pub Withdrawn : List Made → ℕ → ℕ → Type 0
Withdrawn [] t k = ⊥
Withdrawn (m ∷ earlier) t k = ((t ≡ length earlier) × (m.answer.number ≡ 0) × IsWithdrawal m.call k) ⊎ Withdrawn earlier t k

-- The attempt x, accepted at the time t, is not withdrawn since.
pub record Stands (log : List Made) (t : ℕ) (x : Attempt) : Type 0 where
  pub handed : HandedIn log t x
  pub since : (u : ℕ) → Withdrawn log u x.student → u < t

-- ---- what the register holds. P t x: the attempt x, accepted at the time t, is not withdrawn since

-- The same student, target and way.
pub record SameAttempt (x y : Attempt) : Type 0 where
  pub student : x.student ≡ y.student
  pub target : x.target ≡ y.target
  pub way : x.loss ≡ y.loss

-- x is the first with its student, target and way that was accepted after the student's last withdrawal.
pub record First (P : ℕ → Attempt → Type 0) (t : ℕ) (x : Attempt) : Type 0 where
  pub stands : P t x
  pub first : (u : ℕ) (y : Attempt) → P u y → SameAttempt y x → t ≤ u

-- x is the latest with its student, target and way.
pub record Latest (P : ℕ → Attempt → Type 0) (t : ℕ) (x : Attempt) : Type 0 where
  pub stands : P t x
  pub latest : (u : ℕ) (y : Attempt) → P u y → SameAttempt y x → u ≤ t

-- r is the record of the latest attempt with the student, target and way that were first accepted at the time t.
pub record Entry (s : Setup) (P : ℕ → Attempt → Type 0) (t : ℕ) (r : Record) : Type 0 where
  pub first : Attempt
  pub is_first : First P t first
  pub time : ℕ
  pub latest : Attempt
  pub is_latest : Latest P time latest
  pub same : SameAttempt latest first
  pub is_record : RecordOf s latest.student latest.target latest.loss latest.handed r

-- The records are the entries of these times, in this order.
abbrev pub Entries : Setup → (ℕ → Attempt → Type 0) → List ℕ → List Record → Type 0
Entries s P [] [] = Unit {0}
Entries s P [] (r ∷ rs) = ⊥
Entries s P (t ∷ ts) [] = ⊥
Entries s P (t ∷ ts) (r ∷ rs) = Entry s P t r × Entries s P ts rs

-- The record has the attempt's student, target and way.
pub record IsOf (r : Record) (x : Attempt) : Type 0 where
  pub student : r.student ≡ x.student
  pub target : r.target ≡ x.target
  pub way : r.way ≡ way_code x.loss

-- One of the records has the attempt's student, target and way.
abbrev pub Held : List Record → Attempt → Type 0
Held [] x = ⊥
Held (r ∷ rs) x = IsOf r x ⊎ Held rs x

-- The records are, for each student, target and way, that of the latest attempt, in the order in which these three were first accepted.
pub record RegisterHolds (s : Setup) (P : ℕ → Attempt → Type 0) (records : List Record) : Type 0 where
  pub times : List ℕ
  pub rising : Rising times
  pub entries : Entries s P times records
  pub whole : (t : ℕ) (x : Attempt) → P t x → Held records x

-- The register after these calls: its used records, as many as the count says, are those that it must hold.
pub record RegisterAfter (s : Setup) (log : List Made) (used : ℕ) (slice : List Record) : Type 0 where
  pub holds : RegisterHolds s (Stands log) (take used slice)
  pub count : length (take used slice) ≡ used

-- For every list of hand-ins and withdrawals over one setup from an empty register, refused ones among them, slice and count handed on as they came back:
-- the used records are, for each student, target and way, that of the latest accepted attempt of those not withdrawn since, in the order in which these
-- three were first accepted after the student's last withdrawal. Each is its attempt's record by `RecordOf`, which says when it has full marks.
abbrev pub RegisterLaw : Type 0
RegisterLaw = (s : Setup) (slice : List Record) (log : List Made) → Afternoon s slice log → RegisterAfter s log (used_after log) (slice_after slice log)
