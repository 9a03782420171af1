-- Records of attempts (document 02, point 12), and what a hand-in and a withdrawal make of the used ones.
use Rattle.std.specs.Prelude.{◌≡◌, Bool, true, false, cond, ◌&&◌, List, [], ◌∷◌, ◌++◌, ℕ, length, drop, eqb}
use Rattle.vertex_set.specs.Set.{Iff}
use Rattle.setup.specs.declared.Setup.{Setup}
use Rattle.bases.specs.Marks.{Counts, IsBaseOnce, Full}
use Rattle.records.specs.declared.Record.{Record}
use Rattle.records.specs.declared.Registered.{Registered}

-- A way as a number: 0 for open, 1 for lock.
abbrev pub way_code : Bool → ℕ
way_code false = 0
way_code true = 1

-- r is the record of an attempt: its student, target and way, and the marks of the sets that were handed in. It has full marks exactly where these
-- are the sets that demand 3 states for its target and way, each one time, and no other.
pub record RecordOf (s : Setup) (student target : ℕ) (loss : Bool) (handed : List ℕ) (r : Record) : Type 0 where
  pub is_student : r.student ≡ student
  pub is_target : r.target ≡ target
  pub is_way : r.way ≡ way_code loss
  pub counts : Counts loss s s.graph target handed r.right r.repeated r.shut r.loose r.missing
  pub full : Iff (Full r.repeated r.shut r.loose r.missing) (IsBaseOnce loss s s.graph target handed)

-- Have the two the same student, target and way?
unfoldable pub same_three : Record → Record → Bool
same_three x y = eqb x.student y.student && (eqb x.target y.target && eqb x.way y.way)

-- Has one of the records the student, target and way of n?
abbrev pub has_three : Record → List Record → Bool
has_three n [] = false
has_three n (r ∷ u) = cond (same_three r n) true (has_three n u)

-- Has the student k a record?
abbrev pub has_student : ℕ → List Record → Bool
has_student k [] = false
has_student k (r ∷ u) = cond (eqb r.student k) true (has_student k u)

-- The used records once n is handed in: it takes the place of the first with its student, target and way; otherwise it goes behind them.
abbrev pub with_record : Record → List Record → List Record
with_record n [] = n ∷ []
with_record n (r ∷ u) = cond (same_three r n) (n ∷ u) (r ∷ with_record n u)

-- The used records without those of the student k: the gaps are closed, the order is kept.
abbrev pub without : ℕ → List Record → List Record
without k [] = []
without k (r ∷ u) = cond (eqb r.student k) (without k u) (r ∷ without k u)

-- What a call on the register hands back: its answer, and the slice of records as it then is.
pub record RegisterOutcome : Type 0 where
  pub answer : Registered
  pub slice : List Record

-- An answer, and the slice as it is after it.
abbrev pub with_slice : Registered → List Record → RegisterOutcome
with_slice a slice = record { answer = a; slice = slice }

-- A refusal with the number q changes no record and no count.
abbrev pub hands_back : ℕ → List Record → ℕ → RegisterOutcome
hands_back used slice q = with_slice (record { number = q; used = used }) slice

-- The call is accepted: w are the used records, and those behind them don't change.
abbrev pub keeps_used : List Record → List Record → RegisterOutcome
keeps_used w slice = with_slice (record { number = 0; used = length w }) (w ++ drop (length w) slice)
