-- An afternoon at the class register (document 02, point 12): document 01's sheet, a slice of two records, and three students.
use Rattle.std.specs.Prelude.{◌≡◌, Bool, true, false, List, [], ◌∷◌, ℕ}
use Rattle.setup.specs.declared.Setup.{Setup}
use Rattle.records.specs.declared.Record.{Record}
use Rattle.records.specs.declared.Registered.{Registered}
use Rattle.records.specs.Records.{way_code, with_slice, hands_back}
use Rattle.register.specs.Calls.{HandInCall, WithdrawCall}
use Rattle.register.specs.Afternoon.{RegisterCall, HandIn, Withdraw, Made, Afternoon}
use Rattle.worked_examples.specs.Sheets.{Yields, bench, ordpw, mailpw, token, order}
use Rattle.worked_examples.specs.Table.{set_of}

-- A student's attempt at order, and its record with the five marks.
abbrev pub attempt : ℕ → Bool → List ℕ → RegisterCall
attempt student loss handed = HandIn (record { student = student; target = order; loss = loss; handed = handed })

abbrev pub marked : ℕ → Bool → ℕ → ℕ → ℕ → ℕ → ℕ → Record
marked student loss right repeated shut loose missing =
    record { student = student; target = order; way = way_code loss; right = right; repeated = repeated; shut = shut; loose = loose; missing = missing }

-- A call that was made: its number, the count, and the slice that it left.
abbrev pub call_made : RegisterCall → ℕ → ℕ → List Record → Made
call_made call number used exit = record { call = call; answer = record { number = number; used = used }; exit = exit }

abbrev pub mails : ℕ
mails = set_of (mailpw ∷ [])

abbrev pub orders : ℕ
orders = set_of (ordpw ∷ token ∷ [])

-- Both sets: full marks.
abbrev pub full7 : Record
full7 = marked 7 false 2 0 0 0 0

-- One right, again, one that opens nothing, one that is not minimal; one set is missing.
abbrev pub worse8 : Record
worse8 = marked 8 false 1 1 1 1 1

abbrev pub better8 : Record
better8 = marked 8 false 1 0 0 0 1

-- Both lockout sets.
abbrev pub lock9 : Record
lock9 = marked 9 true 2 0 0 0 0

-- The latest call stands first; b is what stood in the second place.
abbrev pub afternoon : Record → List Made
afternoon b =
    -- there is room again, and the freed place is taken
    call_made (attempt 9 true (set_of (ordpw ∷ mailpw ∷ []) ∷ set_of (mailpw ∷ token ∷ []) ∷ [])) 0 2 (better8 ∷ lock9 ∷ [])
    -- student 7 is withdrawn: the gap is closed, and the freed place keeps what stood there
    ∷ call_made (Withdraw 7) 0 1 (better8 ∷ better8 ∷ [])
    -- student 9 has no record
    ∷ call_made (Withdraw 9) 27 2 (full7 ∷ better8 ∷ [])
    -- student 8 again: the record is replaced in its place, though the register is full
    ∷ call_made (attempt 8 false (orders ∷ [])) 0 2 (full7 ∷ better8 ∷ [])
    -- no record is left for student 9
    ∷ call_made (attempt 9 false (mails ∷ [])) 26 2 (full7 ∷ worse8 ∷ [])
    ∷ call_made (attempt 8 false (mails ∷ mails ∷ set_of (ordpw ∷ []) ∷ set_of (ordpw ∷ mailpw ∷ []) ∷ [])) 0 2 (full7 ∷ worse8 ∷ [])
    ∷ call_made (attempt 7 false (mails ∷ orders ∷ [])) 0 1 (full7 ∷ b ∷ [])
    ∷ []

-- A count above the slice's length: both calls end with 25, and in no other way.
pub record TooManyUsed (s : Setup) (a b : Record) : Type 0 where
  pub hand_in : (r : Registered) (exit : List Record) → HandInCall s 3 7 order false (mails ∷ []) r (a ∷ b ∷ []) exit → with_slice r exit ≡ hands_back 3 (a ∷ b ∷ []) 25
  pub withdraw : (r : Registered) (exit : List Record) → WithdrawCall 3 7 r (a ∷ b ∷ []) exit → with_slice r exit ≡ hands_back 3 (a ∷ b ∷ []) 25

-- Whatever stands in the slice at first.
pub record AtTheRegister (s : Setup) : Type 0 where
  pub calls : (a b : Record) → Afternoon s (a ∷ b ∷ []) (afternoon b)
  pub too_many : (a b : Record) → TooManyUsed s a b

abbrev pub BenchAfternoon : Type 0
BenchAfternoon = Yields bench AtTheRegister
