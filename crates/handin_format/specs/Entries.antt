-- What a line hands in, as data: how it is written, what makes it valid, and the register's call that it states.
use Rattle.std.specs.Prelude.{◌≡◌, Bool, List, [], ◌∷◌, map, ℕ, ◌≤◌, length}
use Rattle.setup.specs.Bounds.{largest}
use Rattle.sheet_format.specs.Text.{bytes_of}
use Rattle.sheet_format.specs.Fields.{decimal}
use Rattle.sheet_format.specs.Rows.{ItemRow, Each, Apart, Known, number_in}
use Rattle.report_text.specs.Rows.{way_text}
use Rattle.register.specs.Afternoon.{RegisterCall, HandIn, Withdraw}
use Rattle.handin_format.specs.Sets.{joined_by, names_text, set_named}

-- An attempt by names: the student, the target's name, the way (its lockout sets where `loss` holds, else its opening
-- sets), and the names of each set.
pub record NamedAttempt : Type 0 where
  pub student : ℕ
  pub target : List ℕ
  pub loss : Bool
  pub sets : List (List (List ℕ))

-- What a line hands in: an attempt, or the withdrawal of a student.
pub data LineEntry : Type 0 where
  HandsIn : NamedAttempt → LineEntry
  Withdraws : ℕ → LineEntry

-- The word of a withdrawal.
abbrev pub withdraw_text : List ℕ
withdraw_text = bytes_of "withdraw"

-- The fields, parted by one space: `1017 order open mailpw ordpw+token`, and `1017 withdraw`.
abbrev pub entry_text : LineEntry → List ℕ
entry_text (HandsIn x) = joined_by 32 (decimal x.student ∷ x.target ∷ way_text x.loss ∷ map names_text x.sets)
entry_text (Withdraws k) = joined_by 32 (decimal k ∷ withdraw_text ∷ [])

-- The most sets of one line: as many as 14 items have subsets.
abbrev pub most_handed : ℕ
most_handed = 16384

-- A set names known items, none twice.
pub record ValidNames (items : List ItemRow) (ns : List (List ℕ)) : Type 0 where
  pub known : Each (Known items) ns
  pub once : Apart (λ (m n : List ℕ). m ≡ n) ns

-- An attempt is valid beside these item rows: the target too is one of their names.
pub record ValidAttempt (items : List ItemRow) (x : NamedAttempt) : Type 0 where
  pub student : x.student ≤ largest
  pub target : Known items x.target
  pub sets : Each (ValidNames items) x.sets
  pub many : length x.sets ≤ most_handed

-- What makes an entry valid: a student to withdraw is a number up to the largest.
abbrev pub ValidEntry : List ItemRow → LineEntry → Type 0
ValidEntry items (HandsIn x) = ValidAttempt items x
ValidEntry items (Withdraws k) = k ≤ largest

-- The register's call that an entry states: items by their numbers.
abbrev pub stated : List ItemRow → LineEntry → RegisterCall
stated items (HandsIn x) =
    HandIn
    (record {
      student = x.student;
      target = number_in items x.target;
      loss = x.loss;
      handed = map (set_named items) x.sets;
    })
stated items (Withdraws k) = Withdraw k
