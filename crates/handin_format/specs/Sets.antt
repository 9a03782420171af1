-- Sets as they are handed in: the names of their items joined by `+` (byte 43), in any order, none twice; `-` is the
-- empty set.
use Rattle.std.specs.Prelude.{List, [], ◌∷◌, ◌++◌, cond, ℕ, ◌/◌, ◌%◌, ◌^◌, eqb}
use Rattle.std.specs.Int.Bits.{bit_or}
use Rattle.sheet_format.specs.Text.{grow, same_text}
use Rattle.sheet_format.specs.Fields.{is_name, dash}
use Rattle.sheet_format.specs.Rows.{ItemRow, number_in}
use Rattle.sheet_format.specs.Questions.{is_known}
use Rattle.report_text.specs.Rows.{set_text}

-- ---- how a set is written

-- The parts, with the byte b between each and the next.
abbrev pub joined_by : ℕ → List (List ℕ) → List ℕ
joined_by b [] = []
joined_by b (n ∷ []) = n
joined_by b (n ∷ m ∷ ns) = n ++ (b ∷ joined_by b (m ∷ ns))

-- A set by the names of its items: `ordpw+token`, or `-` for none.
abbrev pub names_text : List (List ℕ) → List ℕ
names_text [] = dash
names_text (n ∷ ns) = joined_by 43 (n ∷ ns)

-- A set as the report prints it, items rising, and `-` for the empty one.
unfoldable pub set_names : (ℕ → List ℕ) → ℕ → List ℕ
set_names name x = cond (eqb x 0) dash (set_text name x)

-- The set of the items with these names, as a number: bit i is that of item i.
unfoldable pub set_named : List ItemRow → List (List ℕ) → ℕ
set_named items [] = 0
set_named items (n ∷ ns) = bit_or (2 ^ number_in items n) (set_named items ns)

-- ---- how it is read

-- A set that was named. Where `number` is not 0, it is that of the first no, and the set is 0.
pub record SetField : Type 0 where
  pub number : ℕ
  pub set : ℕ

-- A text that names no set: the number of the no.
abbrev pub no_set : ℕ → SetField
no_set q = record { number = q; set = 0 }

-- A text that names the set x.
abbrev pub some_set : ℕ → SetField
some_set x = record { number = 0; set = x }

-- The parts of a text. Each `+` (byte 43) parts two of them, so n of them part n + 1, perhaps empty ones.
unfoldable pub parts_of : List ℕ → List (List ℕ)
parts_of [] = [] ∷ []
parts_of (b ∷ s) = cond (eqb b 43) ([] ∷ parts_of s) (grow b (parts_of s))

-- The set x with the item of the name n. 5: is n a name? 8: is it known? 6: is its item not in x?
unfoldable pub with_name : List ItemRow → ℕ → List ℕ → SetField
with_name items x n =
    cond (is_name n)
    (cond (is_known items n)
    (cond (eqb (x / 2 ^ number_in items n % 2) 1) (no_set 6) (some_set (bit_or x (2 ^ number_in items n))))
    (no_set 8))
    (no_set 5)

-- The names from the left, each taken into the set; the first no ends it.
unfoldable pub with_names : List ItemRow → SetField → List (List ℕ) → SetField
with_names items x [] = x
with_names items x (n ∷ ns) = cond (eqb x.number 0) (with_names items (with_name items x.set n) ns) x

-- The set that a text names: the empty one for `-`.
unfoldable pub set_from : List ItemRow → List ℕ → SetField
set_from items l = cond (same_text l dash) (some_set 0) (with_names items (some_set 0) (parts_of l))
