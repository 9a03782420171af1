-- The fields of a row: names, kinds, numbers and values, how each is written and how it is read.
use Rattle.std.specs.Prelude.{List, [], ◌∷◌, ◌++◌, Bool, false, cond, not, ◌&&◌, ◌||◌, ℕ, zero, suc, ◌+◌, ◌-◌, ◌*◌, ◌/◌, ◌%◌, length, eqb, leb, ltb}
use Rattle.setup.specs.Bounds.{most_name, largest}
use Rattle.setup.specs.declared.Kind.{Kind}
use Rattle.setup.specs.declared.Kind.TheVariants.{Credential, Account}
use Rattle.std.specs.Prelude.{Option, None, Some}
use Rattle.sheet_format.specs.Text.{bytes_of, is_empty, same_text, all}

-- ---- names: 1 to 16 of a-z, 0-9, `_`

-- Is the byte a digit, 0 to 9?
unfoldable pub is_digit : ℕ → Bool
is_digit b = leb 48 b && leb b 57

-- Is the byte one of a-z, 0-9 and `_`?
unfoldable pub is_name_byte : ℕ → Bool
is_name_byte b = (leb 97 b && leb b 122) || is_digit b || eqb b 95

-- Is the field a name: 1 to 16 of a-z, 0-9 and `_`?
unfoldable pub is_name : List ℕ → Bool
is_name f = leb 1 (length f) && leb (length f) most_name && all is_name_byte f

-- ---- numbers: decimal without leading zeros

-- Digits, at least one, of which the first is 0 only where it stands alone.
unfoldable pub is_number : List ℕ → Bool
is_number [] = false
is_number (b ∷ s) = all is_digit (b ∷ s) && (is_empty s || not (eqb b 48))

-- The value of digits that stand behind a number n already read.
unfoldable pub value_behind : ℕ → List ℕ → ℕ
value_behind n [] = n
value_behind n (b ∷ s) = value_behind (n * 10 + (b - 48)) s

-- The number that a field of digits says.
unfoldable pub number_of : List ℕ → ℕ
number_of f = value_behind 0 f

-- A number from 0 to `most`, judged by its value, whatever its length.
unfoldable pub is_number_to : ℕ → List ℕ → Bool
is_number_to most f = is_number f && leb (number_of f) most

-- The last digits of n, at most as many as there are places.
unfoldable pub digits_in : ℕ → ℕ → List ℕ
digits_in zero n = []
digits_in (suc places) n = cond (ltb n 10) ((48 + n) ∷ []) (digits_in places (n / 10) ++ ((48 + n % 10) ∷ []))

-- How a number is written. 20 places are enough for every 64-bit number.
unfoldable pub decimal : ℕ → List ℕ
decimal n = digits_in 20 n

-- ---- kinds: credential or account

-- How a kind is written: `c` for a credential, `a` for an account.
abbrev pub kind_text : Kind → List ℕ
kind_text Credential = bytes_of "c"
kind_text Account = bytes_of "a"

-- Is the field a kind, `c` or `a`?
unfoldable pub is_kind : List ℕ → Bool
is_kind f = same_text f (kind_text Credential) || same_text f (kind_text Account)

-- The kind that a field says: an account for `a`, else a credential.
unfoldable pub kind_of : List ℕ → Kind
kind_of f = cond (same_text f (kind_text Account)) Account Credential

-- ---- start and loss: a number up to the largest, or `-`

-- The field `-`, which says that there is no value.
abbrev pub dash : List ℕ
dash = bytes_of "-"

-- Is the field a value: `-`, or a number up to the largest?
unfoldable pub is_value : List ℕ → Bool
is_value f = same_text f dash || is_number_to largest f

-- The value that a field says: a blank for `-`, else its number.
unfoldable pub field_value : List ℕ → Option ℕ
field_value f = cond (same_text f dash) None (Some (number_of f))

-- How a value is written: `-` for a blank, else its number.
abbrev pub value_text : Option ℕ → List ℕ
value_text None = dash
value_text (Some n) = decimal n
