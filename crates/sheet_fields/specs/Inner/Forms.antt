-- What the readers of single fields answer.
use Rattle.std.specs.Prelude.{Option, Some, None, List, [], ◌∷◌, Bool, true, false, cond, ◌&&◌, ℕ, ◌+◌, ◌-◌, ◌*◌, leb}
use Rattle.setup.specs.Bounds.{largest}
use Rattle.sheet_format.specs.Fields.{is_digit}

-- What a reader of a field hands back: what the field says where it has its form, and else none.
abbrev pub read_if : {A : Type 0} → Bool → A → Option A
read_if true a = Some a
read_if false a = None

-- The number n with the digits behind it, where they are digits and it is not too large.
unfoldable pub more_digits : ℕ → List ℕ → Option ℕ
more_digits n [] = Some n
more_digits n (b ∷ s) = cond (is_digit b && leb (n * 10 + (b - 48)) largest) (more_digits (n * 10 + (b - 48)) s) None
