-- The item rows as the reader keeps them: the keys of their names, in row order.
use Rattle.std.specs.Prelude.{◌≡◌, Option, List, [], ◌∷◌, map, true, cond, ◌&&◌, ℕ, suc, length, take, eqb, ltb}
use Rattle.sheet_format.specs.Fields.{is_name}
use Rattle.sheet_format.specs.Rows.{ItemRow, Each}
use Rattle.sheet_fields.specs.declared.Key.{Key}
use Rattle.sheet_fields.specs.Inner.Forms.{read_if}
use Rattle.sheet_fields.specs.Inner.Keys.{key_of}

abbrev pub low_of : ItemRow → ℕ
low_of x = (key_of x.name).low

abbrev pub high_of : ItemRow → ℕ
high_of x = (key_of x.name).high

abbrev pub WellNamed : ItemRow → Type 0
WellNamed x = is_name x.name ≡ true

-- The first `count` places of the two lists are the keys of the item rows' names, which are well formed.
pub record NameKeys (items : List ItemRow) (low high : List ℕ) (count : ℕ) : Type 0 where
  pub size : count ≡ length items
  pub lows : take count low ≡ map low_of items
  pub highs : take count high ≡ map high_of items
  pub named : Each WellNamed items

-- The first place at which the lists have a and b; their length where there is none.
unfoldable pub place_of : List ℕ → List ℕ → ℕ → ℕ → ℕ
place_of [] ys a b = 0
place_of (x ∷ xs) [] a b = 0
place_of (x ∷ xs) (y ∷ ys) a b = cond (eqb x a && eqb y b) 0 (suc (place_of xs ys a b))

-- The place of a key among the first `count`, where it is there.
abbrev pub place_in : List ℕ → List ℕ → ℕ → Key → Option ℕ
place_in low high count key =
    read_if (ltb (place_of (take count low) (take count high) key.low key.high) count) (place_of (take count low) (take count high) key.low key.high)
