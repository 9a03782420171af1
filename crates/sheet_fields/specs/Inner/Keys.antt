-- Names as pairs of numbers, so that two of them are compared at once.
use Rattle.std.specs.Prelude.{List, [], ◌∷◌, ℕ, ◌+◌, ◌*◌, take, drop}
use Rattle.sheet_fields.specs.declared.Key.{Key}

-- The number whose digits to the base 256 are the bytes, the first one lowest.
unfoldable pub packed_bytes : List ℕ → ℕ
packed_bytes [] = 0
packed_bytes (b ∷ s) = packed_bytes s * 256 + b

-- The first eight bytes, and the others.
unfoldable pub key_of : List ℕ → Key
key_of n = record { low = packed_bytes (take 8 n); high = packed_bytes (drop 8 n) }
