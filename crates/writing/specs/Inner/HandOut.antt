-- Inner: a text that is handed out whole, or not at all.
use Rattle.std.specs.Prelude.{◌≡◌, Option, Some, None, List, ◌++◌, ◌⊎◌, ℕ, ◌≤◌, ◌<◌, length, drop}

-- The text stands in the first places of the buffer, and r is the number of its bytes; or it has no room there, and the
-- buffer is as it was.
abbrev pub HandsOut : List ℕ → Option ℕ → List ℕ → List ℕ → Type 0
HandsOut text r entry exit =
    ((length entry < length text) × (r ≡ None) × (exit ≡ entry))
    ⊎ ((length text ≤ length entry) × (r ≡ Some (length text)) × (exit ≡ text ++ drop (length text) entry))
