-- What the program `pool` prints of two texts (document 02, point 11).
use Rattle.std.specs.Prelude.{◌≡◌, List, [], ◌∷◌, ℕ}
use Rattle.sheet_format.specs.Text.{bytes_of}
use Rattle.sheet_format.specs.Fields.{decimal}
use Rattle.sheet_format.specs.Rows.{line_text}
use Rattle.pool_format.specs.Call.{Pooled}
use Rattle.pool_format.specs.Call.{PoolCall}
use Rattle.pool_format.specs.Meaning.{IsPooled}

-- `pool: refused 2 8 9`: the sheet, the number and the line of a refusal.
unfoldable pub refusal_line : ℕ → ℕ → ℕ → List ℕ
refusal_line sheet number line = line_text (bytes_of "pool: refused" ∷ decimal sheet ∷ decimal number ∷ decimal line ∷ [])

-- `printed` goes to standard output and `said` to standard error: the pooled sheet and nothing, or nothing and the refusal's line. The
-- answer is the call's, and never that its buffer is too short.
pub record Printed (first second printed said : List ℕ) : Type 0 where
  pub answer : Pooled
  pub entry : List ℕ
  pub exit : List ℕ
  pub call : PoolCall first second answer entry exit
  pub enough : answer.number ≡ 24 → ⊥
  pub pooled : answer.number ≡ 0 → IsPooled first second printed × (said ≡ [])
  pub refused : (answer.number ≡ 0 → ⊥) → (printed ≡ []) × (said ≡ refusal_line answer.sheet answer.number answer.line)
