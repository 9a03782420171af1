-- A score as it is written.
-- Assumes nothing.
use mathlib.Core.Path.{◌≡◌}
use Prim.Native.Nat.{ℕ}
use borrow.Author.Tests.{eq-eqb, ne_eqb}
use Rattle.sheet_format.specs.Fields.{decimal, dash}
use Rattle.scores.specs.Never.{never}
use Rattle.report_text.specs.Rows.{score_text}

pub score-never : (r : ℕ) → r ≡ never → score_text r ≡ dash
unfolding score_text
score-never r e = rw (eq-eqb r never e)

pub score-number : (r : ℕ) → (r ≡ never → ⊥) → score_text r ≡ decimal r
unfolding score_text
score-number r n = rw (ne_eqb r never n)
