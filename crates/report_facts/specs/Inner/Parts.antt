-- Inner: a text that is written part by part.
use Rattle.std.specs.Prelude.{◌≡◌, List, ◌++◌, ℕ, ◌≤◌, length}
use Rattle.written.specs.Rows.{RowWritten}

-- From `at` on, up to r, stands a part of the text `before`; `after` is what is left of it.
pub record Part (entry : List ℕ) (at : ℕ) (before after exit : List ℕ) (r : ℕ) : Type 0 where
  pub part : List ℕ
  pub split : before ≡ part ++ after
  pub wrote : RowWritten entry at part exit r
  pub inside : r ≤ length exit
