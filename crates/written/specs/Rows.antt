-- What is promised of writing a row into a lent buffer (document 02, point 7).
use Rattle.std.specs.Prelude.{◌≡◌, List, ℕ, ◌+◌, length, take, drop}

-- The buffer's bytes are `entry` before and `exit` after; `at` is the given place, and r the place that is handed back. Rows one behind the
-- other are a run of bytes too: where a function writes several, this is promised of all of them as one.
pub record RowWritten (entry : List ℕ) (at : ℕ) (row exit : List ℕ) (r : ℕ) : Type 0 where
  -- the row's bytes stand from the given place on
  pub stands : take (length row) (drop at exit) ≡ row
  -- how many they are: r is the place behind the last of them
  pub many : r ≡ at + length row
  -- every other byte is as before: those in front of the row and those behind it, in a buffer as long as before
  pub others : (take at exit ≡ take at entry) × (drop (at + length row) exit ≡ drop (at + length row) entry) × (length exit ≡ length entry)
