-- Inner: what the functions that write a vertex's part of the report ask for and write.
use Rattle.std.specs.Prelude.{List, ℕ, ◌+◌, ◌≤◌, ◌<◌, length}
use Rattle.setup.specs.declared.Setup.{Setup}
use Rattle.written.specs.Rows.{RowWritten}
use Rattle.report_text.specs.Rows.{texts_of, items_of, pair_row}
use Rattle.sheet_format.specs.Names.{name_of}
use Rattle.report_facts.specs.declared.Facts.{Facts}
use Rattle.report_facts.specs.Inner.Facts.{FactsOf}

-- The facts are those of some setup that has the vertex v, and there is room for 4,096 bytes: the pairs of one account are at most 64
-- rows of 34 bytes.
pub record PartReady (sheet : List ℕ) (f : Facts) (v : ℕ) (out : List ℕ) (at : ℕ) : Type 0 where
  pub setup : Setup
  pub facts : FactsOf sheet setup f
  pub vertex : v < setup.count
  pub room : at + 4096 ≤ length out

-- From `at` on stands the text of the vertex v, whichever setup the facts are of; r is the next place.
pub record WrotePart (text : (ℕ → List ℕ) → Setup → ℕ → List ℕ) (sheet : List ℕ) (f : Facts) (v : ℕ) (entry : List ℕ) (at : ℕ) (exit : List ℕ) (r : ℕ) : Type 0 where
  pub each : (s : Setup) → FactsOf sheet s f → v < s.count → RowWritten entry at (text (name_of sheet) s v) exit r
  pub inside : r ≤ length exit

-- A pair with v above for each vertex of the set x, rising.
unfoldable pub pairs_with : (ℕ → List ℕ) → ℕ → ℕ → List ℕ
pairs_with name v x = texts_of (pair_row name v) (items_of x)
