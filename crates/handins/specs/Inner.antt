-- Inner: what is known once a set's questions have been asked, and what is then done.
use Rattle.std.specs.Prelude.{List, ℕ, ◌≤◌, ◌<◌, length}
use Rattle.vertex_set.specs.Set.{Member}
use Rattle.sheet_format.specs.Names.{name_of}
use Rattle.report_facts.specs.Inner.Places.{HasItems}
use Rattle.report_text.specs.Rows.{set_text}

-- The sheet has a name for each item of the set, and the names are not too long.
pub record CanName (sheet : List ℕ) (count x : ℕ) : Type 0 where
  pub items : HasItems sheet count
  pub inside : (v : ℕ) → Member x v → v < count
  pub short : length (set_text (name_of sheet) x) ≤ 1087
