-- What calls on a target of a setup know once questions 12 and 13 have been asked. Nothing of this has to be believed: no contract of an offered call
-- cites it.
use Rattle.std.specs.Prelude.{ℕ, ◌<◌}
use Rattle.setup.specs.declared.Setup.{Setup}
use Rattle.formed.specs.WellFormed.{WellFormed}

-- The setup is well formed, and the target is one of its vertices.
pub record Answerable (s : Setup) (target : ℕ) : Type 0 where
  pub formed : WellFormed s
  pub vertex : target < s.count
