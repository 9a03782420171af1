-- What the calls on a setup have in common: question 14, and how a lent list ends.
use Rattle.std.specs.Prelude.{List, ◌++◌, ℕ, ◌<◌, length, drop}
use Rattle.vertex_set.specs.Set.{Member}
use Rattle.setup.specs.declared.Setup.{Setup}

-- Question 14: the set has only vertices of the setup.
pub record Inside (s : Setup) (set : ℕ) : Type 0 where
  pub each : (v : ℕ) → Member set v → v < s.count

-- xs stand in the first places of the lent list, and the places behind them are unchanged.
abbrev pub written : List ℕ → List ℕ → List ℕ
written xs entry = xs ++ drop (length xs) entry
