-- The graphs of which the executable definitions tell the truth.
use Rattle.std.specs.Prelude.{ℕ, ◌<◌}
use Rattle.setup.specs.declared.Graph.{Graph}
use Rattle.setup.specs.declared.Setup.{Setup}
use Rattle.setup.specs.Setup.{Edge, ShapedGraph}

-- g is a graph on the vertices of the setup: the setup's own, or that without recovery.
pub record GraphOf (s : Setup) (g : Graph) : Type 0 where
  pub shaped : ShapedGraph g
  pub ends : (f v c : ℕ) → Edge g f v c → (f < s.count) × (v < s.count)
