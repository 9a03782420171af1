-- What makes a setup well formed. `histories` proves that these are exactly the setups that an accepted sheet and a list of calls reach (question 12).
use Rattle.std.specs.Prelude.{◌≡◌, true, false, ℕ, ◌≤◌, ◌<◌}
use Rattle.setup.specs.Bounds.{most_items, largest, highest, most_edges, most_chosen}
use Rattle.std.specs.Prelude.{Option, None, Some}
use Rattle.setup.specs.declared.Vertex.{Vertex}
use Rattle.setup.specs.declared.Setup.{Setup}
use Rattle.setup.specs.Calls.{Inside}
use Rattle.derivations.specs.Access.{AccessFrom}
use Rattle.setup.specs.Setup.{unused_vertex, vertex_at, Edge, edge_count, chosen_count, Shaped}

-- A value is in range: a blank, or a number up to the largest.
abbrev pub InRange : Option ℕ → Type 0
InRange None = Unit {0}
InRange (Some n) = n ≤ largest

-- A vertex is valid: start and loss are in range, and so is the rank.
pub record ValidVertex (x : Vertex) : Type 0 where
  pub start : InRange x.start
  pub loss : InRange x.loss
  pub rank : x.rank ≤ highest

-- Question 12: the setup is one that an accepted sheet and a list of calls reach (`histories` proves it), said by its parts.
pub record WellFormed (s : Setup) : Type 0 where
  pub shaped : Shaped s
  -- at least one vertex, and no more than a sheet may have items
  pub some : 0 < s.count
  pub most : s.count ≤ most_items
  -- values in range, and places not in use as document 01 says
  pub used : (v : ℕ) → v < s.count → ValidVertex (vertex_at s v)
  pub unused : (v : ℕ) → v < 64 → s.count ≤ v → vertex_at s v ≡ unused_vertex
  -- edges run between vertices of the setup, so that a place not in use has empty rows; a recovery edge stands in both graphs
  pub ends : (f v c : ℕ) → Edge s.graph f v c → (f < s.count) × (v < s.count)
  pub marked : (f v c : ℕ) → Edge s.recovery f v c → Edge s.graph f v c
  -- at most 256 edges, 14 initial and 14 losable vertices
  pub edges : edge_count s.graph ≤ most_edges
  pub initial : chosen_count false s ≤ most_chosen
  pub losable : chosen_count true s ≤ most_chosen
  -- only vertices of the setup are held, and opened is what they open (document 02, point 8), not merely a set that is closed
  pub holds : Inside s s.held.0
  pub opens : AccessFrom s.graph s.held.0 s.opened.0
