-- What the inner functions answer. Nothing of this has to be believed: the contracts of the calls do not cite it.
use Rattle.std.specs.Prelude.{◌≡◌, Option, MatchOption, List, map, ◌⊎◌, ℕ, ◌≤◌, ◌<◌, length}
use Rattle.vertex_set.specs.Set.{Member, Inserted, Iff}
use Rattle.setup.specs.declared.Graph.{Graph}
use Rattle.setup.specs.Setup.{rows_at}
use Rattle.setup.specs.Calls.{written}
use Rattle.derivations.specs.Derivation.{Adds}
use Rattle.derivations.specs.Access.{Step, access, HasAccess, AccessFrom}
use Rattle.derivations.specs.Way.{Way}
use Rattle.derivations.specs.Inner.Admits.{SomeComplete}
use Rattle.successors.specs.Inner.{Successors}

-- ---- the search for the next step

-- v is not held, and has a complete colour: it can be added.
abbrev pub Ready : Graph → ℕ → ℕ → Type 0
Ready g held v = (Member held v → ⊥) × SomeComplete (rows_at g v) (Member held)

-- Of the vertices that can be added to what is held, ready has some, and left has at least the others, none of them held.
pub record Searching (g : Graph) (held ready left : ℕ) : Type 0 where
  pub sound : (v : ℕ) → Member ready v → Ready g held v
  pub outside : (v : ℕ) → Member left v → Member held v → ⊥
  pub whole : (v : ℕ) → Ready g held v → Member ready v ⊎ Member left v

-- The search begins with what the set has. The graph is any that has these successors.
pub record SearchBegun (list : List ℕ) (set held ready left : ℕ) : Type 0 where
  pub same : held ≡ set
  pub search : (g : Graph) → Successors g list → Searching g held ready left

-- The lowest of the vertices that can be added was added, and the search goes on from there.
pub record NextTaken (g : Graph) (held v held' ready' left' : ℕ) : Type 0 where
  pub place : v < 64
  pub ready : Ready g held v
  pub lowest : (u : ℕ) → Ready g held u → v ≤ u
  pub taken : Inserted held v held'
  pub search : Searching g held' ready' left'

-- One step of the search: the vertex that was added, or none, since none can be added.
abbrev pub SearchStepped : Graph → ℕ → Option ℕ → ℕ → ℕ → ℕ → Type 0
SearchStepped g held o held' ready' left' = MatchOption o ((held' ≡ held) × ((u : ℕ) → Ready g held u → ⊥)) (λ v. NextTaken g held v held' ready' left')

-- ---- the way in

-- Where the way in ends. It comes to the target in that many steps, and `held` has the vertices of the set and those of the steps; or nothing derives
-- the target, and `held` is the closure.
abbrev pub WayFollowed : Graph → ℕ → ℕ → Option ℕ → ℕ → Type 0
WayFollowed g target s steps held =
    MatchOption steps ((HasAccess g (Member s) target → ⊥) × AccessFrom g s held)
    (λ count. (d : List Step) × Way g target (Member s) d × (count ≡ length d) × ((v : ℕ) → Iff (Member held v) (Member s v ⊎ Adds (access g) d v)))

-- There is a way in, and both lists have room for it.
pub record WayRoom (g : Graph) (target s : ℕ) (entry entry' : List ℕ) : Type 0 where
  pub steps : List Step
  pub way : Way g target (Member s) steps
  pub first : length steps ≤ length entry
  pub second : length steps ≤ length entry'

-- The way in stands in the lists.
pub record Written (g : Graph) (target s : ℕ) (entry exit entry' exit' : List ℕ) : Type 0 where
  pub each : (d : List Step) → Way g target (Member s) d → (exit ≡ written (map (λ e. e.vertex) d) entry) × (exit' ≡ written (map (λ e. e.colour) d) entry')
