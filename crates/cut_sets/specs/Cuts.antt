-- Cut sets, and what the smallest of them are to the access base (document 02, point 13).
use Rattle.std.specs.Prelude.{◌≡◌, false, List, [], ◌∷◌, ℕ, ◌≤◌, ◌<◌, length}
use Rattle.vertex_set.specs.Set.{Member, Meets, Iff}
use Rattle.vertex_set.specs.Order.{Listed, Smallest, ListsExactly}
use Rattle.setup.specs.declared.Setup.{Setup}
use Rattle.setup.specs.Setup.{Chosen}
use Rattle.formed.specs.WellFormed.{WellFormed}
use Rattle.derivations.specs.Access.{HasAccess}
use Rattle.bases.specs.Base.{Base}
use Rattle.antichains.specs.Antichains.{most_sets}
use Rattle.forecasts.specs.Forecast.{Forecast}

-- x is a cut set of the target: a set of initial vertices without which the rest of them do not open it. The vertices of x stay in the graph,
-- where the rest may open them again.
pub record CutSet (s : Setup) (target x : ℕ) : Type 0 where
  pub chosen : (v : ℕ) → Member x v → Chosen false s v
  pub shut : HasAccess s.graph (λ v. Chosen false s v × (Member x v → ⊥)) target → ⊥

-- cuts is the target's list of cut sets: exactly the smallest ones, each once, fewer vertices first, then the smaller number.
abbrev pub CutList : Setup → ℕ → List ℕ → Type 0
CutList s target cuts = ListsExactly (Smallest (CutSet s target)) cuts

-- x meets every set of which P holds.
pub record MeetsEvery (P : ℕ → Type 0) (x : ℕ) : Type 0 where
  pub each : (y : ℕ) → P y → Meets x y

-- x is a set of initial vertices that meets every set of the list.
pub record Transversal (s : Setup) (l : List ℕ) (x : ℕ) : Type 0 where
  pub chosen : (v : ℕ) → Member x v → Chosen false s v
  pub meets : MeetsEvery (Listed l) x

-- How the smallest cut sets and the access base determine each other.
pub record Duality (s : Setup) (target : ℕ) (cuts : List ℕ) : Type 0 where
  -- the smallest cut sets are exactly the smallest sets of initial vertices that meet every set of the access base
  pub transversals : (l : List ℕ) → Base false s s.graph target l → ListsExactly (Smallest (Transversal s l)) cuts
  -- the smallest sets that meet every cut set are the access base again, and so are the smallest that meet every listed one
  pub again : (l : List ℕ) → Base false s s.graph target l → ListsExactly (Smallest (MeetsEvery (CutSet s target))) l
  pub again_listed : (l : List ℕ) → Base false s s.graph target l → ListsExactly (Smallest (MeetsEvery (Listed cuts))) l
  -- where nothing opens the target, the one smallest cut set is the empty one
  pub empty : (HasAccess s.graph (Chosen false s) target → ⊥) → cuts ≡ 0 ∷ []
  -- the list is never empty
  pub some : 0 < length cuts
  -- the forecast for the access base is enough for the list of cut sets too
  pub forecast : (counted n : ℕ) → Forecast s target counted n → length cuts ≤ n

-- ---- theorems

-- The duality holds of every target of every well-formed setup.
abbrev pub DualityHolds : Type 0
DualityHolds = (s : Setup) (target : ℕ) (cuts : List ℕ) → WellFormed s → CutList s target cuts → Duality s target cuts

-- The cut sets, all of them and not only the smallest, are the sets of initial vertices that meet every set of the access base.
abbrev pub CutsMeetBase : Type 0
CutsMeetBase = (s : Setup) (target : ℕ) (l : List ℕ) → WellFormed s → Base false s s.graph target l → (x : ℕ) → Iff (CutSet s target x) (Transversal s l x)

-- No list of cut sets of a well-formed setup has more than 3,432 sets.
abbrev pub LongestCuts : Type 0
LongestCuts = (s : Setup) (target : ℕ) (cuts : List ℕ) → WellFormed s → CutList s target cuts → length cuts ≤ most_sets
