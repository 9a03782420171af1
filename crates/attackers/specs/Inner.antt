-- What the inner functions answer. Nothing of this has to be believed: the contract of the call does not cite it.
use Rattle.std.specs.Prelude.{◌≡◌, List, ◌⊎◌, ℕ, ◌≤◌, ◌<◌, get_or}
use Rattle.vertex_set.specs.Set.{Member, Iff}
use Rattle.setup.specs.declared.Graph.{Graph}
use Rattle.derivations.specs.Access.{HasAccess}
use Rattle.attackers.specs.Attackers.{KindAtMost}

-- a and b are two of the six kinds, and a is at most b.
pub record BothAtMost (a b : ℕ) : Type 0 where
  pub first : a < 6
  pub second : b < 6
  pub is : KindAtMost a b

-- a and b are two of the six kinds, and a is below b.
pub record BothWeaker (a b : ℕ) : Type 0 where
  pub at_most : BothAtMost a b
  pub other : a ≡ b → ⊥

-- The entry of each vertex of the set is one of the six kinds.
pub record FitOver (kinds : List ℕ) (initial : ℕ) : Type 0 where
  pub each : (v : ℕ) → Member initial v → get_or kinds v 0 ≤ 5

-- v is one of these vertices, and its kind at most t.
abbrev pub OfKind : List ℕ → ℕ → ℕ → ℕ → Type 0
OfKind kinds initial t v = Member initial v × BothAtMost (get_or kinds v 0) t

-- r is the set of these vertices whose kind is at most t.
pub record HeldBy (kinds : List ℕ) (initial t r : ℕ) : Type 0 where
  pub each : (v : ℕ) → Iff (Member r v) (OfKind kinds initial t v)

-- Those of these vertices whose kind is at most t open the target.
abbrev pub KindOpens : Graph → List ℕ → ℕ → ℕ → ℕ → Type 0
KindOpens g kinds initial target t = HasAccess g (OfKind kinds initial t) target

-- The kind j settles the kind t: it gets in and is at most t, or it does not and t is at most it.
abbrev pub SettlesKind : ℕ → ℕ → ℕ → ℕ → Type 0
SettlesKind able unable j t = (Member able j × BothAtMost j t) ⊎ (Member unable j × BothAtMost t j)

-- Some kind settles the kind t.
pub record KindSettled (able unable t : ℕ) : Type 0 where
  pub attacker : ℕ
  pub settles : SettlesKind able unable attacker t

-- Of the six kinds in the set, some is below k.
pub record SomeWeaker (set k : ℕ) : Type 0 where
  pub attacker : ℕ
  pub member : Member set attacker
  pub weaker : BothWeaker attacker k

-- r has kinds with the property, none of which has another such kind below; and below each of the six that has it there is one of r, or it is one.
pub record LowestKinds (P : ℕ → Type 0) (r : ℕ) : Type 0 where
  pub is : (k : ℕ) → Member r k → (k < 6) × P k
  pub lowest : (k j : ℕ) → Member r k → P j → BothWeaker j k → ⊥
  pub cover : (j : ℕ) → j < 6 → P j → (i : ℕ) × Member r i × BothAtMost i j

-- r has the lowest kinds whose vertices open the target.
abbrev pub LowestOpen : Graph → List ℕ → ℕ → ℕ → ℕ → Type 0
LowestOpen g kinds initial target r = LowestKinds (KindOpens g kinds initial target) r
