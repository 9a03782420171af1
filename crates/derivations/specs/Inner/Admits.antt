-- Inner: the rows of one vertex admit it, given what is held or lost. Nothing of this has to be believed: the contracts of the calls do not
-- cite it.
use Rattle.std.specs.Prelude.{◌≡◌, Bool, true, false, ℕ}
use Rattle.vertex_set.specs.Set.{Member}
use Rattle.setup.specs.declared.Rows.{Rows}
use Rattle.setup.specs.Setup.{row_of}
use Rattle.derivations.specs.Derivation.{Vertices}
use Rattle.derivations.specs.Lockout.{SomeLost}

-- The row is a colour, which an empty one is not, and lies within what is held.
pub record Complete (held : Vertices) (row : ℕ) : Type 0 where
  pub coloured : row ≡ 0 → ⊥
  pub within : (i : ℕ) → Member row i → held i

-- The row needs a lost vertex, if it is a colour.
abbrev pub Broken : Vertices → ℕ → Type 0
Broken lost row = (row ≡ 0 → ⊥) → SomeLost lost row

-- Some colour of these rows is complete.
pub record SomeComplete (rows : Rows) (held : Vertices) : Type 0 where
  pub colour : ℕ
  pub complete : Complete held (row_of rows colour)

-- These rows have a colour, and every colour of them needs a lost vertex.
pub record AllBroken (rows : Rows) (lost : Vertices) : Type 0 where
  pub colour : ℕ
  pub coloured : row_of rows colour ≡ 0 → ⊥
  pub every : (c : ℕ) → Broken lost (row_of rows c)

-- A vertex with these rows is opened by what is held or, with loss, lost once this is lost.
abbrev pub Admits : Bool → Rows → Vertices → Type 0
Admits false rows held = SomeComplete rows held
Admits true rows lost = AllBroken rows lost
