-- Inner: what the functions below fill do to the lanes of a block.
use Rattle.std.specs.Prelude.{◌≡◌, Bool, true, false, not, cond, List, ◌⊎◌, ℕ, ◌+◌, ◌*◌, ◌≤◌, ◌<◌, eqb, length}
use Rattle.vertex_set.specs.Set.{Member, Iff}
use Rattle.setup.specs.declared.Rows.{Rows}
use Rattle.setup.specs.declared.Graph.{Graph}
use Rattle.setup.specs.Setup.{rows_at}
use Rattle.derivations.specs.Derivation.{Vertices, Rule, Derivation}
use Rattle.derivations.specs.Both.{rule_of}
use Rattle.derivations.specs.Inner.Admits.{Admits}
use Rattle.families.specs.Inner.Masks.{Picked}
use Rattle.family_words.specs.Inner.Words.{part_words, room}
use Rattle.lanes.specs.Inner.Lanes.{Lane, block_words}

-- The block w has become e: the vertex v was added to each lane that admits it; r says whether one was new.
pub record Stepped (loss : Bool) (rows : Rows) (v : ℕ) (w : List ℕ) (r : Bool) (e : List ℕ) : Type 0 where
  pub words : length e ≡ block_words
  pub each : (b i u : ℕ) → b < part_words → i < 64 → Iff (Lane e b i u) (Lane w b i u ⊎ ((u ≡ v) × Admits loss rows (Lane w b i)))
  pub same : r ≡ false → e ≡ w
  pub more : r ≡ true → room e < room w

-- Up or down: on, while there is something later that way, else back.
unfoldable pub way_on : ℕ → Bool → Bool
way_on later up = cond (eqb later 0) (not up) up

-- Going up, u comes as late as v or later; going down, later.
unfoldable pub Later : Bool → ℕ → ℕ → Type 0
Later true v u = v ≤ u
Later false v u = u < v

-- r is the set of the vertices that come later.
pub record Beyond (v : ℕ) (up : Bool) (r : ℕ) : Type 0 where
  pub each : (u : ℕ) → u < 64 → Iff (Member r u) (Later up v u)

-- A vertex that is not in todo is in every lane that admits it.
pub record Quiet (loss : Bool) (g : Graph) (todo : ℕ) (w : List ℕ) : Type 0 where
  pub each : (v : ℕ) → v < 64 → (Member todo v → ⊥) → (b i : ℕ) → b < part_words → i < 64 → Admits loss (rows_at g v) (Lane w b i) → Lane w b i v

-- Each lane of e has the vertices with a derivation from that lane of w.
pub record Closed (r : Rule) (w e : List ℕ) : Type 0 where
  pub words : length e ≡ block_words
  pub each : (b i v : ℕ) → b < part_words → i < 64 → Iff (Lane e b i v) (Derivation r (Lane w b i) v)

-- Each lane of e is the set that its mask stands for.
pub record Started (chosen : ℕ) (e : List ℕ) : Type 0 where
  pub words : length e ≡ block_words
  pub each : (b i v : ℕ) → b < part_words → i < 64 → Iff (Lane e b i v) (Picked chosen (b * 64 + i) v)

-- Each lane of e has the vertices with a derivation from that lane of w and the vertices of which `more` holds.
pub record Extended (loss : Bool) (g : Graph) (more : Vertices) (w e : List ℕ) : Type 0 where
  pub words : length e ≡ block_words
  pub each : (b i u : ℕ) → b < part_words → i < 64 → Iff (Lane e b i u) (Derivation (rule_of loss g) (λ x. Lane w b i x ⊎ more x) u)
