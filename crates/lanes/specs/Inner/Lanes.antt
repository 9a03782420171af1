-- Lanes of a block: a block has a part of each vertex's family, and the bits at one place of all parts are one set of vertices.
use Rattle.std.specs.Prelude.{Bool, true, false, not, List, ℕ, ◌+◌, ◌-◌, ◌*◌, ◌^◌, get_or}
use Rattle.vertex_set.specs.Set.{Member}
use Rattle.derivations.specs.Derivation.{Vertices}
use Rattle.derivations.specs.Inner.Admits.{Complete, Broken}
use Rattle.family_words.specs.Inner.Words.{Merged, part_words}

-- The words of a block: those of a part for each of 64 vertices.
abbrev pub block_words : ℕ
block_words = 64 * part_words

-- The vertices in whose part bit i of word b is set: vertex v has the words from v * 16 on.
unfoldable pub Lane : List ℕ → ℕ → ℕ → Vertices
Lane w b i v = Member (get_or w (v * part_words + b) 0) i

-- Q holds at all places of S.
pub record AllOf (S Q : ℕ → Type 0) : Type 0 where
  pub each : (v : ℕ) → S v → Q v

-- Q holds at some place of S.
pub record SomeOf (S Q : ℕ → Type 0) : Type 0 where
  pub place : ℕ
  pub is : S place
  pub has : Q place

-- Q holds at all places of S or, with any, at some place of S.
unfoldable pub Over : Bool → (ℕ → Type 0) → (ℕ → Type 0) → Type 0
Over false S Q = AllOf S Q
Over true S Q = SomeOf S Q

-- What a row says of its vertex: it is complete or, with loss, it is broken.
unfoldable pub Colour : Bool → Vertices → ℕ → Type 0
Colour false held row = Complete held row
Colour true lost row = Broken lost row

-- What a part becomes by one colour: what it was or the colour is complete; with loss, what it was and the colour is broken.
abbrev pub Takes : Bool → Type 0 → Vertices → ℕ → Type 0
Takes loss was held row = Merged (not loss) was (Colour loss held row)

-- Each word of a part before any colour is taken in: empty or, with loss, full.
abbrev pub untaken_word : Bool → ℕ
untaken_word false = 0
untaken_word true = 2 ^ 64 - 1
