-- Inner: the blocks of a table. A mask's low ten bits are its lane within a block, the others the block's number.
use Rattle.std.specs.Prelude.{◌≡◌, List, Option, Some, ℕ, ◌+◌, ◌*◌, ◌<◌, length, get_or}
use Rattle.vertex_set.specs.Set.{Member, Iff}
use Rattle.derivations.specs.Derivation.{Vertices, Rule, Derivation}
use Rattle.families.specs.Inner.Family.{family_words}
use Rattle.families.specs.Inner.Masks.{place_among, Picked}
use Rattle.family_words.specs.Inner.Words.{part_words}
use Rattle.lanes.specs.Inner.Lanes.{Lane, block_words}
use Rattle.tables.specs.Inner.Table.{table_words}

-- The bits of a mask that tell its lane within a block, the masks of a block, and the blocks of a table.
abbrev pub block_bits : ℕ
block_bits = 10

abbrev pub block_masks : ℕ
block_masks = 1024

abbrev pub table_blocks : ℕ
table_blocks = 16

-- v is the chosen vertex at bit k of every mask.
abbrev pub AtPlace : ℕ → ℕ → Vertices
AtPlace chosen k v = Member chosen v × (place_among chosen v ≡ k)

-- r is the chosen vertex at bit k, if there is one.
pub record VertexAt (chosen k : ℕ) (r : Option ℕ) : Type 0 where
  pub place : (v : ℕ) → r ≡ Some v → v < 64
  pub each : (v : ℕ) → Iff (AtPlace chosen k v) (r ≡ Some v)

-- x is a block that has the words of block b of the table w. A place past the end of either list reads as 0.
pub record BlockOf (w : List ℕ) (b : ℕ) (x : List ℕ) : Type 0 where
  pub words : length x ≡ block_words
  pub each : (v j : ℕ) → j < part_words → get_or x (v * part_words + j) 0 ≡ get_or w (v * family_words + (b * part_words + j)) 0

-- x has become block b of the table, and the other blocks are as before.
pub record PutBlock (x : List ℕ) (b : ℕ) (w e : List ℕ) : Type 0 where
  pub words : length e ≡ table_words
  pub own : BlockOf e b x
  pub other : (q v j : ℕ) → q < table_blocks → (q ≡ b → ⊥) → j < part_words
      → get_or e (v * family_words + (q * part_words + j)) 0 ≡ get_or w (v * family_words + (q * part_words + j)) 0

-- The lanes of x have what is derivable from the sets of the masks of block b.
pub record Block (r : Rule) (chosen b : ℕ) (x : List ℕ) : Type 0 where
  pub words : length x ≡ block_words
  pub each : (j i v : ℕ) → j < part_words → i < 64 → Iff (Lane x j i v) (Derivation r (Picked chosen (b * block_masks + (j * 64 + i))) v)

-- So it is in the blocks of the table w whose numbers are below n.
pub record TableBelow (r : Rule) (chosen n : ℕ) (w : List ℕ) : Type 0 where
  pub words : length w ≡ table_words
  pub each : (b j i v : ℕ) → b < n → j < part_words → i < 64
      → Iff (Member (get_or w (v * family_words + (b * part_words + j)) 0) i) (Derivation r (Picked chosen (b * block_masks + (j * 64 + i))) v)
