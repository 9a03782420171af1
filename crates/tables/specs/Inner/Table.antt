-- Tables of all subsets: for a graph and a set of chosen vertices, which vertices have a derivation from which mask's set.
use Rattle.std.specs.Prelude.{List, ℕ, ◌+◌, ◌*◌, ◌/◌, ◌%◌, ◌<◌, get_or}
use Rattle.vertex_set.specs.Set.{Member, Iff}
use Rattle.derivations.specs.Derivation.{Rule, Derivation}
use Rattle.families.specs.Inner.Masks.{Picked}
use Rattle.families.specs.Inner.Exact as exact
use Rattle.families.specs.Inner.Family.{family_words, masks}

-- The words of a table: those of a family for each of 64 vertices.
abbrev pub table_words : ℕ
table_words = 64 * family_words

-- w is the table of the rule r and the chosen vertices: bit m % 64 of word m / 64 of the vertex v says whether v has a derivation
-- from the set that the mask m stands for.
pub record Table (r : Rule) (chosen : ℕ) (w : List ℕ) : Type 0 where
  pub each : (v m : ℕ) → v < 64 → m < masks → Iff (Member (get_or w (v * family_words + m / 64) 0) (m % 64)) (Derivation r (Picked chosen m) v)

-- f is the family of the masks from whose sets v has a derivation.
abbrev pub FamilyOfVertex : Rule → ℕ → ℕ → List ℕ → Type 0
FamilyOfVertex r chosen v f = exact.FamilyOf chosen (λ held. Derivation r held v) f
