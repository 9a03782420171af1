-- An example, computed.
use mathlib.Core.Path.{◌≡◌, refl}
use mathlib.Core.Bool.{false}
use mathlib.Core.List.{[], ◌∷◌}
use Prim.Native.Nat.{ℕ}
use Rattle.setup.specs.declared.Kind.TheVariants.{Credential, Account}
use Rattle.std.specs.Prelude.{None, Some}
use Rattle.sheet_format.specs.Text.{same_text}
use Rattle.sheet_format.specs.Rows.{ItemRow, EdgeRow, Doc}
use Rattle.sheet_format.specs.Questions.{is_known}
use Rattle.pool_format.specs.Rows.{remaining, uses_colour, lowest_free, is_taken, new_colour, recoloured, pooled}

abbrev a : ItemRow
a = record { name = 97 ∷ []; kind = Credential; start = Some 1; loss = None; rank = 0 }

abbrev g : ItemRow
g = record { name = 103 ∷ []; kind = Account; start = None; loss = None; rank = 1 }

abbrev h : ItemRow
h = record { name = 104 ∷ []; kind = Credential; start = Some 2; loss = None; rank = 0 }

abbrev edge : ItemRow → ItemRow → ℕ → EdgeRow
edge x y c = record { from = x.name; to = y.name; colour = c; rec = false }

abbrev first : Doc
first = record { items = a ∷ g ∷ []; edges = edge a g 1 ∷ [] }

abbrev second : Doc
second = record { items = g ∷ h ∷ a ∷ []; edges = edge g g 4 ∷ edge h g 0 ∷ edge g h 5 ∷ edge h g 4 ∷ edge a g 1 ∷ [] }

-- the colours 0, 1 and 4 of g become 0, 2 and 3; the edge from a to g is in both, and stands twice; h is not in both, and keeps its colour 5
pub example : pooled first second ≡ record {
  items = a ∷ g ∷ h ∷ [];
  edges = edge a g 1 ∷ edge g g 3 ∷ edge h g 0 ∷ edge g h 5 ∷ edge h g 3 ∷ edge a g 2 ∷ [];
}
unfolding pooled remaining recoloured new_colour is_taken lowest_free uses_colour is_known same_text
example = refl
