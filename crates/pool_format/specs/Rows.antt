-- Pooled rows (document 02, "Two labs pool"): the rows of two sheets as those of one.
use Rattle.std.specs.Prelude.{◌≡◌, List, [], ◌∷◌, ◌++◌, map, Bool, false, cond, ◌&&◌, ◌||◌, ℕ, zero, suc, ◌≤◌, length, eqb}
use Rattle.setup.specs.Bounds.{most_items, highest_colour, most_edges, most_chosen}
use Rattle.sheet_format.specs.Text.{same_text}
use Rattle.sheet_format.specs.Rows.{ItemRow, EdgeRow, Doc, Each, SameName, vertex_of, start_count, loss_count}
use Rattle.sheet_format.specs.Questions.{is_known}

-- ---- items

-- Items with equal names agree in all four fields after the name.
abbrev pub Agree : List ItemRow → List ItemRow → Type 0
Agree xs ys = Each (λ x. Each (λ y. SameName x y → vertex_of x ≡ vertex_of y) ys) xs

-- The second sheet's remaining items: those whose names the first has not.
unfoldable pub remaining : List ItemRow → List ItemRow → List ItemRow
remaining xs [] = []
remaining xs (y ∷ ys) = cond (is_known xs y.name) (remaining xs ys) (y ∷ remaining xs ys)

-- ---- colours

-- Is c a colour of the edges into the item n?
unfoldable pub uses_colour : List EdgeRow → List ℕ → ℕ → Bool
uses_colour [] n c = false
uses_colour (e ∷ es) n c = (same_text e.to n && eqb e.colour c) || uses_colour es n c

-- Of the m numbers from k on the lowest that is not taken; k + m where all are.
unfoldable pub lowest_free : (ℕ → Bool) → ℕ → ℕ → ℕ
lowest_free taken k zero = k
lowest_free taken k (suc m) = cond (taken k) (lowest_free taken (suc k) m) k

-- Is the colour k used for the item n by the first sheet's edges, or by the renaming of one of the second sheet's colours below c?
-- The first sheet uses at most 8 and the renamings of colours below c at most 7, so that one of 16 numbers is free.
unfoldable pub is_taken : List EdgeRow → List EdgeRow → List ℕ → ℕ → ℕ → Bool
is_taken es fs n zero k = uses_colour es n k
is_taken es fs n (suc c) k = is_taken es fs n c k || (uses_colour fs n c && eqb (lowest_free (is_taken es fs n c) 0 16) k)

-- What the second sheet's colour c of the item n becomes: the lowest that neither the first sheet nor an earlier renaming uses for it.
unfoldable pub new_colour : List EdgeRow → List EdgeRow → List ℕ → ℕ → ℕ
new_colour es fs n c = lowest_free (is_taken es fs n c) 0 16

-- ---- the rows

-- A row of the second sheet: for an item in both the colour is renamed.
unfoldable pub recoloured : Doc → Doc → EdgeRow → EdgeRow
recoloured d e x =
    record {
      from = x.from;
      to = x.to;
      colour = cond (is_known d.items x.to) (new_colour d.edges e.edges x.to x.colour) x.colour;
      rec = x.rec;
    }

-- The first sheet's items come first, then the other's remaining ones; all edges of the first, then all of the other, in row order.
unfoldable pub pooled : Doc → Doc → Doc
pooled d e = record { items = d.items ++ remaining d.items e.items; edges = d.edges ++ map (recoloured d e) e.edges }

-- The bounds, and no ninth colour.
pub record Fits (p : Doc) : Type 0 where
  pub most : length p.items ≤ most_items
  pub starts : start_count p.items ≤ most_chosen
  pub losses : loss_count p.items ≤ most_chosen
  pub many : length p.edges ≤ most_edges
  pub colours : Each (λ (x : EdgeRow). x.colour ≤ highest_colour) p.edges
