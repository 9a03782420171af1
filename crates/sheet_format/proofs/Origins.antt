-- Lines that are passed are the lines of the rows that were read from them, and those rows are valid.
-- Assumes nothing.
use mathlib.Core.Path.{◌≡◌, refl, sym, ap, ap₂, ◌∙◌, subst}
use mathlib.Core.List.{List, [], ◌∷◌, ◌++◌, map, map-append, append_assoc, append-nil}
use mathlib.Core.Bool.{true, ◌&&◌}
use Prim.Native.Nat.{ℕ, suc, ◌+◌, ◌≤◌}
use native.Mathlib.Omega.{arith}
use lib.ListN.{length, length-append}
use lib.Dec.{leb}
use borrow.Author.Tests.{leb-true}
use Rattle.vertex_set.proofs.Cases.{false-true}
use Rattle.setup.specs.Setup.{given, total}
use Rattle.sheet_format.specs.Text.{is_empty, fields_of}
use Rattle.sheet_format.specs.Rows.{ItemRow, EdgeRow, Doc, SameName, SameEdge, ValidItem, ValidEdge, start_count, loss_count, first_header, second_header}
use Rattle.sheet_format.specs.Questions.{question3, question6, question7_item, question7_edge, question8, question9, question10, is_known, item_of, edge_of}
use Rattle.sheet_format.specs.Read.{Phase, AtFirstHeader, AmongItems, AtSecondHeader, AmongEdges, Place, no_rows, item_questions, edge_questions, questions_of, behind, question11}
use Rattle.sheet_format.specs.Meaning.{start, next, OnlyYeses, Passed}
use Rattle.sheet_format.proofs.Lists.{each_append, apart_more}
use Rattle.setup.proofs.Counts.{total-append}
use Rattle.vertex_set.proofs.Decisions.{and_parts}
use Rattle.sheet_format.proofs.Tests.{text-decided, known-decided, fresh-decided, single-decided}
use Rattle.sheet_format.proofs.Rows.{item_line, item-read, item-line, edge_line, NamedEdge, edge-read, edge-line}
use Rattle.sheet_format.proofs.Documents.{doc_lines, ItemsHold, EdgesHold}

-- ---- one row more

items-none : ItemsHold []
unfolding start_count loss_count
items-none = record { most = omega arith; items = tt; names = tt; starts = omega arith; losses = omega arith }

edges_none : (xs : List ItemRow) → EdgesHold xs []
edges_none xs = record { edges = tt; rows = tt; many = omega arith }

items_more : (d : Doc) (x : ItemRow) → ItemsHold d.items → ValidItem x → question6 d x ≡ true → question7_item d x ≡ true → ItemsHold (d.items ++ (x ∷ []))
unfolding question6 question7_item start_count loss_count
items_more d x h v q6 q7 =
    let p = and_parts (leb (suc (length d.items)) 64 && leb (start_count d.items + given x.start) 14) (leb (loss_count d.items + given x.loss) 14) q7 in
    let r = and_parts (leb (suc (length d.items)) 64) (leb (start_count d.items + given x.start) 14) p.0 in
    let a = leb-true (suc (length d.items)) 64 r.0 in
    let b = leb-true (total (λ y. given y.start) d.items + given x.start) 14 r.1 in
    let c = leb-true (total (λ y. given y.loss) d.items + given x.loss) 14 p.1 in
    record {
      most = rw (length-append d.items (x ∷ [])) (omega arith);
      items = each_append ValidItem d.items (x ∷ []) h.items (v, tt);
      names = apart_more SameName d.items x h.names ((fresh-decided d.items x).yes q6);
      starts = rw (total-append (λ y. given y.start) d.items (x ∷ [])) (omega arith);
      losses = rw (total-append (λ y. given y.loss) d.items (x ∷ [])) (omega arith);
    }

edges_more : (d : Doc) (e : EdgeRow) → EdgesHold d.items d.edges → NamedEdge e → question8 d e ≡ true → question9 d e ≡ true → question7_edge d ≡ true → EdgesHold d.items (d.edges ++ (e ∷ []))
unfolding question8 question9 question7_edge
edges_more d e h n q8 q9 q7 =
    let k = and_parts (is_known d.items e.from) (is_known d.items e.to) q8 in
    let m = leb-true (suc (length d.edges)) 256 q7 in
    record {
      edges = each_append (ValidEdge d.items) d.edges (e ∷ []) h.edges (
        record {
          from = (known-decided d.items e.from).yes k.0;
          to = (known-decided d.items e.to).yes k.1;
          colour = n.colour;
        },
        tt,
      );
      rows = apart_more SameEdge d.edges e h.rows ((single-decided d.edges e).yes q9);
      many = rw (length-append d.edges (e ∷ [])) (omega arith);
    }

-- ---- the lines above a place

-- What the rows above a place are known to be.
abbrev Holds : Phase → Doc → Type 0
Holds AtFirstHeader d = d ≡ no_rows
Holds AmongItems d = ItemsHold d.items × (d.edges ≡ [])
Holds AtSecondHeader d = ItemsHold d.items × (1 ≤ length d.items) × (d.edges ≡ [])
Holds AmongEdges d = ItemsHold d.items × (1 ≤ length d.items) × EdgesHold d.items d.edges

-- The lines above a place, from the rows.
abbrev lines_above : Phase → Doc → List (List ℕ)
lines_above AtFirstHeader d = []
lines_above AmongItems d = first_header ∷ map item_line d.items
lines_above AtSecondHeader d = first_header ∷ (map item_line d.items ++ ([] ∷ []))
lines_above AmongEdges d = doc_lines d

-- The place q behind the line: the same is known there, and the lines above are one more.
record Behind (p : Phase) (d : Doc) (line : List ℕ) (q : Place) : Type 0 where
  holds : Holds q.phase q.above
  lines : lines_above q.phase q.above ≡ lines_above p d ++ (line ∷ [])

line-behind : (p : Phase) (d : Doc) (line : List ℕ) → Holds p d → OnlyYeses (questions_of p d line) → Behind p d line (behind p d line)
unfolding questions_of behind item_questions edge_questions is_empty question3 question10
line-behind AtFirstHeader d line h y =
    record {
      holds = (subst (λ (r : Doc). ItemsHold r.items) (sym h) items-none, ap (λ (r : Doc). r.edges) h);
      lines = ap₂ ◌∷◌ (sym ((text-decided line first_header).yes y.0)) (ap (λ (r : Doc). map item_line r.items) h);
    }
line-behind AmongItems d [] h y = record { holds = (h.0, leb-true 1 (length d.items) y.0, h.1); lines = refl }
line-behind AmongItems d (b ∷ l) h y =
    let r = item-read (fields_of (b ∷ l)) y.0 y.1.0 in
    let x = item_of (fields_of (b ∷ l)) in
    record {
      holds = (items_more d x h.0 r.valid y.1.1.0 y.1.1.1.0, h.1);
      lines = ap (λ (m : List (List ℕ)). first_header ∷ m)
          (map-append item_line d.items (x ∷ []) ∙ ap (λ (z : List ℕ). map item_line d.items ++ (z ∷ [])) (item-line (b ∷ l) r.fields));
    }
line-behind AtSecondHeader d line h y =
    record {
      holds = (h.0, h.1, subst (EdgesHold d.items) (sym h.2) (edges_none d.items));
      lines = ap (λ (m : List (List ℕ)). first_header ∷ m)
          (ap₂ (λ (z : List ℕ) (es : List EdgeRow). map item_line d.items ++ ([] ∷ z ∷ map edge_line es)) (sym ((text-decided line second_header).yes y.0)) h.2 ∙
          sym (append_assoc (map item_line d.items) ([] ∷ []) (line ∷ [])));
    }
line-behind AmongEdges d line h y =
    let r = edge-read (fields_of line) y.0 y.1.0 in
    let e = edge_of (fields_of line) in
    record {
      holds = (h.0, h.1, edges_more d e h.2 r.valid y.1.1.0 y.1.1.1.0 y.1.1.1.1.0);
      lines = ap (λ (m : List (List ℕ)). first_header ∷ m)
          (ap (λ (m : List (List ℕ)). map item_line d.items ++ ([] ∷ second_header ∷ m))
          (map-append edge_line d.edges (e ∷ []) ∙ ap (λ (z : List ℕ). map edge_line d.edges ++ (z ∷ [])) (edge-line line r.fields)) ∙
          sym (append_assoc (map item_line d.items) ([] ∷ second_header ∷ map edge_line d.edges) (line ∷ [])));
    }

-- Lines that lead from the place p to the place q.
record Reached (p : Place) (ls : List (List ℕ)) (q : Place) : Type 0 where
  holds : Holds q.phase q.above
  lines : lines_above q.phase q.above ≡ lines_above p.phase p.above ++ ls

reached : (p : Place) (ls : List (List ℕ)) (q : Place) → Holds p.phase p.above → Passed p ls q → Reached p ls q
reached p [] q h e =
    record {
      holds = subst (λ (r : Place). Holds r.phase r.above) e h;
      lines = ap (λ (r : Place). lines_above r.phase r.above) (sym e) ∙ sym (append-nil (lines_above p.phase p.above));
    }
reached p (line ∷ ls) q h s =
    let b = line-behind p.phase p.above line h s.0 in
    let r = reached (next p line) ls q b.holds s.1 in
    record {
      holds = r.holds;
      lines = r.lines ∙ ap (λ (m : List (List ℕ)). m ++ ls) b.lines ∙ append_assoc (lines_above p.phase p.above) (line ∷ []) ls;
    }

-- Where the second header has come, all lines are those of the rows read, which are valid but for the text's length.
pub record Origin (ls : List (List ℕ)) (d : Doc) : Type 0 where
  pub items : ItemsHold d.items
  pub some : 1 ≤ length d.items
  pub edges : EdgesHold d.items d.edges
  pub lines : ls ≡ doc_lines d

origin-at : (ls : List (List ℕ)) (p : Phase) (d : Doc) → question11 p ≡ true → Reached start ls (record { phase = p; above = d }) → Origin ls d
unfolding question11
origin-at ls AtFirstHeader d e r = absurd (false-true e)
origin-at ls AmongItems d e r = absurd (false-true e)
origin-at ls AtSecondHeader d e r = absurd (false-true e)
origin-at ls AmongEdges d e r =
    record { items = r.holds.0; some = r.holds.1; edges = r.holds.2; lines = sym r.lines }

pub origin : (ls : List (List ℕ)) (q : Place) → Passed start ls q → question11 q.phase ≡ true → Origin ls q.above
origin ls q s e = origin-at ls q.phase q.above e (reached start ls q refl s)
