-- Rows that stand in other rows under one colour for each: what opens by the ones opens by the others, items taken by name.
-- Assumes nothing.
use mathlib.Core.Path.{◌≡◌, refl, sym, ap, ◌∙◌, subst}
use mathlib.Core.Bool.{true}
use mathlib.Core.List.{List, [], ◌∷◌}
use mathlib.Core.Logic.{inl, inr}
use Prim.Native.Nat.{ℕ, zero, suc, ◌<◌}
use lib.Dec.{eqb, ltb}
use borrow.Author.Tests.{ltb-true}
use Rattle.vertex_set.specs.Set.{Member}
use Rattle.vertex_set.proofs.Sets.{not-empty, some-member}
use Rattle.setup.specs.Setup.{row}
use Rattle.derivations.specs.Derivation.{Vertices}
use Rattle.derivations.specs.Access.{Step, Opens, access, HasAccess}
use Rattle.derivations.proofs.Rules.{held, closed, least}
use Rattle.derivations.proofs.Graphs.{access-lawful}
use Rattle.sheet_format.specs.Read.{Reading}
use Rattle.sheet_format.specs.Rows.{ItemRow, EdgeRow, Doc, Known, ValidEdge, Valid, render, number_in, setup_of}
use Rattle.sheet_format.specs.Stated.{StandsAt, Joins}
use Rattle.sheet_format.specs.Read.{read_sheet, accepted}
use Rattle.sheet_format.specs.Names.{has_item, name_of}
use Rattle.vertex_set.proofs.Decisions.{and_parts}
use Rattle.sheet_format.proofs.Meaning.{accepted-of-valid}
use Rattle.sheet_format.proofs.Question12Lists.{In, of-each}
use Rattle.sheet_format.proofs.Stated.{stands-below, at_place, stands-in, in-stands, number-stands, stated-by-rows, name_in}
use Rattle.sheet.proofs.Names.{item-there, names-of-rows}
use Rattle.pool_format.specs.Meaning.{SameItem, ByName, KeepsItems, KeepsOpening}

-- ---- the items of the written form of valid rows

stands-known : (xs : List ItemRow) (i : ℕ) (x : ItemRow) → StandsAt xs i x → Known xs x.name
stands-known [] i x h = absurd h
stands-known (y ∷ ys) zero x h = inl (ap (λ (z : ItemRow). z.name) h)
stands-known (y ∷ ys) (suc i) x h = inr (stands-known ys i x h)

module _ (d : Doc) (v : Valid d) where
  has-at : (i : ℕ) (x : ItemRow) → StandsAt d.items i x → has_item (render d) i ≡ true
  unfolding setup_of
  has-at i x h = item-there (render d) i (accepted (setup_of d)) (sym (accepted-of-valid d v)) refl (stands-below d.items i x h)

  name-at : (i : ℕ) (x : ItemRow) → StandsAt d.items i x → name_of (render d) i ≡ x.name
  name-at i x h = names-of-rows d v i (stands-below d.items i x h) ∙ name_in d.items i x h

  at_item : (i : ℕ) → has_item (render d) i ≡ true → (x : ItemRow) × StandsAt d.items i x
  unfolding has_item setup_of
  at_item i h =
      let p = and_parts (eqb (read_sheet (render d)).number 0) (ltb i (read_sheet (render d)).setup.count) h in
      let l = ltb-true i (read_sheet (render d)).setup.count p.1 in
      at_place d.items i (subst (λ (r : Reading). i < r.setup.count) (accepted-of-valid d v) l)

  graph-of : (read_sheet (render d)).setup.graph ≡ (setup_of d).graph
  graph-of = ap (λ (r : Reading). r.setup.graph) (accepted-of-valid d v)

-- ---- rows that stand in others

-- Each item of d is one of p by name. Each edge row of d stands in p under a colour that it has from its item and its own colour, and every
-- row of p into that item under that colour comes from a row of d into the item under the row's own colour.
pub record Carries (d p : Doc) : Type 0 where
  pub known : (n : List ℕ) → Known d.items n → Known p.items n
  pub colour : List ℕ → ℕ → ℕ
  pub forth : (x : EdgeRow) → In x d.edges → (y : EdgeRow) × In y p.edges × (y.from ≡ x.from) × (y.to ≡ x.to) × (y.colour ≡ colour x.to x.colour)
  pub back : (x y : EdgeRow) → In x d.edges → In y p.edges → y.to ≡ x.to → y.colour ≡ colour x.to x.colour
      → (z : EdgeRow) × In z d.edges × (z.from ≡ y.from) × (z.to ≡ x.to) × (z.colour ≡ x.colour)

module _ (d p : Doc) (v : Valid d) (w : Valid p) (carry : Carries d p) where
  same_item : (i j : ℕ) (x y : ItemRow) → StandsAt d.items i x → StandsAt p.items j y → x.name ≡ y.name → SameItem (render d) (render p) i j
  same_item i j x y a b e = record { has = has-at d v i x a; has_too = has-at p w j y b; name = name-at d v i x a ∙ e ∙ sym (name-at p w j y b) }

  -- the item of p with a name of d
  there : (n : List ℕ) → Known d.items n → (y : ItemRow) × StandsAt p.items (number_in p.items n) y × (n ≡ y.name)
  there n k = number-stands p.items n (carry.known n k)

  pub keeps-items : KeepsItems (render d) (render p)
  keeps-items i h =
      let x = at_item d v i h in
      let y = there x.0.name (stands-known d.items i x.0 x.1) in
      (number_in p.items x.0.name, same_item i (number_in p.items x.0.name) x.0 y.0 x.1 y.1 y.2)

  abbrev Opened : ℕ → Vertices
  Opened set j = HasAccess (setup_of p).graph (ByName (render d) (render p) (Member set)) j

  -- What each item of d with the name of an item of p is to have.
  abbrev Both : ℕ → Vertices
  Both set i = (j : ℕ) → SameItem (render d) (render p) i j → Opened set j

  module _ (set : ℕ) (e : Step) (o : Opens (setup_of d).graph (Both set) e) (j : ℕ) (s : SameItem (render d) (render p) e.vertex j) where
    -- a row of d that makes the colour one
    some : (f : ℕ) × Member (row (setup_of d).graph e.vertex e.colour) f
    some = some-member (row (setup_of d).graph e.vertex e.colour) o.coloured

    joined : (x : EdgeRow) × Joins d some.0 e.vertex e.colour x
    joined = ((stated-by-rows d v).edges some.0 e.vertex e.colour).to some.1

    abbrev x : EdgeRow
    x = joined.0

    inside : In x d.edges
    inside = stands-in d.edges joined.1.place x joined.1.stands

    abbrev new : ℕ
    new = carry.colour x.to x.colour

    target : (y : ItemRow) × StandsAt p.items j y
    target = at_item p w j s.has_too

    -- the row's item, in p
    to-name : x.to ≡ target.0.name
    to-name = joined.1.to ∙ sym (name-at d v e.vertex joined.1.target joined.1.target_at) ∙ s.name ∙ name-at p w j target.0 target.1

    coloured : row (setup_of p).graph j new ≡ 0 → ⊥
    coloured =
        let y = carry.forth x inside in
        let known = (of-each (ValidEdge d.items) d.edges v.edges x inside).from in
        let f = there x.from known in
        let at = in-stands p.edges y.0 y.1 in
        not-empty (row (setup_of p).graph j new) (number_in p.items x.from)
        (((stated-by-rows p w).edges (number_in p.items x.from) j new).from (
          y.0,
          record {
            place = at.0;
            stands = at.1;
            source = f.0;
            source_at = f.1;
            target = target.0;
            target_at = target.1;
            from = y.2 ∙ f.2;
            to = y.3 ∙ to-name;
            colour = y.4;
          },
        ))

    complete : (i : ℕ) → Member (row (setup_of p).graph j new) i → Opened set i
    complete i m =
        let q = ((stated-by-rows p w).edges i j new).to m in
        let y = q.0 in
        let k = q.1 in
        let name : y.to ≡ x.to = k.to ∙ sym (name-at p w j k.target k.target_at) ∙ name-at p w j target.0 target.1 ∙ sym to-name in
        let z = carry.back x y inside (stands-in p.edges k.place y k.stands) name k.colour in
        let known = (of-each (ValidEdge d.items) d.edges v.edges z.0 z.1).from in
        let f = number-stands d.items z.0.from known in
        let at = in-stands d.edges z.0 z.1 in
        let edge = ((stated-by-rows d v).edges (number_in d.items z.0.from) e.vertex e.colour).from (
          z.0,
          record {
            place = at.0;
            stands = at.1;
            source = f.0;
            source_at = f.1;
            target = joined.1.target;
            target_at = joined.1.target_at;
            from = f.2;
            to = z.3 ∙ joined.1.to;
            colour = z.4 ∙ joined.1.colour;
          },
        ) in
        o.complete (number_in d.items z.0.from) edge i
        (same_item (number_in d.items z.0.from) i f.0 k.source f.1 k.source_at (sym f.2 ∙ z.2 ∙ k.from))

    opened : Opened set j
    opened =
        closed (access (setup_of p).graph) (access-lawful (setup_of p).graph) (ByName (render d) (render p) (Member set)) (record { vertex = j; colour = new })
        (record { coloured = coloured; complete = complete })

  pub keeps-opening : KeepsOpening (render d) (render p)
  keeps-opening set i j s h =
      rw (graph-of p w)
      (least (access (setup_of d).graph) (access-lawful (setup_of d).graph) (Member set) (Both set)
      (λ u m k t. held (access (setup_of p).graph) (ByName (render d) (render p) (Member set)) k (u, m, t))
      (λ e o k t. opened set e o k t)
      i (rw (graph-of d v) at h) j s)
