-- The edge rows of the second sheet, one by one, with their new colours.
-- Assumes nothing.
use mathlib.Core.Path.{◌≡◌, refl, sym, ap, ap₂, ◌∙◌, subst}
use mathlib.Core.Bool.{true, false}
use mathlib.Core.List.{List, [], ◌∷◌, map, nil≢cons, cons≢nil, head-eq_of_cons-eq, tail-eq_of_cons-eq}
use mathlib.Core.Logic.{⊎_elim}
use Prim.Native.Nat.{ℕ, zero, suc, ◌+◌, ◌-◌, ◌≤◌, ◌<◌}
use native.Mathlib.Nat.{not-suc-le-zero}
use native.Mathlib.Numerals.{add-one}
use native.Mathlib.Omega.{arith}
use lib.ListN.{length, get_or, set, take, drop, length-set}
use lib.Seq.{drop-nil, get_or-set_same, get_or-set_other}
use Rattle.vertex_set.proofs.Cases.{same_or}
use Rattle.vertex_set.proofs.Sets.{not-empty, some-member}
use Rattle.setup.specs.declared.Graph.{Graph}
use Rattle.setup.specs.Setup.{rows_at, row}
use Rattle.sheet_format.specs.Text.{lines_of, fields_of}
use Rattle.sheet_format.specs.Rows.{ItemRow, EdgeRow, Doc, ValidEdge, Valid, edge_fields, number_in, setup_of}
use Rattle.sheet_format.specs.Questions.{is_known, edge_of, question8}
use Rattle.sheet_format.specs.Read.{first_no}
use Rattle.sheet_format.specs.Stated.{StandsAt}
use Rattle.vertex_set.proofs.Decisions.{and_both, yes_of}
use Rattle.sheet_format.proofs.Tests.{known-decided}
use Rattle.sheet_format.proofs.Rows.{plain-yes4, edge_line, edge-plain, edge-written, edge-yes5}
use Rattle.sheet_format.proofs.Documents.{named-edge, edge-back}
use Rattle.sheet_format.proofs.Question12Lists.{In, of-each}
use Rattle.sheet_format.proofs.Stated.{stands-in, in-stands, stands-below, number-stands, stated-by-rows}
use Rattle.sheet_fields.specs.Inner.Parts.{until}
use Rattle.sheet_fields.proofs.Lines.{line_at, lines-over}
use Rattle.sheet_rows.specs.declared.taken.TakenEdge.{TakenEdge}
use Rattle.std.specs.Prelude.{Option, Some, None, Result, Err}
use Rattle.std.specs.Option.{MatchOption}
use Rattle.questions.specs.declared.Refusal.{Refusal}
use Rattle.questions.specs.Inner.{asked}
use Rattle.questions.proofs.Refusals.{number_some}
use Rattle.sheet_rows.specs.Inner.Lines.{EdgeTaken, TakesEdge}
use Rattle.pool_format.specs.Rows.{uses_colour, new_colour, recoloured}
use Rattle.pool_format.specs.Inner.{shared_place}
use Rattle.pool_items.proofs.Items.{placed-name, unplaced-name}
use Rattle.pool_format.proofs.Colours.{uses-of, used-by}
use Rattle.pool_format.proofs.Recolouring.{pooled_colour, re-colour}
use Rattle.pool_format.proofs.PooledRows.{in_image}
use Rattle.pool_colours.specs.Inner.Colours.{RowsOfItem, NewColour, Both, EdgeColour, DigitAt, ColoursOf}

-- ---- the rows of an item

stands_same : {A : Type 0} (xs : List A) (i : ℕ) (x y : A) → StandsAt xs i x → StandsAt xs i y → x ≡ y
stands_same [] i x y h k = absurd h
stands_same (z ∷ zs) zero x y h k = sym h ∙ k
stands_same (z ∷ zs) (suc i) x y h k = stands_same zs i x y h k

-- a colour of the item's edges is one whose row is not empty
rows-of-item : (d : Doc) → Valid d → (i : ℕ) (x : ItemRow) → StandsAt d.items i x → RowsOfItem d.edges x.name (rows_at (setup_of d).graph i)
rows-of-item d v i x h = record { each = λ c. record { to = to c; from = from c } }
  where
    to : (c : ℕ) → uses_colour d.edges x.name c ≡ true → row (setup_of d).graph i c ≡ 0 → ⊥
    to c t =
        let u = used-by d.edges x.name c t in
        let k = of-each (ValidEdge d.items) d.edges v.edges u.row u.stands in
        let f = number-stands d.items u.row.from k.from in
        let p = in-stands d.edges u.row u.stands in
        not-empty (row (setup_of d).graph i c) (number_in d.items u.row.from)
        (((stated-by-rows d v).edges (number_in d.items u.row.from) i c).from (
          u.row,
          record {
            place = p.0;
            stands = p.1;
            source = f.0;
            source_at = f.1;
            target = x;
            target_at = h;
            from = f.2;
            to = u.to;
            colour = u.colour;
          },
        ))

    from : (c : ℕ) → (row (setup_of d).graph i c ≡ 0 → ⊥) → uses_colour d.edges x.name c ≡ true
    from c n =
        let m = some-member (row (setup_of d).graph i c) n in
        let q = ((stated-by-rows d v).edges m.0 i c).to m.1 in
        let j = q.1 in
        let name : q.0.to ≡ x.name = j.to ∙ ap (λ (y : ItemRow). y.name) (stands_same d.items i j.target x j.target_at h) in
        rw (name, j.colour) at (uses-of d.edges q.0 (stands-in d.edges j.place q.0 j.stands))

-- ---- one edge row

module _ (d e : Doc) (low high : List ℕ) (count : ℕ) (places : List (Option ℕ)) (first second : Graph) (x : EdgeRow) (line : List ℕ)
    (b : Both d e low high count places first second) (m : In x e.edges) (q : line ≡ edge_line x) where
  valid : ValidEdge e.items x
  valid = of-each (ValidEdge e.items) e.edges b.valid_second.edges x m

  fields : fields_of line ≡ edge_fields x
  fields = ap fields_of q ∙ edge-back x (named-edge e.items x b.valid_second.items valid)

  states : edge_of (fields_of line) ≡ x
  states = ap edge_of fields ∙ edge-written x (named-edge e.items x b.valid_second.items valid)

  -- no question of it is a no
  pub edge-number : (o : Result TakenEdge Refusal) → TakesEdge line low high count o → asked o ≡ 0
  unfolding first_no question8
  edge-number o t =
      let n = named-edge e.items x b.valid_second.items valid in
      let known = and_both (is_known e.items x.from) (is_known e.items x.to)
      (yes_of (is_known e.items x.from) (known-decided e.items x.from) valid.from)
      (yes_of (is_known e.items x.to) (known-decided e.items x.to) valid.to) in
      t.number e b.keys ∙ rw (states, fields, plain-yes4 4 (edge_fields x) refl (edge-plain x n), edge-yes5 x n, known)

  pub edge-never : (y : Refusal) → TakesEdge line low high count (Err y) → ⊥
  edge-never y t = number_some y (edge-number (Err y) t)

  module _ (r : TakenEdge) (t : EdgeTaken line low high count r) where
    to_is : r.to ≡ number_in e.items x.to
    to_is = t.to e.items b.keys ∙ ap (λ (y : EdgeRow). number_in e.items y.to) states

    colour-is : r.colour ≡ x.colour
    colour-is = t.colour ∙ ap (λ (y : EdgeRow). y.colour) states

    -- its item in the second sheet
    own : (y : ItemRow) × StandsAt e.items (number_in e.items x.to) y × (x.to ≡ y.name)
    own = number-stands e.items x.to valid.to

    place_is : get_or places r.to None ≡ shared_place d.items x.to
    place_is = rw to_is (b.placed.each (number_in e.items x.to) own.0 own.1 ∙ ap (shared_place d.items) (sym own.2))

    pub colour-kept : get_or places r.to None ≡ None → r.colour ≡ (recoloured d e x).colour
    unfolding pooled_colour
    colour-kept l =
        let k = unplaced-name d.items x.to (sym place_is ∙ l) in
        colour-is ∙ sym (re-colour d e x ∙ rw k)

    pub colour-renamed : (i : ℕ) (new : Option ℕ) → get_or places r.to None ≡ Some i → NewColour (rows_at first i) (rows_at second r.to) r.colour new
        → MatchOption new (7 < (recoloured d e x).colour) (λ k. k ≡ (recoloured d e x).colour)
    unfolding pooled_colour
    colour-renamed i new l w =
        let p = placed-name d.items x.to i (sym place_is ∙ l) in
        let k = p.0 in
        let there = number-stands d.items x.to ((known-decided d.items x.to).yes k) in
        let there-rows : rows_at first i ≡ rows_at (setup_of d).graph (number_in d.items x.to) =
        ap₂ (λ (g : Graph) (i : ℕ). rows_at g i) b.first_graph p.1 in
        let own-rows : rows_at second r.to ≡ rows_at (setup_of e).graph (number_in e.items x.to) =
        ap₂ (λ (g : Graph) (i : ℕ). rows_at g i) b.second_graph to_is in
        let one : RowsOfItem d.edges x.to (rows_at first i) =
        subst (λ (n : List ℕ). RowsOfItem d.edges n (rows_at first i)) (sym there.2)
        (subst (RowsOfItem d.edges there.0.name) (sym there-rows) (rows-of-item d b.valid_first (number_in d.items x.to) there.0 there.1)) in
        let two : RowsOfItem e.edges x.to (rows_at second r.to) =
        subst (λ (n : List ℕ). RowsOfItem e.edges n (rows_at second r.to)) (sym own.2)
        (subst (RowsOfItem e.edges own.0.name) (sym own-rows) (rows-of-item e b.valid_second (number_in e.items x.to) own.0 own.1)) in
        let same : new_colour d.edges e.edges x.to r.colour ≡ (recoloured d e x).colour = ap (new_colour d.edges e.edges x.to) colour-is ∙ sym (re-colour d e x ∙ rw k) in
        renamed new (new_colour d.edges e.edges x.to r.colour) (recoloured d e x).colour same (w.each d.edges e.edges x.to one two)
      where
        renamed : (o : Option ℕ) (m n : ℕ) → m ≡ n → MatchOption o (16 ≤ m) (λ k. k ≡ m) → MatchOption o (7 < n) (λ k. k ≡ n)
        renamed None m n q h = omega arith
        renamed (Some k) m n q h = h ∙ q

-- ---- all edge rows

-- the first of the lines from k on is that of the row at k
pub record NextEdge (es : List EdgeRow) (k : ℕ) (line : List ℕ) (rest : List (List ℕ)) : Type 0 where
  pub row : EdgeRow
  pub stands : StandsAt es k row
  pub is : line ≡ edge_line row
  pub later : rest ≡ map edge_line (drop (suc k) es)

pub next_edge : (es : List EdgeRow) (k : ℕ) (line : List ℕ) (rest : List (List ℕ)) → line ∷ rest ≡ map edge_line (drop k es) → NextEdge es k line rest
next_edge [] k line rest h = absurd (cons≢nil (h ∙ ap (map edge_line) (drop-nil k)))
next_edge (x ∷ xs) zero line rest h = record { row = x; stands = refl; is = head-eq_of_cons-eq h; later = tail-eq_of_cons-eq h }
next_edge (x ∷ xs) (suc k) line rest h =
    let n = next_edge xs k line rest h in
    record { row = n.row; stands = n.stands; is = n.is; later = n.later }

-- no line from k on: every row stands before k
pub none_left : (es : List EdgeRow) (k : ℕ) → [] ≡ map edge_line (drop k es) → (i : ℕ) (x : EdgeRow) → StandsAt es i x → i < k
none_left [] k h i x s = absurd s
none_left (y ∷ ys) zero h i x s = absurd (nil≢cons h)
none_left (y ∷ ys) (suc k) h zero x s = omega arith
none_left (y ∷ ys) (suc k) h (suc i) x s = let l = none_left ys k h i x s in omega arith

-- The rows before `edges` have their digits, and the line of the next one begins at `at`.
pub record EdgesSoFar (d e : Doc) (s digits : List ℕ) (edges at : ℕ) : Type 0 where
  pub lines : lines_of (drop at s) ≡ map edge_line (drop edges e.edges)
  pub told : (k : ℕ) (x : EdgeRow) → StandsAt e.edges k x → k < edges → DigitAt d e digits k x

pub record ColoursSoFar (s : List ℕ) (start : ℕ) (low high : List ℕ) (count : ℕ) (places : List (Option ℕ)) (first second : Graph) (digits : List ℕ) (edges at : ℕ) : Type 0 where
  pub long : length digits ≡ 256
  pub each : (d e : Doc) → Both d e low high count places first second → lines_of (drop start s) ≡ map edge_line e.edges → EdgesSoFar d e s digits edges at

module _ (s : List ℕ) (start : ℕ) (low high : List ℕ) (count : ℕ) (places : List (Option ℕ)) (first second : Graph) (digits : List ℕ) where
  pub colours-none : length digits ≡ 256 → ColoursSoFar s start low high count places first second digits 0 start
  colours-none l = record { long = l; each = λ d e b h. record { lines = h; told = λ k x t z. absurd (not-suc-le-zero z) } }

  module _ (edges at : ℕ) (n : ColoursSoFar s start low high count places first second digits edges at) where
    -- the row whose line begins at `at`
    row_here : (d e : Doc) → Both d e low high count places first second → lines_of (drop start s) ≡ map edge_line e.edges → at < length s
        → (end : ℕ) → end ≡ at + until 10 (drop at s) → NextEdge e.edges edges (take (end - at) (drop at s)) (lines_of (drop (end + 1) s))
    row_here d e b h l end q =
        next_edge e.edges edges (take (end - at) (drop at s)) (lines_of (drop (end + 1) s)) (sym (line_at s at end l q) ∙ (n.each d e b h).lines)

    pub colours-full : at < length s → 256 ≤ edges → ColoursOf s start low high count places first second None
    colours-full l f =
        record {
          each = λ d e b h small.
              let r = row_here d e b h l (at + until 10 (drop at s)) refl in
              let i = stands-below e.edges edges r.row r.stands in
              let m = b.valid_second.many in
              omega arith;
        }

    module _ (l : at < length s) (end : ℕ) (q : end ≡ at + until 10 (drop at s)) (colour : Option ℕ)
        (c : EdgeColour (take (end - at) (drop at s)) low high count places first second colour) where
      colour-of : (d e : Doc) → (b : Both d e low high count places first second) → (h : lines_of (drop start s) ≡ map edge_line e.edges)
          → MatchOption colour (7 < (recoloured d e (row_here d e b h l end q).row).colour) (λ k. k ≡ (recoloured d e (row_here d e b h l end q).row).colour)
      colour-of d e b h =
          let r = row_here d e b h l end q in
          c.each d e r.row b (stands-in e.edges edges r.row r.stands) r.is

      beyond : ((d e : Doc) → (b : Both d e low high count places first second) → (h : lines_of (drop start s) ≡ map edge_line e.edges) → 7 < (recoloured d e (row_here d e b h l end q).row).colour)
          → ColoursOf s start low high count places first second None
      beyond f =
          record {
            each = λ d e b h small.
                let r = row_here d e b h l end q in
                let i = of-each (λ (x : EdgeRow). x.colour ≤ 7) (map (recoloured d e) e.edges) small (recoloured d e r.row)
                (in_image (recoloured d e) e.edges r.row (stands-in e.edges edges r.row r.stands)) in
                let w = f d e b h in
                omega arith;
          }

      pub colours-none-left : colour ≡ None → ColoursOf s start low high count places first second None
      colours-none-left z = beyond (λ d e b h. rw z at (colour-of d e b h))

      module _ (k : ℕ) (z : colour ≡ Some k) where
        pub colours-ninth : 7 < k → ColoursOf s start low high count places first second None
        colours-ninth f = beyond (λ d e b h. let w = rw z at (colour-of d e b h) in omega arith)

        pub colours-more : k ≤ 7 → edges < 256 → ColoursSoFar s start low high count places first second (set digits edges (48 + k)) (edges + 1) (end + 1)
        colours-more f m =
            record {
              long = length-set digits edges (48 + k) ∙ n.long;
              each = λ d e b h.
                  let r = row_here d e b h l end q in
                  let w = rw z at (colour-of d e b h) in
                  let a = n.long in
                  rw (add-one edges)
                  (record {
                    lines = r.later;
                    told = λ i x t y. ⊎_elim
                        (λ p.
                        let same : x ≡ r.row = stands_same e.edges edges x r.row (subst (λ (j : ℕ). StandsAt e.edges j x) p t) r.stands in
                        rw (p, same) (record { small = omega arith; digit = get_or-set_same digits edges (48 + k) 0 (omega arith) ∙ ap (λ (j : ℕ). 48 + j) w }))
                        (λ p. let o = (n.each d e b h).told i x t (omega (arith, p)) in
                        record { small = o.small; digit = get_or-set_other digits edges i (48 + k) 0 p ∙ o.digit })
                        (same_or i edges);
                  });
            }

    pub colours-all : length s ≤ at → ColoursOf s start low high count places first second (Some digits)
    colours-all l =
        record {
          each = λ d e b h k x t.
              let o = n.each d e b h in
              o.told k x t (none_left e.edges edges (sym (lines-over s at l) ∙ o.lines) k x t);
        }
