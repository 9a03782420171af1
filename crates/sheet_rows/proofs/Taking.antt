-- An item row and an edge row below the rows above them.
-- Assumes nothing.
use mathlib.Core.Path.{◌≡◌, sym, ap, ◌∙◌}
use mathlib.Core.List.{List, [], ◌∷◌}
use mathlib.Core.Bool.{true, false, not, ◌&&◌}
use mathlib.Core.Logic.{⊎_elim, ◌⊎◌}
use Prim.Native.Nat.{ℕ, suc, ◌+◌, ◌≤◌, ◌<◌}
use native.Mathlib.Omega.{arith}
use lib.ListN.{take}
use lib.Dec.{leb, ltb}
use borrow.Author.Tests.{leb-true, lt-ltb, le-ltb}
use Rattle.std.specs.Prelude.{Option, Some, None, Ok, Err}
use Rattle.std.specs.Option.{unwrap_or}
use Rattle.questions.specs.declared.Refusal.{Refusal}
use Rattle.questions.specs.declared.Refusal.TheVariants.{NameUsed, Bound, NameUnknown}
use Rattle.setup.specs.Bounds.{highest}
use Rattle.setup.specs.Setup.{given}
use Rattle.sheet_format.specs.Text.{fields_of}
use Rattle.sheet_format.specs.Fields.{is_name, is_kind, is_value, is_number_to, number_of, is_number}
use Rattle.sheet_format.specs.Rows.{ItemRow, Doc, number_in, start_count, loss_count}
use Rattle.sheet_format.specs.Questions.{field, question4, question5_item, question5_edge, question6, question7_item, question8, is_known, item_of, edge_of}
use Rattle.sheet_format.specs.Read.{ask, first_no, item_questions}
use Rattle.vertex_set.proofs.Decisions.{and_parts}
use Rattle.sheet_rows.specs.declared.ItemLine.{ItemLine}
use Rattle.sheet_rows.specs.declared.EdgeLine.{EdgeLine}
use Rattle.sheet_rows.specs.declared.taken.TakenEdge.{TakenEdge}
use Rattle.sheet_rows.specs.Inner.NameKeys.{NameKeys, place_of, place_in}
use Rattle.sheet_rows.specs.Inner.Lines.{read_line, item_line, edge_line, TakesItem, TakesEdge}
use Rattle.sheet_rows.proofs.Asks.{answer-yes, answer-no, no-first}
use Rattle.sheet_rows.proofs.Items.{line-no, LineRead}
use Rattle.sheet_rows.proofs.Tables.{found-some, found-none, place-over, table-place, known-test}

pub item-name : (fs : List (List ℕ)) → question5_item fs ≡ true → is_name (item_of fs).name ≡ true
unfolding question5_item item_of
item-name fs h =
    (and_parts (is_name (field fs 0)) (is_kind (field fs 1))
    (and_parts (is_name (field fs 0) && is_kind (field fs 1)) (is_value (field fs 2))
    (and_parts (is_name (field fs 0) && is_kind (field fs 1) && is_value (field fs 2)) (is_value (field fs 3))
    (and_parts (is_name (field fs 0) && is_kind (field fs 1) && is_value (field fs 2) && is_value (field fs 3)) (is_number_to highest (field fs 4)) h).0).0).0).0

-- ---- an item row

module _ (l low high : List ℕ) (count starts losses : ℕ) where
  fs : List (List ℕ)
  fs = fields_of l

  pub item-unread : (e : Refusal) → Err e ≡ read_line (question4 5 (fields_of l)) (question5_item (fields_of l)) (item_line (fields_of l)) → TakesItem l low high count starts losses (Err e)
  unfolding item_questions
  item-unread e h =
      let n = line-no (question4 5 (fields_of l)) (question5_item (fields_of l)) (item_line (fields_of l)) e h in
      record {
        number = λ d t p q. n.0 ∙ no-first (ask 4 (question4 5 (fields_of l)) ∷ ask 5 (question5_item (fields_of l)) ∷ []) (ask 6 (question6 d (item_of (fields_of l))) ∷ ask 7 (question7_item d (item_of (fields_of l))) ∷ []) (λ z. n.1 (n.0 ∙ z));
        taken = tt;
      }

  module _ (item : ItemLine) (reads : LineRead (question4 5 (fields_of l)) (question5_item (fields_of l)) (item_line (fields_of l)) item) where
    place : ℕ
    place = place_of (take count low) (take count high) item.key.low item.key.high

    -- the place of the key is the number of the name
    number-found : (d : Doc) → NameKeys d.items low high count → place ≡ number_in d.items (item_of fs).name
    unfolding fs place
    number-found d t = rw reads.is (table-place d.items low high count (item_of fs).name t (item-name fs reads.five))

    -- what is asked behind 4 and 5
    rest : (d : Doc) → first_no (ask 6 (question6 d (item_of fs)) ∷ ask 7 (question7_item d (item_of fs)) ∷ []) ≡ first_no (item_questions d fs)
    unfolding item_questions fs
    rest d =
        sym (answer-yes 4 (question4 5 fs) (ask 5 (question5_item fs) ∷ ask 6 (question6 d (item_of fs)) ∷ ask 7 (question7_item d (item_of fs)) ∷ []) reads.four
        ∙ answer-yes 5 (question5_item fs) (ask 6 (question6 d (item_of fs)) ∷ ask 7 (question7_item d (item_of fs)) ∷ []) reads.five)

    six : (d : Doc) → NameKeys d.items low high count → question6 d (item_of fs) ≡ not (ltb place count)
    unfolding question6
    six d t =
        let e : is_known d.items (item_of fs).name ≡ ltb place count = known-test d.items (item_of fs).name ∙ rw (number-found d t, t.size) in
        ap not e

    pub item-used : (i : ℕ) → Some i ≡ place_in low high count item.key → TakesItem l low high count starts losses (Err NameUsed)
    unfolding fs place
    item-used i h =
        let f = found-some low high count item.key i h in
        let b : place < count = omega (arith, f.0, f.1) in
        record {
          number = λ d t p q. sym (answer-no 6 (question6 d (item_of fs)) (ask 7 (question7_item d (item_of fs)) ∷ []) (six d t ∙ rw (lt-ltb place count b))) ∙ rest d;
          taken = tt;
        }

    module _ (s k : ℕ) (more : s ≡ starts + given item.vertex.start) (less : k ≡ losses + given item.vertex.loss) (free : None ≡ place_in low high count item.key) where
      start_is : s ≡ starts + given (item_of fs).start
      unfolding fs
      start_is = more ∙ rw reads.is

      loss-is : k ≡ losses + given (item_of fs).loss
      unfolding fs
      loss-is = less ∙ rw reads.is

      six-yes : (d : Doc) → NameKeys d.items low high count → question6 d (item_of fs) ≡ true
      unfolding place
      six-yes d t = six d t ∙ rw (le-ltb place count (found-none low high count item.key free))

      seven : (d : Doc) → NameKeys d.items low high count → starts ≡ start_count d.items → losses ≡ loss_count d.items
          → question7_item d (item_of fs) ≡ (leb (suc count) 64 && leb s 14 && leb k 14)
      unfolding question7_item
      seven d t p q = rw (start_is, loss-is, p, q, t.size)

      pub item-full : (leb (suc count) 64 && leb s 14 && leb k 14) ≡ false → TakesItem l low high count starts losses (Err Bound)
      unfolding fs
      item-full h =
          record {
            number = λ d t p q.
                sym (answer-yes 6 (question6 d (item_of fs)) (ask 7 (question7_item d (item_of fs)) ∷ []) (six-yes d t)
                ∙ answer-no 7 (question7_item d (item_of fs)) [] (seven d t p q ∙ h)) ∙ rest d;
            taken = tt;
          }

      pub item-taken : (leb (suc count) 64 && leb s 14 && leb k 14) ≡ true
          → TakesItem l low high count starts losses (Ok (record { key = item.key; vertex = item.vertex; starts = s; losses = k }))
      unfolding fs first_no
      item-taken h =
          record {
            number = λ d t p q.
                sym (answer-yes 6 (question6 d (item_of fs)) (ask 7 (question7_item d (item_of fs)) ∷ []) (six-yes d t)
                ∙ answer-yes 7 (question7_item d (item_of fs)) [] (seven d t p q ∙ h)) ∙ rest d;
            taken = record {
              room = leb-true (suc count) 64 (and_parts (leb (suc count) 64) (leb s 14) (and_parts (leb (suc count) 64 && leb s 14) (leb k 14) h).0).0;
              key = rw reads.is;
              vertex = rw reads.is;
              more_starts = start_is;
              more_losses = loss-is;
              within = (
                leb-true s 14 (and_parts (leb (suc count) 64) (leb s 14) (and_parts (leb (suc count) 64 && leb s 14) (leb k 14) h).0).1,
                leb-true k 14 (and_parts (leb (suc count) 64 && leb s 14) (leb k 14) h).1,
              );
            };
          }

-- ---- an edge row

edge-names : (fs : List (List ℕ)) → question5_edge fs ≡ true → (is_name (edge_of fs).from ≡ true) × (is_name (edge_of fs).to ≡ true)
unfolding question5_edge edge_of
edge-names fs h =
    and_parts (is_name (field fs 0)) (is_name (field fs 1))
    (and_parts (is_name (field fs 0) && is_name (field fs 1)) (is_number_to 7 (field fs 2))
    (and_parts (is_name (field fs 0) && is_name (field fs 1) && is_number_to 7 (field fs 2)) (is_number_to 1 (field fs 3)) h).0).0

edge-colour : (fs : List (List ℕ)) → question5_edge fs ≡ true → (edge_of fs).colour < 8
unfolding question5_edge edge_of is_number_to
edge-colour fs h =
    let q = (and_parts (is_name (field fs 0) && is_name (field fs 1)) (is_number_to 7 (field fs 2))
    (and_parts (is_name (field fs 0) && is_name (field fs 1) && is_number_to 7 (field fs 2)) (is_number_to 1 (field fs 3)) h).0).1 in
    let l = leb-true (number_of (field fs 2)) 7 (and_parts (is_number (field fs 2)) (leb (number_of (field fs 2)) 7) q).1 in
    omega arith

module _ (l low high : List ℕ) (count : ℕ) where
  gs : List (List ℕ)
  gs = fields_of l

  pub edge-unread : (e : Refusal) → Err e ≡ read_line (question4 4 (fields_of l)) (question5_edge (fields_of l)) (edge_line (fields_of l)) → TakesEdge l low high count (Err e)
  edge-unread e h =
      let n = line-no (question4 4 (fields_of l)) (question5_edge (fields_of l)) (edge_line (fields_of l)) e h in
      record {
        number = λ d t. n.0 ∙ no-first (ask 4 (question4 4 (fields_of l)) ∷ ask 5 (question5_edge (fields_of l)) ∷ []) (ask 8 (question8 d (edge_of (fields_of l))) ∷ []) (λ z. n.1 (n.0 ∙ z));
        taken = tt;
      }

  module _ (edge : EdgeLine) (reads : LineRead (question4 4 (fields_of l)) (question5_edge (fields_of l)) (edge_line (fields_of l)) edge) where
    eight : (d : Doc) → first_no (ask 8 (question8 d (edge_of gs)) ∷ []) ≡ first_no (ask 4 (question4 4 gs) ∷ ask 5 (question5_edge gs) ∷ ask 8 (question8 d (edge_of gs)) ∷ [])
    unfolding gs
    eight d =
        sym (answer-yes 4 (question4 4 gs) (ask 5 (question5_edge gs) ∷ ask 8 (question8 d (edge_of gs)) ∷ []) reads.four
        ∙ answer-yes 5 (question5_edge gs) (ask 8 (question8 d (edge_of gs)) ∷ []) reads.five)

    from-number : (xs : List ItemRow) → NameKeys xs low high count → place_of (take count low) (take count high) edge.from.low edge.from.high ≡ number_in xs (edge_of gs).from
    unfolding gs
    from-number xs t = rw reads.is (table-place xs low high count (edge_of gs).from t (edge-names gs reads.five).0)

    to-number : (xs : List ItemRow) → NameKeys xs low high count → place_of (take count low) (take count high) edge.to.low edge.to.high ≡ number_in xs (edge_of gs).to
    unfolding gs
    to-number xs t = rw reads.is (table-place xs low high count (edge_of gs).to t (edge-names gs reads.five).1)

    from-known : (xs : List ItemRow) → NameKeys xs low high count → is_known xs (edge_of gs).from ≡ ltb (place_of (take count low) (take count high) edge.from.low edge.from.high) count
    from-known xs t = known-test xs (edge_of gs).from ∙ rw (from-number xs t, t.size)

    to-known : (xs : List ItemRow) → NameKeys xs low high count → is_known xs (edge_of gs).to ≡ ltb (place_of (take count low) (take count high) edge.to.low edge.to.high) count
    to-known xs t = known-test xs (edge_of gs).to ∙ rw (to-number xs t, t.size)

    pub edge-no-from : None ≡ place_in low high count edge.from → TakesEdge l low high count (Err NameUnknown)
    unfolding question8 gs
    edge-no-from h =
        record {
          number = λ d t. sym (answer-no 8 (question8 d (edge_of gs)) [] (rw (from-known d.items t, le-ltb _ count (found-none low high count edge.from h)))) ∙ eight d;
          taken = tt;
        }

    module _ (i : ℕ) (from : Some i ≡ place_in low high count edge.from) where
      from_in : ltb (place_of (take count low) (take count high) edge.from.low edge.from.high) count ≡ true
      from_in = let f = found-some low high count edge.from i from in lt-ltb _ count (omega (arith, f.0, f.1))

      pub edge-no-to : None ≡ place_in low high count edge.to → TakesEdge l low high count (Err NameUnknown)
      unfolding question8 gs
      edge-no-to h =
          record {
            number = λ d t. sym (answer-no 8 (question8 d (edge_of gs)) []
                (rw (from-known d.items t, to-known d.items t, from_in, le-ltb _ count (found-none low high count edge.to h)))) ∙ eight d;
            taken = tt;
          }

      pub edge-inside : count ≤ 64 → (j : ℕ) → Some j ≡ place_in low high count edge.to → (i < 64) × (j < 64) × (edge.colour < 8)
      edge-inside few j h =
          let f = found-some low high count edge.from i from in
          let g = found-some low high count edge.to j h in
          (omega (arith, f.1), omega (arith, g.1), rw reads.is (edge-colour (fields_of l) reads.five))

      pub edge-taken : (j : ℕ) → Some j ≡ place_in low high count edge.to
          → (x : TakenEdge) → x.from ≡ i → x.to ≡ j → x.colour ≡ edge.colour → x.rec ≡ edge.rec → TakesEdge l low high count (Ok x)
      unfolding question8 gs first_no
      edge-taken j h x xf xt xc xr =
          let f = found-some low high count edge.from i from in
          let g = found-some low high count edge.to j h in
          let to_in : ltb (place_of (take count low) (take count high) edge.to.low edge.to.high) count ≡ true = lt-ltb _ count (omega (arith, g.0, g.1)) in
          record {
            number = λ d t. sym (answer-yes 8 (question8 d (edge_of gs)) [] (rw (from-known d.items t, to-known d.items t, from_in, to_in))) ∙ eight d;
            taken = record {
              from = λ xs t. xf ∙ f.0 ∙ from-number xs t;
              to = λ xs t. xt ∙ g.0 ∙ to-number xs t;
              ends = (rw xf f.1, rw xt g.1);
              colour = xc ∙ (let e : edge.colour ≡ (edge_of (fields_of l)).colour = rw reads.is in e);
              most = rw (xc, reads.is) (edge-colour (fields_of l) reads.five);
              rec = xr ∙ (let e : edge.rec ≡ (edge_of (fields_of l)).rec = rw reads.is in e);
            };
          }

    pub edge-unknown : (o : Option ℕ) → o ≡ place_in low high count edge.from → (i : ℕ) → i ≡ unwrap_or o count → (p : Option ℕ) → p ≡ place_in low high count edge.to
        → (j : ℕ) → j ≡ unwrap_or p count → (count ≤ i) ⊎ (count ≤ j) → TakesEdge l low high count (Err NameUnknown)
    edge-unknown None e i u p f j v h = edge-no-from e
    edge-unknown (Some k) e i u p f j v h =
        let g = found-some low high count edge.from k e in
        ⊎_elim (λ a. absurd (omega (arith, a, u, g.1))) (λ b. edge-no-to k e (place-over low high count edge.to p f j v b)) h
