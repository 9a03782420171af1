-- The loop over the edge rows: what it has when it stands at a place of the sheet, and each of its turns.
-- Assumes nothing.
use mathlib.Core.Path.{◌≡◌, refl, sym, ap, ◌∙◌, subst}
use mathlib.Core.List.{List, [], ◌∷◌, ◌++◌}
use mathlib.Core.Bool.{Bool, true, false, cond, not}
use mathlib.Core.Logic.{inr, ⊎_elim}
use Prim.Native.Nat.{ℕ, suc, ◌+◌, ◌-◌, ◌/◌, ◌%◌, ◌^◌, ◌≤◌, ◌<◌}
use native.Mathlib.Omega.{arith}
use lib.ListN.{length, take, drop, set, length-append}
use lib.Seq.{set-get_or}
use lib.Dec.{eqb}
use borrow.Author.Tests.{eqb-true, eqb-false, le-leb, lt-leb}
use Rattle.vertex_set.specs.Set.{Member}
use Rattle.vertex_set.proofs.Cases.{by_test}
use Rattle.setup.specs.declared.Rows.{Rows}
use Rattle.setup.specs.declared.Graph.{Graph}
use Rattle.setup.specs.Setup.{rows_at, row, Edge, empty_graph, no_vertices}
use Rattle.sheet_format.specs.Text.{lines_of, fields_of, same_text}
use Rattle.sheet_format.specs.Rows.{ItemRow, EdgeRow, Doc, Each, Known, SameEdge, number_in, vertices_of, with_edge, with_edges, recovery_rows, setup_of}
use Rattle.sheet_format.specs.Questions.{question4, question5_edge, question7_edge, question8, question9, is_known, is_repeated, edge_of}
use Rattle.sheet_format.specs.Read.{AmongEdges, ask, first_no, edge_questions, accepted, refused, read_lines}
use Rattle.vertex_set.proofs.Decisions.{and_parts, yes_of, no_of}
use Rattle.sheet_format.proofs.Tests.{text-decided, known-decided, single-decided}
use Rattle.sheet_format.proofs.Lists.{each_append}
use Rattle.sheet_format.proofs.Question12Lists.{each_of, of-each}
use Rattle.setup.proofs.Graphs.{empty-shaped}
use Rattle.sheet_format.proofs.Question12Edges.{empty-edges, StatedEdge, Placed, edges_more}
use Rattle.sheet_format.proofs.Question12Yielded.{recovery-yes, recovery-no}
use Rattle.sheet_fields.specs.Inner.Parts.{until}
use Rattle.sheet_rows.specs.declared.taken.TakenEdge.{TakenEdge}
use Rattle.sheet_rows.specs.Inner.NameKeys.{NameKeys}
use Rattle.sheet_rows.specs.Inner.Lines.{EdgeTaken, TakesEdge}
use Rattle.sheet_rows.proofs.Asks.{answer-yes, answer-no, all_yes, one-yes, no-first, yes-first}
use Rattle.std.specs.Prelude.{Result, Ok, Err}
use Rattle.std.proofs.lemmas.Result.{IfOk-at_ok}
use Rattle.questions.specs.declared.Refusal.{Refusal}
use Rattle.questions.specs.Refusals.{number}
use Rattle.questions.specs.Inner.{asked}
use Rattle.questions.proofs.Refusals.{number_some}
use Rattle.sheet_edges.specs.Inner.Edges.{with_need}
use Rattle.sheet_fields.proofs.Lines.{line_at, lines-over}
use Rattle.sheet_lines.proofs.Reading.{edge-no, edge-yes, over_yes}

-- ---- one row more

edges-snoc : (xs : List ItemRow) (g : Graph) (es : List EdgeRow) (e : EdgeRow)
    → with_edges xs g (es ++ (e ∷ [])) ≡ with_edge (with_edges xs g es) (number_in xs e.from) (number_in xs e.to) e.colour
unfolding with_edges
edges-snoc xs g [] e = refl
edges-snoc xs g (x ∷ es) e = edges-snoc xs (with_edge g (number_in xs x.from) (number_in xs x.to) x.colour) es e

marked-none : recovery_rows [] ≡ []
unfolding recovery_rows
marked-none = refl

recovery-snoc : (es : List EdgeRow) (e : EdgeRow) → recovery_rows (es ++ (e ∷ [])) ≡ cond e.rec (recovery_rows es ++ (e ∷ [])) (recovery_rows es)
recovery-snoc [] e = rw marked-none (by_test e.rec (λ q. recovery-yes e [] q ∙ rw marked-none (sym (ap (λ (b : Bool). cond b (e ∷ []) []) q))) (λ q. recovery-no e [] q ∙ rw marked-none (sym (ap (λ (b : Bool). cond b (e ∷ []) []) q))))
recovery-snoc (x ∷ es) e =
    by_test x.rec
    (λ q. recovery-yes x (es ++ (e ∷ [])) q ∙ ap (λ (l : List EdgeRow). x ∷ l) (recovery-snoc es e) ∙ rw (recovery-yes x es q) (push e.rec))
    (λ q. recovery-no x (es ++ (e ∷ [])) q ∙ recovery-snoc es e ∙ rw (recovery-no x es q))
  where
    push : (b : Bool) → x ∷ cond b (recovery_rows es ++ (e ∷ [])) (recovery_rows es) ≡ cond b ((x ∷ recovery_rows es) ++ (e ∷ [])) (x ∷ recovery_rows es)
    push true = refl
    push false = refl

-- two known names with one number are the same
number_same : (xs : List ItemRow) (a b : List ℕ) → Known xs a → Known xs b → number_in xs a ≡ number_in xs b → a ≡ b
unfolding number_in
number_same [] a b p q e = absurd p
number_same (x ∷ xs) a b p q e =
    by_test (same_text x.name a)
    (λ s. by_test (same_text x.name b)
    (λ t. sym ((text-decided x.name a).yes s) ∙ (text-decided x.name b).yes t)
    (λ t. absurd (let z = rw (s, t) at e in omega arith)))
    (λ s. by_test (same_text x.name b)
    (λ t. absurd (let z = rw (s, t) at e in omega arith))
    (λ t. number_same xs a b
    (⊎_elim (λ h. absurd ((text-decided x.name a).no s h)) (λ h. h) p)
    (⊎_elim (λ h. absurd ((text-decided x.name b).no t h)) (λ h. h) q)
    (let z = rw (s, t) at e in omega arith)))

graph-more : (xs : List ItemRow) (g : Graph) (es : List EdgeRow) (e : EdgeRow) (a v c : ℕ)
    → g ≡ with_edges xs empty_graph es → a ≡ number_in xs e.from → v ≡ number_in xs e.to → c ≡ e.colour
    → ◌≡◌ {A = Graph} (record { rows = set g.rows v (with_need (rows_at g v) c a) }) (with_edges xs empty_graph (es ++ (e ∷ [])))
unfolding with_edge
graph-more xs g es e a v c p q u w = rw (p, q, u, w) (sym (edges-snoc xs empty_graph es e))

recovery-more : (xs : List ItemRow) (g : Graph) (es : List EdgeRow) (e : EdgeRow) (a v c : ℕ) (b : Bool)
    → g ≡ with_edges xs empty_graph (recovery_rows es) → a ≡ number_in xs e.from → v ≡ number_in xs e.to → c ≡ e.colour → b ≡ e.rec
    → ◌≡◌ {A = Graph} (record { rows = set g.rows v (cond b (with_need (rows_at g v) c a) (rows_at g v)) }) (with_edges xs empty_graph (recovery_rows (es ++ (e ∷ []))))
recovery-more xs g es e a v c true p q u w m =
    graph-more xs g (recovery_rows es) e a v c p q u w ∙ ap (with_edges xs empty_graph) (sym (recovery-snoc es e ∙ pick e.rec (sym m)))
  where
    pick : (b : Bool) → b ≡ true → cond b (recovery_rows es ++ (e ∷ [])) (recovery_rows es) ≡ recovery_rows es ++ (e ∷ [])
    pick b h = rw h
recovery-more xs g es e a v c false p q u w m =
    ap (λ (l : List Rows). record { rows = l }) (set-get_or g.rows v (record { needs = [] }))
    ∙ p ∙ ap (with_edges xs empty_graph) (sym (recovery-snoc es e ∙ pick e.rec (sym m)))
  where
    pick : (b : Bool) → b ≡ false → cond b (recovery_rows es ++ (e ∷ [])) (recovery_rows es) ≡ recovery_rows es
    pick b h = rw h

-- ---- the loop

abbrev pub doc_with : List ItemRow → List EdgeRow → Doc
doc_with xs es = record { items = xs; edges = es }

-- Both ends of an edge row are known.
abbrev KnownEnds : List ItemRow → EdgeRow → Type 0
KnownEnds xs e = Known xs e.from × Known xs e.to

-- At the place `at`, the n rows above make the two graphs, and the reading of all lines is that of the lines from here on.
pub record SoFar (s : List ℕ) (start first : ℕ) (items : List ItemRow) (graph recovery : Graph) (n at : ℕ) : Type 0 where
  pub edges : List EdgeRow
  pub many : n ≡ length edges
  pub known : Each (KnownEnds items) edges
  pub placed : Each (Placed items) edges
  pub graphs : graph ≡ with_edges items empty_graph edges
  pub recoveries : recovery ≡ with_edges items empty_graph (recovery_rows edges)
  pub reading : read_lines AmongEdges (doc_with items []) first (lines_of (drop start s)) ≡ read_lines AmongEdges (doc_with items edges) (first + n) (lines_of (drop at s))

-- That holds for whatever item rows the table is of.
pub record Loop (s : List ℕ) (start first : ℕ) (low high : List ℕ) (count : ℕ) (graph recovery : Graph) (n at : ℕ) : Type 0 where
  pub most : n ≤ 256
  pub rows : (items : List ItemRow) → NameKeys items low high count → SoFar s start first items graph recovery n at

pub so-far-none : (s : List ℕ) (start first : ℕ) (items : List ItemRow) → SoFar s start first items empty_graph empty_graph 0 start
unfolding with_edges
so-far-none s start first items =
    record {
      edges = [];
      many = refl;
      known = tt;
      placed = tt;
      graphs = refl;
      recoveries = rw marked-none;
      reading = let e : first ≡ first + 0 = omega arith in ap (λ (k : ℕ). read_lines AmongEdges (doc_with items []) k (lines_of (drop start s))) e;
    }

pub over : (s : List ℕ) (start first : ℕ) (items : List ItemRow) (graph recovery : Graph) (n at : ℕ) → SoFar s start first items graph recovery n at → length s ≤ at
    → read_lines AmongEdges (doc_with items []) first (lines_of (drop start s)) ≡ accepted (record { count = length items; vertices = vertices_of items; graph = graph; recovery = recovery; held = no_vertices; opened = no_vertices })
unfolding setup_of
over s start first items graph recovery n at f h =
    let end = over_yes (doc_with items f.edges) (first + n) in
    f.reading ∙ rw (lines-over s at h, f.graphs, f.recoveries) end

-- ---- a row

module _ (s : List ℕ) (start first : ℕ) (items : List ItemRow) (low high : List ℕ) (count : ℕ) (graph recovery : Graph) (n at : ℕ)
    (f : SoFar s start first items graph recovery n at) (table : NameKeys items low high count)
    (inside : at < length s) (e : ℕ) (found : e ≡ at + until 10 (drop at s)) where
  abbrev pub line : List ℕ
  line = take (e - at) (drop at s)

  fs : List (List ℕ)
  fs = fields_of line

  above : Doc
  above = doc_with items f.edges

  here : read_lines AmongEdges (doc_with items []) first (lines_of (drop start s)) ≡ read_lines AmongEdges above (first + n) (line ∷ lines_of (drop (e + 1) s))
  unfolding above
  here = f.reading ∙ ap (read_lines AmongEdges (doc_with items f.edges) (first + n)) (line_at s at e inside found)

  module _ (t : Result TakenEdge Refusal) (takes : TakesEdge line low high count t) where
    asked-is : asked t ≡ first_no (ask 4 (question4 4 fs) ∷ ask 5 (question5_edge fs) ∷ ask 8 (question8 above (edge_of fs)) ∷ [])
    unfolding fs above
    asked-is = takes.number (doc_with items f.edges) table

    pub refused-row : (x : Refusal) → t ≡ Err x → read_lines AmongEdges (doc_with items []) first (lines_of (drop start s)) ≡ refused (number x) (first + n)
    unfolding fs edge_questions
    refused-row x i =
        let q : number x ≡ first_no (ask 4 (question4 4 fs) ∷ ask 5 (question5_edge fs) ∷ ask 8 (question8 above (edge_of fs)) ∷ []) = rw i at asked-is in
        here ∙ edge-no above (first + n) line (lines_of (drop (e + 1) s)) (number x)
        (q ∙ no-first (ask 4 (question4 4 fs) ∷ ask 5 (question5_edge fs) ∷ ask 8 (question8 above (edge_of fs)) ∷ [])
        (ask 9 (question9 above (edge_of fs)) ∷ ask 7 (question7_edge above) ∷ []) (λ z. number_some x (q ∙ z))) (number_some x)

    module _ (r : TakenEdge) (ok : t ≡ Ok r) where
      zero-is : 0 ≡ first_no (ask 4 (question4 4 fs) ∷ ask 5 (question5_edge fs) ∷ ask 8 (question8 above (edge_of fs)) ∷ [])
      zero-is = rw ok at asked-is

      took : EdgeTaken line low high count r
      took = IfOk-at_ok (EdgeTaken line low high count) ok takes.taken

      pub in-places : count ≤ 64 → (r.from < 64) × (r.to < 64) × (r.colour < 8)
      in-places m = let h = took.ends in (omega (arith, h.0), omega (arith, h.1), took.most)

      edge : EdgeRow
      edge = edge_of fs

      from_is : r.from ≡ number_in items edge.from
      unfolding edge fs
      from_is = took.from items table

      to_is : r.to ≡ number_in items edge.to
      unfolding edge fs
      to_is = took.to items table

      colour-is : r.colour ≡ edge.colour
      unfolding edge fs
      colour-is = took.colour

      ends : KnownEnds items edge
      unfolding edge fs above question8
      ends =
          let q = one-yes 8 (question8 above edge) (omega arith)
          (all_yes 5 (question5_edge fs) (ask 8 (question8 above edge) ∷ []) (omega arith)
          (all_yes 4 (question4 4 fs) (ask 5 (question5_edge fs) ∷ ask 8 (question8 above edge) ∷ []) (omega arith) (sym zero-is)).1).1 in
          let p = and_parts (is_known items edge.from) (is_known items edge.to) q in
          ((known-decided items edge.from).yes p.0, (known-decided items edge.to).yes p.1)

      -- what is asked behind 4, 5 and 8
      rest : first_no (ask 9 (question9 above edge) ∷ ask 7 (question7_edge above) ∷ []) ≡ first_no (edge_questions above fs)
      unfolding edge edge_questions
      rest =
          yes-first (ask 4 (question4 4 fs) ∷ ask 5 (question5_edge fs) ∷ ask 8 (question8 above (edge_of fs)) ∷ [])
          (ask 9 (question9 above (edge_of fs)) ∷ ask 7 (question7_edge above) ∷ []) (omega arith, (omega arith, (omega arith, tt))) (sym zero-is)

      -- the bit of the row says whether the edge came before
      graph-edges : (a v c : ℕ) → Edge graph a v c → StatedEdge items f.edges a v c
      graph-edges a v c m =
          ⊎_elim (λ z. absurd (empty-edges a v c z)) (λ z. z)
          ((edges_more items empty_graph f.edges empty-shaped f.placed a v c).to (subst (λ (g : Graph). Edge g a v c) f.graphs m))

      edges-graph : (a v c : ℕ) → StatedEdge items f.edges a v c → Edge graph a v c
      edges-graph a v c z =
          subst (λ (g : Graph). Edge g a v c) (sym f.graphs) ((edges_more items empty_graph f.edges empty-shaped f.placed a v c).from (inr z))

      nine-no : Edge graph r.from r.to r.colour → question9 above edge ≡ false
      unfolding question9 above
      nine-no m =
          no_of (not (is_repeated f.edges edge)) (single-decided f.edges edge)
          (λ h. let z = graph-edges r.from r.to r.colour m in
          let k = of-each (KnownEnds items) f.edges f.known z.edge z.stands in
          of-each (λ x. SameEdge x edge → ⊥) f.edges h z.edge z.stands (
            number_same items z.edge.from edge.from k.0 ends.0 (z.from ∙ from_is),
            number_same items z.edge.to edge.to k.1 ends.1 (z.to ∙ to_is),
            z.colour ∙ colour-is,
          ))

      nine-yes : (Edge graph r.from r.to r.colour → ⊥) → question9 above edge ≡ true
      unfolding question9 above
      nine-yes m =
          yes_of (not (is_repeated f.edges edge)) (single-decided f.edges edge)
          (each_of (λ x. SameEdge x edge → ⊥) f.edges (λ x i q.
          m (edges-graph r.from r.to r.colour (record {
            edge = x;
            stands = i;
            from = ap (number_in items) q.0 ∙ sym from_is;
            to = ap (number_in items) q.1 ∙ sym to_is;
            colour = q.2 ∙ sym colour-is;
          }))))

      pub repeated-row : eqb (row graph r.to r.colour / 2 ^ r.from % 2) 1 ≡ true
          → read_lines AmongEdges (doc_with items []) first (lines_of (drop start s)) ≡ refused 9 (first + n)
      unfolding Member fs
      repeated-row b =
          here ∙ edge-no above (first + n) line (lines_of (drop (e + 1) s)) 9
          (sym (answer-no 9 (question9 above edge) (ask 7 (question7_edge above) ∷ []) (nine-no (eqb-true _ 1 b))) ∙ rest) (λ z. omega arith)

      module _ (new : eqb (row graph r.to r.colour / 2 ^ r.from % 2) 1 ≡ false) where
        nine : question9 above edge ≡ true
        unfolding Member
        nine = nine-yes (eqb-false _ 1 new)

        pub full-row : 256 ≤ n → read_lines AmongEdges (doc_with items []) first (lines_of (drop start s)) ≡ refused 7 (first + n)
        unfolding fs question7_edge above
        full-row h =
            let m = f.many in
            here ∙ edge-no above (first + n) line (lines_of (drop (e + 1) s)) 7
            (sym (answer-yes 9 (question9 above edge) (ask 7 (question7_edge above) ∷ []) nine
            ∙ answer-no 7 (question7_edge above) [] (lt-leb (suc (length f.edges)) 256 (omega arith))) ∙ rest) (λ z. omega arith)

        module _ (count_most : count ≤ 64) where
          placed_row : Placed items edge
          placed_row =
              let t = took.ends.1 in
              let c = took.most in
              record { to = rw to_is at (let l : r.to < 64 = omega arith in l); colour = rw colour-is at c }

          pub taken-row : n < 256
              → SoFar s start first items (record { rows = set graph.rows r.to (with_need (rows_at graph r.to) r.colour r.from) })
              (record { rows = set recovery.rows r.to (cond r.rec (with_need (rows_at recovery r.to) r.colour r.from) (rows_at recovery r.to)) })
              (n + 1) (e + 1)
          unfolding edge fs above question7_edge first_no
          taken-row h =
              record {
                edges = f.edges ++ (edge ∷ []);
                many = let l = length-append f.edges (edge ∷ []) in omega (arith, f.many);
                known = each_append (KnownEnds items) f.edges (edge ∷ []) f.known (ends, tt);
                placed = each_append (Placed items) f.edges (edge ∷ []) f.placed (placed_row, tt);
                graphs = graph-more items graph f.edges edge r.from r.to r.colour f.graphs from_is to_is colour-is;
                recoveries = recovery-more items recovery f.edges edge r.from r.to r.colour r.rec f.recoveries from_is to_is colour-is took.rec;
                reading =
                    here ∙ edge-yes above (first + n) line (lines_of (drop (e + 1) s))
                    (sym (answer-yes 9 (question9 above edge) (ask 7 (question7_edge above) ∷ []) nine
                    ∙ answer-yes 7 (question7_edge above) [] (le-leb (suc (length f.edges)) 256 (omega (arith, f.many)))) ∙ rest)
                    ∙ ap (λ (k : ℕ). read_lines AmongEdges (doc_with items (f.edges ++ (edge ∷ []))) k (lines_of (drop (e + 1) s)))
                    (let k : suc (first + n) ≡ first + (n + 1) = omega arith in k);
              }
