-- The words that are written for a setup say that setup, whatever stands behind them.
-- Assumes nothing.
use mathlib.Core.Path.{◌≡◌, refl, sym, ap, ◌∙◌}
use mathlib.Core.List.{List, [], ◌∷◌, ◌++◌, append_assoc}
use Prim.Native.Nat.{ℕ, zero, suc, ◌+◌, ◌*◌, ◌≤◌, ◌<◌}
use native.Mathlib.Nat.{not-suc-le-zero}
use native.Mathlib.Omega.{arith}
use lib.ListN.{length, get_or, take, length-append, get_or-append}
use lib.Seq.{take_all, take-suc, get_or-append-add}
use Rattle.setup.specs.declared.Kind.{Kind}
use Rattle.setup.specs.declared.Kind.TheVariants.{Credential, Account}
use Rattle.std.specs.Prelude.{Option, None, Some}
use Rattle.setup.specs.declared.Vertex.{Vertex}
use Rattle.setup.specs.declared.Rows.{Rows}
use Rattle.setup.specs.declared.Graph.{Graph}
use Rattle.setup.specs.declared.Setup.{Setup}
use Rattle.setup.specs.Setup.{unused_vertex, vertex_at, rows_at, ShapedGraph, Shaped}
use Rattle.portal_words.specs.Words.{tabulate, setup_words, blank, word_at, SaysSetup, kind_in, value_in, vertex_in, rows_in, graph_in, spelt, kind_word, value_word, vertex_words, flat, vertices_words, needs_of, graph_words, words_of}
use Rattle.portal_words.proofs.Filling.{value-given}

-- ---- lists

-- a table that agrees with a list is the front of that list
pub tabulate-front : {A : Type 0} (f : ℕ → A) (l : List A) (z : A) (n : ℕ) → n ≤ length l → ((i : ℕ) → i < n → f i ≡ get_or l i z) → tabulate n f ≡ take n l
unfolding tabulate
tabulate-front f l z zero h e = refl
tabulate-front {A = A} f l z (suc n) h e =
    ap (λ (r : List A). r ++ (f n ∷ [])) (tabulate-front f l z n (omega arith) (λ i b. e i (omega arith)))
    ∙ ap (λ (x : A). take n l ++ (x ∷ [])) (e n (omega arith)) ∙ sym (take-suc l n z (omega arith))

tabulate-is : {A : Type 0} (f : ℕ → A) (l : List A) (z : A) (n : ℕ) → length l ≡ n → ((i : ℕ) → i < n → f i ≡ get_or l i z) → tabulate n f ≡ l
tabulate-is f l z n h e = tabulate-front f l z n (omega arith) e ∙ take_all n l (omega arith)

-- the words of elements that have k each
module _ {A : Type 0} (f : A → List ℕ) (k : ℕ) (z : A) where
  abbrev Even : List A → Type 0
  Even xs = (v : ℕ) → v < length xs → length (f (get_or xs v z)) ≡ k

  flat-long : (xs : List A) → Even xs → length (flat f xs) ≡ k * length xs
  unfolding flat
  flat-long [] even = omega arith
  flat-long (x ∷ xs) even =
      let e = even zero (omega arith) in
      let a = length-append (f x) (flat f xs) in
      let i = flat-long xs (λ v h. even (suc v) (let b = h in omega arith)) in
      omega arith

  flat-at : (xs : List A) → Even xs → (v j : ℕ) → v < length xs → j < k → (rest : List ℕ) → get_or (flat f xs ++ rest) (k * v + j) 0 ≡ get_or (f (get_or xs v z)) j 0
  unfolding flat
  flat-at [] even v j h l rest = absurd (not-suc-le-zero h)
  flat-at (x ∷ xs) even zero j h l rest =
      let e = even zero h in
      ap (λ (n : ℕ). get_or ((f x ++ flat f xs) ++ rest) n 0) (omega arith)
      ∙ ap (λ (r : List ℕ). get_or r j 0) (append_assoc (f x) (flat f xs) rest) ∙ get_or-append (f x) (flat f xs ++ rest) 0 j (omega arith)
  flat-at (x ∷ xs) even (suc v) j h l rest =
      let e = even zero (omega arith) in
      ap (λ (n : ℕ). get_or ((f x ++ flat f xs) ++ rest) n 0) (omega arith)
      ∙ ap (λ (r : List ℕ). get_or r (length (f x) + (k * v + j)) 0) (append_assoc (f x) (flat f xs) rest)
      ∙ get_or-append-add (f x) (flat f xs ++ rest) (k * v + j) 0
      ∙ flat-at xs (λ w b. even (suc w) (let d = b in omega arith)) v j (omega arith) l rest

-- ---- kinds and values

kind-back : (k : Kind) → kind_in (kind_word k) ≡ k
unfolding kind_in
kind-back Credential = refl
kind-back Account = refl

-- A value that words can say: not the number that stands for a blank.
abbrev pub Said : Option ℕ → Type 0
Said None = Unit {0}
Said (Some n) = n < blank

value-back : (x : Option ℕ) → Said x → value_in (value_word x) ≡ x
unfolding value_in
value-back None h = refl
value-back (Some n) h = sym (value-given n (λ e. let d = e in omega arith))

-- ---- a setup

-- A setup that words can say.
pub record Sayable (s : Setup) : Type 0 where
  pub shaped : Shaped s
  pub start : (v : ℕ) → v < 64 → Said (vertex_at s v).start
  pub loss : (v : ℕ) → v < 64 → Said (vertex_at s v).loss

abbrev no_rows : Rows
no_rows = record { needs = [] }

even : (g : Graph) → ShapedGraph g → Even needs_of 8 no_rows g.rows
even g k v b = k.colours v (let p = k.places in omega arith)

rows_long : (g : Graph) → ShapedGraph g → length (graph_words g.rows) ≡ 512
rows_long g k = let p = k.places in let l = flat-long needs_of 8 no_rows g.rows (even g k) in omega arith

vertices-long : (xs : List Vertex) → length xs ≡ 64 → length (vertices_words xs) ≡ 256
vertices-long xs p = let l = flat-long vertex_words 4 unused_vertex xs (λ v b. refl) in omega arith

-- the rows of a graph whose words begin behind n others
graph-says : (g : Graph) → ShapedGraph g → (n : ℕ) (front rest : List ℕ) → length front ≡ n → graph_in (front ++ (graph_words g.rows ++ rest)) n ≡ g
graph-says g k n front rest l = λ i. record { rows = tabulate-is (λ v. rows_in words (n + 8 * v)) g.rows no_rows 64 k.places each i }
  where
    words : List ℕ
    words = front ++ (graph_words g.rows ++ rest)

    word : (v c : ℕ) → v < 64 → c < 8 → word_at words (n + 8 * v + c) ≡ get_or (rows_at g v).needs c 0
    word v c b d =
        let p = k.places in
        let e : n + 8 * v + c ≡ length front + (8 * v + c) = omega arith in
        ap (λ (m : ℕ). get_or words m 0) e ∙ get_or-append-add front (graph_words g.rows ++ rest) (8 * v + c) 0
        ∙ flat-at needs_of 8 no_rows g.rows (even g k) v c (omega arith) d rest

    each : (v : ℕ) → v < 64 → rows_in words (n + 8 * v) ≡ rows_at g v
    each v b = λ i. record { needs = tabulate-is (λ c. word_at words (n + 8 * v + c)) (rows_at g v).needs 0 8 (k.colours v b) (λ c d. word v c b d) i }

-- the words of the places begin behind the count
vertex-word : (s : Setup) → length s.vertices ≡ 64 → (rest : List ℕ) (v j k : ℕ) → v < 64 → j < 4 → k ≡ suc (4 * v + j)
    → word_at (s.count ∷ (vertices_words s.vertices ++ rest)) k ≡ get_or (vertex_words (vertex_at s v)) j 0
vertex-word s p rest v j k b c e =
    ap (λ (m : ℕ). get_or (s.count ∷ (vertices_words s.vertices ++ rest)) m 0) e
    ∙ flat-at vertex_words 4 unused_vertex s.vertices (λ w d. refl) v j (omega arith) c rest

vertices-say : (s : Setup) → Sayable s → (rest : List ℕ) → tabulate 64 (vertex_in (s.count ∷ (vertices_words s.vertices ++ rest))) ≡ s.vertices
vertices-say s h rest = tabulate-is (vertex_in words) s.vertices unused_vertex 64 h.shaped.places each
  where
    words : List ℕ
    words = s.count ∷ (vertices_words s.vertices ++ rest)

    word : (v j k : ℕ) → v < 64 → j < 4 → k ≡ suc (4 * v + j) → word_at words k ≡ get_or (vertex_words (vertex_at s v)) j 0
    word v j k = vertex-word s h.shaped.places rest v j k

    each : (v : ℕ) → v < 64 → vertex_in words v ≡ vertex_at s v
    each v b =
        λ i. record {
          kind = (ap kind_in (word v 0 (1 + 4 * v) b (omega arith) (omega arith)) ∙ kind-back (vertex_at s v).kind) i;
          start = (ap value_in (word v 1 (1 + 4 * v + 1) b (omega arith) (omega arith)) ∙ value-back (vertex_at s v).start (h.start v b)) i;
          loss = (ap value_in (word v 2 (1 + 4 * v + 2) b (omega arith) (omega arith)) ∙ value-back (vertex_at s v).loss (h.loss v b)) i;
          rank = word v 3 (1 + 4 * v + 3) b (omega arith) (omega arith) i;
        }

-- ---- the words that are written say a setup

kind-least : (k : Kind) → kind_word k ≤ 1
kind-least Credential = omega arith
kind-least Account = omega arith

pub words_long : (s : Setup) → Shaped s → length (words_of s) ≡ setup_words
unfolding words_of
words_long s h =
    let vs = vertices_words s.vertices in
    let gs = graph_words s.graph.rows in
    let rs = graph_words s.recovery.rows in
    let v = vertices-long s.vertices h.places in
    let g = rows_long s.graph h.graph in
    let r = rows_long s.recovery h.recovery in
    let a = length-append rs (s.held.0 ∷ s.opened.0 ∷ []) in
    let b = length-append gs (rs ++ (s.held.0 ∷ s.opened.0 ∷ [])) in
    let c = length-append vs (gs ++ (rs ++ (s.held.0 ∷ s.opened.0 ∷ []))) in
    omega arith

pub written-says : (s : Setup) → Shaped s → (rest : List ℕ) → SaysSetup (words_of s ++ rest)
unfolding words_of
written-says s h rest =
    record {
      long = let l = words_long s h in let a = length-append (words_of s) rest in omega arith;
      kinds = λ v b.
          let behind = graph_words s.graph.rows ++ (graph_words s.recovery.rows ++ (s.held.0 ∷ s.opened.0 ∷ [])) in
          let e = ap (λ (l : List ℕ). word_at (s.count ∷ l) (1 + 4 * v)) (append_assoc (vertices_words s.vertices) behind rest)
          ∙ vertex-word s h.places (behind ++ rest) v 0 (1 + 4 * v) b (omega arith) (omega arith) in
          rw e (kind-least (vertex_at s v).kind);
    }

pub spelt_back : (s : Setup) → Sayable s → (rest : List ℕ) → spelt (words_of s ++ rest) ≡ s
unfolding spelt words_of
spelt_back s h rest =
    λ i. record {
      count = s.count;
      vertices = (ap (λ (l : List ℕ). tabulate 64 (vertex_in (s.count ∷ l))) (append_assoc vs (gs ++ (rs ++ two)) rest) ∙ vertices-say s h ((gs ++ (rs ++ two)) ++ rest)) i;
      graph = (ap (λ (l : List ℕ). graph_in (s.count ∷ l) 257) front-graph ∙ graph-says s.graph h.shaped.graph 257 (s.count ∷ vs) ((rs ++ two) ++ rest) (omega (arith, long))) i;
      recovery = (ap (λ (l : List ℕ). graph_in (s.count ∷ l) 769) front-recovery ∙ graph-says s.recovery h.shaped.recovery 769 (s.count ∷ (vs ++ gs)) (two ++ rest) (omega (arith, long, rows, both))) i;
      held = record { 0 = (ap (λ (l : List ℕ). word_at (s.count ∷ l) 1281) front-sets ∙ set_says 0 1281 (omega (arith, all))) i };
      opened = record { 0 = (ap (λ (l : List ℕ). word_at (s.count ∷ l) 1282) front-sets ∙ set_says 1 1282 (omega (arith, all))) i };
    }
  where
    vs : List ℕ
    vs = vertices_words s.vertices

    gs : List ℕ
    gs = graph_words s.graph.rows

    rs : List ℕ
    rs = graph_words s.recovery.rows

    two : List ℕ
    two = s.held.0 ∷ s.opened.0 ∷ []

    long : length vs ≡ 256
    long = vertices-long s.vertices h.shaped.places

    rows : length gs ≡ 512
    rows = rows_long s.graph h.shaped.graph

    both : length (vs ++ gs) ≡ length vs + length gs
    both = length-append vs gs

    all : length ((vs ++ gs) ++ rs) ≡ 1280
    all = let r = rows_long s.recovery h.shaped.recovery in let l = length-append (vs ++ gs) rs in omega (arith, long, rows, both)

    front-graph : (vs ++ (gs ++ (rs ++ two))) ++ rest ≡ vs ++ (gs ++ ((rs ++ two) ++ rest))
    front-graph = append_assoc vs (gs ++ (rs ++ two)) rest ∙ ap (λ (l : List ℕ). vs ++ l) (append_assoc gs (rs ++ two) rest)

    front-recovery : (vs ++ (gs ++ (rs ++ two))) ++ rest ≡ (vs ++ gs) ++ (rs ++ (two ++ rest))
    front-recovery = front-graph ∙ sym (append_assoc vs gs ((rs ++ two) ++ rest)) ∙ ap (λ (l : List ℕ). (vs ++ gs) ++ l) (append_assoc rs two rest)

    front-sets : (vs ++ (gs ++ (rs ++ two))) ++ rest ≡ ((vs ++ gs) ++ rs) ++ (two ++ rest)
    front-sets = front-recovery ∙ sym (append_assoc (vs ++ gs) rs (two ++ rest))

    -- the two sets stand behind the count and 1280 words
    set_says : (j k : ℕ) → k ≡ length (s.count ∷ ((vs ++ gs) ++ rs)) + j → word_at (s.count ∷ (((vs ++ gs) ++ rs) ++ (two ++ rest))) k ≡ get_or (two ++ rest) j 0
    set_says j k e =
        ap (λ (m : ℕ). get_or (s.count ∷ (((vs ++ gs) ++ rs) ++ (two ++ rest))) m 0) e ∙ get_or-append-add (s.count ∷ ((vs ++ gs) ++ rs)) (two ++ rest) j 0
