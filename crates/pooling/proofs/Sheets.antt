-- The parts of an accepted sheet: where its item rows begin and what stands there, and its edge rows.
-- Assumes nothing.
use mathlib.Core.Path.{◌≡◌, refl, sym, ap, ◌∙◌}
use mathlib.Core.List.{List, [], ◌∷◌, ◌++◌, map, append_assoc}
use Prim.Native.Nat.{ℕ, zero, suc, ◌+◌, ◌-◌, ◌≤◌}
use native.Mathlib.Nat.{not-suc-le-zero}
use native.Mathlib.Omega.{arith}
use lib.ListN.{length, get_or, take, drop, length-append, length-map, take-append-drop}
use lib.Seq.{take_at, drop_at, get_or-append-add, drop-append-add, drop-length, drop-drop}
use Rattle.setup.specs.declared.Setup.{Setup}
use Rattle.setup.specs.Setup.{unused_vertex, vertex_at}
use Rattle.sheet_format.specs.Text.{lines_of}
use Rattle.sheet_format.specs.Rows.{ItemRow, Doc, Valid, vertex_of, line_text, first_header, second_header, item_fields, item_lines, edge_lines, render}
use Rattle.sheet_format.specs.Names.{line_start}
use Rattle.sheet_format.specs.Stated.{StandsAt}
use Rattle.sheet_format.proofs.Lines.{line-text}
use Rattle.sheet_format.proofs.Rows.{item_line, edge_line}
use Rattle.sheet_format.proofs.Documents.{doc_lines}
use Rattle.sheet_format.proofs.Meaning.{render-lines}
use Rattle.sheet_format.proofs.Stated.{stands-below, at_place, stated-by-rows, take_more}
use Rattle.sheet_lines.specs.Inner.Keys.{Accepts}
use Rattle.sheet_lines.proofs.Starts.{lines-behind}
use Rattle.sheet_lines.proofs.Lines.{start-more}
use Rattle.sheet_lines.proofs.Accepted.{setup-of, count_of, edges-many}
use Rattle.pool_items.specs.Inner.Items.{PlacesRise, ItemRowsAt}
use Rattle.pool_items.proofs.Items.{lines-append}
use Rattle.pool_text.specs.Inner.{RowsWithin, row_at}
use Rattle.pooling.specs.Inner.{Starts}

-- ---- the vertices that rows state

pub vertex-of : (s : List ℕ) (a : Setup) (d : Doc) → Accepts s a → Valid d → s ≡ render d → (j : ℕ) (y : ItemRow) → StandsAt d.items j y
    → get_or a.vertices j unused_vertex ≡ vertex_of y
vertex-of s a d h v t j y k =
    let f = (stated-by-rows d v).items j y k in
    ap (λ (x : Setup). vertex_at x j) (setup-of s a d h v t) ∙ (λ i. record { kind = f.kind i; start = f.start i; loss = f.loss i; rank = f.rank i })

-- ---- the text, cut where an item row begins

abbrev pub tail : Doc → List ℕ
tail d = 10 ∷ (second_header ++ (10 ∷ edge_lines d.edges))

-- The first header and the first j item rows.
abbrev pub front : Doc → ℕ → List ℕ
front d j = first_header ++ (10 ∷ item_lines (take j d.items))

render-cut : (d : Doc) (j : ℕ) → render d ≡ front d j ++ (item_lines (drop j d.items) ++ tail d)
unfolding render
render-cut d j =
    let e : item_lines d.items ≡ item_lines (take j d.items) ++ item_lines (drop j d.items) =
    ap item_lines (sym (take-append-drop j d.items)) ∙ lines-append (take j d.items) (drop j d.items) in
    ap (λ (l : List ℕ). first_header ++ (10 ∷ (l ++ tail d))) e ∙
    ap (λ (l : List ℕ). first_header ++ (10 ∷ l)) (append_assoc (item_lines (take j d.items)) (item_lines (drop j d.items)) (tail d)) ∙
    sym (append_assoc first_header (10 ∷ item_lines (take j d.items)) (item_lines (drop j d.items) ++ tail d))

rows_start : (xs : List ItemRow) (rest : List (List ℕ)) (j : ℕ) → j ≤ length xs → line_start (map item_line xs ++ rest) j ≡ length (item_lines (take j xs))
unfolding line_start item_lines
rows_start xs rest zero h = refl
rows_start [] rest (suc j) h = absurd (not-suc-le-zero h)
rows_start (x ∷ xs) rest (suc j) h =
    let r = rows_start xs rest j (omega arith) in
    let l = ap length (line-text (item_fields x)) ∙ length-append (item_line x) (10 ∷ []) in
    let a = length-append (line_text (item_fields x)) (item_lines (take j xs)) in
    omega arith

-- where row j begins
start_is : (d : Doc) → Valid d → (j : ℕ) → j ≤ length d.items → line_start (lines_of (render d)) (suc j) ≡ length (front d j)
unfolding line_start
start_is d v j h =
    let r = rows_start d.items ([] ∷ second_header ∷ map edge_line d.edges) j h in
    let a = length-append first_header (10 ∷ item_lines (take j d.items)) in
    rw (render-lines d v) (omega arith)

module _ (s : List ℕ) (a : Setup) (d : Doc) (h : Accepts s a) (v : Valid d) (t : s ≡ render d) (from : List ℕ) (n : Starts s a from) where
  pub from_is : (k : ℕ) → k ≤ length d.items → get_or from k 0 ≡ length (front d k)
  from_is k l = n.each k (let c = count_of s a d h v t in omega arith) ∙ rw t (start_is d v k l)

  pub front-is : (k : ℕ) → k ≤ length d.items → take (get_or from k 0) s ≡ front d k
  front-is k l = ap (take (get_or from k 0)) (t ∙ render-cut d k) ∙ take_at (front d k) (item_lines (drop k d.items) ++ tail d) (get_or from k 0) (sym (from_is k l))

  pub behind-is : (k : ℕ) → k ≤ length d.items → drop (get_or from k 0) s ≡ item_lines (drop k d.items) ++ tail d
  behind-is k l = ap (drop (get_or from k 0)) (t ∙ render-cut d k) ∙ drop_at (front d k) (item_lines (drop k d.items) ++ tail d) (get_or from k 0) (sym (from_is k l))

  pub from-inside : (k : ℕ) → k ≤ length d.items → get_or from k 0 ≤ length s
  from-inside k l =
      let e = ap length (t ∙ render-cut d k) in
      let f = length-append (front d k) (item_lines (drop k d.items) ++ tail d) in
      omega (arith, from_is k l)

  -- one row more
  front-more : (j : ℕ) (y : ItemRow) → StandsAt d.items j y → length (front d (suc j)) ≡ length (front d j) + length (line_text (item_fields y))
  unfolding item_lines
  front-more j y k =
      let e = ap length (ap item_lines (take_more d.items j y k) ∙ lines-append (take j d.items) (y ∷ [])) in
      let f = length-append (item_lines (take j d.items)) (item_lines (y ∷ [])) in
      let g = length-append (line_text (item_fields y)) [] in
      let p = length-append first_header (10 ∷ item_lines (take (suc j) d.items)) in
      let q = length-append first_header (10 ∷ item_lines (take j d.items)) in
      omega arith

  row-bytes : (j : ℕ) (y : ItemRow) → StandsAt d.items j y → get_or from j 0 + length (line_text (item_fields y)) ≡ get_or from (suc j) 0
  row-bytes j y k =
      let b = stands-below d.items j y k in
      let m = front-more j y k in
      omega (arith, from_is j (omega arith), from_is (suc j) (omega arith))

  pub rows_of : ItemRowsAt d.items a.vertices from
  rows_of = record { vertex = vertex-of s a d h v t; bytes = row-bytes }

  pub within : RowsWithin s from a.count
  within =
      let c = count_of s a d h v t in
      let m = v.most in
      record {
        few = omega arith;
        rise = λ j l. let y = at_place d.items j (omega arith) in let b = row-bytes j y.0 y.1 in omega arith;
        inside = λ j l. from-inside (suc j) (omega arith);
      }

  pub rising : PlacesRise from a.count
  rising =
      let c = count_of s a d h v t in
      let x = ap length t in
      let z = v.text in
      record { few = within.few; rise = within.rise; most = λ j l. let i = from-inside (suc j) (omega arith) in omega arith }

  -- the text of a row
  pub row_is : (j : ℕ) (y : ItemRow) → StandsAt d.items j y → row_at s from j ≡ line_text (item_fields y)
  unfolding item_lines
  row_is j y k =
      let b = stands-below d.items j y k in
      let w = row-bytes j y k in
      let n : length (line_text (item_fields y)) ≡ get_or from (suc j) 0 - get_or from j 0 = omega arith in
      ap (take (get_or from (suc j) 0 - get_or from j 0)) (behind-is j (omega arith) ∙ ap (λ (l : List ItemRow). item_lines l ++ tail d) (dropped d.items j y k) ∙
      append_assoc (line_text (item_fields y)) (item_lines (drop (suc j) d.items)) (tail d)) ∙
      take_at (line_text (item_fields y)) (item_lines (drop (suc j) d.items) ++ tail d) (get_or from (suc j) 0 - get_or from j 0) n
    where
      dropped : (ys : List ItemRow) (j : ℕ) (y : ItemRow) → StandsAt ys j y → drop j ys ≡ y ∷ drop (suc j) ys
      dropped [] j y k = absurd k
      dropped (x ∷ xs) zero y k = ap (λ (z : ItemRow). z ∷ xs) k
      dropped (x ∷ xs) (suc j) y k = dropped xs j y k

  -- ---- the edge rows

  line-behind : (i : ℕ) → get_or (doc_lines d) (suc (length d.items + i)) [] ≡ get_or ([] ∷ second_header ∷ map edge_line d.edges) i []
  line-behind i =
      rw (← (length-map d.items item_line)) (get_or-append-add (map item_line d.items) ([] ∷ second_header ∷ map edge_line d.edges) i [])

  headers : length second_header ≡ 18
  unfolding second_header
  headers = refl

  -- where the edge rows begin
  start-edges : get_or from a.count 0 + 20 ≡ line_start (lines_of s) (suc (length d.items + 2))
  start-edges =
      let c = count_of s a d h v t in
      let l = edges-many s a d h v t in
      let z = headers in
      let e0 : length d.items + 0 ≡ length d.items = omega arith in
      let n0 = n.each a.count (omega arith) in
      let s1 = start-more (lines_of s) (suc (length d.items + 0)) (omega arith) in
      let s2 = start-more (lines_of s) (suc (length d.items + 1)) (omega arith) in
      let g1 : get_or (lines_of s) (suc (length d.items + 0)) [] ≡ [] = rw (t, render-lines d v) (line-behind 0) in
      let g2 : get_or (lines_of s) (suc (length d.items + 1)) [] ≡ second_header = rw (t, render-lines d v) (line-behind 1) in
      let k1 = ap length g1 in
      let k2 = ap length g2 in
      let p1 : suc (suc (length d.items + 0)) ≡ suc (length d.items + 1) = omega arith in
      let p2 : suc (suc (length d.items + 1)) ≡ suc (length d.items + 2) = omega arith in
      let q0 : suc a.count ≡ suc (length d.items + 0) = omega arith in
      let t1 = rw p1 at s1 in
      let t2 = rw p2 at s2 in
      let t0 = rw q0 at n0 in
      omega arith

  pub edge-lines : lines_of (drop (get_or from a.count 0 + 20) s) ≡ map edge_line d.edges
  edge-lines =
      let e : suc (length d.items + 2) ≡ suc (length (map item_line d.items) + 2) = rw (length-map d.items item_line) in
      ap (λ (i : ℕ). lines_of (drop i s)) start-edges ∙ lines-behind (suc (length d.items + 2)) s ∙
      rw (t, render-lines d v, e) (drop-append-add (map item_line d.items) ([] ∷ second_header ∷ map edge_line d.edges) 2)

  -- the bytes of the edge rows
  pub edge-bytes : drop (get_or from a.count 0 + 20) s ≡ edge_lines d.edges
  unfolding item_lines
  edge-bytes =
      let c = count_of s a d h v t in
      let z = headers in
      let all : drop (length d.items) d.items ≡ [] = drop-length d.items in
      let b : drop (get_or from a.count 0) s ≡ item_lines (drop (length d.items) d.items) ++ tail d = rw c (behind-is (length d.items) (omega arith)) in
      sym (drop-drop 20 (get_or from a.count 0) s) ∙ ap (drop 20) (b ∙ ap (λ (l : List ItemRow). item_lines l ++ tail d) all) ∙
      ap (drop 20) (sym (append_assoc (10 ∷ second_header) (10 ∷ []) (edge_lines d.edges))) ∙
      drop_at ((10 ∷ second_header) ++ (10 ∷ [])) (edge_lines d.edges) 20 (let f = length-append (10 ∷ second_header) (10 ∷ []) in omega arith)

  -- the edge rows begin within the sheet
  pub start-inside : get_or from a.count 0 + 20 ≤ length s
  start-inside =
      let c = count_of s a d h v t in
      let z = headers in
      let e = ap length (t ∙ render-cut d (length d.items)) in
      let f = length-append (front d (length d.items)) (item_lines (drop (length d.items) d.items) ++ tail d) in
      let g = length-append (item_lines (drop (length d.items) d.items)) (tail d) in
      let k = length-append second_header (10 ∷ edge_lines d.edges) in
      let b : get_or from a.count 0 ≡ length (front d (length d.items)) = rw c (from_is (length d.items) (omega arith)) in
      omega arith
