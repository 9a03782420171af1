-- The names of a sheet's items: where they stand, and whose names they are.
-- Assumes nothing.
use mathlib.Core.Path.{◌≡◌, refl, sym, ap, ◌∙◌, subst}
use mathlib.Core.List.{List, [], ◌∷◌, ◌++◌, map, append_assoc}
use mathlib.Core.Bool.{true, false, and-false}
use mathlib.Core.Logic.{⊎_elim}
use Prim.Native.Nat.{ℕ, zero, suc, ◌+◌, ◌-◌, ◌≤◌, ◌<◌}
use native.Mathlib.Nat.{not-suc-le-zero, add-zero}
use native.Mathlib.Omega.{arith}
use lib.ListN.{length, get_or, take, drop, length-append, length-map}
use lib.Seq.{take-take, length-take-le}
use lib.Dec.{eqb}
use borrow.Author.Tests.{eq-eqb, ne_eqb, lt-ltb, le-ltb}
use Rattle.sheet_format.specs.Read.{Reading}
use Rattle.sheet_format.specs.Text.{lines_of, fields_of}
use Rattle.sheet_format.specs.Fields.{decimal, kind_text, value_text}
use Rattle.sheet_format.specs.Rows.{ItemRow, Doc, Each, ValidItem, Valid, first_header, second_header, line_text, item_fields, item_lines, edge_lines, render, setup_of}
use Rattle.sheet_format.specs.Stated.{StandsAt}
use Rattle.sheet_format.specs.Questions.{field}
use Rattle.sheet_format.specs.Read.{read_sheet, accepted}
use Rattle.sheet_format.specs.Names.{line_start, row_of_item, has_item, name_of, name_start, NamesOfRows, NamePlaces}
use Rattle.sheet_format.proofs.Lines.{joined, line-text}
use Rattle.sheet_format.proofs.Rows.{item_line, edge_line}
use Rattle.sheet_format.proofs.Documents.{doc_lines, doc-joined, item_back}
use Rattle.sheet_format.proofs.Meaning.{render-lines, accepted-of-valid, valid-of-accepted, accepted-or-refused}
use Rattle.sheet_format.proofs.Stated.{stands-below}
use Rattle.sheet_fields.specs.Inner.Parts.{until}
use Rattle.sheet_fields.proofs.Cutting.{until-le, first_field}
use Rattle.sheet_lines.specs.declared.names.Span.{Span}
use Rattle.sheet_lines.specs.Inner.Span.{span_of}
use Rattle.sheet_lines.proofs.Starts.{field-length, row_inside}

-- ---- is there such an item?

pub refused_none : (s : List ℕ) (i : ℕ) (r : Reading) → r ≡ read_sheet s → (r.number ≡ 0 → ⊥) → has_item s i ≡ false
unfolding has_item
refused_none s i r q n = rw (← q, ne_eqb r.number 0 n)

pub beyond-none : (s : List ℕ) (i : ℕ) (r : Reading) → r ≡ read_sheet s → r.setup.count ≤ i → has_item s i ≡ false
unfolding has_item
beyond-none s i r q h = rw (← q, le-ltb i r.setup.count h, and-false (eqb r.number 0))

pub item-there : (s : List ℕ) (i : ℕ) (r : Reading) → r ≡ read_sheet s → r.number ≡ 0 → i < r.setup.count → has_item s i ≡ true
unfolding has_item
item-there s i r q z h = rw (← q, eq-eqb r.number 0 z, lt-ltb i r.setup.count h)

pub name-none : (s : List ℕ) (i : ℕ) → has_item s i ≡ false → [] ≡ name_of s i
unfolding name_of
name-none s i h = rw h

pub start_none : (s : List ℕ) (i p : ℕ) → has_item s i ≡ false → p ≡ p + name_start s i
unfolding name_start
start_none s i p h = rw h (sym (add-zero p))

-- ---- the row of an item of an accepted sheet

-- a line and its LF lie within the text
start-joined : (ls : List (List ℕ)) (k : ℕ) → k < length ls → line_start ls k + suc (length (get_or ls k [])) ≤ length (joined ls)
unfolding line_start
start-joined [] k h = absurd (not-suc-le-zero h)
start-joined (l ∷ ls) zero h = let a = length-append l (10 ∷ joined ls) in omega arith
start-joined (l ∷ ls) (suc k) h = let a = length-append l (10 ∷ joined ls) in let i = start-joined ls k (omega arith) in omega arith

pub record RowThere (s : List ℕ) (i : ℕ) : Type 0 where
  pub few : i < 64
  pub inside : line_start (lines_of s) (suc i) + suc (length (row_of_item s i)) ≤ length s

doc-there : (d : Doc) (i : ℕ) → Valid d → i < length d.items → RowThere (render d) i
doc-there d i v h =
    let a = length-append (map item_line d.items) ([] ∷ second_header ∷ map edge_line d.edges) in
    let m = length-map d.items item_line in
    let j = start-joined (doc_lines d) (suc i) (omega arith) in
    record {
      few = omega (arith, v.most);
      inside = rw (render-lines d v, ← (doc-joined d)) j;
    }

pub row-there : (s : List ℕ) (i : ℕ) (r : Reading) → r ≡ read_sheet s → r.number ≡ 0 → i < r.setup.count → RowThere s i
unfolding setup_of
row-there s i r q z h =
    ⊎_elim
    (λ a. let d = valid-of-accepted s a.setup a.reading in
    let c : r.setup.count ≡ length d.0.items = ap (λ (x : Reading). x.setup.count) (q ∙ a.reading) ∙ ap (λ x. x.count) d.3 in
    subst (λ (t : List ℕ). RowThere t i) (sym d.2) (doc-there d.0 i d.1 (omega arith)))
    (λ f. absurd (let e = ap (λ (x : Reading). x.number) (q ∙ f.reading) in omega (arith, f.least)))
    (accepted-or-refused.either s)

-- ---- the part that holds the name

module _ (s : List ℕ) (i : ℕ) (there : RowThere s i) (p : Span) (span : p ≡ span_of s i) where
  from_is : p.from ≡ line_start (lines_of s) (suc i)
  unfolding span_of
  from_is = ap (λ (x : Span). x.from) span

  to_is : p.to ≡ p.from + until 32 (row_of_item s i)
  unfolding span_of
  to_is = ap (λ (x : Span). x.to) span ∙ rw (field-length (row_of_item s i), from_is)

  pub span-order : p.from ≤ p.to
  span-order = let t = to_is in omega arith

  pub span-inside : p.to ≤ length s
  span-inside =
      let t = to_is in
      let f = from_is in
      let u = until-le 32 (row_of_item s i) in
      omega (arith, there.inside)

  -- the row, as it stands in the sheet
  row_is : row_of_item s i ≡ take (until 10 (drop p.from s)) (drop p.from s)
  row_is =
      let f = from_is in
      let e : p.from + until 10 (drop p.from s) - p.from ≡ until 10 (drop p.from s) = omega arith in
      row_inside s i p.from (p.from + until 10 (drop p.from s)) f (omega (arith, there.inside)) refl ∙ rw e

  pub span-name : has_item s i ≡ true → take (p.to - p.from) (drop p.from s) ≡ name_of s i
  unfolding name_of
  span-name h =
      let t = to_is in
      let n : p.to - p.from ≡ until 32 (row_of_item s i) = omega arith in
      let l = length-take-le (until 10 (drop p.from s)) (drop p.from s) (until-le 10 (drop p.from s)) in
      let u = until-le 32 (row_of_item s i) in
      let k = ap length row_is in
      let name : take (until 32 (row_of_item s i)) (drop p.from s) ≡ take (until 32 (row_of_item s i)) (row_of_item s i) =
      sym (ap (take (until 32 (row_of_item s i))) row_is ∙ take-take (until 32 (row_of_item s i)) (until 10 (drop p.from s)) (drop p.from s) (omega arith)) in
      rw (h, n) (name ∙ sym (first_field (row_of_item s i)))

  pub span-start : (x : ℕ) → has_item s i ≡ true → p.from + x ≡ x + name_start s i
  unfolding name_start
  span-start x h = rw (h, from_is) (omega arith)

-- ---- whose name it is

pub row-name : (xs : List ItemRow) (rest : List (List ℕ)) (i : ℕ) → Each ValidItem xs → i < length xs
    → field (fields_of (get_or (map item_line xs ++ rest) i [])) 0 ≡ get_or (map (λ (x : ItemRow). x.name) xs) i []
row-name [] rest i v h = absurd (not-suc-le-zero h)
row-name (x ∷ xs) rest zero v h = rw (item_back x v.0)
row-name (x ∷ xs) rest (suc i) v h = row-name xs rest i v.1 (omega arith)

pub names-of-rows : NamesOfRows
unfolding name_of setup_of
names-of-rows d v i h =
    let a = accepted-of-valid d v in
    let t = item-there (render d) i (accepted (setup_of d)) (sym a) refl h in
    rw (t, render-lines d v) (row-name d.items ([] ∷ second_header ∷ map edge_line d.edges) i v.items h)

-- ---- where it begins

-- a row's line and its LF are what is written of it
line-length : (x : ItemRow) → length (line_text (item_fields x)) ≡ length (item_line x) + 1
line-length x = ap length (line-text (item_fields x)) ∙ length-append (item_line x) (10 ∷ [])

rows_above : (xs : List ItemRow) (rest : List (List ℕ)) (i : ℕ) (x : ItemRow) → StandsAt xs i x → line_start (map item_line xs ++ rest) i ≡ length (item_lines (take i xs))
unfolding line_start item_lines
rows_above [] rest i x h = absurd h
rows_above (y ∷ ys) rest zero x h = refl
rows_above (y ∷ ys) rest (suc i) x h =
    let r = rows_above ys rest i x h in
    let l = line-length y in
    let a = length-append (line_text (item_fields y)) (item_lines (take i ys)) in
    omega arith

-- What a row's line has behind the name.
abbrev behind_name : ItemRow → List ℕ
behind_name x = 32 ∷ line_text (kind_text x.kind ∷ value_text x.start ∷ value_text x.loss ∷ decimal x.rank ∷ [])

-- the item rows' lines, as what stands above a row, its name, and the rest
rows_split : (xs : List ItemRow) (i : ℕ) (x : ItemRow) → StandsAt xs i x → (rest : List ℕ) × (item_lines xs ≡ item_lines (take i xs) ++ (x.name ++ rest))
unfolding item_lines
rows_split [] i x h = absurd h
rows_split (y ∷ ys) zero x h = (
  behind_name y ++ item_lines ys,
  append_assoc y.name (behind_name y) (item_lines ys) ∙ ap (λ (z : ItemRow). z.name ++ (behind_name y ++ item_lines ys)) h,
)
rows_split (y ∷ ys) (suc i) x h =
    let r = rows_split ys i x h in
    (r.0, ap (λ (s : List ℕ). line_text (item_fields y) ++ s) r.1 ∙ sym (append_assoc (line_text (item_fields y)) (item_lines (take i ys)) (x.name ++ r.0)))

-- a text of a first line, lines in which a part stands, and more
regroup : (first above part rest more : List ℕ) → first ++ (10 ∷ ((above ++ (part ++ rest)) ++ more)) ≡ (first ++ (10 ∷ above)) ++ (part ++ (rest ++ more))
regroup first above part rest more =
    ap (λ (s : List ℕ). first ++ (10 ∷ s)) (append_assoc above (part ++ rest) more ∙ ap (λ (s : List ℕ). above ++ s) (append_assoc part rest more)) ∙
    sym (append_assoc first (10 ∷ above) (part ++ (rest ++ more)))

pub name-places : NamePlaces
unfolding name_start setup_of render line_start
name-places d v i x h =
    let l = stands-below d.items i x h in
    let a = accepted-of-valid d v in
    let t = item-there (render d) i (accepted (setup_of d)) (sym a) refl l in
    let r = rows_split d.items i x h in
    let more : List ℕ = 10 ∷ (second_header ++ (10 ∷ edge_lines d.edges)) in
    let above = item_lines (take i d.items) in
    let n = rows_above d.items ([] ∷ second_header ∷ map edge_line d.edges) i x h in
    let k = length-append first_header (10 ∷ above) in
    record {
      rest = r.0 ++ more;
      whole = ap (λ (s : List ℕ). first_header ++ (10 ∷ (s ++ more))) r.1 ∙ regroup first_header above x.name r.0 more;
      begins = rw (t, render-lines d v) (omega arith);
    }
