-- The pooled text, put together from parts of the two sheets.
-- Assumes nothing.
use mathlib.Core.Path.{◌≡◌, refl, sym, ap, ap₂, ◌∙◌}
use mathlib.Core.Bool.{Bool, true, false, cond}
use mathlib.Core.List.{List, [], ◌∷◌, ◌++◌, map, append_assoc, append-nil}
use Prim.Native.Nat.{ℕ, zero, suc, ◌+◌, ◌-◌, ◌≤◌}
use native.Mathlib.Omega.{arith}
use lib.ListN.{length, get_or, take, length-append, length-map}
use lib.Seq.{take_at, drop-append-add, take-length}
use borrow.Author.Tests.{lt-ltb}
use Rattle.std.specs.Prelude.{Option, Some, None}
use Rattle.sheet_format.specs.Fields.{decimal, digits_in}
use Rattle.sheet_format.specs.Rows.{ItemRow, EdgeRow, Doc, Each, ValidEdge, line_text, first_header, second_header, item_fields, edge_fields, item_lines, edge_lines, render}
use Rattle.sheet_format.specs.Stated.{StandsAt}
use Rattle.sheet_format.proofs.Rows.{edge_line}
use Rattle.sheet_format.proofs.Stated.{at_place}
use Rattle.sheet_format.proofs.Question12Text.{digit-length, rec-length, four-fields}
use Rattle.pool_format.specs.Rows.{remaining, recoloured, pooled}
use Rattle.pool_format.specs.Inner.{PlacesAmong}
use Rattle.pool_format.proofs.Recolouring.{re-from, re-to}
use Rattle.pool_items.proofs.Items.{remains-not, remains, known-place, unknown-place, lines-append}
use Rattle.pool_colours.specs.Inner.Colours.{DigitAt}
use Rattle.pool_text.specs.Inner.{row_at, row_unless, fresh_rows, with_digit, with_digits, CanPut}
use Rattle.pooling.proofs.Sheets.{tail, front}

-- a recoloured row keeps its mark
re-mark : (d e : Doc) (x : EdgeRow) → (recoloured d e x).rec ≡ x.rec
unfolding recoloured
re-mark d e x = refl

-- ---- the remaining item rows

-- one row, where it is asked for
fresh-row : (xs ys : List ItemRow) (places : List (Option ℕ)) (j : ℕ) (y : ItemRow) (text : List ℕ) → PlacesAmong xs ys places → StandsAt ys j y
    → text ≡ line_text (item_fields y) → (o : Option ℕ) → get_or places j None ≡ o → item_lines (remaining xs (take j ys)) ++ row_unless o text ≡ item_lines (remaining xs (take (suc j) ys))
unfolding item_lines
fresh-row xs ys places j y text p h t (Some i) e =
    append-nil (item_lines (remaining xs (take j ys))) ∙ ap item_lines (sym (remains-not xs ys j y h (known-place xs ys places j i y p h e).0))
fresh-row xs ys places j y text p h t None e =
    sym (ap item_lines (remains xs ys j y h (unknown-place xs ys places j y p h e)) ∙ lines-append (remaining xs (take j ys)) (y ∷ []) ∙
    ap (λ (s : List ℕ). item_lines (remaining xs (take j ys)) ++ s) (append-nil (line_text (item_fields y)) ∙ sym t))

pub fresh-rows : (s from : List ℕ) (xs ys : List ItemRow) (places : List (Option ℕ)) → PlacesAmong xs ys places
    → ((j : ℕ) (y : ItemRow) → StandsAt ys j y → row_at s from j ≡ line_text (item_fields y)) → (n : ℕ) → n ≤ length ys
    → fresh_rows s from places n ≡ item_lines (remaining xs (take n ys))
unfolding fresh_rows remaining item_lines
fresh-rows s from xs ys places p r zero h = refl
fresh-rows s from xs ys places p r (suc n) h =
    let y = at_place ys n (omega arith) in
    ap (λ (l : List ℕ). l ++ row_unless (get_or places n None) (row_at s from n)) (fresh-rows s from xs ys places p r n (omega arith)) ∙
    fresh-row xs ys places n y.0 (row_at s from n) p y.1 (r n y.0 y.1) (get_or places n None) refl

-- ---- the edge rows

digit-text : (n : ℕ) → n ≤ 9 → decimal n ≡ (48 + n) ∷ []
unfolding decimal digits_in
digit-text n h = rw (lt-ltb n 10 (omega arith))

mark-text : (b : Bool) → decimal (cond b 1 0) ≡ (48 + cond b 1 0) ∷ []
mark-text true = digit-text 1 (omega arith)
mark-text false = digit-text 0 (omega arith)

-- What an edge row has before its colour.
abbrev names : List ℕ → List ℕ → List ℕ
names f t = (f ++ (32 ∷ [])) ++ (t ++ (32 ∷ []))

-- a line of two names and two digits
line-parts : (f t : List ℕ) (rest : List ℕ) → f ++ (32 ∷ (t ++ (32 ∷ rest))) ≡ names f t ++ rest
line-parts f t rest =
    sym (append_assoc (f ++ (32 ∷ [])) (t ++ (32 ∷ [])) rest ∙ append_assoc f (32 ∷ []) ((t ++ (32 ∷ [])) ++ rest) ∙
    ap (λ (l : List ℕ). f ++ (32 ∷ l)) (append_assoc t (32 ∷ []) rest))

digit-put : (p : List ℕ) (a b m : ℕ) → with_digit (p ++ (a ∷ 32 ∷ m ∷ [])) b ≡ p ++ (b ∷ 32 ∷ m ∷ 10 ∷ [])
unfolding with_digit
digit-put p a b m =
    let l = length-append p (a ∷ 32 ∷ m ∷ []) in
    let n : length p ≡ length (p ++ (a ∷ 32 ∷ m ∷ [])) - 3 = omega arith in
    let k : length (p ++ (a ∷ 32 ∷ m ∷ [])) - 3 + 1 ≡ length p + 1 = omega arith in
    rw (take_at p (a ∷ 32 ∷ m ∷ []) (length (p ++ (a ∷ 32 ∷ m ∷ [])) - 3) n, k, drop-append-add p (a ∷ 32 ∷ m ∷ []) 1)
    (append_assoc p (b ∷ []) (32 ∷ m ∷ 10 ∷ []))

-- the row in the pooled sheet, as it is written
edge-written : (d e : Doc) (x : EdgeRow) (b : ℕ) → (recoloured d e x).colour ≤ 7 → b ≡ 48 + (recoloured d e x).colour
    → line_text (edge_fields (recoloured d e x)) ≡ names x.from x.to ++ (b ∷ 32 ∷ (48 + cond x.rec 1 0) ∷ 10 ∷ [])
edge-written d e x b low q =
    ap₂ (λ (f t : List ℕ). f ++ (32 ∷ (t ++ (32 ∷ (decimal (recoloured d e x).colour ++ (32 ∷ (decimal (cond (recoloured d e x).rec 1 0) ++ (10 ∷ [])))))))) (re-from d e x) (re-to d e x) ∙
    ap₂ (λ (c m : List ℕ). x.from ++ (32 ∷ (x.to ++ (32 ∷ (c ++ (32 ∷ (m ++ (10 ∷ []))))))))
    (digit-text (recoloured d e x).colour (omega arith) ∙ ap (λ (i : ℕ). i ∷ []) (sym q)) (ap (λ (r : Bool). decimal (cond r 1 0)) (re-mark d e x) ∙ mark-text x.rec) ∙
    line-parts x.from x.to (b ∷ 32 ∷ (48 + cond x.rec 1 0) ∷ 10 ∷ [])

edge-put : (d e : Doc) (x : EdgeRow) (b : ℕ) → x.colour ≤ 7 → (recoloured d e x).colour ≤ 7 → b ≡ 48 + (recoloured d e x).colour
    → with_digit (edge_line x) b ≡ line_text (edge_fields (recoloured d e x))
edge-put d e x b small low q =
    let m : ℕ = 48 + cond x.rec 1 0 in
    let old : edge_line x ≡ names x.from x.to ++ ((48 + x.colour) ∷ 32 ∷ m ∷ []) =
    ap₂ (λ (c k : List ℕ). x.from ++ (32 ∷ (x.to ++ (32 ∷ (c ++ (32 ∷ k)))))) (digit-text x.colour (omega arith)) (mark-text x.rec) ∙
    line-parts x.from x.to ((48 + x.colour) ∷ 32 ∷ m ∷ []) in
    ap (λ (l : List ℕ). with_digit l b) old ∙ digit-put (names x.from x.to) (48 + x.colour) b m ∙ sym (edge-written d e x b low q)

pub edges-put : (d e : Doc) (digits : List ℕ) (es : List EdgeRow) (k : ℕ) → Each (λ (x : EdgeRow). x.colour ≤ 7) es
    → ((i : ℕ) (x : EdgeRow) → StandsAt es i x → DigitAt d e digits (k + i) x) → with_digits (map edge_line es) digits k ≡ edge_lines (map (recoloured d e) es)
unfolding with_digits edge_lines
edges-put d e digits [] k small h = refl
edges-put d e digits (x ∷ xs) k small h =
    let z : k + 0 ≡ k = omega arith in
    let a = rw z at (h 0 x refl) in
    ap₂ (λ (l m : List ℕ). l ++ m) (edge-put d e x (get_or digits k 0) small.0 a.small a.digit)
    (edges-put d e digits xs (suc k) small.1 (λ i y t. let w : k + suc i ≡ suc k + i = omega arith in rw w at (h (suc i) y t)))

-- an edge row's line has two digits and a space behind its names
edge-long : (x : EdgeRow) → x.colour ≤ 7 → 3 ≤ length (edge_line x)
edge-long x h =
    let a = digit-length x.colour (omega arith) in
    let b = rec-length x.rec in
    let l = length-append x.from (32 ∷ (x.to ++ (32 ∷ (decimal x.colour ++ (32 ∷ decimal (cond x.rec 1 0)))))) in
    let m = length-append x.to (32 ∷ (decimal x.colour ++ (32 ∷ decimal (cond x.rec 1 0)))) in
    let n = length-append (decimal x.colour) (32 ∷ decimal (cond x.rec 1 0)) in
    omega arith

pub edges-can : (xs : List ItemRow) (es : List EdgeRow) → Each (ValidEdge xs) es → length es ≤ 256 → CanPut (map edge_line es) 0
edges-can xs es v h = record { long = each es v; few = let l = length-map es edge_line in omega arith }
  where
    each : (fs : List EdgeRow) → Each (ValidEdge xs) fs → Each (λ l. 3 ≤ length l) (map edge_line fs)
    each [] v = tt
    each (x ∷ fs) v = (edge-long x v.0.colour, each fs v.1)

-- ---- the whole

edge-lines-append : (es fs : List EdgeRow) → edge_lines (es ++ fs) ≡ edge_lines es ++ edge_lines fs
unfolding edge_lines
edge-lines-append [] fs = refl
edge-lines-append (x ∷ xs) fs =
    ap (λ (s : List ℕ). line_text (edge_fields x) ++ s) (edge-lines-append xs fs) ∙ sym (append_assoc (line_text (edge_fields x)) (edge_lines xs) (edge_lines fs))

-- The parts of the pooled text, in order.
abbrev pub together : Doc → Doc → List ℕ
together d e =
    front d (length d.items) ++ item_lines (remaining d.items e.items) ++ tail d ++ edge_lines (map (recoloured d e) e.edges)

pub together-is : (d e : Doc) → together d e ≡ render (pooled d e)
unfolding render pooled
together-is d e =
    let rem : List ℕ = item_lines (remaining d.items e.items) in
    let more : List ℕ = edge_lines (map (recoloured d e) e.edges) in
    let edges : tail d ++ more ≡ 10 ∷ (second_header ++ (10 ∷ edge_lines (d.edges ++ map (recoloured d e) e.edges))) =
    ap (λ (l : List ℕ). 10 ∷ l) (append_assoc second_header (10 ∷ edge_lines d.edges) more) ∙
    ap (λ (l : List ℕ). 10 ∷ (second_header ++ (10 ∷ l))) (sym (edge-lines-append d.edges (map (recoloured d e) e.edges))) in
    append_assoc (front d (length d.items) ++ rem) (tail d) more ∙
    append_assoc (front d (length d.items)) rem (tail d ++ more) ∙
    ap (λ (l : List ItemRow). (first_header ++ (10 ∷ item_lines l)) ++ (rem ++ (tail d ++ more))) (take-length d.items) ∙
    append_assoc first_header (10 ∷ item_lines d.items) (rem ++ (tail d ++ more)) ∙
    ap (λ (l : List ℕ). first_header ++ (10 ∷ l)) (sym (append_assoc (item_lines d.items) rem (tail d ++ more)) ∙
    ap₂ (λ (l m : List ℕ). l ++ m) (sym (lines-append d.items (remaining d.items e.items))) edges)

-- a row is as long in the pooled sheet
row-long : (d e : Doc) (x : EdgeRow) → x.colour ≤ 7 → (recoloured d e x).colour ≤ 7 → length (line_text (edge_fields (recoloured d e x))) ≡ length (line_text (edge_fields x))
row-long d e x h k =
    let a = four-fields (recoloured d e x).from (recoloured d e x).to (decimal (recoloured d e x).colour) (decimal (cond (recoloured d e x).rec 1 0)) in
    let b = four-fields x.from x.to (decimal x.colour) (decimal (cond x.rec 1 0)) in
    let f = ap length (re-from d e x) in
    let t = ap length (re-to d e x) in
    let c = digit-length (recoloured d e x).colour (omega arith) in
    let g = digit-length x.colour (omega arith) in
    let m = rec-length (recoloured d e x).rec in
    let n = rec-length x.rec in
    omega arith

pub same-long : (d e : Doc) (es : List EdgeRow) → Each (λ (x : EdgeRow). x.colour ≤ 7) es → Each (λ (x : EdgeRow). x.colour ≤ 7) (map (recoloured d e) es)
    → length (edge_lines (map (recoloured d e) es)) ≡ length (edge_lines es)
unfolding edge_lines
same-long d e [] h k = refl
same-long d e (x ∷ xs) h k =
    let a = length-append (line_text (edge_fields (recoloured d e x))) (edge_lines (map (recoloured d e) xs)) in
    let b = length-append (line_text (edge_fields x)) (edge_lines xs) in
    let c = row-long d e x h.0 k.0 in
    let i = same-long d e xs h.1 k.1 in
    omega arith
