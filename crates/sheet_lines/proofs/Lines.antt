-- The lines of a text and where they begin; the lines of valid rows.
-- Assumes nothing.
use mathlib.Core.Path.{◌≡◌, sym, ap, ◌∙◌}
use mathlib.Core.List.{List, [], ◌∷◌, ◌++◌, map, head-eq_of_cons-eq}
use mathlib.Core.Logic.{⊎_elim}
use Prim.Native.Nat.{ℕ, zero, suc, ◌+◌, ◌-◌, ◌≤◌, ◌<◌}
use native.Mathlib.Nat.{not-suc-le-zero}
use native.Mathlib.Omega.{arith}
use lib.ListN.{length, get_or, take, drop, length-drop}
use lib.Seq.{drop-cons, length-take-le}
use Rattle.vertex_set.proofs.Cases.{less-or}
use Rattle.sheet_format.specs.Text.{lines_of}
use Rattle.sheet_format.specs.Rows.{ItemRow, Doc, Valid, render, second_header}
use Rattle.sheet_format.specs.Names.{line_start}
use Rattle.sheet_format.specs.Stated.{StandsAt}
use Rattle.sheet_format.proofs.Rows.{item_line, edge_line}
use Rattle.sheet_format.proofs.Meaning.{render-lines}
use Rattle.sheet_fields.specs.Inner.Parts.{until}
use Rattle.sheet_fields.proofs.Cutting.{until-le}
use Rattle.sheet_fields.proofs.Lines.{line_at, lines-over}
use Rattle.sheet_lines.proofs.Starts.{lines-behind}

-- ---- a line of a text

-- Line k, counted from 0, begins at `at` and ends before e, behind which the next one begins.
pub record LineAt (s : List ℕ) (k at e : ℕ) : Type 0 where
  pub order : at ≤ e
  pub inside : e ≤ length s
  pub is : take (e - at) (drop at s) ≡ get_or (lines_of s) k []
  pub next : e + 1 ≡ line_start (lines_of s) (suc k)

pub start-more : (ls : List (List ℕ)) (k : ℕ) → k < length ls → line_start ls (suc k) ≡ line_start ls k + length (get_or ls k []) + 1
unfolding line_start
start-more [] k h = absurd (not-suc-le-zero h)
start-more (l ∷ ls) zero h = omega arith
start-more (l ∷ ls) (suc k) h = let i = start-more ls k (omega arith) in omega arith

pub line-found : (s : List ℕ) (k at e : ℕ) → k < length (lines_of s) → at ≡ line_start (lines_of s) k → e ≡ at + until 10 (drop at s) → LineAt s k at e
line-found s k at e h q p =
    let behind : lines_of (drop at s) ≡ drop k (lines_of s) = rw q (lines-behind k s) in
    let d = length-drop at s in
    let u = until-le 10 (drop at s) in
    let b : at < length s = ⊎_elim (λ z. z) (λ z. absurd (let n = ap length (sym behind ∙ lines-over s at z) in let m = length-drop k (lines_of s) in omega arith)) (less-or at (length s)) in
    let c = sym (drop-cons (lines_of s) k [] h) ∙ sym behind ∙ line_at s at e b p in
    let is = sym (head-eq_of_cons-eq c) in
    let l = length-take-le (e - at) (drop at s) (omega arith) in
    let n : length (get_or (lines_of s) k []) ≡ e - at = ap length (sym is) ∙ l in
    let m = start-more (lines_of s) k h in
    record { order = omega arith; inside = omega arith; is = is; next = omega arith }

-- ---- the lines of valid rows

line_of : (ys : List ItemRow) (rest : List (List ℕ)) (j : ℕ) (y : ItemRow) → StandsAt ys j y → get_or (map item_line ys ++ rest) j [] ≡ item_line y
line_of [] rest j y h = absurd h
line_of (x ∷ xs) rest zero y h = ap item_line h
line_of (x ∷ xs) rest (suc j) y h = line_of xs rest j y h

-- The line of an item row stands below the header and the rows above.
pub item-line-at : (d : Doc) → Valid d → (j : ℕ) (y : ItemRow) → StandsAt d.items j y → get_or (lines_of (render d)) (suc j) [] ≡ item_line y
item-line-at d v j y h = rw (render-lines d v) (line_of d.items ([] ∷ second_header ∷ map edge_line d.edges) j y h)
