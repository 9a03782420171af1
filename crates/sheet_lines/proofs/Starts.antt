-- Where lines begin, and the first field of a line.
-- Assumes nothing.
use mathlib.Core.Path.{◌≡◌, refl, sym, ap, ◌∙◌}
use mathlib.Core.List.{List, [], ◌∷◌}
use mathlib.Core.Logic.{⊎_elim}
use Prim.Native.Nat.{ℕ, zero, suc, ◌+◌, ◌-◌, ◌≤◌, ◌<◌}
use native.Mathlib.Nat.{add-zero}
use native.Mathlib.Omega.{arith}
use lib.ListN.{length, get_or, take, drop}
use lib.Seq.{drop-drop, get_or-drop, length-take-le}
use Rattle.vertex_set.proofs.Cases.{less-or}
use Rattle.sheet_format.specs.Text.{lines_of, fields_of}
use Rattle.sheet_format.specs.Questions.{field}
use Rattle.sheet_format.specs.Names.{line_start, row_of_item}
use Rattle.sheet_fields.specs.Inner.Parts.{until}
use Rattle.sheet_fields.proofs.Cutting.{until-le, first_field}
use Rattle.sheet_fields.proofs.Lines.{lines_cons, line_at, lines-over}
use Rattle.sheet_lines.specs.declared.names.Span.{Span}
use Rattle.sheet_lines.specs.Inner.Span.{span_of}

start_none : (k : ℕ) → line_start [] k ≡ 0
unfolding line_start
start_none zero = refl
start_none (suc k) = refl

-- ---- the loop

pub start_first : (ls : List (List ℕ)) → line_start ls 0 ≡ 0
unfolding line_start
start_first ls = refl

pub start-over : (s : List ℕ) (at k : ℕ) → length s ≤ at → line_start (lines_of (drop at s)) k ≡ 0
start-over s at k h = rw (lines-over s at h) (start_none k)

-- the length of the line from `at` up to e
line-length : (s : List ℕ) (at e : ℕ) → at < length s → e ≡ at + until 10 (drop at s) → length (take (e - at) (drop at s)) ≡ e - at
line-length s at e h q =
    let u = until-le 10 (drop at s) in
    length-take-le (e - at) (drop at s) (omega arith)

pub start-next : (s : List ℕ) (at e i k : ℕ) → at < length s → e ≡ at + until 10 (drop at s) → i < k
    → at + line_start (lines_of (drop at s)) (k - i) ≡ e + 1 + line_start (lines_of (drop (e + 1) s)) (k - (i + 1))
unfolding line_start
start-next s at e i k h q l =
    let n : k - i ≡ suc (k - (i + 1)) = omega arith in
    let m = line-length s at e h q in
    rw (line_at s at e h q, n) (omega arith)

-- ---- the lines from there on

behind_more : (k : ℕ) (s t : List ℕ) → 0 < length s → t ≡ drop (suc (until 10 s)) s → lines_of (drop (line_start (lines_of t) k) t) ≡ drop k (lines_of t)
    → lines_of (drop (line_start (lines_of s) (suc k)) s) ≡ drop (suc k) (lines_of s)
unfolding line_start
behind_more k s t h q ih =
    let l : lines_of s ≡ take (until 10 s) s ∷ lines_of t = lines_cons s h ∙ rw q in
    let m = length-take-le (until 10 s) s (until-le 10 s) in
    let n : length (take (until 10 s) s) + 1 + line_start (lines_of t) k ≡ suc (until 10 s) + line_start (lines_of t) k = omega arith in
    let d : drop (suc (until 10 s) + line_start (lines_of t) k) s ≡ drop (line_start (lines_of t) k) t = sym (drop-drop (line_start (lines_of t) k) (suc (until 10 s)) s) ∙ rw q in
    rw l (ap (λ (i : ℕ). lines_of (drop i s)) n ∙ ap lines_of d ∙ ih)

behind-none : (k : ℕ) (s : List ℕ) → length s ≤ 0 → lines_of (drop (line_start (lines_of s) (suc k)) s) ≡ drop (suc k) (lines_of s)
unfolding line_start lines_of
behind-none k [] h = refl
behind-none k (b ∷ s) h = absurd (omega arith)

pub lines-behind : (k : ℕ) (s : List ℕ) → lines_of (drop (line_start (lines_of s) k) s) ≡ drop k (lines_of s)
unfolding line_start
lines-behind zero s = refl
lines-behind (suc k) s =
    ⊎_elim (λ h. behind_more k s (drop (suc (until 10 s)) s) h refl (lines-behind k (drop (suc (until 10 s)) s))) (λ h. behind-none k s h) (less-or 0 (length s))

-- ---- the first field

pub field-length : (l : List ℕ) → length (field (fields_of l) 0) ≡ until 32 l
field-length l = rw (first_field l) (length-take-le (until 32 l) l (until-le 32 l))

-- the row of an item, from where it begins
row_at : (s : List ℕ) (i : ℕ) → row_of_item s i ≡ get_or (lines_of (drop (line_start (lines_of s) (suc i)) s)) 0 []
row_at s i =
    let e : suc i + 0 ≡ suc i = omega arith in
    rw (lines-behind (suc i) s) (sym (get_or-drop (suc i) (lines_of s) 0 [] ∙ ap (λ (k : ℕ). get_or (lines_of s) k []) e))

pub row_inside : (s : List ℕ) (i from e : ℕ) → from ≡ line_start (lines_of s) (suc i) → from < length s → e ≡ from + until 10 (drop from s) → row_of_item s i ≡ take (e - from) (drop from s)
row_inside s i from e q h p = row_at s i ∙ rw (← q, line_at s from e h p)

pub span-over : (s : List ℕ) (i from : ℕ) → from ≡ line_start (lines_of s) (suc i) → length s ≤ from → ◌≡◌ {A = Span} (record { from = from; to = from }) (span_of s i)
unfolding span_of fields_of
span-over s i from q h =
    let r : row_of_item s i ≡ [] = row_at s i ∙ rw (← q, lines-over s from h) in
    rw (r, q) (ap (λ (t : ℕ). record { from = line_start (lines_of s) (suc i); to = t }) (sym (add-zero (line_start (lines_of s) (suc i)))))

pub span-inside : (s : List ℕ) (i from e n : ℕ) → from ≡ line_start (lines_of s) (suc i) → from < length s → e ≡ from + until 10 (drop from s)
    → n ≡ 0 + until 32 (take (e - from) (drop from s)) → ◌≡◌ {A = Span} (record { from = from; to = from + n }) (span_of s i)
unfolding span_of
span-inside s i from e n q h p u =
    let z : n ≡ until 32 (take (e - from) (drop from s)) = omega arith in
    rw (row_inside s i from e q h p, field-length (take (e - from) (drop from s)), z, q)
