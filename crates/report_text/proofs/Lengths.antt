-- How long rows are: at most 275 bytes, with names of at most 16 bytes, at most 14 items in a set, and a sum of at most 14 of the largest value;
-- and one row is as long.
-- Assumes nothing.
use mathlib.Core.Path.{◌≡◌, refl}
use mathlib.Core.Bool.{Bool, true, false}
use mathlib.Core.List.{List, [], ◌∷◌}
use mathlib.Core.Logic.{inl, inr, ⊎_elim}
use Prim.Native.Nat.{ℕ, zero, suc, ◌+◌, ◌-◌, ◌*◌, ◌/◌, ◌%◌, ◌^◌, ◌≤◌, ◌<◌}
use native.Mathlib.Omega.{arith}
use lib.Count.{ones}
use lib.ListN.{length, replicate, length-append}
use Rattle.vertex_set.specs.Set.{Member}
use Rattle.vertex_set.specs.Order.{Listed}
use Rattle.vertex_set.proofs.Cases.{same_or}
use Rattle.vertex_set.proofs.Places.{places, length-places, listed-places}
use Rattle.setup.specs.Bounds.{largest, most_chosen}
use Rattle.sheet_format.specs.Fields.{digits_in, decimal}
use Rattle.sheet_format.specs.Rows.{line_text}
use Rattle.sheet_format.proofs.Numbers.{decimal-length}
use Rattle.scores.specs.Never.{never}
use Rattle.reference.specs.Tests.{filtered, is_member}
use Rattle.report_text.specs.Inner.{longest_row}
use Rattle.report_text.specs.Rows.{numbers_from, way_text, answer_text, score_text, items_of, joined, set_text, set_row, score_row, pair_row, refused_row}
use Rattle.report_text.proofs.Items.{set-text}
use Rattle.report_text.proofs.Rows.{score-never, score-number}

-- ---- fields

score-length : (r : ℕ) → r < 2 ^ 64 → length (score_text r) ≤ 20
score-length r h =
    ⊎_elim (λ e. rw (score-never r e) (omega arith)) (λ n. rw (score-number r n) (decimal-length 19 r (omega arith))) (same_or r never)

way-length : (loss : Bool) → length (way_text loss) ≡ 4
unfolding way_text
way-length true = refl
way-length false = refl

answer-length : (yes : Bool) → length (answer_text yes) ≤ 3
unfolding answer_text
answer-length true = omega arith
answer-length false = omega arith

pub joined_length : (name : ℕ → List ℕ) (l : List ℕ) → ((v : ℕ) → Listed l v → length (name v) ≤ 16) → length (joined name l) ≤ 17 * length l - 1
unfolding joined
joined_length name [] h = omega arith
joined_length name (v ∷ []) h = let a = h v (inl refl) in omega arith
joined_length name (v ∷ w ∷ l) h =
    let a = h v (inl refl) in
    let b = joined_length name (w ∷ l) (λ u m. h u (inr m)) in
    omega (arith, length-append (name v) (43 ∷ joined name (w ∷ l)))

set-length : (name : ℕ → List ℕ) (x : ℕ) → x < 2 ^ 64 → ones x ≤ 14 → ((v : ℕ) → Member x v → length (name v) ≤ 16) → length (set_text name x) ≤ 237
set-length name x b few h =
    let l = joined_length name (places 64 x) (λ v m. h v ((listed-places 64 x v).to m).0) in
    rw (set-text name x) (omega (arith, length-places 64 x b))

-- ---- lines

-- The bytes of the fields, and one behind each.
line_bytes : List (List ℕ) → ℕ
line_bytes [] = 0
line_bytes (f ∷ fs) = length f + 1 + line_bytes fs

line-length : (f : List ℕ) (fs : List (List ℕ)) → length (line_text (f ∷ fs)) ≡ line_bytes (f ∷ fs)
unfolding line_bytes
line-length f [] = omega (arith, length-append f (10 ∷ []))
line-length f (g ∷ fs) = let ih = line-length g fs in omega (arith, length-append f (32 ∷ line_text (g ∷ fs)))

-- ---- rows

pub set-row-length : (name : ℕ → List ℕ) (loss : Bool) (target x sum : ℕ) → x < 2 ^ 64 → ones x ≤ 14 → sum ≤ most_chosen * largest
    → length (name target) ≤ 16 → ((v : ℕ) → Member x v → length (name v) ≤ 16) → length (set_row name loss target x sum) ≤ longest_row
unfolding set_row line_bytes
set-row-length name loss target x sum b few low t h =
    let w = way-length loss in
    let n = decimal-length 1 (ones x) (omega arith) in
    let d = decimal-length 10 sum (omega arith) in
    let s = set-length name x b few h in
    omega (arith, line-length (name target) (way_text loss ∷ decimal (ones x) ∷ decimal sum ∷ set_text name x ∷ []))

-- Fourteen items whose names have 16 letters, and whose values are the largest, make a row as long.
pub longest-row : length (set_row (λ (v : ℕ). replicate 16 97) false 14 (2 ^ 14 - 1) (most_chosen * largest)) ≡ longest_row
unfolding set_row way_text decimal digits_in set_text items_of numbers_from filtered is_member joined ones
longest-row = refl

pub score-row-length : (name : ℕ → List ℕ) (target score risk : ℕ) (back idle : Bool) → score < 2 ^ 64 → risk < 2 ^ 64
    → length (name target) ≤ 16 → length (score_row name target score risk back idle) ≤ longest_row
unfolding score_row line_bytes
score-row-length name target score risk back idle p q t =
    let a = score-length score p in
    let b = score-length risk q in
    let c = answer-length back in
    let d = answer-length idle in
    omega (arith, line-length (name target) (score_text score ∷ score_text risk ∷ answer_text back ∷ answer_text idle ∷ []))

-- A pair has two names and a byte behind each.
pub pair-row-short : (name : ℕ → List ℕ) (v w : ℕ) → length (name v) ≤ 16 → length (name w) ≤ 16 → length (pair_row name v w) ≤ 34
unfolding pair_row line_bytes
pair-row-short name v w p q = omega (arith, line-length (name v) (name w ∷ []))

pub refused-row-length : (number line : ℕ) → number < 2 ^ 64 → line < 2 ^ 64 → length (refused_row number line) ≤ longest_row
unfolding refused_row line_bytes
refused-row-length number line p q =
    let a = decimal-length 19 number (omega arith) in
    let b = decimal-length 19 line (omega arith) in
    omega (arith, line-length (114 ∷ 101 ∷ 102 ∷ 117 ∷ 115 ∷ 101 ∷ 100 ∷ []) (decimal number ∷ decimal line ∷ []))
