-- How a reading ends: every line is passed and the second header came, or there is a refusal as the paper means it.
-- Assumes nothing.
use mathlib.Core.Path.{◌≡◌, refl, sym, ap, ◌∙◌}
use mathlib.Core.List.{List, [], ◌∷◌, append-nil}
use mathlib.Core.Bool.{Bool, true, cond}
use mathlib.Core.Logic.{⊎_elim}
use Prim.Native.Nat.{ℕ, suc, ◌+◌, ◌≤◌}
use native.Mathlib.Omega.{arith}
use lib.ListN.{length}
use borrow.Author.Tests.{lt-leb, leb-false}
use Rattle.setup.specs.Bounds.{most_bytes}
use Rattle.vertex_set.proofs.Cases.{by_test}
use Rattle.sheet_format.specs.Text.{lines_of}
use Rattle.sheet_format.specs.Rows.{setup_of}
use Rattle.sheet_format.specs.Questions.{question1, question2}
use Rattle.sheet_format.specs.Read.{AtFirstHeader, Place, no_rows, accepted, refused, question11, read_lines, read_sheet}
use Rattle.sheet_format.specs.Meaning.{start, asked_at, Passed, TooLong, NoText, NoAtLine, NoAtEnd, Refusal, too_long, no_text, at-line, at-end}
use Rattle.sheet_format.proofs.Passing.{of-line, no-of-line, passed-read, stopped-read, course}

-- The questions 1 and 2 are yeses.
read-lines : (s : List ℕ) → question1 s ≡ true → question2 s ≡ true → read_sheet s ≡ read_lines AtFirstHeader no_rows 1 (lines_of s)
unfolding read_sheet
read-lines s a b = rw (a, b)

-- All lines of the text are passed.
pub record AllPassed (s : List ℕ) (q : Place) : Type 0 where
  pub yes1 : question1 s ≡ true
  pub yes2 : question2 s ≡ true
  pub passed : Passed start (lines_of s) q

one-plus : (n : ℕ) → 1 + n ≡ suc n
one-plus n = omega arith

read-passed : (s : List ℕ) (q : Place) → AllPassed s q → read_sheet s ≡ cond (question11 q.phase) (accepted (setup_of q.above)) (refused 11 (suc (length (lines_of s))))
unfolding read_lines
read-passed s q h =
    read-lines s h.yes1 h.yes2 ∙ ap (read_lines AtFirstHeader no_rows 1) (sym (append-nil (lines_of s))) ∙ passed-read start (lines_of s) [] q 1 h.passed ∙
    ap (λ (n : ℕ). cond (question11 q.phase) (accepted (setup_of q.above)) (refused 11 n)) (one-plus (length (lines_of s)))

-- .. and the second header came.
pub read-accepted : (s : List ℕ) (q : Place) → AllPassed s q → question11 q.phase ≡ true → read_sheet s ≡ accepted (setup_of q.above)
read-accepted s q h e = read-passed s q h ∙ ap (λ (t : Bool). cond t (accepted (setup_of q.above)) (refused 11 (suc (length (lines_of s))))) e

-- ---- what a refusal means is what is answered

read-long : (s : List ℕ) (q k : ℕ) → TooLong s q k → read_sheet s ≡ refused q k
unfolding read_sheet question1
read-long s q k h = rw (lt-leb (length s) most_bytes h.long, h.number, h.line)

read-no-text : (s : List ℕ) (q k : ℕ) → NoText s q k → read_sheet s ≡ refused q k
unfolding read_sheet
read-no-text s q k h = rw (h.yes1, h.no2, h.number, h.line)

read-at-line : (s : List ℕ) (q k : ℕ) → NoAtLine s q k → read_sheet s ≡ refused q k
read-at-line s q k h =
    read-lines s h.yes1 h.yes2 ∙ ap (read_lines AtFirstHeader no_rows 1) h.lines ∙
    passed-read start h.above (h.line ∷ h.below) h.place 1 h.passed ∙
    stopped-read h.place h.line h.below (1 + length h.above) q h.no ∙
    ap (refused q) (one-plus (length h.above) ∙ sym h.counted)

read-at-end : (s : List ℕ) (q k : ℕ) → NoAtEnd s q k → read_sheet s ≡ refused q k
read-at-end s q k h =
    read-passed s h.place (record { yes1 = h.yes1; yes2 = h.yes2; passed = h.passed }) ∙
    ap (λ (t : Bool). cond t (accepted (setup_of h.place.above)) (refused 11 (suc (length (lines_of s))))) h.no ∙
    rw (h.number, h.counted)

pub read-refused : (s : List ℕ) (q k : ℕ) → Refusal s q k → read_sheet s ≡ refused q k
read-refused s q k (too_long h) = read-long s q k h
read-refused s q k (no_text h) = read-no-text s q k h
read-refused s q k (at-line h) = read-at-line s q k h
read-refused s q k (at-end h) = read-at-end s q k h

-- The number of a refusal.
pub refusal-number : (s : List ℕ) (q k : ℕ) → Refusal s q k → (1 ≤ q) × (q ≤ 11)
refusal-number s q k (too_long h) = let n = h.number in omega arith
refusal-number s q k (no_text h) = let n = h.number in omega arith
refusal-number s q k (at-line h) =
    let n = no-of-line (asked_at h.place h.line) q (of-line h.place.phase h.place.above h.line) h.no in
    omega arith
refusal-number s q k (at-end h) = let n = h.number in omega arith

-- ---- every text

pub data Ending (s : List ℕ) : Type 0 where
  accepts : (q : Place) → AllPassed s q → question11 q.phase ≡ true → Ending s
  refuses : (q k : ℕ) → Refusal s q k → Ending s

end-lines : (s : List ℕ) → question1 s ≡ true → question2 s ≡ true → Ending s
end-lines s a b =
    ⊎_elim
    (λ h. by_test (question11 h.0.phase)
    (λ e. accepts h.0 (record { yes1 = a; yes2 = b; passed = h.1 }) e)
    (λ e. refuses 11 (suc (length (lines_of s))) (at-end (record { number = refl; yes1 = a; yes2 = b; counted = refl; place = h.0; passed = h.1; no = e }))))
    (λ h. refuses h.number (suc (length h.above)) (at-line (record {
      yes1 = a;
      yes2 = b;
      above = h.above;
      line = h.line;
      below = h.below;
      lines = h.lines;
      counted = refl;
      place = h.place;
      passed = h.passed;
      no = h.no;
    })))
    (course start (lines_of s))

pub ending : (s : List ℕ) → Ending s
unfolding question1
ending s =
    by_test (question1 s)
    (λ a. by_test (question2 s) (end-lines s a) (λ b. refuses 2 0 (no_text (record { number = refl; line = refl; yes1 = a; no2 = b }))))
    (λ a. refuses 1 0 (too_long (record { number = refl; line = refl; long = leb-false (length s) most_bytes a })))
