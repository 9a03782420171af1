-- Reading line by line: the first no among a line's questions, and the lines that are passed.
-- Assumes nothing.
use mathlib.Core.Path.{◌≡◌, refl, sym, ap, ◌∙◌, subst}
use mathlib.Core.List.{List, [], ◌∷◌, ◌++◌}
use mathlib.Core.Bool.{true, false}
use mathlib.Core.Logic.{◌⊎◌, inl, inr, ⊎_elim}
use Prim.Native.Nat.{ℕ, zero, suc, ◌+◌, ◌≤◌}
use native.Mathlib.Nat.{add-zero, add-suc, suc-add}
use native.Mathlib.Omega.{arith}
use lib.ListN.{length}
use Rattle.vertex_set.proofs.Cases.{by_test}
use Rattle.sheet_format.specs.Read.{Reading}
use Rattle.sheet_format.specs.Text.{is_empty}
use Rattle.sheet_format.specs.Rows.{Doc, Each}
use Rattle.sheet_format.specs.Read.{Phase, AtFirstHeader, AmongItems, AtSecondHeader, AmongEdges, Place, Asked, ask, item_questions, edge_questions, questions_of, first_no, unless, read_lines, refused}
use Rattle.sheet_format.specs.Meaning.{asked_at, next, OnlyYeses, Passed, FirstNo}
use Rattle.sheet_format.proofs.Lists.{each_right}

-- ---- the first no

-- A question of a line has a number from 3 to 10.
abbrev pub OfLine : Asked → Type 0
OfLine a = (3 ≤ a.number) × (a.number ≤ 10)

pub of-line : (p : Phase) (d : Doc) (line : List ℕ) → Each OfLine (questions_of p d line)
unfolding questions_of item_questions edge_questions is_empty
of-line AtFirstHeader d line = omega arith
of-line AmongItems d [] = omega arith
of-line AmongItems d (b ∷ line) = omega arith
of-line AtSecondHeader d line = omega arith
of-line AmongEdges d line = omega arith

pub yeses-none : (asked : List Asked) → OnlyYeses asked → first_no asked ≡ 0
unfolding first_no
yeses-none [] h = refl
yeses-none (a ∷ later) h = rw h.0 (yeses-none later h.1)

pub first-no : (before : List Asked) (q : ℕ) (after : List Asked) → OnlyYeses before → first_no (before ++ (ask q false ∷ after)) ≡ q
unfolding first_no
first-no [] q after h = refl
first-no (a ∷ before) q after h = rw h.0 (first-no before q after h.1)

-- Either all answers are yes, or there is a first no.
pub verdict : (asked : List Asked) → OnlyYeses asked ⊎ ((q : ℕ) × FirstNo asked q)
verdict [] = inl tt
verdict (a ∷ later) =
    by_test a.answer
    (λ e. ⊎_elim (λ h. inl (e, h)) (λ n. inr (n.0, later-no a later n.0 e n.1)) (verdict later))
    (λ e. inr (a.number, record { before = []; after = later; order = λ i. record { number = a.number; answer = e i } ∷ later; yeses = tt }))
  where
    later-no : (a : Asked) (later : List Asked) (q : ℕ) → a.answer ≡ true → FirstNo later q → FirstNo (a ∷ later) q
    later-no a later q e n = record { before = a ∷ n.before; after = n.after; order = ap (λ (l : List Asked). a ∷ l) n.order; yeses = (e, n.yeses) }

-- The question with the first no is one of a line.
pub no-of-line : (asked : List Asked) (q : ℕ) → Each OfLine asked → FirstNo asked q → (3 ≤ q) × (q ≤ 10)
no-of-line asked q h n =
    (each_right OfLine n.before (ask q false ∷ n.after) (subst (Each OfLine) n.order h)).0

-- ---- lines

-- Lines that are passed.
pub passed-read : (p : Place) (ls rest : List (List ℕ)) (q : Place) (k : ℕ) → Passed p ls q → read_lines p.phase p.above k (ls ++ rest) ≡ read_lines q.phase q.above (k + length ls) rest
unfolding read_lines unless
passed-read p [] rest q k h =
    ap (λ (r : Place). read_lines r.phase r.above k rest) h ∙ ap (λ (n : ℕ). read_lines q.phase q.above n rest) (sym (add-zero k))
passed-read p (line ∷ ls) rest q k h =
    rw (yeses-none (asked_at p line) h.0)
    (passed-read (next p line) ls rest q (suc k) h.1 ∙ ap (λ (n : ℕ). read_lines q.phase q.above n rest) (suc-add k (length ls) ∙ sym (add-suc k (length ls))))

unless-no : (q k : ℕ) (r : Reading) → 3 ≤ q → unless q k r ≡ refused q k
unfolding unless
unless-no zero k r h = absurd (omega arith)
unless-no (suc q) k r h = refl

-- A line with a no.
pub stopped-read : (p : Place) (line : List ℕ) (below : List (List ℕ)) (k q : ℕ) → FirstNo (asked_at p line) q → read_lines p.phase p.above k (line ∷ below) ≡ refused q k
unfolding read_lines
stopped-read p line below k q n =
    rw (n.order, first-no n.before q n.after n.yeses)
    (unless-no q k _ (no-of-line (asked_at p line) q (of-line p.phase p.above line) n).0)

-- The lines ls, taken from the place p on, are all passed; or they are up to a line with a no.
pub record Stopped (p : Place) (ls : List (List ℕ)) : Type 0 where
  pub above : List (List ℕ)
  pub line : List ℕ
  pub below : List (List ℕ)
  pub lines : ls ≡ above ++ (line ∷ below)
  pub place : Place
  pub passed : Passed p above place
  pub number : ℕ
  pub no : FirstNo (asked_at place line) number

pub course : (p : Place) (ls : List (List ℕ)) → ((q : Place) × Passed p ls q) ⊎ Stopped p ls
course p [] = inl (p, refl)
course p (line ∷ ls) =
    ⊎_elim
    (λ y. ⊎_elim (λ h. inl (h.0, (y, h.1))) (λ h. inr (later p line ls y h)) (course (next p line) ls))
    (λ n. inr (record { above = []; line = line; below = ls; lines = refl; place = p; passed = refl; number = n.0; no = n.1 }))
    (verdict (asked_at p line))
  where
    later : (p : Place) (line : List ℕ) (ls : List (List ℕ)) → OnlyYeses (asked_at p line) → Stopped (next p line) ls → Stopped p (line ∷ ls)
    later p line ls y h =
        record {
          above = line ∷ h.above;
          line = h.line;
          below = h.below;
          lines = ap (λ (r : List (List ℕ)). line ∷ r) h.lines;
          place = h.place;
          passed = (y, h.passed);
          number = h.number;
          no = h.no;
        }
