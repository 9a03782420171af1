-- A step of the reading at each kind of line.
-- Assumes nothing.
use mathlib.Core.Path.{◌≡◌, refl, sym, ◌∙◌}
use mathlib.Core.List.{List, [], ◌∷◌}
use mathlib.Core.Bool.{true, false}
use Prim.Native.Nat.{ℕ, zero, suc}
use native.Mathlib.Omega.{arith}
use lib.ListN.{length}
use borrow.Author.Tests.{le-leb}
use Rattle.sheet_format.specs.Text.{fields_of, is_empty}
use Rattle.sheet_format.specs.Rows.{Doc, first_header, second_header, setup_of}
use Rattle.sheet_format.specs.Questions.{question3, question10, item_of, edge_of}
use Rattle.sheet_format.specs.Read.{Phase, AtFirstHeader, AmongItems, AtSecondHeader, AmongEdges, with_item, with_row, item_questions, edge_questions, questions_of, behind, first_no, unless, accepted, refused, question11, read_lines}

-- ---- a line with a no, and one with yeses

unless-no : (q k : ℕ) (r : _) → (q ≡ 0 → ⊥) → unless q k r ≡ refused q k
unfolding unless
unless-no zero k r n = absurd (n refl)
unless-no (suc q) k r n = refl

pub read_no : (p : Phase) (d : Doc) (k : ℕ) (line : List ℕ) (ls : List (List ℕ)) (q : ℕ) → q ≡ first_no (questions_of p d line) → (q ≡ 0 → ⊥) → read_lines p d k (line ∷ ls) ≡ refused q k
unfolding read_lines
read_no p d k line ls q e n = rw (sym e) (unless-no q k (read_lines (behind p d line).phase (behind p d line).above (suc k) ls) n)

pub read-yes : (p : Phase) (d : Doc) (k : ℕ) (line : List ℕ) (ls : List (List ℕ)) → 0 ≡ first_no (questions_of p d line)
    → read_lines p d k (line ∷ ls) ≡ read_lines (behind p d line).phase (behind p d line).above (suc k) ls
unfolding read_lines unless
read-yes p d k line ls e = rw (sym e)

-- ---- headers

pub header1-no : (d : Doc) (k : ℕ) (line : List ℕ) (ls : List (List ℕ)) → question3 first_header line ≡ false → read_lines AtFirstHeader d k (line ∷ ls) ≡ refused 3 k
unfolding questions_of first_no
header1-no d k line ls e = read_no AtFirstHeader d k line ls 3 (rw e) (λ z. omega arith)

pub header1-yes : (d : Doc) (k : ℕ) (line : List ℕ) (ls : List (List ℕ)) → question3 first_header line ≡ true → read_lines AtFirstHeader d k (line ∷ ls) ≡ read_lines AmongItems d (suc k) ls
unfolding questions_of first_no behind
header1-yes d k line ls e = read-yes AtFirstHeader d k line ls (rw e)

pub header2-no : (d : Doc) (k : ℕ) (line : List ℕ) (ls : List (List ℕ)) → question3 second_header line ≡ false → read_lines AtSecondHeader d k (line ∷ ls) ≡ refused 3 k
unfolding questions_of first_no
header2-no d k line ls e = read_no AtSecondHeader d k line ls 3 (rw e) (λ z. omega arith)

pub header2-yes : (d : Doc) (k : ℕ) (line : List ℕ) (ls : List (List ℕ)) → question3 second_header line ≡ true → read_lines AtSecondHeader d k (line ∷ ls) ≡ read_lines AmongEdges d (suc k) ls
unfolding questions_of first_no behind
header2-yes d k line ls e = read-yes AtSecondHeader d k line ls (rw e)

-- ---- the empty line, and item rows

pub empty-no : (d : Doc) (k : ℕ) (line : List ℕ) (ls : List (List ℕ)) → is_empty line ≡ true → length d.items ≡ 0 → read_lines AmongItems d k (line ∷ ls) ≡ refused 10 k
unfolding questions_of first_no question10
empty-no d k line ls e h = read_no AmongItems d k line ls 10 (rw (e, h)) (λ z. omega arith)

pub empty-yes : (d : Doc) (k : ℕ) (line : List ℕ) (ls : List (List ℕ)) → is_empty line ≡ true → (length d.items ≡ 0 → ⊥)
    → read_lines AmongItems d k (line ∷ ls) ≡ read_lines AtSecondHeader d (suc k) ls
unfolding questions_of first_no question10 behind
empty-yes d k line ls e n =
    read-yes AmongItems d k line ls (rw (e, le-leb 1 (length d.items) (omega (arith, n)))) ∙ rw e

pub item-no : (d : Doc) (k : ℕ) (line : List ℕ) (ls : List (List ℕ)) (q : ℕ) → is_empty line ≡ false → q ≡ first_no (item_questions d (fields_of line)) → (q ≡ 0 → ⊥)
    → read_lines AmongItems d k (line ∷ ls) ≡ refused q k
unfolding questions_of
item-no d k line ls q e h n = read_no AmongItems d k line ls q (rw e h) n

pub item-yes : (d : Doc) (k : ℕ) (line : List ℕ) (ls : List (List ℕ)) → is_empty line ≡ false → 0 ≡ first_no (item_questions d (fields_of line))
    → read_lines AmongItems d k (line ∷ ls) ≡ read_lines AmongItems (with_item d (item_of (fields_of line))) (suc k) ls
unfolding questions_of behind
item-yes d k line ls e h = read-yes AmongItems d k line ls (rw e h) ∙ rw e

-- ---- edge rows

pub edge-no : (d : Doc) (k : ℕ) (line : List ℕ) (ls : List (List ℕ)) (q : ℕ) → q ≡ first_no (edge_questions d (fields_of line)) → (q ≡ 0 → ⊥)
    → read_lines AmongEdges d k (line ∷ ls) ≡ refused q k
unfolding questions_of
edge-no d k line ls q h n = read_no AmongEdges d k line ls q h n

pub edge-yes : (d : Doc) (k : ℕ) (line : List ℕ) (ls : List (List ℕ)) → 0 ≡ first_no (edge_questions d (fields_of line))
    → read_lines AmongEdges d k (line ∷ ls) ≡ read_lines AmongEdges (with_row d (edge_of (fields_of line))) (suc k) ls
unfolding questions_of behind
edge-yes d k line ls h = read-yes AmongEdges d k line ls h

-- ---- the text is over

pub over_no : (p : Phase) (d : Doc) (k : ℕ) → question11 p ≡ false → read_lines p d k [] ≡ refused 11 k
unfolding read_lines
over_no p d k e = rw e

pub over_yes : (d : Doc) (k : ℕ) → read_lines AmongEdges d k [] ≡ accepted (setup_of d)
unfolding read_lines question11
over_yes d k = refl
