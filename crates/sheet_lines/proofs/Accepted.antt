-- An accepted sheet: the rows that it is the written form of, the setup that they state, and its lines.
-- Assumes nothing.
use mathlib.Core.Path.{◌≡◌, sym, ap, ◌∙◌}
use mathlib.Core.List.{List, [], ◌∷◌, map}
use mathlib.Core.Logic.{⊎_elim}
use Prim.Native.Nat.{ℕ, ◌+◌}
use native.Mathlib.Omega.{arith}
use lib.ListN.{length, length-append, length-map}
use Rattle.setup.specs.declared.Setup.{Setup}
use Rattle.sheet_format.specs.Read.{Reading}
use Rattle.sheet_format.specs.Text.{lines_of}
use Rattle.sheet_format.specs.Rows.{Doc, Valid, second_header, render, setup_of}
use Rattle.sheet_format.specs.Read.{read_sheet}
use Rattle.sheet_format.proofs.Rows.{item_line, edge_line}
use Rattle.sheet_format.proofs.Meaning.{render-lines, accepted-of-valid, valid-of-accepted, accepted-or-refused}
use Rattle.sheet_lines.specs.Inner.Keys.{Accepts, HasLines}

-- a reading with the number 0
pub accepts-of : (s : List ℕ) (r : Reading) → r ≡ read_sheet s → r.number ≡ 0 → Accepts s r.setup
accepts-of s r q z =
    ⊎_elim
    (λ a. record { reading = a.reading ∙ ap (λ (x : Setup). record { number = 0; line = 0; setup = x }) (sym (ap (λ (x : Reading). x.setup) (q ∙ a.reading))) })
    (λ n. absurd (let e = ap (λ (x : Reading). x.number) (q ∙ n.reading) in let l = n.least in omega arith))
    (accepted-or-refused.either s)

-- ---- the setup that rows state

pub setup-of : (s : List ℕ) (a : Setup) (d : Doc) → Accepts s a → Valid d → s ≡ render d → a ≡ setup_of d
setup-of s a d h v t = ap (λ (r : Reading). r.setup) (sym h.reading ∙ ap read_sheet t ∙ accepted-of-valid d v)

pub count_of : (s : List ℕ) (a : Setup) (d : Doc) → Accepts s a → Valid d → s ≡ render d → a.count ≡ length d.items
unfolding setup_of
count_of s a d h v t = ap (λ (x : Setup). x.count) (setup-of s a d h v t)

-- ---- lines

lines_long : (d : Doc) → Valid d → length (lines_of (render d)) ≡ length d.items + length d.edges + 3
lines_long d v =
    let a = length-append (map item_line d.items) ([] ∷ second_header ∷ map edge_line d.edges) in
    let b = length-map d.items item_line in
    let c = length-map d.edges edge_line in
    rw (render-lines d v) (omega arith)

pub has-lines : (s : List ℕ) (a : Setup) (d : Doc) → Accepts s a → Valid d → s ≡ render d → HasLines s a.count
has-lines s a d h v t =
    let c = count_of s a d h v t in
    let l = lines_long d v in
    let m = v.most in
    record { few = omega arith; lines = rw t (omega arith) }

-- as many edge rows as lines that are no others
pub edges-many : (s : List ℕ) (a : Setup) (d : Doc) → Accepts s a → Valid d → s ≡ render d → length (lines_of s) ≡ a.count + length d.edges + 3
edges-many s a d h v t = let c = count_of s a d h v t in let l = lines_long d v in rw t (omega arith)

-- ---- accepted sheets have rows

pub record RowsOfText (s : List ℕ) (a : Setup) : Type 0 where
  pub doc : Doc
  pub valid : Valid doc
  pub text : s ≡ render doc

pub rows-of-text : (s : List ℕ) (a : Setup) → Accepts s a → RowsOfText s a
rows-of-text s a h = let d = valid-of-accepted s a h.reading in record { doc = d.0; valid = d.1; text = d.2 }

pub lines-there : (s : List ℕ) (a : Setup) → Accepts s a → HasLines s a.count
lines-there s a h = let d = rows-of-text s a h in has-lines s a d.doc h d.valid d.text
