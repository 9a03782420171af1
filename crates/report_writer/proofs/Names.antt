-- An accepted sheet has a short name for each vertex, and its setup is well formed.
-- Assumes nothing.
use mathlib.Core.Path.{◌≡◌, refl, sym, ap, ◌∙◌}
use mathlib.Core.List.{List, [], ◌∷◌, map}
use mathlib.Core.Logic.{⊎_elim}
use Prim.Native.Nat.{ℕ, zero, suc, ◌≤◌, ◌<◌}
use native.Mathlib.Omega.{arith}
use lib.ListN.{length, get_or, length-append, length-map}
use Rattle.setup.specs.declared.Setup.{Setup}
use Rattle.formed.specs.WellFormed.{WellFormed}
use Rattle.sheet_format.specs.Read.{Reading}
use Rattle.sheet_format.specs.Rows.{ItemRow, Doc, Each, ValidItem, Valid, render, second_header, setup_of}
use Rattle.sheet_format.specs.Read.{read_sheet, accepted}
use Rattle.sheet_format.proofs.Documents.{doc_lines}
use Rattle.sheet_format.proofs.Rows.{item_line, edge_line}
use Rattle.sheet_format.proofs.Meaning.{render-lines, accepted-of-valid, valid-of-accepted, accepted-or-refused}
use Rattle.sheet_format.specs.Meaning.{Accepted, Refused}
use Rattle.sheet_format.proofs.Question12.{yielded-formed}
use Rattle.sheet_format.proofs.Fields.{name-length}
use Rattle.sheet.proofs.Names.{item-there, names-of-rows}
use Rattle.report_facts.specs.Inner.Facts.{HasNames}

-- What an accepted sheet yields.
pub record Yields (text : List ℕ) (s : Setup) : Type 0 where
  pub formed : WellFormed s
  pub names : HasNames text s

each-short : (xs : List ItemRow) (i : ℕ) → Each ValidItem xs → i < length xs → length (get_or (map (λ (x : ItemRow). x.name) xs) i []) ≤ 16
each-short [] i v h = omega arith
each-short (x ∷ xs) zero v h = name-length x.name v.0.name
each-short (x ∷ xs) (suc i) v h = each-short xs i v.1 (omega arith)

doc-lines : (d : Doc) → length d.items < length (doc_lines d)
doc-lines d =
    let m = length-map d.items item_line in
    let a = length-append (map item_line d.items) ([] ∷ second_header ∷ map edge_line d.edges) in
    omega arith

doc-names : (d : Doc) → Valid d → HasNames (render d) (setup_of d)
unfolding setup_of
doc-names d v =
    record {
      items = λ i h. item-there (render d) i (accepted (setup_of d)) (sym (accepted-of-valid d v)) refl h;
      lines = rw (render-lines d v) (doc-lines d);
      short = λ i h. rw (names-of-rows d v i h) (each-short d.items i v.items h);
    }

names-by : (text : List ℕ) (s : Setup) (d : Doc) → Valid d → text ≡ render d → s ≡ setup_of d → HasNames text s
names-by text s d v e f = rw (e, f) (doc-names d v)

pub accepted-yields : (text : List ℕ) (r : Reading) → r ≡ read_sheet text → r.number ≡ 0 → Yields text r.setup
accepted-yields text r q z =
    ⊎_elim
    (λ (a : Accepted text).
    let e : r.setup ≡ a.setup = ap (λ (x : Reading). x.setup) (q ∙ a.reading) in
    let d = valid-of-accepted text a.setup a.reading in
    rw e
    (record {
      formed = yielded-formed text a.setup a.reading;
      names = names-by text a.setup d.0 d.1 d.2 d.3;
    }))
    (λ (f : Refused text). absurd (let e = ap (λ (x : Reading). x.number) (q ∙ f.reading) in omega (arith, f.least)))
    (accepted-or-refused.either text)
