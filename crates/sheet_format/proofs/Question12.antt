-- What is held after reading; and question 12 of sheets alone: a setup is well formed and holds nothing exactly when some accepted sheet yields it.
-- Assumes nothing.
use mathlib.Core.Path.{◌≡◌, sym, ap, subst, ◌∙◌}
use mathlib.Core.List.{List}
use mathlib.Core.Logic.{⊎_elim}
use Prim.Native.Nat.{ℕ}
use native.Mathlib.Omega.{arith}
use Rattle.setup.specs.declared.Setup.{Setup}
use Rattle.formed.specs.WellFormed.{WellFormed}
use Rattle.sheet_format.specs.Read.{Reading}
use Rattle.sheet_format.specs.Rows.{setup_of, render}
use Rattle.sheet_format.specs.Read.{read_sheet, accepted}
use Rattle.sheet_format.specs.Meaning.{Accepted, Refused, FreshHoldsNothing, Question12Sheets}
use Rattle.sheet_format.proofs.Meaning.{accepted-of-valid, valid-of-accepted, accepted-or-refused}
use Rattle.sheet_format.proofs.Question12Yielded.{well-formed-of-valid}
use Rattle.sheet_format.proofs.Question12WellFormed.{doc-of-well-formed}

-- what an accepted sheet yields is well formed
pub yielded-formed : (text : List ℕ) (s : Setup) → read_sheet text ≡ accepted s → WellFormed s
yielded-formed text s e = let d = valid-of-accepted text s e in subst WellFormed (sym d.3) (well-formed-of-valid d.0 d.1)

-- and holds nothing
pub yielded-unheld : (text : List ℕ) (s : Setup) → read_sheet text ≡ accepted s → (s.held.0 ≡ 0) × (s.opened.0 ≡ 0)
unfolding setup_of
yielded-unheld text s e =
    let d = valid-of-accepted text s e in
    (ap (λ (t : Setup). t.held.0) d.3, ap (λ (t : Setup). t.opened.0) d.3)

pub question-12-sheets : Question12Sheets
question-12-sheets s =
    record {
      to = λ w. let d = doc-of-well-formed s w.0 w.1 in (render d.0, accepted-of-valid d.0 d.1 ∙ ap accepted d.2);
      from = λ t. (yielded-formed t.0 s t.1, (yielded-unheld t.0 s t.1).0);
    }

-- so a sheet that is not refused yields one
pub accepted-formed : (text : List ℕ) → (read_sheet text).number ≡ 0 → WellFormed (read_sheet text).setup
accepted-formed text z =
    ⊎_elim
    (λ (a : Accepted text). subst WellFormed (sym (ap (λ (r : Reading). r.setup) a.reading)) (yielded-formed text a.setup a.reading))
    (λ (d : Refused text). absurd (let e = ap (λ (r : Reading). r.number) d.reading in let m = d.least in omega arith))
    (accepted-or-refused.either text)

-- every reading holds nothing
unheld : (text : List ℕ) → ((read_sheet text).setup.held.0 ≡ 0) × ((read_sheet text).setup.opened.0 ≡ 0)
unfolding setup_of
unheld text =
    ⊎_elim
    (λ (a : Accepted text).
    let y = yielded-unheld text a.setup a.reading in
    (ap (λ (r : Reading). r.setup.held.0) a.reading ∙ y.0, ap (λ (r : Reading). r.setup.opened.0) a.reading ∙ y.1))
    (λ (d : Refused text). (ap (λ (r : Reading). r.setup.held.0) d.reading, ap (λ (r : Reading). r.setup.opened.0) d.reading))
    (accepted-or-refused.either text)

pub fresh-holds-nothing : FreshHoldsNothing
fresh-holds-nothing = record { held = λ text. (unheld text).0; opened = λ text. (unheld text).1 }
