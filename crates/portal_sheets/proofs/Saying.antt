-- The words that reading writes say the sheet's setup: an accepted sheet's is well formed, and a refused sheet's has no item.
-- Assumes nothing.
use mathlib.Core.Path.{◌≡◌, sym, ap, subst, ◌∙◌}
use mathlib.Core.List.{List, ◌++◌}
use mathlib.Core.Logic.{⊎_elim}
use Prim.Native.Nat.{ℕ}
use lib.ListN.{length, drop}
use Rattle.setup.specs.declared.Setup.{Setup}
use Rattle.setup.specs.Setup.{no_items}
use Rattle.formed.specs.WellFormed.{WellFormed}
use Rattle.sheet_format.specs.Read.{Reading}
use Rattle.sheet_format.specs.Read.{read_sheet}
use Rattle.sheet_format.proofs.Meaning.{empty-setup, accepted-or-refused}
use Rattle.sheet_format.proofs.Question12.{yielded-formed}
use Rattle.portal_words.specs.Words.{SaysSetup, setup_in, words_of}
use Rattle.portal_words.proofs.Strict.{well-formed-says, empty-says, well-formed-back, empty_back}
use Rattle.portal_sheets.specs.Reading.{ReadBack}

-- what holds of an accepted sheet's setup and of the one without items holds of every sheet's
by-reading : (P : Setup → Type 0) → ((s : Setup) → WellFormed s → P s) → P no_items → (text : List ℕ) → P (read_sheet text).setup
by-reading P formed empty text =
    ⊎_elim
    (λ a. subst P (sym (ap (λ (x : Reading). x.setup) a.reading)) (formed a.setup (yielded-formed text a.setup a.reading)))
    (λ r. subst P (sym (ap (λ (x : Reading). x.setup) r.reading ∙ empty-setup)) empty)
    (accepted-or-refused.either text)

pub reading-says : (rest text : List ℕ) → SaysSetup (words_of (read_sheet text).setup ++ rest)
reading-says rest = by-reading (λ s. SaysSetup (words_of s ++ rest)) (λ s w. well-formed-says s w rest) (empty-says rest)

pub read_back : ReadBack
read_back text number line entry exit r h =
    let rest = drop (length (words_of (read_sheet text).setup)) entry in
    ap setup_in (r.room h) ∙ by-reading (λ s. setup_in (words_of s ++ rest) ≡ s) (λ s w. well-formed-back s w rest) (empty_back rest) text
