-- Examples of quick answers (document 02, point 2), of what is read from the sheets' bytes.
use Rattle.std.specs.Prelude.{List, [], ◌∷◌, ℕ}
use Rattle.sheet_format.specs.Rows.{Each}
use Rattle.questions.specs.Contract.{gives, ends, Fulfils}
use Rattle.quick_yes.specs.Answers.{quick_call}
use Rattle.worked_examples.specs.Sheets.{Sheet, Yields, bench, ordpw, mailpw, token, mail, order, closed, only}
use Rattle.worked_examples.specs.Table.{set_of}

-- A sheet, a target, the given items; 1 for yes or 0 for no, and the items that are held at the stop.
pub record QuickExample : Type 0 where
  pub sheet : Sheet
  pub target : ℕ
  pub given : List ℕ
  pub opens : ℕ
  pub held : List ℕ

abbrev pub quick : Sheet → ℕ → List ℕ → ℕ → List ℕ → QuickExample
quick sheet target given opens held = record { sheet = sheet; target = target; given = given; opens = opens; held = held }

abbrev pub QuickHolds : QuickExample → Type 0
QuickHolds x = Yields x.sheet (λ s. Fulfils (quick_call s x.target (set_of x.given)) (ends (gives (x.opens ∷ set_of x.held ∷ [])) []))

abbrev pub quick_answers : List QuickExample
quick_answers =
    -- mail is held, and order, which the same set opens, not yet
    quick bench mail (ordpw ∷ mailpw ∷ token ∷ []) 1 (ordpw ∷ mailpw ∷ token ∷ mail ∷ [])
    -- mail, the lower item, comes before order, though order does not need it here
    ∷ quick bench order (ordpw ∷ mailpw ∷ token ∷ []) 1 (ordpw ∷ mailpw ∷ token ∷ mail ∷ order ∷ [])
    -- two steps
    ∷ quick bench order (mailpw ∷ []) 1 (mailpw ∷ mail ∷ order ∷ [])
    -- a held target gives the given set
    ∷ quick bench token (mailpw ∷ token ∷ []) 1 (mailpw ∷ token ∷ [])
    -- a starting item that is not held is opened by nothing: no, with the full closure
    ∷ quick bench ordpw (mailpw ∷ []) 0 (mailpw ∷ mail ∷ order ∷ [])
    -- no, from nothing
    ∷ quick bench order [] 0 []
    ∷ quick closed only [] 0 []
    ∷ []

abbrev pub AllTell : Type 0
AllTell = Each QuickHolds quick_answers
