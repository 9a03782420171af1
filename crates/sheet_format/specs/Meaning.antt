-- What reading a sheet means: which texts are accepted and what they yield, and what a refusal's number and line say.
-- Statements only; proofs/Meaning.antt and proofs/Question12.antt have the theorems.
use Rattle.std.specs.Prelude.{◌≡◌, List, [], ◌∷◌, ◌++◌, true, false, ◌⊎◌, ℕ, suc, ◌≤◌, ◌<◌, length}
use Rattle.vertex_set.specs.Set.{Iff}
use Rattle.setup.specs.Bounds.{most_bytes}
use Rattle.setup.specs.declared.Setup.{Setup}
use Rattle.setup.specs.Setup.{no_items}
use Rattle.formed.specs.WellFormed.{WellFormed}
use Rattle.sheet_format.specs.Text.{lines_of}
use Rattle.sheet_format.specs.Rows.{Doc, Each, Valid, render, setup_of}
use Rattle.sheet_format.specs.Questions.{question1, question2}
use Rattle.sheet_format.specs.Read.{AtFirstHeader, Place, Asked, ask, no_rows, questions_of, behind, question11, accepted, refused, read_sheet}

-- ---- what is accepted

-- The written form of valid rows is accepted, and yields their setup.
abbrev pub AcceptedOfValid : Type 0
AcceptedOfValid = (d : Doc) → Valid d → read_sheet (render d) ≡ accepted (setup_of d)

-- Every accepted text is the written form of valid rows, whose setup it yields.
abbrev pub ValidOfAccepted : Type 0
ValidOfAccepted = (s : List ℕ) (st : Setup) → read_sheet s ≡ accepted st → (d : Doc) × Valid d × (s ≡ render d) × (st ≡ setup_of d)

-- The bytes of the longest sheet: 64 items with names of 16 bytes, 14 of them with a start and a loss of ten digits, and 256 edges.
abbrev pub longest_sheet : ℕ
longest_sheet = 11626

-- No sheet is longer.
abbrev pub LongestSheet : Type 0
LongestSheet = (d : Doc) → Valid d → length (render d) ≤ longest_sheet

-- ---- what a refusal says

-- Where the reading of the lines begins.
abbrev pub start : Place
start = record { phase = AtFirstHeader; above = no_rows }

-- The questions that are asked of a line at a place.
abbrev pub asked_at : Place → List ℕ → List Asked
asked_at p line = questions_of p.phase p.above line

-- The place behind a line whose answers are all yes.
abbrev pub next : Place → List ℕ → Place
next p line = behind p.phase p.above line

-- Each answer is yes.
abbrev pub OnlyYeses : List Asked → Type 0
OnlyYeses asked = Each (λ a. a.answer ≡ true) asked

-- Each of the lines has only yeses, and they lead from the place p to the place q.
abbrev pub Passed : Place → List (List ℕ) → Place → Type 0
Passed p [] q = p ≡ q
Passed p (line ∷ lines) q = OnlyYeses (asked_at p line) × Passed (next p line) lines q

-- Every question before q is a yes, and q is a no.
pub record FirstNo (asked : List Asked) (q : ℕ) : Type 0 where
  pub before : List Asked
  pub after : List Asked
  pub order : asked ≡ before ++ (ask q false ∷ after)
  pub yeses : OnlyYeses before

-- 1, of the whole text: it has more than the most bytes.
pub record TooLong (text : List ℕ) (q k : ℕ) : Type 0 where
  pub number : q ≡ 1
  pub line : k ≡ 0
  pub long : most_bytes < length text

-- 2, of the whole text: question 1 is a yes, and question 2 a no.
pub record NoText (text : List ℕ) (q k : ℕ) : Type 0 where
  pub number : q ≡ 2
  pub line : k ≡ 0
  pub yes1 : question1 text ≡ true
  pub no2 : question2 text ≡ false

-- A question of line k, counted from 1: every line above has only yeses, and on line k every question before q is a yes and q is a no.
pub record NoAtLine (text : List ℕ) (q k : ℕ) : Type 0 where
  pub yes1 : question1 text ≡ true
  pub yes2 : question2 text ≡ true
  pub above : List (List ℕ)
  pub line : List ℕ
  pub below : List (List ℕ)
  pub lines : lines_of text ≡ above ++ (line ∷ below)
  pub counted : k ≡ suc (length above)
  pub place : Place
  pub passed : Passed start above place
  pub no : FirstNo (asked_at place line) q

-- 11, where the text is over: every line has only yeses, and the second header did not come. The line is one after the last.
pub record NoAtEnd (text : List ℕ) (q k : ℕ) : Type 0 where
  pub number : q ≡ 11
  pub yes1 : question1 text ≡ true
  pub yes2 : question2 text ≡ true
  pub counted : k ≡ suc (length (lines_of text))
  pub place : Place
  pub passed : Passed start (lines_of text) place
  pub no : question11 place.phase ≡ false

-- What a refusal with the number q and the line k means.
pub data Refusal (text : List ℕ) (q k : ℕ) : Type 0 where
  too_long : TooLong text q k → Refusal text q k
  no_text : NoText text q k → Refusal text q k
  at-line : NoAtLine text q k → Refusal text q k
  at-end : NoAtEnd text q k → Refusal text q k

-- A text is refused with a number and a line exactly where they mean that.
abbrev pub RefusalLaw : Type 0
RefusalLaw = (s : List ℕ) (q k : ℕ) → Iff (read_sheet s ≡ refused q k) (Refusal s q k)

-- A text has at most one refusal: number and line are determined.
abbrev pub RefusalUnique : Type 0
RefusalUnique = (s : List ℕ) (q k q' k' : ℕ) → Refusal s q k → Refusal s q' k' → (q ≡ q') × (k ≡ k')

-- s is accepted.
pub record Accepted (s : List ℕ) : Type 0 where
  pub setup : Setup
  pub reading : read_sheet s ≡ accepted setup

-- A refused sheet gives a setup of 0 items with no place in use.
abbrev pub EmptySetup : Type 0
EmptySetup = setup_of no_rows ≡ no_items

-- s is refused, with a number from 1 to 11 and a setup of 0 items.
pub record Refused (s : List ℕ) : Type 0 where
  pub number : ℕ
  pub line : ℕ
  pub least : 1 ≤ number
  pub most : number ≤ 11
  pub reading : read_sheet s ≡ refused number line

-- Every text is either accepted or refused, and none is both.
pub record AcceptedOrRefused : Type 0 where
  pub either : (s : List ℕ) → Accepted s ⊎ Refused s
  pub never : (s : List ℕ) → Accepted s → Refused s → ⊥

-- ---- what is held after reading

-- Every reading, an accepted one and a refused one, holds nothing and has nothing opened (document 02, point 8).
pub record FreshHoldsNothing : Type 0 where
  pub held : (text : List ℕ) → (read_sheet text).setup.held.0 ≡ 0
  pub opened : (text : List ℕ) → (read_sheet text).setup.opened.0 ≡ 0

-- ---- question 12, of sheets alone

-- A setup is well formed and holds nothing exactly when some accepted sheet yields it. Question 12 itself, of sheets and calls, is in `histories`.
abbrev pub Question12Sheets : Type 0
Question12Sheets = (s : Setup) → Iff (WellFormed s × (s.held.0 ≡ 0)) ((text : List ℕ) × (read_sheet text ≡ accepted s))
