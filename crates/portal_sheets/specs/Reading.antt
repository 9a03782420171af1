-- What the portal's calls on a sheet answer, for every text, buffer and item number.
use Rattle.std.specs.Prelude.{◌≡◌, List, [], ◌∷◌, ℕ, ◌≤◌, ◌<◌, length, take, drop}
use Rattle.sheet_format.specs.Read.{read_sheet, asks_sheet}
use Rattle.sheet_format.specs.Names.{name_of, name_start}
use Rattle.setup.specs.Calls.{written}
use Rattle.questions.specs.Contract.{Contract, telling}
use Rattle.questions.specs.Questions.{asks13}
use Rattle.portal_words.specs.Words.{setup_words, setup_in, words_of}

-- 40100 for version 4.1.0 of the calls, two digits for each of the last two parts.
abbrev pub version : ℕ
version = 40100

-- The sheet's own number and line, and its setup's words at the front of the lent buffer. With fewer places than these words no word is written,
-- and an accepted sheet gets 15.
pub record ReadingCall (text : List ℕ) (number line : ℕ) (entry exit : List ℕ) : Type 0 where
  pub refused : ((read_sheet text).number ≡ 0 → ⊥) → number ≡ (read_sheet text).number
  pub short : (read_sheet text).number ≡ 0 → length entry < setup_words → number ≡ 15
  pub accepted : (read_sheet text).number ≡ 0 → setup_words ≤ length entry → number ≡ 0
  pub lined : line ≡ (read_sheet text).line
  pub room : setup_words ≤ length entry → exit ≡ written (words_of (read_sheet text).setup) entry
  pub untouched : length entry < setup_words → exit ≡ entry

-- A part of the sheet's bytes: where it begins, and how many bytes it has.
pub record NamePart : Type 0 where
  pub start : ℕ
  pub size : ℕ

-- The part holds the item's name.
pub record HoldsName (text : List ℕ) (item : ℕ) (p : NamePart) : Type 0 where
  pub begins : p.start ≡ name_start text item
  pub long : p.size ≡ length (name_of text item)
  pub bytes : take p.size (drop p.start text) ≡ name_of text item

-- The sheet's own number, and 13; else the part that holds the item's name.
abbrev pub name_call : List ℕ → ℕ → Contract
name_call text item = telling (asks_sheet text ∷ asks13 (read_sheet text).setup item ∷ []) (HoldsName text item) (λ p. p.start ∷ p.size ∷ [])

-- What is read is what is asked: the words that reading writes say the sheet's setup.
abbrev pub ReadBack : Type 0
ReadBack = (text : List ℕ) (number line : ℕ) (entry exit : List ℕ) → ReadingCall text number line entry exit → setup_words ≤ length entry
    → setup_in exit ≡ (read_sheet text).setup
