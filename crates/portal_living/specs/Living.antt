-- What the calls for C on a setup that lives answer, for every buffer of words: the call's own questions, and 15.
use Rattle.std.specs.Prelude.{◌≡◌, List, [], ◌∷◌, ℕ, ◌≤◌, ◌<◌, length}
use Rattle.vertex_set.specs.Set.{Member, Iff}
use Rattle.vertex_set.specs.Order.{Listed}
use Rattle.setup.specs.declared.Setup.{Setup}
use Rattle.formed.specs.WellFormed.{WellFormed}
use Rattle.questions.specs.Contract.{Contract}
use Rattle.questions.specs.Told.{Told}
use Rattle.derivations.specs.Access.{AccessFrom}
use Rattle.living.specs.Calls.{Call, TakeIn, TakeOut, Drawing, drawing_of, after, Redrawn, asks_of}
use Rattle.sheet_format.specs.Read.{read_sheet}
use Rattle.histories.specs.Histories.{left_by}
use Rattle.portal_words.specs.Words.{setup_words, held_place, opened_place, word_at, setup_in, words_of}
use Rattle.portal_sheets.specs.Reading.{ReadingCall}

-- The call on the setup that the words say. The words that say the redrawn setup are put back. A buffer that is too short says no setup, so that 12
-- comes before 15.
abbrev pub living_call : Call → List ℕ → Contract
living_call c words =
    record {
      lent = words ∷ [];
      questions = asks_of c (setup_in words);
      Answer = Setup;
      Right = Redrawn (setup_in words) (after c (drawing_of (setup_in words)));
      values = λ t. [];
      writes = λ t. words_of t ∷ [];
    }

-- The call was made on the words `entry`, answered this number, and left the words `exit`.
abbrev pub Redrew : Call → ℕ → List ℕ → List ℕ → Type 0
Redrew c number entry exit = Told (living_call c entry) number [] (exit ∷ [])

-- ---- theorems

-- Taking in a held item, or taking out one that is not held, is accepted and leaves every word as it was.
pub record NoWordChanges : Type 0 where
  pub take_in : (v number : ℕ) (entry exit : List ℕ) → WellFormed (setup_in entry) → Member (setup_in entry).held.0 v
      → Redrew (TakeIn v) number entry exit → (number ≡ 0) × (exit ≡ entry)
  pub take_out : (v number : ℕ) (entry exit : List ℕ) → WellFormed (setup_in entry) → v < (setup_in entry).count → (Member (setup_in entry).held.0 v → ⊥)
      → Redrew (TakeOut v) number entry exit → (number ≡ 0) × (exit ≡ entry)

-- The calls are made one after the other on one buffer, with these numbers; they lead from these words to those.
abbrev pub MadeOn : List ℕ → List Call → List ℕ → List ℕ → Type 0
MadeOn entry [] [] exit = entry ≡ exit
MadeOn entry [] (n ∷ numbers) exit = ⊥
MadeOn entry (c ∷ calls) [] exit = ⊥
MadeOn entry (c ∷ calls) (n ∷ numbers) exit = (words : List ℕ) × Redrew c n entry words × MadeOn words calls numbers exit

-- The words show the drawing d: what is drawn and held there is d, and the word of the opened set is what the word of the held set opens in it.
pub record Shows (s : Setup) (d : Drawing) (words : List ℕ) : Type 0 where
  pub redrawn : Redrawn s d (setup_in words)
  pub held : (v : ℕ) → Iff (Member (word_at words held_place) v) (d.Held v)
  pub opened : AccessFrom (setup_in words).graph (word_at words held_place) (word_at words opened_place)

-- Point 8's theorem, for a portal: a text is read into a buffer, and then any list of the four calls is made on that buffer, refused ones among them.
pub record LivesInWords : Type 0 where
  -- With room for a setup, of any text: the words show the drawing that the accepted calls have left.
  pub shows : (text : List ℕ) (number line : ℕ) (entry fresh : List ℕ) → ReadingCall text number line entry fresh → setup_words ≤ length entry
      → (calls : List Call) (numbers words : List ℕ) → MadeOn fresh calls numbers words
      → Shows (read_sheet text).setup (left_by calls numbers (drawing_of (read_sheet text).setup)) words
  -- Where the reading was refused, for its text or for want of room, each call is refused with 12 and leaves every word.
  pub refused : (text : List ℕ) (number line : ℕ) (entry fresh : List ℕ) → ReadingCall text number line entry fresh → (number ≡ 0 → ⊥)
      → (calls : List Call) (numbers words : List ℕ) → MadeOn fresh calls numbers words → (words ≡ fresh) × ((n : ℕ) → Listed numbers n → n ≡ 12)
