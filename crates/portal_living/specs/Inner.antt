-- What the inner function answers. Nothing of this has to be believed.
use Rattle.std.specs.Prelude.{◌≡◌, List, ℕ, ◌≤◌, length}
use Rattle.setup.specs.Calls.{written}
use Rattle.living.specs.Calls.{Redrawing}
use Rattle.portal_words.specs.Words.{setup_words, words_of}

-- An accepted call was made on a buffer that says a setup, and so has room for one.
pub record HasRoom (r : Redrawing) (words : List ℕ) : Type 0 where
  pub accepted : r.number ≡ 0 → setup_words ≤ length words

-- A refusal leaves every word. Else the words that say the setup stand in the first places, and the words behind them are unchanged.
pub record PutBack (r : Redrawing) (entry exit : List ℕ) : Type 0 where
  pub refused : (r.number ≡ 0 → ⊥) → exit ≡ entry
  pub accepted : r.number ≡ 0 → exit ≡ written (words_of r.setup) entry
