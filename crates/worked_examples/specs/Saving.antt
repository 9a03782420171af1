-- A drawing saved: document 01's sheet, redrawn, and the text that is written of it.
use Rattle.std.specs.Prelude.{◌≡◌, true, List, [], ◌∷◌, ◌++◌, ℕ, ◌≤◌, ◌<◌, length}
use Prim.Native.String.{String}
use Rattle.setup.specs.declared.Setup.{Setup}
use Rattle.setup.specs.Calls.{written}
use Rattle.questions.specs.Contract.{Outcome, gives, ends, turns_away, Fulfils}
use Rattle.living.specs.Calls.{TakeIn, AddEdge}
use Rattle.histories.specs.Histories.{Ran}
use Rattle.save_format.specs.Call.{save_call}
use Rattle.worked_examples.specs.Sheets.{Yields, lines_text, bench, mailpw, token, mail}

-- A sheet of the bench's items, or others, and these edge rows.
abbrev pub with_rows : List String → List String → List String
with_rows items edges = "name kind start loss rank" ∷ (items ++ ("" ∷ "from to colour rec" ∷ edges))

abbrev pub bench_items : List String
bench_items = "ordpw c 1 2 0" ∷ "mailpw c 1 1 0" ∷ "token c 3 2 0" ∷ "mail a - - 1" ∷ "order a - - 3" ∷ []

-- The edge rows go by their target, then the colour, then the source, wherever they stood and whenever they were drawn.
abbrev pub saved_lines : List String
saved_lines = with_rows bench_items ("mailpw mail 0 0" ∷ "token mail 1 1" ∷ "ordpw order 0 0" ∷ "token order 0 0" ∷ "mail order 1 1" ∷ [])

-- The mail password is taken in, and the token becomes a recovery way into mail. What is written then is this text and nothing else, for every lent buffer.
pub record SavesRedrawn (s : Setup) : Type 0 where
  pub drawn : Setup
  pub ran : Ran s (TakeIn mailpw ∷ AddEdge token mail 1 true ∷ []) (0 ∷ 0 ∷ []) drawn
  pub saved : (out : List ℕ) (o : Outcome) → Fulfils (save_call (lines_text bench.lines) drawn out) o → length (lines_text saved_lines) ≤ length out
      → o ≡ ends (gives (length (lines_text saved_lines) ∷ [])) (written (lines_text saved_lines) out ∷ [])
  pub short : (out : List ℕ) (o : Outcome) → Fulfils (save_call (lines_text bench.lines) drawn out) o → length out < length (lines_text saved_lines)
      → o ≡ turns_away (out ∷ []) 15

abbrev pub RedrawnSaved : Type 0
RedrawnSaved = Yields bench SavesRedrawn
