-- Examples of a setup that lives (document 02, point 8), of what is read from the sheets' bytes: lists of calls, and what is held and opened behind them.
use Rattle.std.specs.Prelude.{◌≡◌, true, false, List, [], ◌∷◌, ℕ}
use Prim.Native.String.{String}
use Rattle.setup.specs.declared.Setup.{Setup}
use Rattle.setup.specs.Setup.{no_vertices, no_items}
use Rattle.sheet_format.specs.Rows.{Each}
use Rattle.living.specs.Calls.{Redrawing}
use Rattle.living.specs.Calls.{Call, TakeIn, TakeOut, AddEdge, RemoveEdge, back, CallOf}
use Rattle.sheet_format.specs.Read.{read_sheet}
use Rattle.histories.specs.Histories.{Ran}
use Rattle.worked_examples.specs.Sheets.{Sheet, Yields, lines_text, graph, items, bench, ordpw, mailpw, token, mail, order}
use Rattle.worked_examples.specs.Table.{set_of}

-- A sheet, calls with their numbers, and the items that are held and opened then.
pub record LivingExample : Type 0 where
  pub sheet : Sheet
  pub calls : List Call
  pub numbers : List ℕ
  pub held : List ℕ
  pub opened : List ℕ

abbrev pub lives : Sheet → List Call → List ℕ → List ℕ → List ℕ → LivingExample
lives sheet calls numbers held opened = record { sheet = sheet; calls = calls; numbers = numbers; held = held; opened = opened }

-- The calls lead from s, with these numbers, to a setup that holds and has opened these sets.
pub record LeadsTo (calls : List Call) (numbers : List ℕ) (held opened : ℕ) (s : Setup) : Type 0 where
  pub setup : Setup
  pub ran : Ran s calls numbers setup
  pub is_held : setup.held.0 ≡ held
  pub is_opened : setup.opened.0 ≡ opened

abbrev pub Lives : LivingExample → Type 0
Lives x = Yields x.sheet (LeadsTo x.calls x.numbers (set_of x.held) (set_of x.opened))

abbrev pub histories : List LivingExample
histories =
    -- the mail password opens mail, and mail opens order
    lives bench (TakeIn mailpw ∷ []) (0 ∷ []) (mailpw ∷ []) (mailpw ∷ mail ∷ order ∷ [])
    -- the trap: one more item needed in the same colour, and mail is shut again, and order behind it
    ∷ lives bench (TakeIn mailpw ∷ AddEdge ordpw mail 0 false ∷ []) (0 ∷ 0 ∷ []) (mailpw ∷ []) (mailpw ∷ [])
    -- .. and one needed item less opens them
    ∷ lives bench (TakeIn mailpw ∷ AddEdge ordpw mail 0 false ∷ RemoveEdge ordpw mail 0 ∷ []) (0 ∷ 0 ∷ 0 ∷ []) (mailpw ∷ []) (mailpw ∷ mail ∷ order ∷ [])
    -- an opened item that is taken in stays open when its opener goes
    ∷ lives bench (TakeIn mailpw ∷ TakeIn mail ∷ TakeOut mailpw ∷ []) (0 ∷ 0 ∷ 0 ∷ []) (mail ∷ []) (mail ∷ order ∷ [])
    -- an item that is taken out stays open where others open it
    ∷ lives bench (TakeIn mailpw ∷ TakeIn mail ∷ TakeOut mail ∷ []) (0 ∷ 0 ∷ 0 ∷ []) (mailpw ∷ []) (mailpw ∷ mail ∷ order ∷ [])
    -- an item that is held is taken in again, and nothing changes
    ∷ lives bench (TakeIn mailpw ∷ TakeIn mailpw ∷ []) (0 ∷ 0 ∷ []) (mailpw ∷ []) (mailpw ∷ mail ∷ order ∷ [])
    -- a colour above 7, and the removal of an edge that is not there, are refused
    ∷ lives bench (TakeIn mailpw ∷ AddEdge ordpw mail 8 false ∷ RemoveEdge ordpw mail 0 ∷ []) (0 ∷ 18 ∷ 20 ∷ []) (mailpw ∷ []) (mailpw ∷ mail ∷ order ∷ [])
    -- refused calls among them: an edge that is there, with the other mark, and an item that is not
    ∷ lives bench (AddEdge mailpw mail 0 true ∷ TakeIn mailpw ∷ TakeIn 5 ∷ []) (19 ∷ 0 ∷ 13 ∷ []) (mailpw ∷ []) (mailpw ∷ mail ∷ order ∷ [])
    -- an item that is not held is taken out, and nothing changes
    ∷ lives bench (TakeIn mailpw ∷ TakeOut token ∷ []) (0 ∷ 0 ∷ []) (mailpw ∷ []) (mailpw ∷ mail ∷ order ∷ [])
    ∷ []

abbrev pub AllLive : Type 0
AllLive = Each Lives histories

-- ---- a mark that comes and goes with its edge

-- The token opens mail too, by recovery; then that edge is removed. The sheet's own recovery edge, from mail to order, keeps its mark.
pub record MarkSetAndRemoved (s : Setup) : Type 0 where
  pub with : Setup
  pub without : Setup
  pub added : Ran s (TakeIn mailpw ∷ AddEdge token mail 1 true ∷ []) (0 ∷ 0 ∷ []) with
  pub removed : Ran with (RemoveEdge token mail 1 ∷ []) (0 ∷ []) without
  pub edges : with.graph ≡ graph ([] ∷ [] ∷ [] ∷ (2 ∷ 4 ∷ []) ∷ (5 ∷ 8 ∷ []) ∷ [])
  pub marks : with.recovery ≡ graph ([] ∷ [] ∷ [] ∷ (0 ∷ 4 ∷ []) ∷ (0 ∷ 8 ∷ []) ∷ [])
  pub edges_back : without.graph ≡ s.graph
  pub marks_back : without.recovery ≡ s.recovery

abbrev pub MarkComesAndGoes : Type 0
MarkComesAndGoes = Yields bench MarkSetAndRemoved

-- ---- setups that are refused with 12

-- What a refused sheet leaves has no items: every call on it is refused, and hands it back as it is.
abbrev pub twice : List String
twice = items ("a c - - 0" ∷ "a a 1 1 1" ∷ "b" ∷ [])

abbrev pub RefusedSheetTwelve : Type 0
RefusedSheetTwelve = (r : Redrawing) → CallOf (TakeIn 0) (read_sheet (lines_text twice)).setup r → r ≡ back no_items 12

-- Document 01's sheet with order opened, though nothing is held.
abbrev pub spoiled : Setup
spoiled =
    record {
      count = bench.setup.count;
      vertices = bench.setup.vertices;
      graph = bench.setup.graph;
      recovery = bench.setup.recovery;
      held = no_vertices;
      opened = record { 0 = set_of (order ∷ []) };
    }

abbrev pub SpoiledTwelve : Type 0
SpoiledTwelve = (r : Redrawing) → CallOf (TakeIn mailpw) spoiled r → r ≡ back spoiled 12
