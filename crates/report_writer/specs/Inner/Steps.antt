-- Inner: what the steps ask for and write.
use Rattle.std.specs.Prelude.{◌≡◌, Bool, List, ℕ, zero, suc, ◌+◌, ◌-◌, ◌*◌, ◌^◌, ◌≤◌, ◌<◌, length, take}
use Rattle.setup.specs.declared.Setup.{Setup}
use Rattle.setup.specs.Calls.{written}
use Rattle.writing.specs.declared.Pen.{Pen}
use Rattle.bases.specs.Inner.Readers.{Values}
use Rattle.sheet_format.specs.Names.{name_of}
use Rattle.report_scores.specs.Inner.Scores.{list_room}
use Rattle.report_facts.specs.declared.Facts.{Facts}
use Rattle.report_facts.specs.Inner.Facts.{FactsOf, TablesOf}
use Rattle.report_facts.specs.Texts.{slot_list}
use Rattle.report_facts.specs.Inner.Parts.{Part}
use Rattle.report_writer.specs.declared.steps.Cursor.{Cursor}
use Rattle.report_writer.specs.declared.steps.Cursor.TheVariants as cursor
use Rattle.report_writer.specs.declared.steps.Step.{Step}
use Rattle.report_writer.specs.Rest.{rows_from, rest_of}

-- There is room for any step: the pairs of one account are at most 64 rows of 34 bytes.
abbrev pub StepRoom : Pen → Type 0
StepRoom p = p.at + 4096 ≤ length p.out.now

-- Where the report goes on, with the pen at the place of its next byte.
abbrev pub step_at : Cursor → Pen → Step
step_at c p = record { cursor = c; at = p.at }

pub record ValuesBy (loss : Bool) (f : Facts) (r : List ℕ) : Type 0 where
  pub each : (sheet : List ℕ) (s : Setup) → FactsOf sheet s f → Values loss s r

-- The n sets of the list k are at hand, and row i comes next.
pub record ListAt (sheet : List ℕ) (s : Setup) (f : Facts) (list : List ℕ) (k i n : ℕ) : Type 0 where
  pub facts : FactsOf sheet s f
  pub number : k < 2 * s.count
  pub next : i ≤ n
  pub most : n ≤ list_room
  pub room : length list ≡ list_room
  pub here : take n list ≡ slot_list s k

pub record CanPutList (sheet : List ℕ) (f : Facts) (list : List ℕ) (k i n : ℕ) : Type 0 where
  pub setup : Setup
  pub here : ListAt sheet setup f list k i n

pub record ListPut (sheet : List ℕ) (f : Facts) (list : List ℕ) (k i n : ℕ) (entry : List ℕ) (at : ℕ) (exit : List ℕ) (row r : ℕ) : Type 0 where
  pub each : (s : Setup) → ListAt sheet s f list k i n → Part entry at (rows_from (name_of sheet) s k i) (rows_from (name_of sheet) s k row) exit r
  pub most : row ≤ n
  pub more : i < n → i < row

-- What is known of the setup s where the report goes on: the facts, and before the scores the tables too.
abbrev pub KnownAt : List ℕ → Setup → Facts → List ℕ → List ℕ → List ℕ → Cursor → Type 0
KnownAt sheet s f opening lockout list cursor.Start = FactsOf sheet s f × TablesOf s f opening lockout × (length list ≡ list_room)
KnownAt sheet s f opening lockout list (cursor.Lists k i n) = ListAt sheet s f list k i n × TablesOf s f opening lockout
KnownAt sheet s f opening lockout list (cursor.Scores v) = FactsOf sheet s f × (v ≤ s.count)
KnownAt sheet s f opening lockout list (cursor.Pairs v) = FactsOf sheet s f × (v ≤ s.count)
KnownAt sheet s f opening lockout list (cursor.Refused number line) = (number < 2 ^ 64) × (line < 2 ^ 64)
KnownAt sheet s f opening lockout list cursor.End = Unit {0}

pub record CanStep (sheet : List ℕ) (f : Facts) (opening lockout list : List ℕ) (c : Cursor) : Type 0 where
  pub setup : Setup
  pub here : KnownAt sheet setup f opening lockout list c

-- A number that becomes smaller with each step.
abbrev pub steps_left : ℕ → Cursor → ℕ
steps_left count cursor.Start = (2 * count + 1) * 32768 + 200
steps_left count (cursor.Lists k i n) = (2 * count - k) * 32768 + (n - i) + 200
steps_left count (cursor.Scores v) = count - v + 100
steps_left count (cursor.Pairs v) = count - v + 1
steps_left count (cursor.Refused number line) = 1
steps_left count cursor.End = 0

-- The lists with the numbers from k on, n of them, written one after the other to the front of a list.
abbrev pub loaded_from : Setup → ℕ → ℕ → List ℕ → List ℕ
loaded_from s k zero list = list
loaded_from s k (suc n) list = loaded_from s (suc k) n (written (slot_list s k) list)

-- How many lists were loaded when the report comes to a place.
abbrev pub loaded_before : ℕ → Cursor → ℕ
loaded_before count cursor.Start = 0
loaded_before count (cursor.Lists k i n) = suc k
loaded_before count (cursor.Scores v) = 2 * count
loaded_before count (cursor.Pairs v) = 2 * count
loaded_before count (cursor.Refused number line) = 2 * count
loaded_before count cursor.End = 2 * count

-- Between two places just the lists that come between them were loaded, and no other place of the lent list changed.
pub record ListsLoaded (s : Setup) (count : ℕ) (c d : Cursor) (entry exit : List ℕ) : Type 0 where
  pub many : ℕ
  pub between : loaded_before count d ≡ loaded_before count c + many
  pub list : exit ≡ loaded_from s (loaded_before count c) many entry

-- A step was taken, or several: a part of what was left of the report at c stands from `at` on, written as a row is, and the rest is what is left
-- at the new cursor.
pub record StepTaken (sheet : List ℕ) (f : Facts) (opening lockout list : List ℕ) (c : Cursor) (entry : List ℕ) (at : ℕ) (list' exit : List ℕ) (r : Step) : Type 0 where
  pub part : (s : Setup) → KnownAt sheet s f opening lockout list c → Part entry at (rest_of (name_of sheet) s c) (rest_of (name_of sheet) s r.cursor) exit r.at
  pub here : (s : Setup) → KnownAt sheet s f opening lockout list c → KnownAt sheet s f opening lockout list' r.cursor
  pub lists : (s : Setup) → KnownAt sheet s f opening lockout list c → ListsLoaded s f.count c r.cursor list list'
  pub less : 0 < steps_left f.count c → steps_left f.count r.cursor < steps_left f.count c

-- What the steps of the last two sections ask for.
pub record CanPutSection (sheet : List ℕ) (f : Facts) (v : ℕ) (out : List ℕ) (at : ℕ) : Type 0 where
  pub setup : Setup
  pub facts : FactsOf sheet setup f
  pub most : v ≤ setup.count
  pub room : at + 4096 ≤ length out

-- A step of such a section was taken: a part of what was left at `here` stands from `at` on. With a vertex v the report goes on at `next`, and
-- behind the last vertex at `behind`.
pub record SectionPut (here next behind : Cursor) (sheet : List ℕ) (f : Facts) (v : ℕ) (entry : List ℕ) (at : ℕ) (exit : List ℕ) (r : Step) : Type 0 where
  pub part : (s : Setup) → FactsOf sheet s f → v ≤ s.count → Part entry at (rest_of (name_of sheet) s here) (rest_of (name_of sheet) s r.cursor) exit r.at
  pub more : v < f.count → r.cursor ≡ next
  pub last : f.count ≤ v → r.cursor ≡ behind

abbrev pub ScoresPut : List ℕ → Facts → ℕ → List ℕ → ℕ → List ℕ → Step → Type 0
ScoresPut sheet f v = SectionPut (cursor.Scores v) (cursor.Scores (v + 1)) (cursor.Pairs 0) sheet f v

abbrev pub PairsPut : List ℕ → Facts → ℕ → List ℕ → ℕ → List ℕ → Step → Type 0
PairsPut sheet f v = SectionPut (cursor.Pairs v) (cursor.Pairs (v + 1)) cursor.End sheet f v
