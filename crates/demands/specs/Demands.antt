-- Demands 1, 2 and 3: what the offered calls answer, all of them on one input. Each demand is the contract of a function that makes the calls. An item's
-- name, the register's calls, those on a setup that lives, and pooling are made by functions of their own (specs/Calls.antt, specs/Sheets.antt).
use Rattle.std.specs.Prelude.{◌≡◌, Bool, true, false, List, [], ◌∷◌, ℕ, ◌≤◌, ◌<◌}
use Rattle.vertex_set.specs.Set.{Member, Decides}
use Rattle.setup.specs.declared.Graph.{Graph}
use Rattle.setup.specs.declared.Setup.{Setup}
use Rattle.setup.specs.Setup.{WithoutRecovery}
use Rattle.derivations.specs.Access.{HasAccess}
use Rattle.questions.specs.Asks.{Asks, Settled}
use Rattle.questions.specs.Contract.{Answers as Answer}
use Rattle.questions.specs.Told.{Told, SettledTold}
use Rattle.bases.specs.Score.{SumsHold}
use Rattle.quick_yes.specs.Agrees.{QuickAgrees}
use Rattle.next_sets.specs.Walks.{WholeWalk}
use Rattle.findings.specs.Findings.{Compared}
use Rattle.living.specs.Calls.{Redrawing}
use Rattle.living.specs.Calls.{Call, CallOf, NothingChanges}
use Rattle.multisets.specs.Multisets.{BagAtMost}
use Rattle.records.specs.declared.Record.{Record}
use Rattle.records.specs.declared.Registered.{Registered}
use Rattle.register.specs.Calls.{HandInCall, WithdrawCall}
use Rattle.register.specs.Afternoon.{RegisterLaw}
use Rattle.pool_format.specs.Call.{Pooled}
use Rattle.pool_format.specs.Call.{PoolCall}
use Rattle.pool_format.specs.Meaning.{Renaming, PooledValid, AlwaysEnough, PooledText, Pooling}
use Rattle.sheet_format.specs.Read.{read_sheet, reading as as_read}
use Rattle.sheet_format.specs.Meaning.{FreshHoldsNothing}
use Rattle.report_text.specs.Unmixed.{UnmixedPrints}
use Rattle.report_writer.specs.Whole.{WholeReport}
use Rattle.histories.specs.Histories.{Reached, OpenedAlways, RefusedStays, Question12}
use Rattle.histories.specs.NoHeed.{NoHeed}
use Rattle.histories.specs.Drawings.{DrawingSaved}
use Rattle.histories.specs.Requests.{Request, contract_of}
use Rattle.portal_words.specs.Words.{setup_in}
use Rattle.portal_sheets.specs.Reading.{ReadingCall, name_call}
use Rattle.portal_sets.specs.Check.{asks_reached}
use Rattle.portal_living.specs.Living.{living_call, LivesInWords}
use Rattle.portal_register.specs.declared.ReadLineResult.{ReadLineResult}
use Rattle.portal_register.specs.Lines.{TellLineCall}
use Rattle.portal.specs.Portal.{PortalCall}
use Rattle.handin_format.specs.Calls.{NamedSet}
use Rattle.handin_format.specs.Calls.{LineAnswer}
use Rattle.handin_format.specs.Calls.{ReadSetCall, write_set_call, ReadLineCall, EnterCall}
use Rattle.handin_format.specs.Afternoon.{LinesLaw}
use Rattle.handin_format.specs.Meaning.{LineOfEntry, EntryOfLine, SetOfNames, SetReadBack, SetEnough}
use Rattle.handin_format.specs.Marks.{LineMarks, RegisterMarks}
use Rattle.demands.specs.declared.Answers.{Answers}
use Rattle.demands.specs.Sheets.{Reads, SettledReading, SettledPortal}
use Rattle.demands.specs.Calls.{Every, MadeCall, SettledOn, FulfilledOn, SettledYesNo, SettledLiving, SettledHandIn, SettledWithdrawal, SettledPool}
use Rattle.demands.specs.HandIns.{SettledReadSet, SettledReadLine, SettledEntering}

-- Demand 1 of the calls for C, each of which tells of the contract of a call, on the setup that its words say: an answer, or one of the call's numbers with
-- every field 0 and every lent place kept, and nothing else. The register's calls, pooling, the portal's two numbers and "at most" have the contracts of the
-- calls in Rattle.
pub record SettledForC : Type 0 where
  pub calls : (q : Request) (s : Setup) (n : ℕ) (fields : List ℕ) (lent : List (List ℕ)) → Told (contract_of q s) n fields lent → SettledTold (contract_of q s) n fields lent
  pub living : (c : Call) (words : List ℕ) (n : ℕ) (fields : List ℕ) (lent : List (List ℕ)) → Told (living_call c words) n fields lent → SettledTold (living_call c words) n fields lent
  pub name : (text : List ℕ) (item n : ℕ) (fields : List ℕ) (lent : List (List ℕ)) → Told (name_call text item) n fields lent → SettledTold (name_call text item) n fields lent
  -- the names of a set, in a lent buffer
  pub write_set : (sheet : List ℕ) (x : ℕ) (out : List ℕ) (n : ℕ) (fields : List ℕ) (lent : List (List ℕ)) → Told (write_set_call sheet x out) n fields lent
      → SettledTold (write_set_call sheet x out) n fields lent
  -- question 12: 0 exactly where an accepted sheet and a list of calls reach the setup that the words say, else 12
  pub check : (words : List ℕ) (r : ℕ) → Asks (λ q. q) (asks_reached (setup_in words) ∷ []) (λ n. n ≡ 0) r
      → Settled (λ n. n) (λ q. q) (12 ∷ []) (Asks (λ q. q) (asks_reached (setup_in words) ∷ []) (λ n. n ≡ 0)) r
  -- what a line says, in numbers: one answer, and one end of the lent list
  pub read_line : (sheet line : List ℕ) (r r' : ReadLineResult) (entry exit exit' : List ℕ) → TellLineCall sheet line r entry exit
      → TellLineCall sheet line r' entry exit' → (r ≡ r') × (exit ≡ exit')
  pub reading : (text : List ℕ) (n n' l l' : ℕ) (entry exit exit' : List ℕ) → ReadingCall text n l entry exit → ReadingCall text n' l' entry exit'
      → (n ≡ n') × (l ≡ l') × (exit ≡ exit')

-- Demand 1: to every input each call gives its answer or exactly one refusal, with every lent place as it was; and its contract leaves no second answer.
pub record Demand1 (text : List ℕ) (item : ℕ) (s : Setup) (calls : List MadeCall) (opened locked : List ℕ) (r : Answers) : Type 0 where
  pub on_setup : Every (SettledOn s) calls
  -- question 12 itself, and whether one list is at most another as bags: yes or no
  pub formed : SettledYesNo (Reached s) r.findings.formed
  pub bag_at_most : SettledYesNo (BagAtMost opened locked) r.bags.compared
  -- a sheet: 1 to 11; the portal: 2^62 plus these, or plus 13
  pub reading : SettledReading text (as_read r.sheet.reading)
  pub portal_score : SettledPortal false text item r.sheet.score
  pub portal_risk : SettledPortal true text item r.sheet.risk
  -- for every answer that a call may give: the class register, pooling, a setup that lives, the calls for C
  pub hand_in : (t : Setup) (used student target : ℕ) (loss : Bool) (handed : List ℕ) (a : Registered) (entry exit : List Record)
      → HandInCall t used student target loss handed a entry exit → SettledHandIn t used student target loss handed a entry exit
  pub withdraw : (used student : ℕ) (a : Registered) (entry exit : List Record) → WithdrawCall used student a entry exit → SettledWithdrawal used student a entry exit
  pub pool : (first second : List ℕ) (p : Pooled) (entry exit : List ℕ) → PoolCall first second p entry exit → SettledPool first second p entry exit
  pub living : (c : Call) (t : Setup) (p : Redrawing) → CallOf c t p → SettledLiving c t p
  -- hand-ins by name
  pub read_set : (sheet l : List ℕ) (a : NamedSet) → ReadSetCall sheet l a → SettledReadSet sheet l a
  pub read_line : (sheet line : List ℕ) (a : LineAnswer) (entry exit : List ℕ) → ReadLineCall sheet line a entry exit → SettledReadLine sheet line a entry exit
  pub enter_line : (sheet line : List ℕ) (used : ℕ) (a : Registered) (entry exit : List Record) → EnterCall sheet line used a entry exit
      → SettledEntering sheet line used a entry exit
  pub for_c : SettledForC

-- The papers' sentences over more than one call, and over what is printed: of document 01 the report; of document 02 the points that are named.
pub record Papers : Type 0 where
  -- what the steps write, one after the other, is the report's text, all of it and nothing else
  pub report : WholeReport
  -- 2: the quick yes agrees with the full closure
  pub quick : (s : Setup) (target set : ℕ) → QuickAgrees s target set
  -- 3: without recovery no set opens more, and no score is lower; a sheet with unmixed colours prints what it printed
  pub routes : (s : Setup) (g : Graph) → WithoutRecovery s g → (set v : ℕ) → HasAccess g (Member set) v → HasAccess s.graph (Member set) v
  pub scores : (s : Setup) (v r r' : ℕ) → Compared false s v r r' → r ≤ r'
  pub prints : (sheet : List ℕ) → UnmixedPrints sheet
  -- 5: every sum holds 14 of the largest values
  pub sums : SumsHold
  -- 8: every reading holds nothing, and has nothing opened; after every list of calls, refused ones among them, the opened set is what the held items open
  -- in the drawing that the accepted ones left; a refused text's setup stays as it was
  pub fresh : FreshHoldsNothing
  pub opened : OpenedAlways
  pub stays : RefusedStays
  -- so it is of the words that C holds
  pub words : LivesInWords
  -- taking in a held item, or taking out one that is not held, changes nothing
  pub nothing : NothingChanges
  -- the setups that pass question 12 are those that an accepted sheet and a list of calls reach
  pub reached : Question12
  -- no other call heeds what is held
  pub unheeded : NoHeed
  -- what is saved after any list of calls is the drawing that the accepted ones left, and reads as it
  pub saved : DrawingSaved
  -- 9: with no change in between, the sets shown up to "no more" are the whole list
  pub walk : WholeWalk
  -- 11: colours are renamed to the lowest free one; the pooled rows are a sheet's, for which 11,626 bytes are always enough; what stands in the buffer is the
  -- pooled sheet; it has the items of both, and what opened a target in either opens it there
  pub renaming : Renaming
  pub valid : PooledValid
  pub enough : AlwaysEnough
  pub text : PooledText
  pub pooling : Pooling
  -- 12: after every list of calls on the class register its records are those of the latest accepted attempts
  pub register : RegisterLaw
  -- hand-ins by name: after every list of lines the register holds what the lines say; a line is accepted exactly where it is the written form of a valid entry,
  -- and says what that states; a set of names has the items with these names; a written set is read back, and 1,087 bytes are always
  -- enough for it
  pub lines : LinesLaw
  pub line_of_entry : LineOfEntry
  pub entry_of_line : EntryOfLine
  pub set_of_names : SetOfNames
  pub set_read_back : SetReadBack
  pub set_enough : SetEnough
  -- a line's record has full marks exactly where the sets that it names are those of demand 3, each one time, and no other
  pub line_marks : LineMarks
  pub register_marks : RegisterMarks

-- Demand 2: every answer is the one of the papers' definitions, by the calls' own contracts; a sheet is accepted exactly where it has the paper's form, and
-- yields the setup that its rows state.
pub record Demand2 (text : List ℕ) (item : ℕ) (s : Setup) (calls : List MadeCall) (opened locked : List ℕ) (r : Answers) : Type 0 where
  pub on_setup : Every (FulfilledOn s) calls
  -- yes exactly where an accepted sheet and a list of calls reach the setup
  pub formed : Decides (Reached s) r.findings.formed
  -- whether both lists have at most 14 values, and those of the one can be paired, one to one, with values of the other that are at least as high
  pub bag_at_most : Decides (BagAtMost opened locked) r.bags.compared
  -- the text's rows and the setup that they state, or its first no; this reading is also the one that the portal's contract cites
  pub reading : Reads text (as_read r.sheet.reading)
  pub asked : as_read r.sheet.reading ≡ read_sheet text
  pub portal_score : PortalCall false text item r.sheet.score
  pub portal_risk : PortalCall true text item r.sheet.risk
  pub papers : Papers

-- Demand 3: on every setup that an accepted sheet and a list of calls reach, and every item of it, both lists, the scores and the marks are answered, by the
-- definitions; of the questions 15 alone may be answered with no.
abbrev pub Demand3Reached : Setup → ℕ → List MadeCall → Type 0
Demand3Reached s target calls = Reached s → target < s.count → Every (λ m. Answer (contract_of m.request s) m.outcome) calls
