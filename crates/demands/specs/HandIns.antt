-- Demand 1 of the calls on names and lines, each with what it handed back.
use Rattle.std.specs.Prelude.{◌≡◌, List, [], ◌∷◌, ◌⊎◌, ℕ}
use Rattle.vertex_set.specs.Order.{Listed}
use Rattle.questions.specs.Asks.{Settled}
use Rattle.records.specs.declared.Record.{Record}
use Rattle.records.specs.declared.Registered.{Registered}
use Rattle.records.specs.Records.{with_slice, hands_back}
use Rattle.register.specs.Afternoon.{RegisterCall}
use Rattle.handin_format.specs.Calls.{NamedSet}
use Rattle.handin_format.specs.Calls.{LineAnswer}
use Rattle.handin_format.specs.Calls.{set_told, ReadSetCall, with_sets, line_refused, tells_call, ReadLineCall, EnterCall}
use Rattle.handin_format.specs.Meaning.{NamesSet, LineSays}
use Rattle.demands.specs.Sheets.{sheet_numbers}

-- ---- a set by its names

-- The set that the text names is told.
pub record SetAnswered (sheet l : List ℕ) (a : NamedSet) : Type 0 where
  pub told : a ≡ set_told a.set
  pub names : NamesSet sheet l a.set

-- A refusal: of the sheet, 1 to 11; or of the names, 5, 8 or 6, with place 0. The set is 0.
pub record SetRefusal (a : NamedSet) : Type 0 where
  pub asked :
      (Listed sheet_numbers a.number × (a.text ≡ 1))
      ⊎ (Listed (5 ∷ 8 ∷ 6 ∷ []) a.number × (a.text ≡ 2) × (a.place ≡ 0))
  pub set : a.set ≡ 0

-- Demand 1: an answer or a refusal, and no second answer meets the contract.
pub record SettledReadSet (sheet l : List ℕ) (a : NamedSet) : Type 0 where
  pub outcome : SetAnswered sheet l a ⊎ SetRefusal a
  pub only : (b : NamedSet) → ReadSetCall sheet l b → b ≡ a

-- ---- a line by itself

-- What the line says is told, and its sets stand in the first places of the list.
pub record LineAnswered (sheet line : List ℕ) (a : LineAnswer) (entry exit : List ℕ) : Type 0 where
  pub call : RegisterCall
  pub says : LineSays sheet line call
  pub told : with_sets a exit ≡ tells_call call entry

-- A refusal: of the sheet, 1 to 11; of the line, 2 or 4 to 8; or 15, with text and place 0. All else is 0, and the list
-- is as it was.
pub record LineRefusal (a : LineAnswer) (entry exit : List ℕ) : Type 0 where
  pub asked :
      (Listed sheet_numbers a.number × (a.text ≡ 1))
      ⊎ (Listed (2 ∷ 4 ∷ 5 ∷ 6 ∷ 7 ∷ 8 ∷ []) a.number × (a.text ≡ 2))
      ⊎ ((a.number ≡ 15) × (a.text ≡ 0) × (a.place ≡ 0))
  pub is : with_sets a exit ≡ line_refused a.text a.place entry a.number

-- Demand 1: an answer or a refusal, and no second answer or list meets the contract.
pub record SettledReadLine (sheet line : List ℕ) (a : LineAnswer) (entry exit : List ℕ) : Type 0 where
  pub outcome : LineAnswered sheet line a entry exit ⊎ LineRefusal a entry exit
  pub only : (b : LineAnswer) (other : List ℕ) → ReadLineCall sheet line b entry other → with_sets b other ≡ with_sets a exit

-- ---- a line taken to the register: a refusal changes no record and no count

-- Demand 1: 25, 1 to 11 of the sheet and the line, 26, 27. Neither 12 nor 13: a sheet's setup is well formed, and the
-- line's target is one of its items.
abbrev pub SettledEntering : (sheet line : List ℕ) → ℕ → Registered → (entry exit : List Record) → Type 0
SettledEntering sheet line used a entry exit =
    Settled (λ o. o.answer.number) (hands_back used entry) (25 ∷ 26 ∷ 27 ∷ sheet_numbers)
    (λ o. EnterCall sheet line used o.answer entry o.slice) (with_slice a exit)
