-- What pooling means. Statements only; proofs/Meaning.antt has the theorems.
use Rattle.std.specs.Prelude.{◌≡◌, List, true, ◌⊎◌, ℕ, ◌≤◌, ◌<◌, length, take}
use Rattle.vertex_set.specs.Set.{Member, Iff}
use Rattle.setup.specs.Bounds.{highest_colour}
use Rattle.derivations.specs.Derivation.{Vertices}
use Rattle.derivations.specs.Access.{HasAccess}
use Rattle.sheet_format.specs.Rows.{EdgeRow, Doc, Valid, render}
use Rattle.sheet_format.specs.Read.{read_sheet}
use Rattle.sheet_format.specs.Names.{has_item, name_of}
use Rattle.sheet_format.specs.Meaning.{longest_sheet}
use Rattle.quick_yes.specs.Answers.{Quick, quick_call}
use Rattle.pool_format.specs.Call.{Pooled}
use Rattle.pool_format.specs.Rows.{Agree, uses_colour, new_colour, pooled, Fits}
use Rattle.pool_format.specs.Call.{with_buffer, PoolCall}

-- ---- renaming, in document 02's words

-- For an item in both, each colour of the edges into it in the second sheet, rising, becomes the lowest colour that neither the first
-- sheet nor an earlier renaming uses for that item.
pub record RenamesLowest (es fs : List EdgeRow) (n : List ℕ) (c : ℕ) : Type 0 where
  pub unused : uses_colour es n (new_colour es fs n c) ≡ true → ⊥
  pub fresh : (b : ℕ) → b < c → uses_colour fs n b ≡ true → new_colour es fs n b ≡ new_colour es fs n c → ⊥
  pub lowest : (k : ℕ) → k < new_colour es fs n c
      → (uses_colour es n k ≡ true) ⊎ ((b : ℕ) × (b < c) × (uses_colour fs n b ≡ true) × (new_colour es fs n b ≡ k))

-- Of every two sheets: for every item name, each colour from 0 to 7 is renamed as document 02 says.
abbrev pub Renaming : Type 0
Renaming = (d e : Doc) → Valid d → Valid e → (n : List ℕ) (c : ℕ) → c ≤ highest_colour → RenamesLowest d.edges e.edges n c

-- ---- the pooled sheet is a sheet

-- Within the bounds the pooled rows are valid: names and edges do not repeat, and the text has at most 16,384 bytes.
abbrev pub PooledValid : Type 0
PooledValid = (d e : Doc) → Valid d → Valid e → Agree d.items e.items → Fits (pooled d e) → Valid (pooled d e)

-- t is the pooled sheet of a and b.
pub record IsPooled (a b t : List ℕ) : Type 0 where
  pub first : Doc
  pub second : Doc
  pub valid_first : Valid first
  pub valid_second : Valid second
  pub is_first : a ≡ render first
  pub is_second : b ≡ render second
  pub agree : Agree first.items second.items
  pub fits : Fits (pooled first second)
  pub text : t ≡ render (pooled first second)

-- A buffer of as many bytes as the longest sheet has is always enough.
abbrev pub AlwaysEnough : Type 0
AlwaysEnough = (a b t : List ℕ) → IsPooled a b t → length t ≤ longest_sheet

-- Where the call's number is 0, the first bytes of the buffer, as many as it tells, are the pooled sheet.
abbrev pub PooledText : Type 0
PooledText = (a b : List ℕ) (r : Pooled) (entry exit : List ℕ) → PoolCall a b r entry exit → r.number ≡ 0 → IsPooled a b (take r.size exit)

-- ---- what opens

-- The item i of the sheet s and the item j of the sheet t have the same name.
pub record SameItem (s t : List ℕ) (i j : ℕ) : Type 0 where
  pub has : has_item s i ≡ true
  pub has_too : has_item t j ≡ true
  pub name : name_of s i ≡ name_of t j

-- The items of t that have the names of held items of s.
abbrev pub ByName : List ℕ → List ℕ → Vertices → Vertices
ByName s t held j = (i : ℕ) × held i × SameItem s t i j

-- A set that opens a target in s opens it in t, items taken by name.
abbrev pub KeepsOpening : List ℕ → List ℕ → Type 0
KeepsOpening s t = (set i j : ℕ) → SameItem s t i j
    → HasAccess (read_sheet s).setup.graph (Member set) i → HasAccess (read_sheet t).setup.graph (ByName s t (Member set)) j

-- x has exactly the items of t with the names of items in the set of s.
abbrev pub SetByName : List ℕ → List ℕ → ℕ → ℕ → Type 0
SetByName s t set x = (j : ℕ) → Iff (Member x j) (ByName s t (Member set) j)

-- The same of sets as numbers: where `set` opens a target in s, the set of the items of t with these names opens it in t.
abbrev pub KeepsOpeningSet : List ℕ → List ℕ → Type 0
KeepsOpeningSet s t = (set x i j : ℕ) → SameItem s t i j → SetByName s t set x
    → HasAccess (read_sheet s).setup.graph (Member set) i → HasAccess (read_sheet t).setup.graph (Member x) j

-- And as the quick yes tells it: where a right answer in s is yes, every right answer in t is.
abbrev pub KeepsYes : List ℕ → List ℕ → Type 0
KeepsYes s t = (set x i j : ℕ) → SameItem s t i j → SetByName s t set x
    → (a b : Quick) → (quick_call (read_sheet s).setup i set).Right a → (quick_call (read_sheet t).setup j x).Right b → a.opens ≡ true → b.opens ≡ true

-- Each item of s is one of t.
abbrev pub KeepsItems : List ℕ → List ℕ → Type 0
KeepsItems s t = (i : ℕ) → has_item s i ≡ true → (j : ℕ) × SameItem s t i j

-- The pooled sheet is accepted; it has the items of both, and what opened a target in either opens it there.
pub record PoolingLaw (a b t : List ℕ) : Type 0 where
  pub accepted : (read_sheet t).number ≡ 0
  pub items_of_first : KeepsItems a t
  pub items_of_second : KeepsItems b t
  pub opens_as_first : KeepsOpening a t
  pub opens_as_second : KeepsOpening b t
  pub set_as_first : KeepsOpeningSet a t
  pub set_as_second : KeepsOpeningSet b t
  pub yes_as_first : KeepsYes a t
  pub yes_as_second : KeepsYes b t

-- The law of pooling holds of every pooled sheet: it has the items of both, and opens by name what either opened.
abbrev pub Pooling : Type 0
Pooling = (a b t : List ℕ) → IsPooled a b t → PoolingLaw a b t

-- ---- one answer to every input

-- Two answers that meet the contract of pooling, on the same texts and the same buffer, are the same, with the lent buffer.
abbrev pub PoolDetermined : Type 0
PoolDetermined = (a b : List ℕ) (r r' : Pooled) (entry exit exit' : List ℕ) → PoolCall a b r entry exit → PoolCall a b r' entry exit'
    → with_buffer r exit ≡ with_buffer r' exit'
