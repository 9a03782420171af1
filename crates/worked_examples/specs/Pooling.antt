-- Two labs that share a storeroom (document 02, point 11): their sheets, the pooled sheet, and a loss that is not kept.
use Rattle.std.specs.Prelude.{◌≡◌, true, List, [], ◌∷◌, ℕ, ◌≤◌, ◌<◌, length}
use Prim.Native.String.{String}
use Rattle.sheet_format.specs.Read.{read_sheet}
use Rattle.bases.specs.Base.{Derives}
use Rattle.pool_format.specs.Call.{Pooled}
use Rattle.pool_format.specs.Call.{PoolOutcome, with_buffer, pool_refusal, pools_text, PoolCall}
use Rattle.pool_format.specs.Meaning.{IsPooled, SameItem}
use Rattle.worked_examples.specs.Sheets.{lines_text}

abbrev pub first_lab : List String
first_lab =
    "name kind start loss rank"
    ∷ "badge c 2 1 0"
    ∷ "store a - - 1"
    ∷ "bench a - - 2"
    ∷ ""
    ∷ "from to colour rec"
    ∷ "badge store 0 0"
    ∷ "store bench 0 0"
    ∷ []

abbrev pub second_lab : List String
second_lab =
    "name kind start loss rank"
    ∷ "store a - - 1"
    ∷ "pin c 1 0 0"
    ∷ "mail a - - 3"
    ∷ ""
    ∷ "from to colour rec"
    ∷ "pin store 3 0"
    ∷ "mail store 0 1"
    ∷ "store mail 5 0"
    ∷ []

-- Into the storeroom the second lab has the colours 0 and 3, which become 1 and 2; the mail, which is in one sheet alone, keeps its colour 5.
abbrev pub both_labs : List String
both_labs =
    "name kind start loss rank"
    ∷ "badge c 2 1 0"
    ∷ "store a - - 1"
    ∷ "bench a - - 2"
    ∷ "pin c 1 0 0"
    ∷ "mail a - - 3"
    ∷ ""
    ∷ "from to colour rec"
    ∷ "badge store 0 0"
    ∷ "store bench 0 0"
    ∷ "pin store 2 0"
    ∷ "mail store 1 1"
    ∷ "store mail 5 0"
    ∷ []

abbrev pub Storeroom : Type 0
Storeroom = IsPooled (lines_text first_lab) (lines_text second_lab) (lines_text both_labs)

-- A lab whose storeroom has another rank: the shared item disagrees, and the call refuses with 22.
abbrev pub other_lab : List String
other_lab =
    "name kind start loss rank"
    ∷ "store a - - 2"
    ∷ ""
    ∷ "from to colour rec"
    ∷ []

-- Whatever buffer is lent, where it is as `Lent` says, the call on the two sheets ends so and no other way.
abbrev pub Ends : List String → List String → (List ℕ → Type 0) → (List ℕ → PoolOutcome) → Type 0
Ends a b Lent outcome = (r : Pooled) (entry exit : List ℕ) → PoolCall (lines_text a) (lines_text b) r entry exit → Lent entry → with_buffer r exit ≡ outcome entry

abbrev pub AnyBuffer : List ℕ → Type 0
AnyBuffer entry = Unit {0}

abbrev pub Disagree : Type 0
Disagree = Ends first_lab other_lab AnyBuffer (λ entry. pool_refusal 0 0 entry 22)

-- A second sheet that is refused: its line 3 names an item again.
abbrev pub wrong_lab : List String
wrong_lab = "name kind start loss rank" ∷ "store a - - 1" ∷ "store a - - 1" ∷ "" ∷ "from to colour rec" ∷ []

abbrev pub SecondRefused : Type 0
SecondRefused = Ends first_lab wrong_lab AnyBuffer (λ entry. pool_refusal 2 3 entry 6)

-- Eight colours lead into the storeroom, and the second lab brings a ninth.
abbrev pub eight_ways : List String
eight_ways =
    "name kind start loss rank"
    ∷ "badge c 2 1 0"
    ∷ "store a - - 1"
    ∷ ""
    ∷ "from to colour rec"
    ∷ "badge store 0 0"
    ∷ "badge store 1 0"
    ∷ "badge store 2 0"
    ∷ "badge store 3 0"
    ∷ "badge store 4 0"
    ∷ "badge store 5 0"
    ∷ "badge store 6 0"
    ∷ "badge store 7 0"
    ∷ []

abbrev pub ninth_way : List String
ninth_way = "name kind start loss rank" ∷ "store a - - 1" ∷ "pin c 1 0 0" ∷ "" ∷ "from to colour rec" ∷ "pin store 0 0" ∷ []

abbrev pub NinthColour : Type 0
NinthColour = Ends eight_ways ninth_way AnyBuffer (λ entry. pool_refusal 0 0 entry 23)

-- Eight starting items and seven others: each sheet keeps the bound of 14, and the pooled rows do not.
abbrev pub eight_starts : List String
eight_starts =
    "name kind start loss rank"
    ∷ "a1 c 1 - 0"
    ∷ "a2 c 1 - 0"
    ∷ "a3 c 1 - 0"
    ∷ "a4 c 1 - 0"
    ∷ "a5 c 1 - 0"
    ∷ "a6 c 1 - 0"
    ∷ "a7 c 1 - 0"
    ∷ "a8 c 1 - 0"
    ∷ ""
    ∷ "from to colour rec"
    ∷ []

abbrev pub seven_starts : List String
seven_starts =
    "name kind start loss rank"
    ∷ "b1 c 1 - 0"
    ∷ "b2 c 1 - 0"
    ∷ "b3 c 1 - 0"
    ∷ "b4 c 1 - 0"
    ∷ "b5 c 1 - 0"
    ∷ "b6 c 1 - 0"
    ∷ "b7 c 1 - 0"
    ∷ ""
    ∷ "from to colour rec"
    ∷ []

abbrev pub FifteenStarts : Type 0
FifteenStarts = Ends eight_starts seven_starts AnyBuffer (λ entry. pool_refusal 0 0 entry 23)

-- A buffer shorter than the pooled sheet, be it by one byte; and one that has room for it, be it just so much.
abbrev pub TooShort : Type 0
TooShort = Ends first_lab second_lab (λ entry. length entry < length (lines_text both_labs)) (λ entry. pool_refusal 0 0 entry 24)

abbrev pub WithRoom : Type 0
WithRoom = Ends first_lab second_lab (λ entry. length (lines_text both_labs) ≤ length entry) (pools_text (lines_text both_labs))

-- No such thing is promised about losses: losing the badge, item 0, takes the storeroom, item 1, away in the first lab's sheet and not in the pooled one.
pub record LossNotKept : Type 0 where
  pub pooled : Storeroom
  pub badge : SameItem (lines_text first_lab) (lines_text both_labs) 0 0
  pub store : SameItem (lines_text first_lab) (lines_text both_labs) 1 1
  pub lost : Derives true (read_sheet (lines_text first_lab)).setup.graph 1 1
  pub stays : Derives true (read_sheet (lines_text both_labs)).setup.graph 1 1 → ⊥
