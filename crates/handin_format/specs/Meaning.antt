-- What reading and writing names means. Statements only; proofs/Sets.antt, proofs/Lines.antt and proofs/ReadBack.antt
-- have the theorems.
use Rattle.std.specs.Prelude.{◌≡◌, List, [], ◌∷◌, ◌⊎◌, ℕ, ◌≤◌, length}
use Rattle.vertex_set.specs.Set.{Iff, Member}
use Rattle.setup.specs.Calls.{Inside}
use Rattle.sheet_format.specs.Rows.{ItemRow, Doc, Each, Apart, ValidItem, SameName, Valid, number_in, render, setup_of}
use Rattle.sheet_format.specs.Names.{name_of}
use Rattle.register.specs.Afternoon.{RegisterCall}
use Rattle.handin_format.specs.Sets.{names_text, set_named, set_names, some_set, set_from}
use Rattle.handin_format.specs.Entries.{LineEntry, ValidNames, ValidEntry, entry_text, stated}
use Rattle.handin_format.specs.Lines.{line_no, line_call}

-- The item rows of an accepted sheet.
pub record NamedRows (items : List ItemRow) : Type 0 where
  pub valid : Each ValidItem items
  pub names : Apart SameName items

-- n is one of the names.
abbrev pub OneOf : List (List ℕ) → List ℕ → Type 0
OneOf [] n = ⊥
OneOf (m ∷ ns) n = (n ≡ m) ⊎ OneOf ns n

-- The written form of a valid entry is accepted, and says what the entry states.
abbrev pub LineOfEntry : Type 0
LineOfEntry =
    (items : List ItemRow) → NamedRows items → (e : LineEntry) → ValidEntry items e
    → ((line_no items (entry_text e)).number ≡ 0) × (line_call items (entry_text e) ≡ stated items e)

-- Every accepted line is the written form of a valid entry, and says what it states.
abbrev pub EntryOfLine : Type 0
EntryOfLine =
    (items : List ItemRow) → NamedRows items → (l : List ℕ) → (line_no items l).number ≡ 0
    → (e : LineEntry) × ValidEntry items e × (l ≡ entry_text e) × (line_call items l ≡ stated items e)

-- The set that names state has exactly the items with these names.
abbrev pub SetOfNames : Type 0
SetOfNames =
    (items : List ItemRow) → NamedRows items → (ns : List (List ℕ)) → ValidNames items ns
    → (i : ℕ) → Iff (Member (set_named items ns) i) ((n : List ℕ) × OneOf ns n × (number_in items n ≡ i))

-- The names of a set that has only items of the sheet are read back as that set.
abbrev pub SetReadBack : Type 0
SetReadBack =
    (d : Doc) → Valid d → (x : ℕ) → Inside (setup_of d) x
    → set_from d.items (set_names (name_of (render d)) x) ≡ some_set x

-- 64 names of 16 bytes, and 63 signs between them.
abbrev pub set_bytes : ℕ
set_bytes = 1087

-- The names of such a set have always room in so many bytes.
abbrev pub SetEnough : Type 0
SetEnough = (d : Doc) → Valid d → (x : ℕ) → Inside (setup_of d) x → length (set_names (name_of (render d)) x) ≤ set_bytes

-- ---- of a sheet's bytes

-- On the sheet's rows the text is the names of a set, and x is that set.
pub record NamesSet (sheet l : List ℕ) (x : ℕ) : Type 0 where
  pub d : Doc
  pub valid : Valid d
  pub is : sheet ≡ render d
  pub names : List (List ℕ)
  pub valid_names : ValidNames d.items names
  pub text : l ≡ names_text names
  pub set : x ≡ set_named d.items names

-- On the sheet's rows the line is the written form of an entry, and c is the register's call that it states.
pub record LineSays (sheet line : List ℕ) (c : RegisterCall) : Type 0 where
  pub d : Doc
  pub valid : Valid d
  pub is : sheet ≡ render d
  pub entry : LineEntry
  pub valid_entry : ValidEntry d.items entry
  pub text : line ≡ entry_text entry
  pub says : c ≡ stated d.items entry
