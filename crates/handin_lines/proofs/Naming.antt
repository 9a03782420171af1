-- Items and sets by name.
-- Assumes nothing.
use mathlib.Core.Path.{◌≡◌, refl, sym, ap, ◌∙◌}
use mathlib.Core.List.{List, [], ◌∷◌}
use mathlib.Core.Bool.{true, false, cond}
use Prim.Native.Nat.{ℕ, ◌*◌, ◌/◌, ◌%◌, ◌^◌, ◌≤◌, ◌<◌}
use native.Mathlib.Omega.{arith}
use lib.Bits.{bit_or}
use lib.ListN.{length, take}
use lib.Dec.{eqb, ltb}
use borrow.Author.Tests.{lt-ltb, le-ltb, eq-eqb, ne_eqb}
use Rattle.sheet_format.specs.Fields.{is_name}
use Rattle.sheet_format.specs.Rows.{ItemRow, number_in}
use Rattle.sheet_format.specs.Questions.{is_known}
use Rattle.std.specs.Prelude.{Some, None, Result, Ok, Err}
use Rattle.questions.specs.declared.Refusal.{Refusal}
use Rattle.questions.specs.declared.Refusal.TheVariants.{Form, NameUnknown}
use Rattle.questions.specs.Refusals.{number}
use Rattle.sheet_fields.specs.declared.Key.{Key}
use Rattle.sheet_fields.specs.Inner.Forms.{read_if}
use Rattle.sheet_fields.specs.Inner.Keys.{key_of}
use Rattle.sheet_rows.proofs.Items.{none-no, some-yes}
use Rattle.sheet_rows.specs.Inner.NameKeys.{NameKeys, place_of, place_in}
use Rattle.sheet_rows.proofs.Tables.{found-some, found-none, table-place, known-test}
use Rattle.vertex_set.proofs.Cases.{by_test}
use Rattle.vertex_set.proofs.Sets.{shifted_one}
use Rattle.sheet_format.specs.Text.{same_text}
use Rattle.sheet_format.specs.Fields.{dash}
use Rattle.std.specs.List.{slice_split}
use Rattle.handin_lines.specs.Inner.Naming.{item_from, set_field, NamesItem, TakesName, ReadsNames}
use Rattle.handin_lines.proofs.Splitting.{parts-split}
use Rattle.handin_format.specs.Sets.{SetField}
use Rattle.handin_format.specs.Sets.{no_set, some_set, with_name, with_names, set_from}

-- ---- an item by its name

module _ (l low high : List ℕ) (count : ℕ) where
  pub item-unnamed : None ≡ read_if (is_name l) (key_of l) → NamesItem low high count l (Err Form)
  unfolding item_from
  item-unnamed e = record { each = λ items t. rw (none-no (is_name l) (key_of l) e); inside = tt }

  module _ (key : Key) (reads : Some key ≡ read_if (is_name l) (key_of l)) where
    named : is_name l ≡ true
    named = (some-yes (is_name l) (key_of l) key reads).0

    key-is : key ≡ key_of l
    key-is = (some-yes (is_name l) (key_of l) key reads).1

    place-is : (items : List ItemRow) → NameKeys items low high count → place_of (take count low) (take count high) key.low key.high ≡ number_in items l
    place-is items t = rw key-is (table-place items low high count l t named)

    known_is : (items : List ItemRow) → NameKeys items low high count → is_known items l ≡ ltb (place_of (take count low) (take count high) key.low key.high) count
    known_is items t = known-test items l ∙ rw (place-is items t, t.size)

    pub item-known : (item : ℕ) → Some item ≡ place_in low high count key → NamesItem low high count l (Ok item)
    unfolding item_from
    item-known item e =
        let f = found-some low high count key item e in
        record {
          each = λ items t. rw (named, known_is items t ∙ lt-ltb _ count (rw f.0 at f.1)) (ap Ok (f.0 ∙ place-is items t));
          inside = f.1;
        }

    pub item-unknown : None ≡ place_in low high count key → NamesItem low high count l (Err NameUnknown)
    unfolding item_from
    item-unknown e =
        let f = found-none low high count key e in
        record { each = λ items t. rw (named, known_is items t ∙ le-ltb _ count f); inside = tt }

-- ---- a set takes in an item

-- the item is taken into the set x
unfoldable with_item : ℕ → Result ℕ Refusal → SetField
with_item x (Ok v) = cond (eqb (x / 2 ^ v % 2) 1) (no_set 6) (some_set (bit_or x (2 ^ v)))
with_item x (Err q) = no_set (number q)

-- reading a name first, and then taking its item in
by-item : (items : List ItemRow) (x : ℕ) (n : List ℕ) → with_name items x n ≡ with_item x (item_from items n)
unfolding with_name with_item item_from
by-item items x n = by_test (is_name n) (λ e. by_test (is_known items n) (λ k. rw (e, k)) (λ k. rw (e, k))) (λ e. rw e)

module _ (l low high : List ℕ) (count x : ℕ) where
  taken : (f : Result ℕ Refusal) → NamesItem low high count l f → (r : SetField) → r ≡ with_item x f → TakesName low high count x l r
  taken f reads r e = record { each = λ items t. e ∙ ap (with_item x) (reads.each items t) ∙ sym (by-item items x l) }

  pub name-refused : (q : Refusal) → NamesItem low high count l (Err q) → TakesName low high count x l (set_field (Err q))
  unfolding with_item
  name-refused q reads = taken (Err q) reads (set_field (Err q)) refl

  module _ (v : ℕ) (reads : NamesItem low high count l (Ok v)) where
    pub name-there : x / 2 ^ v % 2 ≡ 1 → TakesName low high count x l (no_set 6)
    unfolding with_item
    name-there e = taken (Ok v) reads (no_set 6) (rw (eq-eqb (x / 2 ^ v % 2) 1 e))

    pub name_new : count ≤ 64 → (x / 2 ^ v % 2 ≡ 1 → ⊥) → TakesName low high count x l (some_set (bit_or x ((1 * 2 ^ v) % 2 ^ 64)))
    unfolding with_item
    name_new h n =
        let i = reads.inside in
        taken (Ok v) reads (some_set (bit_or x ((1 * 2 ^ v) % 2 ^ 64))) (rw (ne_eqb (x / 2 ^ v % 2) 1 n, shifted_one v (omega arith)))

-- ---- the names from the left

-- What is left to read, with the set x of the names before.
unfoldable pub left_of : List ItemRow → ℕ → List (List ℕ) → SetField
left_of items x names = with_names items (record { number = 0; set = x }) names

names-stop : (items : List ItemRow) (r : SetField) (ns : List (List ℕ)) → (r.number ≡ 0 → ⊥) → with_names items r ns ≡ r
unfolding with_names
names-stop items r [] n = refl
names-stop items r (m ∷ ns) n = rw (ne_eqb r.number 0 n)

module _ (low high : List ℕ) (count x : ℕ) (name : List ℕ) (more : List (List ℕ)) (r : SetField) (takes : TakesName low high count x name r) (items : List ItemRow) (t : NameKeys items low high count) where
  step : left_of items x (name ∷ more) ≡ with_names items r more
  unfolding left_of with_names
  step = rw (sym (takes.each items t))

  pub left-refused : (r.number ≡ 0 → ⊥) → left_of items x (name ∷ more) ≡ r
  left-refused n = step ∙ names-stop items r more n

  pub left-next : r.number ≡ 0 → left_of items x (name ∷ more) ≡ left_of items r.set more
  unfolding left_of
  left-next z = step ∙ rw (same r z)
    where
      same : (f : SetField) → f.number ≡ 0 → f ≡ record { number = 0; set = f.set }
      same f y = rw y

left_over : (items : List ItemRow) (x : ℕ) → left_of items x [] ≡ record { number = 0; set = x }
unfolding left_of with_names
left_over items x = refl

left-first : (items : List ItemRow) (l : List ℕ) → same_text l dash ≡ false → set_from items l ≡ left_of items 0 (slice_split (λ b. eqb b 43) l)
unfolding left_of set_from
left-first items l n = rw (n, parts-split l)

pub set-empty : (low high : List ℕ) (count : ℕ) (l : List ℕ) → same_text l dash ≡ true → ReadsNames low high count l (no_set 0)
unfolding set_from
set-empty low high count l e = record { each = λ items t. rw e }

-- The set of the whole text is what these names give, put into the set x, whatever item rows the table has.
pub record Reading (l low high : List ℕ) (count x : ℕ) (names : List (List ℕ)) : Type 0 where
  pub each : (items : List ItemRow) → NameKeys items low high count → set_from items l ≡ left_of items x names

pub reading-first : (l low high : List ℕ) (count : ℕ) → same_text l dash ≡ false → Reading l low high count 0 (slice_split (λ b. eqb b 43) l)
reading-first l low high count n = record { each = λ items t. left-first items l n }

module _ (l low high : List ℕ) (count x : ℕ) (names : List (List ℕ)) (here : Reading l low high count x names) (name : List ℕ) (more : List (List ℕ)) (q : names ≡ name ∷ more) (r : SetField)
    (takes : TakesName low high count x name r) where
  left : (items : List ItemRow) → NameKeys items low high count → set_from items l ≡ left_of items x (name ∷ more)
  left items t = here.each items t ∙ ap (left_of items x) q

  pub reading-refused : (r.number ≡ 0 → ⊥) → ReadsNames low high count l r
  reading-refused n = record { each = λ items t. sym (left items t ∙ left-refused low high count x name more r takes items t n) }

  pub reading-next : r.number ≡ 0 → Reading l low high count r.set more
  reading-next z = record { each = λ items t. left items t ∙ left-next low high count x name more r takes items t z }

pub reading-over : (l low high : List ℕ) (count x : ℕ) (names : List (List ℕ)) → Reading l low high count x names → names ≡ [] → ReadsNames low high count l (record { number = 0; set = x })
reading-over l low high count x names here q = record { each = λ items t. sym (here.each items t ∙ ap (left_of items x) q ∙ left_over items x) }
