-- What each call comes to, with the numbers of its refusals; and that its contract leaves one outcome.
-- Assumes nothing.
use mathlib.Core.Path.{◌≡◌, refl, sym, ◌∙◌, subst}
use mathlib.Core.Bool.{Bool, true, false, cond}
use mathlib.Core.List.{List, [], ◌∷◌}
use mathlib.Core.Logic.{◌⊎◌, inl, inr, ⊎_elim}
use Prim.Native.Nat.{ℕ, suc, ◌/◌, ◌%◌, ◌^◌}
use lib.Bits.{bit_or}
use lib.Dec.{eqb, leb}
use lib.ListN.{length}
use borrow.Author.Tests.{eqb-false}
use Rattle.vertex_set.specs.Order.{Listed}
use Rattle.vertex_set.proofs.Cases.{by_test}
use Rattle.setup.specs.declared.Setup.{Setup}
use Rattle.questions.specs.Asks.{Asks}
use Rattle.questions.proofs.Asks.{asks-once}
use Rattle.sheet_format.specs.Text.{fields_of, same_text}
use Rattle.sheet_format.specs.Fields.{is_name, dash}
use Rattle.sheet_format.specs.Rows.{ItemRow, Doc, Each, Valid, number_in, render, setup_of}
use Rattle.sheet_format.specs.Questions.{is_known}
use Rattle.sheet_format.specs.Read.{read_sheet, asks_sheet}
use Rattle.sheet_format.proofs.Lists.{each_append}
use Rattle.sheet_format.proofs.Meaning.{rows-unique}
use Rattle.sheet_format.proofs.Question12Items.{known-number}
use Rattle.sheet_format.proofs.Question12Yielded.{well-formed-of-valid}
use Rattle.records.specs.declared.Record.{Record}
use Rattle.records.specs.declared.Registered.{Registered}
use Rattle.records.specs.Records.{RegisterOutcome, with_slice, hands_back}
use Rattle.register.specs.Calls.{asks25}
use Rattle.register.specs.Afternoon.{RegisterCall, HandIn, Withdraw, MeetsCall}
use Rattle.register.proofs.Outcomes.{answer-number}
use Rattle.register.proofs.Unique.{one-hand-in, one-withdrawal}
use Rattle.handin_format.specs.Sets.{SetField}
use Rattle.handin_format.specs.Calls.{NamedSet}
use Rattle.handin_format.specs.Calls.{LineAnswer}
use Rattle.handin_format.specs.Sets.{no_set, some_set, parts_of, with_name, with_names, set_from}
use Rattle.handin_format.specs.Entries.{LineEntry, HandsIn, Withdraws, most_handed, ValidEntry, stated}
use Rattle.handin_format.specs.Lines.{FieldAsked, ask_of, fields_filled, fields_there, set_questions, field_questions, line_questions, first_no_of, line_no, line_call}
use Rattle.handin_format.specs.Calls.{asks_set, set_refused, set_told, ReadsSet, ReadSetCall, asks_line, asks_places, LineOutcome, with_sets, line_refused, tells_call, TellsCall, ReadsLine, ReadLineCall, EntersLine, EnterCall}
use Rattle.handin_format.specs.Meaning.{NamedRows, NamesSet, LineSays}
use Rattle.handin_format.proofs.Sets.{set-read}
use Rattle.handin_format.proofs.Lines.{entry-of-line}

-- ---- the numbers of a no

-- of names: 5, 8, 6
abbrev pub set_numbers : List ℕ
set_numbers = 5 ∷ 8 ∷ 6 ∷ []

-- of a line
abbrev pub line_numbers : List ℕ
line_numbers = 2 ∷ 4 ∷ 5 ∷ 6 ∷ 7 ∷ 8 ∷ []

-- 0, or one of them
abbrev NoneOr : List ℕ → ℕ → Type 0
NoneOr numbers n = (n ≡ 0) ⊎ Listed numbers n

name-number : (items : List ItemRow) (x : ℕ) (n : List ℕ) → NoneOr set_numbers (with_name items x n).number
unfolding with_name
name-number items x n =
    by_test (is_name n)
    (λ a. by_test (is_known items n)
    (λ b. rw (a, b) (either (eqb (x / 2 ^ number_in items n % 2) 1)))
    (λ b. rw (a, b) (inr (inr (inl refl)))))
    (λ a. rw a (inr (inl refl)))
  where
    either : (t : Bool) → NoneOr set_numbers (cond t (no_set 6) (some_set (bit_or x (2 ^ number_in items n)))).number
    either true = inr (inr (inr (inl refl)))
    either false = inl refl

names-number : (items : List ItemRow) (r : SetField) (ns : List (List ℕ)) → NoneOr set_numbers r.number → NoneOr set_numbers (with_names items r ns).number
unfolding with_names
names-number items r [] h = h
names-number items r (n ∷ ns) h =
    by_test (eqb r.number 0) (λ t. rw t (names-number items (with_name items r.set n) ns (name-number items r.set n))) (λ t. rw t h)

pub set-number : (items : List ItemRow) (l : List ℕ) → NoneOr set_numbers (set_from items l).number
unfolding set_from
set-number items l = by_test (same_text l dash) (λ t. rw t (inl refl)) (λ t. rw t (names-number items (some_set 0) (parts_of l) (inl refl)))

-- a question that is answered no has one of a line's numbers
abbrev Listing : FieldAsked → Type 0
Listing a = a.answer ≡ false → Listed line_numbers a.number

first-listed : (asked : List FieldAsked) → Each Listing asked → NoneOr line_numbers (first_no_of asked).number
unfolding first_no_of
first-listed [] h = inl refl
first-listed (a ∷ asked) h = by_test a.answer (λ t. rw t (first-listed asked h.1)) (λ t. rw t (inr (h.0 t)))

is2 : Listed line_numbers 2
is2 = inl refl

is4 : Listed line_numbers 4
is4 = inr (inl refl)

is5 : Listed line_numbers 5
is5 = inr (inr (inl refl))

is6 : Listed line_numbers 6
is6 = inr (inr (inr (inl refl)))

is7 : Listed line_numbers 7
is7 = inr (inr (inr (inr (inl refl))))

is8 : Listed line_numbers 8
is8 = inr (inr (inr (inr (inr (inl refl)))))

of-set : (n : ℕ) → Listed set_numbers n → Listed line_numbers n
of-set n (inl e) = subst (Listed line_numbers) (sym e) is5
of-set n (inr (inl e)) = subst (Listed line_numbers) (sym e) is8
of-set n (inr (inr (inl e))) = subst (Listed line_numbers) (sym e) is6
of-set n (inr (inr (inr h))) = absurd h

sets-listing : (items : List ItemRow) (k : ℕ) (xs : List (List ℕ)) → Each Listing (set_questions items k xs)
unfolding set_questions
sets-listing items k [] = tt
sets-listing items k (x ∷ xs) = (
  λ t. ⊎_elim (λ z. absurd (eqb-false (set_from items x).number 0 t z)) (of-set (set_from items x).number) (set-number items x),
  sets-listing items (suc k) xs,
)

filled-listing : (k : ℕ) (fs : List (List ℕ)) → Each Listing (fields_filled k fs)
unfolding fields_filled
filled-listing k [] = tt
filled-listing k (f ∷ fs) = (λ t. is4, filled-listing (suc k) fs)

there-listing : (fs : List (List ℕ)) → Listing (fields_there fs)
unfolding fields_there
there-listing [] t = is4
there-listing (f ∷ []) t = is4
there-listing (f ∷ g ∷ []) t = is4
there-listing (f ∷ g ∷ h ∷ xs) t = is4

fields-listing : (items : List ItemRow) (fs : List (List ℕ)) → Each Listing (field_questions items fs)
unfolding field_questions
fields-listing items [] = tt
fields-listing items (f ∷ []) = tt
fields-listing items (f ∷ g ∷ []) = (λ t. is5, tt)
fields-listing items (f ∷ g ∷ h ∷ xs) =
    let sets = each_append Listing (set_questions items 4 xs) (ask_of 7 0 (leb (length xs) most_handed) ∷ []) (sets-listing items 4 xs) (λ t. is7, tt) in
    (λ t. is5, (λ t. is5, (λ t. is8, (λ t. is5, sets))))

pub line-number : (items : List ItemRow) (l : List ℕ) → NoneOr line_numbers (line_no items l).number
unfolding line_no line_questions
line-number items l =
    first-listed (line_questions items l) (
      λ t. is2,
      each_append Listing (fields_filled 1 (fields_of l)) (fields_there (fields_of l) ∷ field_questions items (fields_of l)) (filled-listing 1 (fields_of l))
          (there-listing (fields_of l), fields-listing items (fields_of l)),
    )

-- ---- a set by its names

rows_of : (d : Doc) → Valid d → NamedRows d.items
rows_of d v = record { valid = v.items; names = v.names }

pub data SetComes (sheet l : List ℕ) (a : NamedSet) : Type 0 where
  set-no-sheet : ((read_sheet sheet).number ≡ 0 → ⊥) → a ≡ set_refused 1 (read_sheet sheet).line (read_sheet sheet).number → SetComes sheet l a
  set-no-names : (q : ℕ) → Listed set_numbers q → a ≡ set_refused 2 0 q → SetComes sheet l a
  set-named : (x : ℕ) → NamesSet sheet l x → a ≡ set_told x → SetComes sheet l a

pub set-comes : (sheet l : List ℕ) (a : NamedSet) → ReadSetCall sheet l a → SetComes sheet l a
unfolding Asks
set-comes sheet l a c = ⊎_elim (λ n. set-no-sheet n.0 n.1) (λ y. reads y.1) c
  where
    reads : ReadsSet sheet l a → SetComes sheet l a
    reads h =
        let items = h.d.items in
        ⊎_elim
        (λ n. ⊎_elim (λ z. absurd (n.0 z)) (λ k. set-no-names (set_from items l).number k n.1) (set-number items l))
        (λ y.
        let r = set-read items (rows_of h.d h.valid) l y.0 in
        set-named (set_from items l).set
        (record { d = h.d; valid = h.valid; is = h.is; names = r.names; valid_names = r.valid; text = r.text; set = r.set }) y.1)
        h.told

module _ (sheet l : List ℕ) where
  reads-once : (a b : NamedSet) → ReadsSet sheet l a → ReadsSet sheet l b → a ≡ b
  reads-once a b h k =
      asks-once (set_refused 2 0) (λ x. x ≡ set_told (set_from h.d.items l).set) (asks_set h.d.items l ∷ []) a b (λ e f. e ∙ sym f) h.told
      (subst (λ (d : Doc). Asks (set_refused 2 0) (asks_set d.items l ∷ []) (λ x. x ≡ set_told (set_from d.items l).set) b)
      (rows-unique k.d h.d k.valid h.valid (sym k.is ∙ h.is)) k.told)

  pub one-read-set : (a b : NamedSet) → ReadSetCall sheet l a → ReadSetCall sheet l b → a ≡ b
  one-read-set a b = asks-once (set_refused 1 (read_sheet sheet).line) (ReadsSet sheet l) (asks_sheet sheet ∷ []) a b (reads-once a b)

-- ---- a line by itself

pub data LineComes (sheet line lent : List ℕ) (o : LineOutcome) : Type 0 where
  line-no-sheet : ((read_sheet sheet).number ≡ 0 → ⊥) → o ≡ line_refused 1 (read_sheet sheet).line lent (read_sheet sheet).number → LineComes sheet line lent o
  line-no : (q k : ℕ) → Listed line_numbers q → o ≡ line_refused 2 k lent q → LineComes sheet line lent o
  line-short : o ≡ line_refused 0 0 lent 15 → LineComes sheet line lent o
  line-told : (c : RegisterCall) → LineSays sheet line c → o ≡ tells_call c lent → LineComes sheet line lent o

line-says : (sheet line : List ℕ) (d : Doc) → Valid d → sheet ≡ render d → (line_no d.items line).number ≡ 0 → LineSays sheet line (line_call d.items line)
line-says sheet line d v e z =
    let r = entry-of-line d.items (rows_of d v) line z in
    record { d = d; valid = v; is = e; entry = r.0; valid_entry = r.1; text = r.2; says = r.3 }

pub reading-comes : (sheet line lent : List ℕ) (o : LineOutcome)
    → Asks (line_refused 1 (read_sheet sheet).line lent) (asks_sheet sheet ∷ []) (ReadsLine sheet line lent) o → LineComes sheet line lent o
unfolding Asks
reading-comes sheet line lent o c = ⊎_elim (λ n. line-no-sheet n.0 n.1) (λ y. reads y.1) c
  where
    reads : ReadsLine sheet line lent o → LineComes sheet line lent o
    reads h =
        let items = h.d.items in
        ⊎_elim
        (λ n. ⊎_elim (λ z. absurd (n.0 z)) (λ k. line-no (line_no items line).number (line_no items line).place k n.1) (line-number items line))
        (λ y. ⊎_elim (λ s. line-short s.1) (λ t. line-told (line_call items line) (line-says sheet line h.d h.valid h.is y.0) t.1) y.1)
        h.told

module _ (sheet line lent : List ℕ) where
  abbrev Reading : Doc → LineOutcome → Type 0
  Reading d o = Asks (line_refused 2 (line_no d.items line).place lent) (asks_line d.items line ∷ []) (TellsCall (line_call d.items line) lent) o

  tells-once : (c : RegisterCall) (o p : LineOutcome) → TellsCall c lent o → TellsCall c lent p → o ≡ p
  tells-once c o p = asks-once (line_refused 0 0 lent) (λ x. x ≡ tells_call c lent) (asks_places c lent ∷ []) o p (λ e f. e ∙ sym f)

  pub lines-once : (o p : LineOutcome) → ReadsLine sheet line lent o → ReadsLine sheet line lent p → o ≡ p
  lines-once o p h k =
      let items = h.d.items in
      asks-once (line_refused 2 (line_no items line).place lent) (TellsCall (line_call items line) lent) (asks_line items line ∷ []) o p (tells-once (line_call items line) o p) h.told
      (subst (λ (d : Doc). Reading d p) (rows-unique k.d h.d k.valid h.valid (sym k.is ∙ h.is)) k.told)

  pub one-read-line : (a b : LineAnswer) (exit other : List ℕ) → ReadLineCall sheet line a lent exit → ReadLineCall sheet line b lent other
      → with_sets a exit ≡ with_sets b other
  one-read-line a b exit other =
      asks-once (line_refused 1 (read_sheet sheet).line lent) (ReadsLine sheet line lent) (asks_sheet sheet ∷ []) (with_sets a exit) (with_sets b other)
      (lines-once (with_sets a exit) (with_sets b other))

-- ---- a line taken to the register

pub data EnterComes (sheet : List ℕ) (used : ℕ) (slice : List Record) (o : RegisterOutcome) : Type 0 where
  enter-overfull : o ≡ hands_back used slice 25 → EnterComes sheet used slice o
  enter-no-sheet : ((read_sheet sheet).number ≡ 0 → ⊥) → o ≡ hands_back used slice (read_sheet sheet).number → EnterComes sheet used slice o
  enter-no-line : (q : ℕ) → Listed line_numbers q → o ≡ hands_back used slice q → EnterComes sheet used slice o
  enter-no-place : (q : ℕ) → Listed (26 ∷ 27 ∷ []) q → o ≡ hands_back used slice q → EnterComes sheet used slice o
  enter-done : o.answer.number ≡ 0 → EnterComes sheet used slice o

-- on a sheet's setup, and with the target of a valid entry, neither 12 nor 13 is answered no
said-comes : (sheet : List ℕ) (d : Doc) → Valid d → (e : LineEntry) → ValidEntry d.items e → (used : ℕ) (slice : List Record) (o : RegisterOutcome)
    → MeetsCall (setup_of d) (stated d.items e) used slice o.answer o.slice → EnterComes sheet used slice o
unfolding Asks setup_of
said-comes sheet d v (HandsIn x) w used slice o c =
    ⊎_elim (λ n. enter-overfull n.1)
    (λ a. ⊎_elim (λ n. absurd (n.0 (well-formed-of-valid d v)))
    (λ b. ⊎_elim (λ n. absurd (n.0 (known-number d.items x.target w.target)))
    (λ t. ⊎_elim (λ n. enter-no-place 26 (inl refl) n.1) (λ y. enter-done (answer-number y.1)) t.1.told)
    b.1) a.1) c
said-comes sheet d v (Withdraws k) w used slice o c =
    ⊎_elim (λ n. enter-overfull n.1) (λ a. ⊎_elim (λ n. enter-no-place 27 (inr (inl refl)) n.1) (λ y. enter-done (answer-number y.1)) a.1) c

pub enter-comes : (sheet line : List ℕ) (used : ℕ) (a : Registered) (entry exit : List Record) → EnterCall sheet line used a entry exit
    → EnterComes sheet used entry (with_slice a exit)
unfolding Asks
enter-comes sheet line used a entry exit c =
    ⊎_elim (λ n. enter-overfull n.1) (λ y. ⊎_elim (λ n. enter-no-sheet n.0 n.1) (λ z. enters z.1) y.1) c
  where
    enters : EntersLine sheet line used entry (with_slice a exit) → EnterComes sheet used entry (with_slice a exit)
    enters h =
        let items = h.d.items in
        ⊎_elim
        (λ n. ⊎_elim (λ z. absurd (n.0 z)) (λ k. enter-no-line (line_no items line).number k n.1) (line-number items line))
        (λ y.
        let r = entry-of-line items (rows_of h.d h.valid) line y.0 in
        said-comes sheet h.d h.valid r.0 r.1 used entry (with_slice a exit)
        (subst (λ (s : RegisterCall). MeetsCall (setup_of h.d) s used entry a exit) r.3 y.1))
        h.told

meets-once : (s : Setup) (c : RegisterCall) (used : ℕ) (entry : List Record) (o p : RegisterOutcome) → MeetsCall s c used entry o.answer o.slice
    → MeetsCall s c used entry p.answer p.slice → o ≡ p
meets-once s (HandIn x) used entry o p = one-hand-in s used x.student x.target x.loss x.handed entry o.answer p.answer o.slice p.slice
meets-once s (Withdraw k) used entry o p = one-withdrawal used k entry o.answer p.answer o.slice p.slice

module _ (sheet line : List ℕ) (used : ℕ) (entry : List Record) where
  abbrev Said : Doc → RegisterOutcome → Type 0
  Said d o = MeetsCall (setup_of d) (line_call d.items line) used entry o.answer o.slice

  enters-once : (o p : RegisterOutcome) → EntersLine sheet line used entry o → EntersLine sheet line used entry p → o ≡ p
  enters-once o p h k =
      asks-once (hands_back used entry) (Said h.d) (asks_line h.d.items line ∷ []) o p (meets-once (setup_of h.d) (line_call h.d.items line) used entry o p) h.told
      (subst (λ (d : Doc). Asks (hands_back used entry) (asks_line d.items line ∷ []) (Said d) p)
      (rows-unique k.d h.d k.valid h.valid (sym k.is ∙ h.is)) k.told)

  pub one-entering : (a b : Registered) (exit other : List Record) → EnterCall sheet line used a entry exit → EnterCall sheet line used b entry other
      → with_slice a exit ≡ with_slice b other
  one-entering a b exit other =
      asks-once (hands_back used entry) (EntersLine sheet line used entry) (asks25 entry used ∷ asks_sheet sheet ∷ []) (with_slice a exit) (with_slice b other)
      (enters-once (with_slice a exit) (with_slice b other))
