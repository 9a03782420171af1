-- Lines: the written form of a valid entry is accepted, and every accepted line is one.
-- Assumes nothing.
use mathlib.Core.Path.{◌≡◌, refl, sym, ap, ap₂, ◌∙◌, subst}
use mathlib.Core.Bool.{Bool, true, false, not}
use mathlib.Core.List.{List, [], ◌∷◌, ◌++◌, map}
use mathlib.Core.Logic.{◌⊎◌, ⊎_elim}
use Prim.Native.Nat.{ℕ, suc, ◌≤◌}
use native.Mathlib.Omega.{arith}
use lib.Dec.{eqb, leb}
use lib.ListN.{length, length-map}
use borrow.Author.Tests.{leb-true, le-leb, eqb-true, eqb-false}
use Rattle.vertex_set.proofs.Cases.{by_test, false-true}
use Rattle.vertex_set.proofs.Decisions.{and_both, or_parts, or_left, or_right, yes_of}
use Rattle.setup.specs.Bounds.{largest}
use Rattle.sheet_format.specs.Text.{fields_of, is_empty, same_text, all}
use Rattle.sheet_format.specs.Fields.{is_digit, is_name_byte, is_name, number_of, decimal}
use Rattle.sheet_format.specs.Rows.{ItemRow, Each, Known, number_in}
use Rattle.sheet_format.specs.Questions.{is_known}
use Rattle.sheet_format.proofs.Lists.{each_append, each_right, each_map, each-image}
use Rattle.sheet_format.proofs.Tests.{text-decided, same_refl, all-decided, known-decided}
use Rattle.sheet_format.proofs.Numbers.{value-decimal, number-to, to_number}
use Rattle.sheet_format.proofs.Lines.{Without, spaced, fields-spaced, spaced-fields}
use Rattle.sheet_format.proofs.Fields.{Visible, Plain, visible_without, name-plain, decimal-plain}
use Rattle.report_text.specs.Rows.{way_text}
use Rattle.register.specs.Afternoon.{HandIn, Withdraw}
use Rattle.handin_format.specs.Sets.{SetField}
use Rattle.handin_format.specs.Sets.{joined_by, names_text, set_named, set_from}
use Rattle.handin_format.specs.Entries.{NamedAttempt, LineEntry, HandsIn, Withdraws, withdraw_text, entry_text, most_handed, ValidNames, ValidAttempt, ValidEntry, stated}
use Rattle.handin_format.specs.Lines.{FieldAsked, ask_of, is_line_byte, fields_filled, fields_there, is_student, is_way, set_questions, field_questions, line_questions, first_no_of, line_no, call_of_fields, line_call}
use Rattle.handin_format.specs.Meaning.{NamedRows, LineOfEntry, EntryOfLine}
use Rattle.handin_format.proofs.Sets.{known-name, names-read, set-read}

-- ---- questions, one after the other

abbrev Yes : FieldAsked → Type 0
Yes a = a.answer ≡ true

first-none : (asked : List FieldAsked) → Each Yes asked → (first_no_of asked).number ≡ 0
unfolding first_no_of
first-none [] y = refl
first-none (a ∷ asked) y = rw y.0 (first-none asked y.1)

-- a question that is answered no has a number
abbrev Numbered : FieldAsked → Type 0
Numbered a = a.answer ≡ false → a.number ≡ 0 → ⊥

none_first : (asked : List FieldAsked) → Each Numbered asked → (first_no_of asked).number ≡ 0 → Each Yes asked
unfolding first_no_of
none_first [] n e = tt
none_first (a ∷ asked) n e =
    by_test a.answer (λ t. (t, none_first asked n.1 (rw t at e))) (λ t. absurd (n.0 t (rw t at e)))

fixed : (n k : ℕ) (b : Bool) → Numbered (ask_of (suc n) k b)
fixed n k b t e = omega arith

-- ---- bytes

-- a property of the bytes of each part and of the sign between them is one of the bytes of the whole
joined-each : (P : ℕ → Type 0) (b : ℕ) → P b → (fs : List (List ℕ)) → Each (Each P) fs → Each P (joined_by b fs)
joined-each P b p [] h = tt
joined-each P b p (f ∷ []) h = h.0
joined-each P b p (f ∷ g ∷ fs) h = each_append P f (b ∷ joined_by b (g ∷ fs)) h.0 (p, joined-each P b p (g ∷ fs) h.1)

joined-some : (b : ℕ) (f : List ℕ) (fs : List (List ℕ)) → is_empty f ≡ false → is_empty (joined_by b (f ∷ fs)) ≡ false
unfolding is_empty
joined-some b f [] e = e
joined-some b [] (g ∷ fs) e = refl
joined-some b (c ∷ f) (g ∷ fs) e = refl

joined-spaced : (fs : List (List ℕ)) → joined_by 32 fs ≡ spaced fs
joined-spaced [] = refl
joined-spaced (f ∷ []) = refl
joined-spaced (f ∷ g ∷ fs) = ap (λ (l : List ℕ). f ++ (32 ∷ l)) (joined-spaced (g ∷ fs))

line-bytes : (fs : List (List ℕ)) → Each Plain fs → all is_line_byte (joined_by 32 fs) ≡ true
unfolding is_line_byte
line-bytes fs h =
    yes_of (all is_line_byte (joined_by 32 fs)) (all-decided is_line_byte (joined_by 32 fs))
    (joined-each (λ b. is_line_byte b ≡ true) 32 refl fs (each_map Plain (Each (λ b. is_line_byte b ≡ true)) (λ f p. each_map Visible (λ b. is_line_byte b ≡ true) visible f p.bytes) fs h))
  where
    visible : (b : ℕ) → Visible b → is_line_byte b ≡ true
    visible b v = let p = v.0 in and_both (leb 32 b) (leb b 126) (le-leb 32 b (omega arith)) (le-leb b 126 v.1)

fields_back : (f : List ℕ) (fs : List (List ℕ)) → Each Plain (f ∷ fs) → fields_of (joined_by 32 (f ∷ fs)) ≡ f ∷ fs
fields_back f fs h =
    ap fields_of (joined-spaced (f ∷ fs))
    ∙ fields-spaced f fs (each_map Plain (Without 32) (λ g p. visible_without 32 g (omega arith) p.bytes) (f ∷ fs) h)

-- ---- fields

filled : (k : ℕ) (fs : List (List ℕ)) → Each Plain fs → Each Yes (fields_filled k fs)
unfolding fields_filled
filled k [] h = tt
filled k (f ∷ fs) h = (ap not h.0.some, filled (suc k) fs h.1)

-- the words have the form of names
way-plain : (loss : Bool) → Plain (way_text loss)
unfolding way_text is_name all is_name_byte is_digit
way-plain false = name-plain (way_text false) refl
way-plain true = name-plain (way_text true) refl

withdraw-plain : Plain withdraw_text
unfolding is_name all is_name_byte is_digit
withdraw-plain = name-plain withdraw_text refl

way-yes : (loss : Bool) → is_way (way_text loss) ≡ true
unfolding is_way
way-yes false = or_left (same_text (way_text false) (way_text false)) (same_text (way_text false) (way_text true)) (same_refl (way_text false))
way-yes true = or_right (same_text (way_text true) (way_text false)) (same_text (way_text true) (way_text true)) (same_refl (way_text true))

way-written : (loss : Bool) → same_text (way_text loss) (way_text true) ≡ loss
unfolding way_text same_text
way-written false = refl
way-written true = refl

way-read : (f : List ℕ) → is_way f ≡ true → way_text (same_text f (way_text true)) ≡ f
unfolding is_way
way-read f e = ⊎_elim (λ h. same false ((text-decided f (way_text false)).yes h)) (λ h. same true ((text-decided f (way_text true)).yes h))
    (or_parts (same_text f (way_text false)) (same_text f (way_text true)) e)
  where
    same : (b : Bool) → f ≡ way_text b → way_text (same_text f (way_text true)) ≡ f
    same b e = ap (λ (g : List ℕ). way_text (same_text g (way_text true))) e ∙ ap way_text (way-written b) ∙ sym e

module _ (items : List ItemRow) (rows : NamedRows items) where
  names-plain : (ns : List (List ℕ)) → ValidNames items ns → Plain (names_text ns)
  unfolding is_empty
  names-plain [] v = record { some = refl; bytes = (omega arith, tt) }
  names-plain (n ∷ ns) v =
      let plain = each_map (Known items) Plain (λ m k. name-plain m (known-name items rows.valid m k)) (n ∷ ns) v.known in
      record { some = joined-some 43 n ns plain.0.some; bytes = joined-each Visible 43 (omega arith) (n ∷ ns) (each_map Plain (Each Visible) (λ m p. p.bytes) (n ∷ ns) plain) }

  sets-yes : (k : ℕ) (sets : List (List (List ℕ))) → Each (ValidNames items) sets → Each Yes (set_questions items k (map names_text sets))
  unfolding set_questions
  sets-yes k [] h = tt
  sets-yes k (ns ∷ sets) h = (ap (λ (r : SetField). eqb r.number 0) (names-read items rows ns h.0), sets-yes (suc k) sets h.1)

  sets-said : (sets : List (List (List ℕ))) → Each (ValidNames items) sets
      → map (λ x. (set_from items x).set) (map names_text sets) ≡ map (set_named items) sets
  sets-said [] h = refl
  sets-said (ns ∷ sets) h = ap₂ ◌∷◌ (ap (λ (r : SetField). r.set) (names-read items rows ns h.0)) (sets-said sets h.1)

  -- a line all of whose questions are answered yes
  all_asked : (l : List ℕ) (fs : List (List ℕ)) → fields_of l ≡ fs → all is_line_byte l ≡ true → Each Plain fs → Yes (fields_there fs) → Each Yes (field_questions items fs)
      → (line_no items l).number ≡ 0
  unfolding line_no line_questions
  all_asked l fs e b p t q =
      rw e (first-none (ask_of 2 0 (all is_line_byte l) ∷ (fields_filled 1 fs ++ (fields_there fs ∷ field_questions items fs)))
      (b, each_append Yes (fields_filled 1 fs) (fields_there fs ∷ field_questions items fs) (filled 1 fs p) (t, q)))

  attempt-fields : NamedAttempt → List (List ℕ)
  attempt-fields x = decimal x.student ∷ x.target ∷ way_text x.loss ∷ map names_text x.sets

  attempt-plain : (x : NamedAttempt) → ValidAttempt items x → Each Plain (attempt-fields x)
  unfolding attempt-fields
  attempt-plain x v =
      let s = v.student in (
        decimal-plain x.student (omega arith),
        (
          name-plain x.target (known-name items rows.valid x.target v.target),
          (way-plain x.loss, each-image Plain names_text x.sets (each_map (ValidNames items) (λ ns. Plain (names_text ns)) names-plain x.sets v.sets)),
        ),
      )

  attempt-asked : (x : NamedAttempt) → ValidAttempt items x → Each Yes (field_questions items (attempt-fields x))
  unfolding attempt-fields field_questions is_student
  attempt-asked x v =
      let sets = each_append Yes (set_questions items 4 (map names_text x.sets)) (ask_of 7 0 (leb (length (map names_text x.sets)) most_handed) ∷ [])
      (sets-yes 4 x.sets v.sets)
      (subst (λ (n : ℕ). leb n most_handed ≡ true) (sym (length-map x.sets names_text)) (le-leb (length x.sets) most_handed v.many), tt) in (
        number-to largest x.student (omega arith) v.student,
        (
          known-name items rows.valid x.target v.target,
          (yes_of (is_known items x.target) (known-decided items x.target) v.target, (way-yes x.loss, sets)),
        ),
      )

  attempt-said : (x : NamedAttempt) → ValidAttempt items x → call_of_fields items (attempt-fields x) ≡ stated items (HandsIn x)
  unfolding attempt-fields call_of_fields
  attempt-said x v =
      let s = v.student in
      rw (value-decimal x.student (omega arith), way-written x.loss, sets-said x.sets v.sets)

  line-there : (e : LineEntry) → ValidEntry items e → ((line_no items (entry_text e)).number ≡ 0) × (line_call items (entry_text e) ≡ stated items e)
  unfolding line_call attempt-fields fields_there field_questions is_student call_of_fields
  line-there (HandsIn x) v =
      let p = attempt-plain x v in
      let f = fields_back (decimal x.student) (x.target ∷ way_text x.loss ∷ map names_text x.sets) p in
      (all_asked (entry_text (HandsIn x)) (attempt-fields x) f (line-bytes (attempt-fields x) p) p refl (attempt-asked x v), ap (call_of_fields items) f ∙ attempt-said x v)
  line-there (Withdraws k) v =
      let p : Each Plain (decimal k ∷ withdraw_text ∷ []) = (decimal-plain k (omega arith), (withdraw-plain, tt)) in
      let f = fields_back (decimal k) (withdraw_text ∷ []) p in (
        all_asked (entry_text (Withdraws k)) (decimal k ∷ withdraw_text ∷ []) f (line-bytes (decimal k ∷ withdraw_text ∷ []) p) p (same_refl withdraw_text)
            (number-to largest k (omega arith) v, tt),
        ap (call_of_fields items) f ∙ ap Withdraw (value-decimal k (omega arith)),
      )

  -- ---- and back

  sets-numbered : (k : ℕ) (xs : List (List ℕ)) → Each Numbered (set_questions items k xs)
  unfolding set_questions
  sets-numbered k [] = tt
  sets-numbered k (x ∷ xs) = (λ t z. eqb-false (set_from items x).number 0 t z, sets-numbered (suc k) xs)

  filled-numbered : (k : ℕ) (fs : List (List ℕ)) → Each Numbered (fields_filled k fs)
  unfolding fields_filled
  filled-numbered k [] = tt
  filled-numbered k (f ∷ fs) = (fixed 3 k (not (is_empty f)), filled-numbered (suc k) fs)

  there-numbered : (fs : List (List ℕ)) → Numbered (fields_there fs)
  unfolding fields_there
  there-numbered [] = fixed 3 1 false
  there-numbered (f ∷ []) = fixed 3 2 false
  there-numbered (f ∷ g ∷ []) = fixed 3 3 (same_text g withdraw_text)
  there-numbered (f ∷ g ∷ h ∷ xs) = fixed 3 3 true

  fields-numbered : (fs : List (List ℕ)) → Each Numbered (field_questions items fs)
  unfolding field_questions
  fields-numbered [] = tt
  fields-numbered (f ∷ []) = tt
  fields-numbered (f ∷ g ∷ []) = (fixed 4 1 (is_student f), tt)
  fields-numbered (f ∷ g ∷ h ∷ xs) =
      let sets = each_append Numbered (set_questions items 4 xs) (ask_of 7 0 (leb (length xs) most_handed) ∷ []) (sets-numbered 4 xs)
      (fixed 6 0 (leb (length xs) most_handed), tt) in
      (fixed 4 1 (is_student f), (fixed 4 2 (is_name g), (fixed 7 2 (is_known items g), (fixed 4 3 (is_way h), sets))))

  line-numbered : (l : List ℕ) → Each Numbered (line_questions items l)
  unfolding line_questions
  line-numbered l = (
    fixed 1 0 (all is_line_byte l),
    each_append Numbered (fields_filled 1 (fields_of l)) (fields_there (fields_of l) ∷ field_questions items (fields_of l)) (filled-numbered 1 (fields_of l))
        (there-numbered (fields_of l), fields-numbered (fields_of l)),
  )

  record Asked (fs : List (List ℕ)) : Type 0 where
    there : Yes (fields_there fs)
    fields : Each Yes (field_questions items fs)

  line-asked : (l : List ℕ) → (line_no items l).number ≡ 0 → Asked (fields_of l)
  unfolding line_no line_questions
  line-asked l e =
      let y = none_first (line_questions items l) (line-numbered l) e in
      let r = each_right Yes (fields_filled 1 (fields_of l)) (fields_there (fields_of l) ∷ field_questions items (fields_of l)) y.1 in
      record { there = r.0; fields = r.1 }

  -- sets that are accepted are those of names
  record SetsRead (xs : List (List ℕ)) : Type 0 where
    sets : List (List (List ℕ))
    valid : Each (ValidNames items) sets
    texts : xs ≡ map names_text sets
    said : map (λ x. (set_from items x).set) xs ≡ map (set_named items) sets

  sets-read : (k : ℕ) (xs : List (List ℕ)) (last : List FieldAsked) → Each Yes (set_questions items k xs ++ last) → SetsRead xs
  unfolding set_questions
  sets-read k [] last y = record { sets = []; valid = tt; texts = refl; said = refl }
  sets-read k (x ∷ xs) last y =
      let r = set-read items rows x (eqb-true (set_from items x).number 0 y.0) in
      let s = sets-read (suc k) xs last y.1 in
      record { sets = r.names ∷ s.sets; valid = (r.valid, s.valid); texts = ap₂ ◌∷◌ r.text s.texts; said = ap₂ ◌∷◌ r.set s.said }

  -- the entry that fields state which are accepted
  record EntryRead (fs : List (List ℕ)) : Type 0 where
    entry : LineEntry
    valid : ValidEntry items entry
    text : joined_by 32 fs ≡ entry_text entry
    said : call_of_fields items fs ≡ stated items entry

  fields_read : (fs : List (List ℕ)) → Asked fs → EntryRead fs
  unfolding fields_there field_questions is_student call_of_fields
  fields_read [] a = absurd (false-true a.there)
  fields_read (f ∷ []) a = absurd (false-true a.there)
  fields_read (f ∷ g ∷ []) a =
      let n = to_number largest f (omega arith) a.fields.0 in
      record {
        entry = Withdraws (number_of f);
        valid = n.bound;
        text = ap₂ (λ (x y : List ℕ). joined_by 32 (x ∷ y ∷ [])) (sym n.text) ((text-decided g withdraw_text).yes a.there);
        said = refl;
      }
  fields_read (f ∷ g ∷ h ∷ xs) a =
      let q = a.fields in
      let sets = q.1.1.1.1 in
      let n = to_number largest f (omega arith) q.0 in
      let s = sets-read 4 xs (ask_of 7 0 (leb (length xs) most_handed) ∷ []) sets in
      let many = each_right Yes (set_questions items 4 xs) (ask_of 7 0 (leb (length xs) most_handed) ∷ []) sets in
      record {
        entry = HandsIn (record { student = number_of f; target = g; loss = same_text h (way_text true); sets = s.sets });
        valid =
            record {
              student = n.bound;
              target = (known-decided items g).yes q.1.1.0;
              sets = s.valid;
              many = subst (λ (k : ℕ). k ≤ most_handed) (ap length s.texts ∙ length-map s.sets names_text) (leb-true (length xs) most_handed many.0);
            };
        text = ap₂ (λ (x y : List ℕ). joined_by 32 (x ∷ g ∷ y ∷ xs)) (sym n.text) (sym (way-read h q.1.1.1.0))
            ∙ ap (λ (ys : List (List ℕ)). joined_by 32 (decimal (number_of f) ∷ g ∷ way_text (same_text h (way_text true)) ∷ ys)) s.texts;
        said = ap (λ (ys : List ℕ). HandIn (record { student = number_of f; target = number_in items g; loss = same_text h (way_text true); handed = ys })) s.said;
      }

  line-back : (l : List ℕ) → (line_no items l).number ≡ 0
      → (e : LineEntry) × ValidEntry items e × (l ≡ entry_text e) × (line_call items l ≡ stated items e)
  unfolding line_call
  line-back l e =
      let r = fields_read (fields_of l) (line-asked l e) in
      (r.entry, r.valid, sym (spaced-fields l) ∙ sym (joined-spaced (fields_of l)) ∙ r.text, r.said)

pub line-of-entry : LineOfEntry
line-of-entry = line-there

pub entry-of-line : EntryOfLine
entry-of-line = line-back
