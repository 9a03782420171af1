-- The fields of a line from the left: student, target, way, sets; and the call that they say.
-- Assumes nothing.
use mathlib.Core.Path.{◌≡◌, refl, sym, ap, ◌∙◌}
use mathlib.Core.Bool.{Bool, true, false, cond}
use mathlib.Core.List.{List, [], ◌∷◌, ◌++◌}
use mathlib.Core.Logic.{⊎_elim}
use Prim.Native.Nat.{ℕ, suc, ◌+◌, ◌≤◌, ◌<◌}
use native.Mathlib.Omega.{arith}
use lib.Dec.{eqb, leb}
use lib.ListN.{length, take}
use borrow.Author.Tests.{eq-eqb, ne_eqb, le-leb, lt-leb}
use Rattle.vertex_set.proofs.Cases.{by_test, less-or, false-true}
use Rattle.sheet_format.specs.Text.{fields_of, same_text}
use Rattle.sheet_format.specs.Fields.{is_name, number_of}
use Rattle.sheet_format.specs.Rows.{ItemRow, number_in}
use Rattle.sheet_format.specs.Questions.{is_known}
use Rattle.sheet_rows.specs.Inner.NameKeys.{NameKeys}
use Rattle.report_text.specs.Rows.{way_text}
use Rattle.handin_format.specs.Sets.{set_from}
use Rattle.handin_format.specs.Entries.{most_handed}
use Rattle.handin_format.specs.Lines.{FieldAsked, ask_of, is_student, is_way, set_questions, field_questions, first_no_of, call_of_fields, line_call}
use Rattle.std.specs.Prelude.{Result}
use Rattle.questions.specs.declared.Refusal.{Refusal}
use Rattle.handin_lines.specs.Inner.Naming.{ItemField, item_field}
use Rattle.handin_lines.specs.Inner.Sets.{Checked}
use Rattle.handin_lines.specs.Inner.Lines.{FormFound}
use Rattle.handin_lines.specs.Inner.Lines.{WayField}
use Rattle.handin_lines.specs.Inner.Lines.{LineFound}
use Rattle.handin_lines.specs.Inner.Splitting.{split_from}
use Rattle.handin_lines.specs.Inner.Naming.{item_from, NamesItem}
use Rattle.handin_lines.specs.Inner.Sets.{sets_from, ChecksSets, handed_questions, ChecksHanded}
use Rattle.handin_lines.specs.Inner.Lines.{no_line, part_of, FormOf, ReadsWay, attempt_questions, attempt_read, withdrawal_read, ChecksAttempt, call_read, SaysCall, ChecksLine}

-- ---- way

pub way-lock : (f : List ℕ) → same_text f (way_text true) ≡ true → ReadsWay f (record { ok = true; loss = true })
unfolding is_way
way-lock f e = record { answer = by_test (same_text f (way_text false)) (λ o. rw o) (λ o. rw (o, e)); way = sym e }

pub way-other : (f : List ℕ) (b : Bool) → same_text f (way_text true) ≡ false → b ≡ same_text f (way_text false) → ReadsWay f (record { ok = b; loss = false })
unfolding is_way
way-other f b e q = record { answer = rw (q, e) (by_test (same_text f (way_text false)) (λ o. rw o) (λ o. rw o)); way = sym e }

-- ---- sets

-- the questions behind those of the sets
sets_then : (items : List ItemRow) (k : ℕ) (xs : List (List ℕ)) (later : List FieldAsked)
    → first_no_of (set_questions items k xs ++ later)
    ≡ cond (eqb (first_no_of (set_questions items k xs)).number 0) (first_no_of later) (first_no_of (set_questions items k xs))
unfolding first_no_of set_questions
sets_then items k [] later = refl
sets_then items k (x ∷ xs) later =
    by_test (eqb (set_from items x).number 0) (λ e. rw e (sets_then items (suc k) xs later)) (λ e. rw (e, e))

module _ (low high : List ℕ) (count : ℕ) (l : List ℕ) (start : ℕ) (r : Checked) (h : ChecksSets low high count l start r) where
  asked : (items : List ItemRow) → NameKeys items low high count
      → first_no_of (handed_questions items (split_from 32 start l))
      ≡ cond (eqb r.number 0) (first_no_of (ask_of 7 0 (leb (length (split_from 32 start l)) most_handed) ∷ [])) (record { number = r.number; place = r.place })
  unfolding handed_questions
  asked items t = sets_then items 4 (split_from 32 start l) (ask_of 7 0 (leb (length (split_from 32 start l)) most_handed) ∷ []) ∙ rw (h.first items t)

  pub handed-no : (r.number ≡ 0 → ⊥) → ChecksHanded low high count l start r
  handed-no n =
      record { first = λ items t. asked items t ∙ rw (ne_eqb r.number 0 n); counted = λ z. absurd (n z); plain = λ z. absurd (n z); few = λ z. absurd (n z) }

  module _ (z : r.number ≡ 0) where
    last : (items : List ItemRow) → NameKeys items low high count
        → first_no_of (handed_questions items (split_from 32 start l)) ≡ first_no_of (ask_of 7 0 (leb r.count most_handed) ∷ [])
    last items t = asked items t ∙ rw (eq-eqb r.number 0 z, h.counted z)

    pub handed-many : most_handed < r.count → ChecksHanded low high count l start (record { number = 7; place = 0; count = 0 })
    unfolding first_no_of
    handed-many m =
        record {
          first = λ items t. last items t ∙ rw (lt-leb r.count most_handed m);
          counted = λ w. absurd (omega arith);
          plain = λ w. absurd (omega arith);
          few = λ w. absurd (omega arith);
        }

    pub handed-all : r.count ≤ most_handed → ChecksHanded low high count l start r
    unfolding first_no_of
    handed-all m =
        record {
          first = λ items t. last items t ∙ rw (le-leb r.count most_handed m, z, h.plain z);
          counted = h.counted;
          plain = h.plain;
          few = λ _. m;
        }

-- ---- target, way and sets

target-asked : (items : List ItemRow) (g : List ℕ) (later : List FieldAsked)
    → first_no_of (ask_of 5 2 (is_name g) ∷ ask_of 8 2 (is_known items g) ∷ later)
    ≡ cond (eqb (item_field (item_from items g)).number 0) (first_no_of later) (record { number = (item_field (item_from items g)).number; place = 2 })
unfolding first_no_of item_from
target-asked items g later = by_test (is_name g) (λ e. by_test (is_known items g) (λ k. rw (e, k)) (λ k. rw (e, k))) (λ e. rw e)

item-is : (items : List ItemRow) (g : List ℕ) → (item_field (item_from items g)).number ≡ 0 → (item_field (item_from items g)).item ≡ number_in items g
unfolding item_from
item-is items g z =
    by_test (is_name g)
    (λ e. by_test (is_known items g) (λ k. rw (e, k)) (λ k. absurd (let w = rw (e, k) at z in omega arith)))
    (λ e. absurd (let w = rw e at z in omega arith))

module _ (low high : List ℕ) (count : ℕ) (l : List ℕ) (form : FormFound) (student : ℕ) where
  module _ (item : Result ℕ Refusal) (t : NamesItem low high count (part_of l (form.first + 1) form.second) item) where
    abbrev target : ItemField
    target = item_field item

    target_first : (items : List ItemRow) → NameKeys items low high count
        → first_no_of (attempt_questions items (part_of l (form.first + 1) form.second) (part_of l (form.second + 1) form.third) (split_from 32 (form.third + 1) l))
        ≡ cond (eqb target.number 0) (first_no_of (ask_of 5 3 (is_way (part_of l (form.second + 1) form.third)) ∷ handed_questions items (split_from 32 (form.third + 1) l))) (record { number = target.number; place = 2 })
    unfolding attempt_questions
    target_first items k =
        target-asked items (part_of l (form.first + 1) form.second) (ask_of 5 3 (is_way (part_of l (form.second + 1) form.third)) ∷ handed_questions items (split_from 32 (form.third + 1) l))
        ∙ rw (← (ap item_field (t.each items k)))

    pub attempt-target : (target.number ≡ 0 → ⊥) → ChecksAttempt low high count l form student (no_line target.number 2)
    attempt-target n =
        record {
          first = λ items k. target_first items k ∙ rw (ne_eqb target.number 0 n);
          says = λ z. absurd (n z);
          few = λ z. absurd (n z);
        }

    module _ (z : target.number ≡ 0) (way : WayField) (w : ReadsWay (part_of l (form.second + 1) form.third) way) where
      way-first : (items : List ItemRow) → NameKeys items low high count
          → first_no_of (attempt_questions items (part_of l (form.first + 1) form.second) (part_of l (form.second + 1) form.third) (split_from 32 (form.third + 1) l))
          ≡ cond way.ok (first_no_of (handed_questions items (split_from 32 (form.third + 1) l))) (record { number = 5; place = 3 })
      unfolding first_no_of
      way-first items k = target_first items k ∙ rw (eq-eqb target.number 0 z, w.answer)

      pub attempt-way : way.ok ≡ false → ChecksAttempt low high count l form student (no_line 5 3)
      attempt-way n =
          record { first = λ items k. way-first items k ∙ rw n; says = λ y. absurd (omega arith); few = λ y. absurd (omega arith) }

      module _ (y : way.ok ≡ true) (found : Checked) (h : ChecksHanded low high count l (form.third + 1) found) where
        sets_first : (items : List ItemRow) → NameKeys items low high count
            → first_no_of (attempt_questions items (part_of l (form.first + 1) form.second) (part_of l (form.second + 1) form.third) (split_from 32 (form.third + 1) l))
            ≡ record { number = found.number; place = found.place }
        sets_first items k = way-first items k ∙ rw y (h.first items k)

        pub attempt-sets : (found.number ≡ 0 → ⊥) → ChecksAttempt low high count l form student (no_line found.number found.place)
        attempt-sets n = record { first = sets_first; says = λ m. absurd (n m); few = λ m. absurd (n m) }

        pub attempt-read : found.number ≡ 0
            → ChecksAttempt low high count l form student
            (record { number = 0; place = 0; withdraws = false; student = student; target = target.item; loss = way.loss; start = form.third + 1; count = found.count })
        attempt-read m =
            record {
              first = λ items k. sets_first items k ∙ rw (m, h.plain m);
              says = λ _ items k.
                  let i : target.item ≡ number_in items (part_of l (form.first + 1) form.second) =
                  ap (λ (x : ItemField). x.item) (ap item_field (t.each items k)) ∙ item-is items (part_of l (form.first + 1) form.second) (sym (ap (λ (x : ItemField). x.number) (ap item_field (t.each items k))) ∙ z) in
                  rw (i, w.way, h.counted m);
              few = λ _. h.few m;
            }

-- ---- the whole line

module _ (low high : List ℕ) (count : ℕ) (l : List ℕ) (form : FormFound) (f : FormOf l form) where
  pub line-form : (form.number ≡ 0 → ⊥) → ChecksLine low high count l (no_line form.number form.place)
  line-form n = record { first = λ items t. f.no n items; says = λ z. absurd (n z) }

  module _ (z : form.number ≡ 0) where
    -- the first question of the fields is that of the student
    first_field : (items : List ItemRow) → is_student (take form.first l) ≡ false → first_no_of (field_questions items (fields_of l)) ≡ record { number = 5; place = 1 }
    unfolding field_questions first_no_of
    first_field items e =
        ⊎_elim
        (λ m. rw (((f.cut z).more m).fields, e))
        (λ a. rw ((f.cut z).alone a, e))
        (less-or form.second (length l))

    pub line-student : is_student (take form.first l) ≡ false → ChecksLine low high count l (no_line 5 1)
    line-student h =
        record {
          first = λ items t. f.yes z items ∙ first_field items h;
          says = λ y. absurd (omega arith);
        }

    module _ (student : ℕ) (yes : is_student (take form.first l) ≡ true) (number_is : number_of (take form.first l) ≡ student) where
      pub line-withdraws : length l ≤ form.second
          → ChecksLine low high count l
          (withdrawal_read student)
      unfolding first_no_of field_questions line_call call_of_fields call_read
      line-withdraws a =
          record {
            first = λ items t. f.yes z items ∙ rw ((f.cut z).alone a, yes);
            says = λ _ items t. record {
              call = rw ((f.cut z).alone a, number_is);
              counted = λ w. absurd (false-true (sym w));
              few = omega arith;
              alone = λ _. (refl, refl, refl);
            };
          }

      module _ (m : form.second < length l) where
        attempt-asked : (items : List ItemRow) → first_no_of (field_questions items (fields_of l))
            ≡ first_no_of (attempt_questions items (part_of l (form.first + 1) form.second) (part_of l (form.second + 1) form.third) (split_from 32 (form.third + 1) l))
        unfolding first_no_of field_questions attempt_questions handed_questions
        attempt-asked items = rw (((f.cut z).more m).fields, yes)

        attempt-says : (items : List ItemRow) (r : LineFound)
            → r ≡ attempt_read student (number_in items (part_of l (form.first + 1) form.second)) (same_text (part_of l (form.second + 1) form.third) (way_text true)) (form.third + 1) (length (split_from 32 (form.third + 1) l))
            → r.count ≤ most_handed → SaysCall items l r
        unfolding line_call call_of_fields call_read sets_from
        attempt-says items r e few =
            record {
              call = rw (e, ((f.cut z).more m).fields, number_is);
              counted = λ _. ap (λ (x : LineFound). x.count) e ∙ sym (ap (λ (x : LineFound). length (split_from 32 x.start l)) e);
              few = few;
              alone = λ w. absurd (false-true (sym (ap (λ (x : LineFound). x.withdraws) e) ∙ w));
            }

        pub line-attempt : (r : LineFound) → ChecksAttempt low high count l form student r → ChecksLine low high count l r
        line-attempt r c =
            record {
              first = λ items t. f.yes z items ∙ attempt-asked items ∙ c.first items t;
              says = λ y items t. attempt-says items r (c.says y items t) (c.few y);
            }
