-- The form of a line: its bytes, no empty field, none missing.
-- Assumes nothing.
use mathlib.Core.Path.{◌≡◌, refl, sym, ap, ◌∙◌}
use mathlib.Core.Bool.{true, false}
use mathlib.Core.List.{List, [], ◌∷◌, ◌++◌}
use Prim.Native.Nat.{ℕ, suc, ◌+◌, ◌-◌, ◌≤◌, ◌<◌}
use native.Mathlib.Numerals.{add-one}
use native.Mathlib.Omega.{arith}
use lib.Dec.{eqb, leb}
use lib.ListN.{length, take, drop, length-drop}
use lib.Seq.{length-take-le}
use borrow.Author.Tests.{ne_eqb, le-leb, lt-leb}
use Rattle.sheet_format.specs.Text.{fields_of, is_empty, same_text, all}
use Rattle.sheet_format.specs.Rows.{ItemRow}
use Rattle.sheet_fields.specs.Inner.Parts.{until}
use Rattle.sheet_fields.proofs.Cutting.{until-le}
use Rattle.handin_format.specs.Entries.{withdraw_text}
use Rattle.handin_format.specs.Lines.{FieldAsked, is_line_byte, fields_filled, fields_there, field_questions, first_no_of, line_questions, line_no}
use Rattle.std.specs.Prelude.{Option, Some, None}
use Rattle.std.specs.Option.{MatchOption}
use Rattle.std.specs.List.{slice_split, position_from}
use Rattle.vertex_set.proofs.Cases.{by_test}
use Rattle.handin_lines.specs.Inner.Lines.{FormFound}
use Rattle.handin_lines.specs.Inner.Splitting.{split_from}
use Rattle.handin_lines.specs.Inner.Lines.{no_form, part_of, FirstEmpty, CutsFields, FormOf}
use Rattle.handin_lines.proofs.Splitting.{split_at, split-over, fields_split, fields_are}

-- ---- a byte of a line

pub byte_low : (b : ℕ) → b < 32 → false ≡ is_line_byte b
unfolding is_line_byte
byte_low b h = rw (lt-leb 32 b h)

pub byte_high : (b : ℕ) → 32 ≤ b → leb b 126 ≡ is_line_byte b
unfolding is_line_byte
byte_high b h = rw (le-leb 32 b h)

-- ---- empty fields

empty-is : (s : List ℕ) → is_empty s ≡ eqb (length s) 0
unfolding is_empty
empty-is [] = refl
empty-is (b ∷ s) = sym (ne_eqb (suc (length s)) 0 (λ z. omega arith))

filled-no : (k : ℕ) (f : List ℕ) (fs : List (List ℕ)) (later : List FieldAsked) → is_empty f ≡ true
    → first_no_of (fields_filled k (f ∷ fs) ++ later) ≡ record { number = 4; place = k }
unfolding first_no_of fields_filled
filled-no k f fs later e = rw e

filled-yes : (k : ℕ) (f : List ℕ) (fs : List (List ℕ)) (later : List FieldAsked) → is_empty f ≡ false
    → first_no_of (fields_filled k (f ∷ fs) ++ later) ≡ first_no_of (fields_filled (suc k) fs ++ later)
unfolding first_no_of fields_filled
filled-yes k f fs later e = rw e

filled_none : (k : ℕ) (later : List FieldAsked) → first_no_of (fields_filled k [] ++ later) ≡ first_no_of later
unfolding fields_filled
filled_none k later = refl

-- the first empty one of the fields, the first of which is field i + 1
first_filled : (fs : List (List ℕ)) (i : ℕ) (later : List FieldAsked)
    → MatchOption (position_from (λ f. eqb (length f) 0) i fs) (first_no_of (fields_filled (i + 1) fs ++ later) ≡ first_no_of later)
    (λ n. first_no_of (fields_filled (i + 1) fs ++ later) ≡ record { number = 4; place = n + 1 })
first_filled [] i later = filled_none (i + 1) later
first_filled (f ∷ fs) i later =
    by_test (eqb (length f) 0)
    (λ e. rw e (filled-no (i + 1) f fs later (empty-is f ∙ e)))
    (λ e. rw e (rw (filled-yes (i + 1) f fs later (empty-is f ∙ e), sym (add-one (i + 1))) (first_filled fs (i + 1) later)))

module _ (l : List ℕ) (r : Option ℕ) (h : r ≡ position_from (λ f. eqb (length f) 0) 0 (slice_split (λ b. eqb b 32) l)) where
  filled : (later : List FieldAsked)
      → MatchOption r (first_no_of (fields_filled 1 (fields_of l) ++ later) ≡ first_no_of later) (λ n. first_no_of (fields_filled 1 (fields_of l) ++ later) ≡ record { number = 4; place = n + 1 })
  filled later = rw (h, ← (fields_are l)) (first_filled (slice_split (λ b. eqb b 32) l) 0 later)

  pub filled-found : (n : ℕ) → r ≡ Some n → FirstEmpty l (Some (n + 1))
  filled-found n e =
      record {
        some = λ m i later. let j : n + 1 ≡ m = cc in rw (← j) (rw e at (filled later));
        none = λ i. absurd (cc);
      }

  pub filled-over : r ≡ None → FirstEmpty l None
  filled-over e = record { some = λ m i. absurd (cc); none = λ _ later. rw e at (filled later) }

-- ---- missing fields

there-no : (fs : List (List ℕ)) (a : FieldAsked) (later : List FieldAsked) → fields_there fs ≡ a → a.answer ≡ false
    → first_no_of (fields_there fs ∷ later) ≡ record { number = a.number; place = a.place }
unfolding first_no_of
there-no fs a later e n = rw (e, n)

there-yes : (fs : List (List ℕ)) (a : FieldAsked) (later : List FieldAsked) → fields_there fs ≡ a → a.answer ≡ true
    → first_no_of (fields_there fs ∷ later) ≡ first_no_of later
unfolding first_no_of
there-yes fs a later e y = rw (e, y)

missing : (l : List ℕ) (k : ℕ) → fields_there (fields_of l) ≡ record { number = 4; place = k; answer = false } → CutsFields l (no_form 4 k)
missing l k e =
    record { no = λ _ later. there-no (fields_of l) (record { number = 4; place = k; answer = false }) later e refl; yes = λ z. absurd (omega arith) }

module _ (l : List ℕ) (first : ℕ) (q : first ≡ 0 + until 32 (drop 0 l)) where
  one : fields_of l ≡ take first l ∷ split_from 32 (first + 1) l
  one = let z : first - 0 ≡ first = omega arith in fields_split l ∙ split_at 32 l 0 first (omega arith) q ∙ rw z

  pub cut-one : length l ≤ first → CutsFields l (no_form 4 2)
  unfolding fields_there
  cut-one h = missing l 2 (rw (one, split-over 32 l (first + 1) (omega arith)))

  module _ (h : first < length l) (second : ℕ) (p : second ≡ first + 1 + until 32 (drop (first + 1) l)) where
    two : fields_of l ≡ take first l ∷ part_of l (first + 1) second ∷ split_from 32 (second + 1) l
    two = one ∙ ap (λ (fs : List (List ℕ)). take first l ∷ fs) (split_at 32 l (first + 1) second (omega arith) p)

    pub second-inside : second ≤ length l
    second-inside = let u = until-le 32 (drop (first + 1) l) in let d = length-drop (first + 1) l in omega arith

    pub cut-more : second < length l → (third : ℕ) → third ≡ second + 1 + until 32 (drop (second + 1) l)
        → CutsFields l (record { number = 0; place = 0; first = first; second = second; third = third })
    unfolding fields_there
    cut-more k third r =
        let u = until-le 32 (drop (second + 1) l) in
        let d = length-drop (second + 1) l in
        let three : fields_of l ≡ take first l ∷ part_of l (first + 1) second ∷ part_of l (second + 1) third ∷ split_from 32 (third + 1) l =
        two ∙ ap (λ (fs : List (List ℕ)). take first l ∷ part_of l (first + 1) second ∷ fs) (split_at 32 l (second + 1) third (omega arith) r) in
        record {
          no = λ n. absurd (n refl);
          yes = λ _. record {
            inside = (omega arith, omega arith);
            there = λ later. there-yes (fields_of l) (record { number = 4; place = 3; answer = true }) later (rw three) refl;
            alone = λ a. absurd (omega arith);
            more = λ _. record { places = record { first = omega arith; second = omega arith; third = omega arith }; fields = three };
          };
        }

    module _ (k : length l ≤ second) where
      last : fields_of l ≡ take first l ∷ part_of l (first + 1) second ∷ []
      last = two ∙ ap (λ (fs : List (List ℕ)). take first l ∷ part_of l (first + 1) second ∷ fs) (split-over 32 l (second + 1) (omega arith))

      pub cut-withdraws : same_text (part_of l (first + 1) second) withdraw_text ≡ true
          → CutsFields l (record { number = 0; place = 0; first = first; second = second; third = second })
      unfolding fields_there
      cut-withdraws w =
          record {
            no = λ n. absurd (n refl);
            yes = λ _. record {
              inside = (omega arith, second-inside);
              there = λ later. there-yes (fields_of l) (record { number = 4; place = 3; answer = true }) later (rw (last, w)) refl;
              alone = λ _. last;
              more = λ m. absurd (omega arith);
            };
          }

      pub cut-two : same_text (part_of l (first + 1) second) withdraw_text ≡ false → CutsFields l (no_form 4 3)
      unfolding fields_there
      cut-two w = missing l 3 (rw (last, w))

-- ---- the form

module _ (l : List ℕ) where
  pub form-bytes : all is_line_byte l ≡ false → FormOf l (no_form 2 0)
  unfolding line_no line_questions first_no_of
  form-bytes e = record { no = λ _ items. rw e; yes = λ z. absurd (omega arith); cut = λ z. absurd (omega arith) }

  module _ (e : all is_line_byte l ≡ true) where
    behind-bytes : (items : List ItemRow) → line_no items l ≡ first_no_of (fields_filled 1 (fields_of l) ++ (fields_there (fields_of l) ∷ field_questions items (fields_of l)))
    unfolding line_no line_questions first_no_of
    behind-bytes items = rw e

    pub form-empty : (r : ℕ) → FirstEmpty l (Some r) → FormOf l (no_form 4 r)
    form-empty r h =
        record {
          no = λ _ items. behind-bytes items ∙ h.some r refl (fields_there (fields_of l) ∷ field_questions items (fields_of l));
          yes = λ z. absurd (omega arith);
          cut = λ z. absurd (omega arith);
        }

    pub form-cut : FirstEmpty l None → (f : FormFound) → CutsFields l f → FormOf l f
    form-cut h f c =
        record {
          no = λ n items. filled items ∙ c.no n (field_questions items (fields_of l));
          yes = λ y items. filled items ∙ (c.yes y).there (field_questions items (fields_of l));
          cut = c.yes;
        }
      where
        filled : (items : List ItemRow) → line_no items l ≡ first_no_of (fields_there (fields_of l) ∷ field_questions items (fields_of l))
        filled items = behind-bytes items ∙ h.none refl (fields_there (fields_of l) ∷ field_questions items (fields_of l))
