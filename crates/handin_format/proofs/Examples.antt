-- Lines on document 01's sheet, computed, and wrong answers that the definitions and contracts exclude.
-- Assumes nothing.
use mathlib.Core.Path.{◌≡◌, refl, sym, ap, ◌∙◌}
use mathlib.Core.Bool.{true, false}
use mathlib.Core.List.{List, [], ◌∷◌, map}
use mathlib.Core.Logic.{⊎_elim}
use Prim.Native.Nat.{ℕ, ◌+◌, ◌^◌, ◌≤◌}
use Prim.Native.String.{String}
use native.Mathlib.Omega.{arith}
use lib.ListN.{length}
use Rattle.setup.specs.declared.Kind.TheVariants.{Credential, Account}
use Rattle.std.specs.Prelude.{None, Some}
use Rattle.questions.specs.Asks.{Asks}
use Rattle.sheet_format.specs.Read.{Reading}
use Rattle.sheet_format.specs.Text.{bytes_of, fields_of, grow, all, is_empty, same_text}
use Rattle.sheet_format.specs.Fields.{is_number_to, is_number, number_of, value_behind, is_digit, is_name, is_name_byte, decimal, digits_in}
use Rattle.sheet_format.specs.Rows.{ItemRow, Doc, Valid, number_in, render}
use Rattle.sheet_format.specs.Questions.{is_known}
use Rattle.sheet_format.specs.Read.{read_sheet}
use Rattle.sheet_format.proofs.Meaning.{accepted-of-valid, rows-unique}
use Rattle.report_text.specs.Rows.{way_text, numbers_from}
use Rattle.records.specs.declared.Record.{Record}
use Rattle.records.specs.declared.Registered.{Registered}
use Rattle.records.specs.Records.{RegisterOutcome}
use Rattle.register.specs.Afternoon.{RegisterCall, HandIn, Withdraw}
use Rattle.handin_format.specs.Calls.{LineAnswer}
use Rattle.handin_format.specs.Sets.{set_from, with_names, with_name, parts_of, some_set}
use Rattle.handin_format.specs.Lines.{line_no, first_no_of, line_questions, field_questions, set_questions, fields_there, fields_filled, is_way, is_student, is_line_byte, line_call, call_of_fields}
use Rattle.handin_format.specs.Calls.{LineOutcome, with_sets, ReadLineCall, EnterCall}
use Rattle.handin_format.proofs.Unique.{LineComes, line-no-sheet, line-no, line-short, line-told, reading-comes, EnterComes, enter-overfull, enter-no-sheet, enter-no-line, enter-no-place, enter-done, enter-comes}

-- the item rows of document 01's sheet
abbrev bench : List ItemRow
bench =
    record { name = bytes_of "ordpw"; kind = Credential; start = Some 1; loss = Some 2; rank = 0 }
    ∷ record { name = bytes_of "mailpw"; kind = Credential; start = Some 1; loss = Some 1; rank = 0 }
    ∷ record { name = bytes_of "token"; kind = Credential; start = Some 3; loss = Some 2; rank = 0 }
    ∷ record { name = bytes_of "mail"; kind = Account; start = None; loss = None; rank = 1 }
    ∷ record { name = bytes_of "order"; kind = Account; start = None; loss = None; rank = 3 }
    ∷ []

-- the line is accepted, and says the call
abbrev Says : String → RegisterCall → Type 0
Says line c = (line_no bench (bytes_of line) ≡ record { number = 0; place = 0 }) × (line_call bench (bytes_of line) ≡ c)

-- the line's first no has the number q, and is asked of field k
abbrev No : String → ℕ → ℕ → Type 0
No line q k = line_no bench (bytes_of line) ≡ record { number = q; place = k }

-- ---- computed

pub record Accepted : Type 0 where
  -- document 01's B7: of one set twice both are handed in, and the target counts among all items
  pub b7 : Says "1042 order open mailpw mailpw mailpw+token token" (HandIn (record { student = 1042; target = 4; loss = false; handed = 2 ∷ 2 ∷ 6 ∷ 4 ∷ [] }))
  -- the order of names is free, `-` is the empty set, and `lock` is the other way
  pub any_order : Says "1058 order lock mailpw+ordpw -" (HandIn (record { student = 1058; target = 4; loss = true; handed = 3 ∷ 0 ∷ [] }))
  -- a hand-in of no sets: nothing opens it
  pub no_sets : Says "7 mail open" (HandIn (record { student = 7; target = 3; loss = false; handed = [] }))
  -- a withdrawal has two fields; a student may have the number 0, or the largest
  pub withdrawal : Says "1099 withdraw" (Withdraw 1099)
  pub zero : Says "0 withdraw" (Withdraw 0)
  pub largest_number : Says "4000000000 withdraw" (Withdraw 4000000000)

pub record Refused : Type 0 where
  -- 2: a tab, and a byte behind the text
  pub tab : line_no bench (55 ∷ 9 ∷ []) ≡ record { number = 2; place = 0 }
  pub line_end : line_no bench (55 ∷ 32 ∷ 109 ∷ 13 ∷ []) ≡ record { number = 2; place = 0 }
  -- 4: an empty field, and one that is missing; a line that was cut short behind its number withdraws nobody
  pub two_spaces : No "1017  mail open" 4 2
  pub space_first : No " 1017 mail open" 4 1
  pub space_last : No "1017 mail open " 4 4
  pub nothing : No "" 4 1
  pub number_alone : No "1017" 4 2
  pub no_way : No "1017 order" 4 3
  -- 5: a student
  pub leading_zeros : No "0017 order open" 5 1
  pub too_large : No "4000000001 withdraw" 5 1
  pub wraps_around : No "18446744073709551621 withdraw" 5 1
  -- 5: a way, a name, an empty name, and `-` beside another one
  pub other_way : No "17 order opens" 5 3
  pub upper_case : No "17 order open Token" 5 4
  pub plus_first : No "17 order open +token" 5 4
  pub plus_last : No "17 order open token+" 5 4
  pub plus_twice : No "17 order open ordpw++token" 5 4
  pub dash_within : No "17 order open token+-" 5 4
  -- 8: a name that is the beginning of one, or longer; of a target, and of the second set
  pub prefix : No "17 order open mailp" 8 4
  pub unknown_target : No "1058 orders open mailpw" 8 2
  pub unknown_name : No "1058 order open mailpw mailpwd" 8 5
  -- 6: an item named twice
  pub named_twice : No "1058 order open token+token" 6 4
  -- fields are asked from the left, and the names of a set too
  pub earlier_first : No "17 orders opens tokens" 8 2
  pub earlier_name : No "17 order open tokens+Mail" 8 4

pub accepted-lines : Accepted
unfolding line_no first_no_of line_questions field_questions set_questions fields_there fields_filled is_way is_student is_line_byte way_text set_from with_names with_name parts_of fields_of grow all is_empty same_text is_number_to is_number number_of value_behind is_digit is_name is_name_byte is_known number_in line_call call_of_fields
accepted-lines =
    record {
      b7 = (refl, refl);
      any_order = (refl, refl);
      no_sets = (refl, refl);
      withdrawal = (refl, refl);
      zero = (refl, refl);
      largest_number = (refl, refl);
    }

pub refused-lines : Refused
unfolding line_no first_no_of line_questions field_questions set_questions fields_there fields_filled is_way is_student is_line_byte way_text set_from with_names with_name parts_of fields_of grow all is_empty same_text is_number_to is_number number_of value_behind is_digit is_name is_name_byte is_known number_in
refused-lines =
    record {
      tab = refl;
      line_end = refl;
      two_spaces = refl;
      space_first = refl;
      space_last = refl;
      nothing = refl;
      number_alone = refl;
      no_way = refl;
      leading_zeros = refl;
      too_large = refl;
      wraps_around = refl;
      other_way = refl;
      upper_case = refl;
      plus_first = refl;
      plus_last = refl;
      plus_twice = refl;
      dash_within = refl;
      prefix = refl;
      unknown_target = refl;
      unknown_name = refl;
      named_twice = refl;
      earlier_first = refl;
      earlier_name = refl;
    }

-- items above the 32nd keep their own bits
abbrev many : List ItemRow
many = map (λ v. record { name = decimal v; kind = Credential; start = None; loss = None; rank = 0 }) (numbers_from 0 64)

pub high-items : set_from many (bytes_of "63+32+0") ≡ some_set (2 ^ 63 + 2 ^ 32 + 1)
unfolding set_from with_names with_name parts_of grow all same_text is_digit is_name is_name_byte is_known number_in numbers_from decimal digits_in
high-items = refl

-- ---- excluded

module _ (sheet line : List ℕ) (a : LineAnswer) (entry exit : List ℕ) (c : ReadLineCall sheet line a entry exit) where
  -- sets written and then refused
  pub no-sets-left : (a.number ≡ 0 → ⊥) → exit ≡ entry
  no-sets-left n = by (reading-comes sheet line entry (with_sets a exit) c)
    where
      by : LineComes sheet line entry (with_sets a exit) → exit ≡ entry
      by (line-no-sheet k e) = ap (λ (o : LineOutcome). o.sets) e
      by (line-no q k m e) = ap (λ (o : LineOutcome). o.sets) e
      by (line-short e) = ap (λ (o : LineOutcome). o.sets) e
      by (line-told (HandIn x) s e) = absurd (n (ap (λ (o : LineOutcome). o.answer.number) e))
      by (line-told (Withdraw k) s e) = absurd (n (ap (λ (o : LineOutcome). o.answer.number) e))

  -- of an accepted sheet: a refusal of the line that names the sheet
  pub no-text-1-for-2 : (read_sheet sheet).number ≡ 0 → a.text ≡ 1 → ⊥
  no-text-1-for-2 z t = by (reading-comes sheet line entry (with_sets a exit) c)
    where
      other : (k : ℕ) → a.text ≡ k → (k ≡ 1 → ⊥) → ⊥
      other k e n = n (sym e ∙ t)

      by : LineComes sheet line entry (with_sets a exit) → ⊥
      by (line-no-sheet k e) = k z
      by (line-no q k m e) = other 2 (ap (λ (o : LineOutcome). o.answer.text) e) (λ h. omega (arith, h))
      by (line-short e) = other 0 (ap (λ (o : LineOutcome). o.answer.text) e) (λ h. omega (arith, h))
      by (line-told (HandIn x) s e) = other 0 (ap (λ (o : LineOutcome). o.answer.text) e) (λ h. omega (arith, h))
      by (line-told (Withdraw k) s e) = other 0 (ap (λ (o : LineOutcome). o.answer.text) e) (λ h. omega (arith, h))

module _ (sheet line : List ℕ) (used : ℕ) (a : Registered) (entry exit : List Record) (c : EnterCall sheet line used a entry exit) where
  -- a refused line that leaves a record, or loses the count
  pub no-change-by-a-refusal : (a.number ≡ 0 → ⊥) → (exit ≡ entry) × (a.used ≡ used)
  no-change-by-a-refusal n = by (enter-comes sheet line used a entry exit c)
    where
      left : (q : ℕ) → ◌≡◌ {A = RegisterOutcome} (record { answer = a; slice = exit }) (record { answer = record { number = q; used = used }; slice = entry }) → (exit ≡ entry) × (a.used ≡ used)
      left q e = (ap (λ (o : RegisterOutcome). o.slice) e, ap (λ (o : RegisterOutcome). o.answer.used) e)

      by : EnterComes sheet used entry (record { answer = a; slice = exit }) → (exit ≡ entry) × (a.used ≡ used)
      by (enter-overfull e) = left 25 e
      by (enter-no-sheet k e) = left (read_sheet sheet).number e
      by (enter-no-line q m e) = left q e
      by (enter-no-place q m e) = left q e
      by (enter-done z) = absurd (n z)

-- 26 or 27 before the line's own no
pub no-26-before-the-line : (d : Doc) → Valid d → (line : List ℕ) (used : ℕ) (a : Registered) (entry exit : List Record) → used ≤ length entry
    → EnterCall (render d) line used a entry exit → ((line_no d.items line).number ≡ 0 → ⊥) → a.number ≡ (line_no d.items line).number
unfolding Asks
no-26-before-the-line d v line used a entry exit room c n =
    ⊎_elim (λ h. absurd (h.0 room))
    (λ y. ⊎_elim (λ h. absurd (h.0 (ap (λ (r : Reading). r.number) (accepted-of-valid d v))))
    (λ z. let same = rows-unique z.1.d d z.1.valid v (sym z.1.is) in
    ⊎_elim (λ h. ap (λ (o : RegisterOutcome). o.answer.number) h.1 ∙ ap (λ (x : Doc). (line_no x.items line).number) same)
    (λ h. absurd (n (sym (ap (λ (x : Doc). (line_no x.items line).number) same) ∙ h.0))) z.1.told)
    y.1) c
