-- From a line that was read to the task that it gives the register.
-- Assumes nothing.
use mathlib.Core.Path.{◌≡◌, sym, ap, ◌∙◌, subst}
use mathlib.Core.Bool.{true, false}
use mathlib.Core.List.{List}
use Prim.Native.Nat.{ℕ, ◌≤◌}
use native.Mathlib.Omega.{arith}
use lib.ListN.{length, take, drop, length-map}
use lib.Seq.{take_at}
use Rattle.written.specs.Inner.{Wrote}
use Rattle.written.proofs.Writing.{wrote-front}
use Rattle.setup.specs.declared.Setup.{Setup}
use Rattle.records.specs.declared.Task.{Task}
use Rattle.records.specs.declared.Task.TheVariants as task
use Rattle.records.specs.Inner.{refused_by, Attempts}
use Rattle.register.specs.Afternoon.{RegisterCall}
use Rattle.sheet_format.specs.Read.{Reading}
use Rattle.sheet_format.specs.Rows.{ItemRow, Doc, Valid, render, setup_of}
use Rattle.sheet_format.specs.Read.{read_sheet}
use Rattle.sheet_format.proofs.Meaning.{accepted-of-valid}
use Rattle.sheet_rows.specs.Inner.NameKeys.{NameKeys}
use Rattle.sheet_lines.specs.declared.item_keys.Keys.{Keys}
use Rattle.sheet_lines.specs.Inner.Keys.{SheetKeys}
use Rattle.sheet_lines.proofs.Accepted.{accepts-of, setup-of, count_of, rows-of-text}
use Rattle.handin_format.specs.Sets.{set_from}
use Rattle.handin_format.specs.Lines.{LineNo, line_no}
use Rattle.handin_lines.specs.Inner.Lines.{LineFound}
use Rattle.handin_lines.specs.Inner.Splitting.{split_from}
use Rattle.handin_lines.specs.Inner.Sets.{sets_from, PutsSets}
use Rattle.handin_lines.specs.Inner.Lines.{call_read, ChecksLine}
use Rattle.handin_lines.specs.Inner.Tasks.{CanHandOver, HandsOver, TaskFor, TaskOfLine}

-- ---- the sets, handed in

pub sets-many : (items : List ItemRow) (at : ℕ) (l : List ℕ) → length (sets_from items at l) ≡ length (split_from 32 at l)
unfolding sets_from
sets-many items at l = length-map (split_from 32 at l) (λ x. (set_from items x).set)

-- what stands in the first places
handed-are : (items : List ItemRow) (l : List ℕ) (r : LineFound) (entry exit : List ℕ) (n : ℕ) → CanHandOver l r → r.count ≤ length entry
    → Wrote entry 0 (sets_from items r.start l) exit n → take r.count exit ≡ sets_from items r.start l
handed-are items l r entry exit n h room w =
    let m = sets-many items r.start l in
    let c = h.counted in
    ap (take r.count) (wrote-front entry (sets_from items r.start l) exit n (omega arith) w)
    ∙ take_at (sets_from items r.start l) (drop (length (sets_from items r.start l)) entry) r.count (omega arith)

pub hands-over : (low high : List ℕ) (count : ℕ) (s : Setup) (l : List ℕ) (r : LineFound) (t : Task) (entry exit : List ℕ) (n : ℕ) → CanHandOver l r → r.count ≤ length entry
    → PutsSets low high count l r.start n entry exit → Attempts s r.student r.target r.loss (take r.count exit) t → HandsOver low high count s l r t
hands-over low high count s l r t entry exit n h room p a =
    record {
      each = λ items k. subst (λ (xs : List ℕ). Attempts s r.student r.target r.loss xs t) (handed-are items l r entry exit n h room (p.each items k)) a;
    }

-- ---- the sheet, and then the line

module _ (sheet line : List ℕ) (r : Reading) (is : r ≡ read_sheet sheet) where
  number_is : r.number ≡ (read_sheet sheet).number
  number_is = ap (λ (x : Reading). x.number) is

  -- the written form of valid rows is accepted
  never-written : (r.number ≡ 0 → ⊥) → (d : Doc) → Valid d → sheet ≡ render d → ⊥
  never-written n d v t = n (number_is ∙ ap (λ (x : List ℕ). (read_sheet x).number) t ∙ ap (λ (x : Reading). x.number) (accepted-of-valid d v))

  pub task-no-sheet : (t : Task) → (r.number ≡ 0 → ⊥) → refused_by t ≡ r.number → TaskOfLine sheet line t
  task-no-sheet t n e =
      record {
        no_sheet = λ _. e ∙ number_is;
        no_line = λ d v q _. absurd (never-written n d v q);
        says = λ d v q _. absurd (never-written n d v q);
      }

  module _ (zero : r.number ≡ 0) (keys : Keys) (has : SheetKeys sheet r.setup.count keys) where
    pub keys-are : (d : Doc) → Valid d → sheet ≡ render d → NameKeys d.items keys.keys.low keys.keys.high keys.keys.count
    keys-are d v t = has.keys d v t (count_of sheet r.setup d (accepts-of sheet r is zero) v t)

    module _ (read : LineFound) (c : ChecksLine keys.keys.low keys.keys.high keys.keys.count line read) where
      first-is : (d : Doc) → Valid d → sheet ≡ render d → (line_no d.items line).number ≡ read.number
      first-is d v t = ap (λ (x : LineNo). x.number) (c.first d.items (keys-are d v t))

      pub task-no-line : (t : Task) → (read.number ≡ 0 → ⊥) → refused_by t ≡ read.number → TaskOfLine sheet line t
      task-no-line t n e =
          record {
            no_sheet = λ m. absurd (m (sym number_is ∙ zero));
            no_line = λ d v q _. e ∙ sym (first-is d v q);
            says = λ d v q z. absurd (n (sym (first-is d v q) ∙ z));
          }

      module _ (z : read.number ≡ 0) where
        task-says : (t : Task) → ((d : Doc) → Valid d → sheet ≡ render d → TaskFor (setup_of d) (call_read d.items line read) t) → TaskOfLine sheet line t
        task-says t h =
            record {
              no_sheet = λ m. absurd (m (sym number_is ∙ zero));
              no_line = λ d v q n. absurd (n (first-is d v q ∙ z));
              says = λ d v q _. subst (λ (x : RegisterCall). TaskFor (setup_of d) x t) (sym (c.says z d.items (keys-are d v q)).call) (h d v q);
            }

        pub can-hand-over : read.withdraws ≡ false → CanHandOver line read
        can-hand-over w =
            let d = rows-of-text sheet r.setup (accepts-of sheet r is zero) in
            let y = c.says z d.doc.items (keys-are d.doc d.valid d.text) in
            record { counted = y.counted w; few = y.few }

        pub task-leaves : (t : Task) → read.withdraws ≡ true → t ≡ task.Withdraw read.student → TaskOfLine sheet line t
        unfolding call_read
        task-leaves t w e = task-says t (λ d v q. rw w e)

        pub task-hands-over : (t : Task) → read.withdraws ≡ false → HandsOver keys.keys.low keys.keys.high keys.keys.count r.setup line read t → TaskOfLine sheet line t
        unfolding call_read
        task-hands-over t w h =
            task-says t (λ d v q. rw (w, ← (setup-of sheet r.setup d (accepts-of sheet r is zero) v q)) (h.each d.items (keys-are d v q)))
