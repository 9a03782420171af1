-- The theorems of specs/Marks: what a line's record says.
-- Assumes nothing.
use mathlib.Core.Path.{◌≡◌, refl, sym, ap, ◌∙◌, subst}
use mathlib.Core.List.{List, [], ◌∷◌, map}
use mathlib.Core.Logic.{◌⊎◌, inl, inr, ⊎_elim}
use Prim.Native.Nat.{ℕ}
use lib.Dec.{eqb}
use lib.ListN.{take}
use borrow.Author.Tests.{eqb-true}
use Rattle.vertex_set.specs.Set.{Iff}
use Rattle.vertex_set.specs.Order.{Listed, Once}
use Rattle.vertex_set.proofs.Cases.{by_test}
use Rattle.vertex_set.proofs.Decisions.{iff-trans}
use Rattle.bases.specs.Marks.{IsBaseOnce}
use Rattle.sheet_format.specs.Rows.{Doc, Each, Apart, Valid, number_in, render, setup_of}
use Rattle.records.specs.declared.Record.{Record}
use Rattle.records.specs.declared.Registered.{Registered}
use Rattle.records.specs.Records.{RecordOf}
use Rattle.register.specs.Afternoon.{Attempt, RegisterCall, HandIn, Withdraw, MeetsCall, IsHandIn, HandedIn, Stands, Entry, Entries}
use Rattle.register.proofs.Outcomes.{answer-number, hand-in-outcome, hand-in-no}
use Rattle.handin_format.specs.Sets.{set_named}
use Rattle.handin_format.specs.Entries.{NamedAttempt, LineEntry, HandsIn, Withdraws, ValidAttempt, ValidEntry, entry_text, stated}
use Rattle.handin_format.specs.Lines.{line_no}
use Rattle.handin_format.specs.Calls.{EnterCall}
use Rattle.handin_format.specs.Afternoon.{EnteredLine, slice_after_lines, used_after_lines, calls_made}
use Rattle.handin_format.specs.Meaning.{NamedRows}
use Rattle.handin_format.specs.Marks.{Sought, NamesSought, NamedRecord, LineTaken, LineMarks, HandedByLine, RecordOfLine, RegisterMarks}
use Rattle.handin_format.proofs.Lines.{line-of-entry, entry-of-line}
use Rattle.handin_format.proofs.Afternoon.{line-comes, lines-law}

-- ---- named sets, and their numbers

module _ {A : Type 0} (f : A → ℕ) where
  each-listed : (P : ℕ → Type 0) (l : List A) → Each (λ a. P (f a)) l → (y : ℕ) → Listed (map f l) y → P y
  each-listed P [] h y m = absurd m
  each-listed P (a ∷ l) h y m = ⊎_elim (λ e. subst P (sym e) h.0) (λ k. each-listed P l h.1 y k) m

  listed-each : (P : ℕ → Type 0) (l : List A) → ((y : ℕ) → Listed (map f l) y → P y) → Each (λ a. P (f a)) l
  listed-each P [] h = tt
  listed-each P (a ∷ l) h = (h (f a) (inl refl), listed-each P l (λ y m. h y (inr m)))

  apart-once : (l : List A) → Apart (λ a b. f a ≡ f b) l → Once (map f l)
  apart-once [] h = tt
  apart-once (a ∷ l) h = (λ m. each-listed (λ y. f a ≡ y → ⊥) l h.0 (f a) m refl, apart-once l h.1)

  once-apart : (l : List A) → Once (map f l) → Apart (λ a b. f a ≡ f b) l
  once-apart [] h = tt
  once-apart (a ∷ l) h = (listed-each (λ y. f a ≡ y → ⊥) l (λ y m e. h.0 (subst (Listed (map f l)) (sym e) m)), once-apart l h.1)

module _ (d : Doc) where
  abbrev Due : NamedAttempt → Type 0
  Due x = IsBaseOnce x.loss (setup_of d) (setup_of d).graph (number_in d.items x.target) (map (set_named d.items) x.sets)

  due-sought : (x : NamedAttempt) → Iff (Due x) (NamesSought d x)
  due-sought x =
      record {
        to = λ b. record {
          no_other = listed-each (set_named d.items) (Sought d x) x.sets (λ y m. (b.sets y).to m);
          each_one = λ y m. (b.sets y).from m;
          one_time = once-apart (set_named d.items) x.sets b.once;
        };
        from = λ n. record {
          sets = λ y. record { to = each-listed (set_named d.items) (Sought d x) x.sets n.no_other y; from = n.each_one y };
          once = apart-once (set_named d.items) x.sets n.one_time;
        };
      }

  named-record : (x : NamedAttempt) (r : Record)
      → RecordOf (setup_of d) x.student (number_in d.items x.target) x.loss (map (set_named d.items) x.sets) r → NamedRecord d x r
  named-record x r h = record { is_record = h; full = iff-trans h.full (due-sought x) }

  -- ---- one line

  module _ (v : Valid d) where
    rows : NamedRows d.items
    rows = record { valid = v.items; names = v.names }

    taken_in : (x : NamedAttempt) → ValidAttempt d.items x → (used : ℕ) (a : Registered) (entry exit : List Record)
        → EnterCall (render d) (entry_text (HandsIn x)) used a entry exit → a.number ≡ 0 → LineTaken d x used a entry exit
    taken_in x w used a entry exit c z =
        let l = line-of-entry d.items rows (HandsIn x) w in
        ⊎_elim
        (λ s. ⊎_elim
        (λ t. record { row = t.row; is_record = named-record x t.row t.is_record; left = t.left })
        (λ t. absurd (hand-in-no t.number t.listed (sym (answer-number t.refused) ∙ z)))
        (hand-in-outcome (setup_of d) used x.student (number_in d.items x.target) x.loss (map (set_named d.items) x.sets) a entry exit
        (subst (λ (r : RegisterCall). MeetsCall (setup_of d) r used entry a exit) l.1 s.1)))
        (λ k. absurd (k.no l.0))
        (line-comes d v (entry_text (HandsIn x)) used a entry exit c)

    -- ---- all lines

    -- an attempt that the register was handed stands on a line
    record ByLine (log : List EnteredLine) (x : Attempt) : Type 0 where
      attempt : NamedAttempt
      valid : ValidAttempt d.items attempt
      handed : HandedByLine log attempt
      says : stated d.items (HandsIn attempt) ≡ HandIn x

    earlier-line : (m : EnteredLine) (earlier : List EnteredLine) (x : Attempt) → ByLine earlier x → ByLine (m ∷ earlier) x
    earlier-line m earlier x b = record { attempt = b.attempt; valid = b.valid; handed = inr b.handed; says = b.says }

    this-line : (m : EnteredLine) (earlier : List EnteredLine) (x : Attempt) → m.answer.number ≡ 0 → (e : LineEntry) → ValidEntry d.items e
        → m.line ≡ entry_text e → IsHandIn (stated d.items e) x → ByLine (m ∷ earlier) x
    this-line m earlier x z (HandsIn y) w t h = record { attempt = y; valid = w; handed = inl (t, z); says = ap HandIn h }
    this-line m earlier x z (Withdraws k) w t h = absurd h

    by-line : (log : List EnteredLine) (t : ℕ) (x : Attempt) → HandedIn (calls_made d.items log) t x → ByLine log x
    unfolding calls_made
    by-line [] t x h = absurd h
    by-line (m ∷ earlier) t x h =
        by_test (eqb (line_no d.items m.line).number 0)
        (λ e.
        ⊎_elim
        (λ k. let r = entry-of-line d.items rows m.line (eqb-true (line_no d.items m.line).number 0 e) in
        this-line m earlier x k.1 r.0 r.1 r.2 (subst (λ (c : RegisterCall). IsHandIn c x) r.3 k.2))
        (λ k. earlier-line m earlier x (by-line earlier t x k))
        (rw e at h))
        (λ e. earlier-line m earlier x (by-line earlier t x (rw e at h)))

    -- the record that the register keeps for it
    abbrev Keeps : RegisterCall → Record → Type 0
    Keeps (HandIn x) r = RecordOf (setup_of d) x.student x.target x.loss x.handed r
    Keeps (Withdraw k) r = ⊥

    record-of-line : (log : List EnteredLine) (t : ℕ) (r : Record) → Entry (setup_of d) (Stands (calls_made d.items log)) t r → RecordOfLine d log r
    record-of-line log t r e =
        let b = by-line log e.time e.latest e.is_latest.stands.handed in
        record {
          attempt = b.attempt;
          valid = b.valid;
          handed = b.handed;
          is_record = named-record b.attempt r (subst (λ (c : RegisterCall). Keeps c r) (sym b.says) e.is_record);
        }

    all-records : (log : List EnteredLine) (ts : List ℕ) (rs : List Record) → Entries (setup_of d) (Stands (calls_made d.items log)) ts rs → Each (RecordOfLine d log) rs
    all-records log [] [] h = tt
    all-records log [] (r ∷ rs) h = absurd h
    all-records log (t ∷ ts) [] h = absurd h
    all-records log (t ∷ ts) (r ∷ rs) h = (record-of-line log t r h.0, all-records log ts rs h.1)

pub line-marks : LineMarks
line-marks = taken_in

pub register-marks : RegisterMarks
register-marks d v slice log h =
    let r = (lines-law d v slice log h).holds in
    all-records d v log r.times (take (used_after_lines log) (slice_after_lines slice log)) r.entries
