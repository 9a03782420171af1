-- Printing a report, part after part: what was handed to `write` so far, followed by what is left, is the report.
-- Assumes nothing.
use mathlib.Core.Path.{◌≡◌, refl, sym, ap, ◌∙◌}
use mathlib.Core.List.{List, [], ◌++◌, append-nil, append_assoc}
use Prim.Native.Nat.{ℕ}
use lib.ListN.{length, take}
use Rattle.sheet_format.specs.Read.{read_sheet}
use Rattle.sheet_format.specs.Names.{name_of}
use Rattle.report_text.specs.Report.{report_of}
use Rattle.report_facts.specs.declared.Facts.{Facts}
use Rattle.report_writer.specs.declared.steps.Cursor.{Cursor}
use Rattle.report_writer.specs.declared.steps.Cursor.TheVariants as cursor
use Rattle.report_writer.specs.declared.steps.Step.{Step}
use Rattle.report_writer.specs.Rest.{rest_of}
use Rattle.report_writer.specs.Inner.Steps.{KnownAt, CanStep, StepTaken}
use Rattle.report_writer.specs.declared.start.Report.{Report}
use Rattle.report_writer.specs.Whole.{Begun}
use Rattle.report_writer.proofs.Whole.{filled-rest}

-- The report goes on at the cursor, the bytes `sent` were handed to `write`, and the buffers have their lengths.
pub record Printing (sheet : List ℕ) (f : Facts) (opening lockout list out : List ℕ) (c : Cursor) : Type 0 where
  pub known : KnownAt sheet (read_sheet sheet).setup f opening lockout list c
  pub sent : List ℕ
  pub whole : sent ++ rest_of (name_of sheet) (read_sheet sheet).setup c ≡ report_of sheet
  pub long_opening : length opening ≡ 16384
  pub long_lockout : length lockout ≡ 16384
  pub long_list : length list ≡ 16384
  pub long_out : length out ≡ 65536

pub going : (sheet : List ℕ) (f : Facts) (opening lockout list out : List ℕ) (c : Cursor) → Printing sheet f opening lockout list out c → CanStep sheet f opening lockout list c
going sheet f opening lockout list out c p = record { setup = (read_sheet sheet).setup; here = p.known }

-- at the beginning nothing was handed over
pub printing-begun : (sheet opening₀ lockout₀ opening lockout list out : List ℕ) (r : Report) → Begun sheet r opening₀ lockout₀ opening lockout → length opening ≡ 16384 → length lockout ≡ 16384
    → length list ≡ 16384 → length out ≡ 65536 → Printing sheet r.facts opening lockout list out r.cursor
printing-begun sheet opening₀ lockout₀ opening lockout list out r b lo ll l o =
    record { known = b.here list l; sent = []; whole = b.whole; long_opening = lo; long_lockout = ll; long_list = l; long_out = o }

-- after a call of `fill` its bytes are handed over too
pub printing-more : (sheet : List ℕ) (f : Facts) (opening lockout list out : List ℕ) (c : Cursor) (list' out' : List ℕ) (r : Step)
    → Printing sheet f opening lockout list out c → StepTaken sheet f opening lockout list c out 0 list' out' r → length list' ≡ length list → length out' ≡ length out
    → Printing sheet f opening lockout list' out' r.cursor
printing-more sheet f opening lockout list out c list' out' r p w l o =
    let s = (read_sheet sheet).setup in
    let e = filled-rest sheet s f opening lockout list c (take r.at out') list' r.cursor p.known
    (record { entry = out; exit = out'; step = r; taken = w; bytes = refl; goes_on = refl }) in
    record {
      known = w.here s p.known;
      sent = p.sent ++ take r.at out';
      whole = append_assoc p.sent (take r.at out') (rest_of (name_of sheet) s r.cursor) ∙ ap (λ (x : List ℕ). p.sent ++ x) (sym e) ∙ p.whole;
      long_opening = p.long_opening;
      long_lockout = p.long_lockout;
      long_list = l ∙ p.long_list;
      long_out = o ∙ p.long_out;
    }

-- at the end all of the report was handed over, and nothing else
pub all-sent : (sheet : List ℕ) (f : Facts) (opening lockout list out : List ℕ) (p : Printing sheet f opening lockout list out cursor.End) → p.sent ≡ report_of sheet
all-sent sheet f opening lockout list out p = sym (append-nil p.sent) ∙ p.whole
