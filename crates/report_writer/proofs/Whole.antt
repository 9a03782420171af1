-- At the first place the whole report is left, and the parts that are written from there on are the whole of it.
-- Assumes nothing.
use mathlib.Core.Path.{◌≡◌, refl, sym, ap, subst, ◌∙◌}
use mathlib.Core.List.{List, [], ◌∷◌, ◌++◌}
use Prim.Native.Nat.{ℕ, ◌+◌, ◌^◌, ◌<◌}
use native.Mathlib.Omega.{arith}
use lib.ListN.{length, take, drop}
use borrow.Author.Tests.{ne_eqb, eq-eqb}
use Rattle.setup.specs.declared.Setup.{Setup}
use Rattle.sheet_format.specs.Read.{Reading}
use Rattle.sheet_format.specs.Read.{read_sheet}
use Rattle.sheet_format.specs.Names.{name_of}
use Rattle.report_text.specs.Report.{report_after, report_of}
use Rattle.report_facts.specs.declared.Facts.{Facts}
use Rattle.report_facts.specs.Inner.Facts.{FactsOf, TablesOf}
use Rattle.report_writer.specs.declared.steps.Cursor.{Cursor}
use Rattle.report_writer.specs.declared.steps.Cursor.TheVariants as cursor
use Rattle.report_writer.specs.Rest.{rest_of}
use Rattle.report_writer.specs.Whole.{Begun, Filled, Fills, in_one, WholeReport}
use Rattle.report_writer.specs.Inner.Steps.{KnownAt}

module _ (sheet : List ℕ) (r : Reading) (e : r ≡ read_sheet sheet) (f : Facts) (opening lockout : List ℕ) where
  pub begun-refused : (r.number ≡ 0 → ⊥) → r.number < 2 ^ 64 → r.line < 2 ^ 64
      → Begun sheet (record { cursor = cursor.Refused r.number r.line; facts = f }) opening lockout opening lockout
  unfolding report_of report_after
  begun-refused n a b =
      record {
        kept = λ m. (refl, refl);
        whole = rw (← e, ne_eqb r.number 0 n) refl;
        here = λ list l. (a, b);
      }

  pub begun-accepted : (opening₀ lockout₀ : List ℕ) → r.number ≡ 0 → FactsOf sheet r.setup f → TablesOf r.setup f opening lockout
      → Begun sheet (record { cursor = cursor.Start; facts = f }) opening₀ lockout₀ opening lockout
  unfolding report_of report_after
  begun-accepted opening₀ lockout₀ z h t =
      record {
        kept = λ n. absurd (n (sym (ap (λ (x : Reading). x.number) e) ∙ z));
        whole = rw (← e, eq-eqb r.number 0 z) refl;
        here = λ list l. rw (← e) (h, t, l);
      }

-- ---- what is left before a call is what it leaves in front, and what is left after it

front : (p exit part : List ℕ) (at : ℕ) → at ≡ 0 + length part → take (length part) (drop 0 exit) ≡ part → p ≡ take at exit → p ≡ part
front p exit part at e s b = let n : at ≡ length part = omega (arith, e) in b ∙ ap (λ (n : ℕ). take n exit) n ∙ s

module _ (sheet : List ℕ) (s : Setup) (f : Facts) (opening lockout list : List ℕ) (c : Cursor) (p list' : List ℕ) (d : Cursor) (k : KnownAt sheet s f opening lockout list c)
    (w : Filled sheet f opening lockout list c p list' d) where
  pub filled-rest : rest_of (name_of sheet) s c ≡ p ++ rest_of (name_of sheet) s d
  filled-rest =
      let q = w.taken.part s k in
      q.split ∙ ap (λ (x : List ℕ). x ++ rest_of (name_of sheet) s w.step.cursor) (sym (front p w.exit q.part w.step.at q.wrote.many q.wrote.stands w.bytes))
      ∙ ap (λ (x : Cursor). p ++ rest_of (name_of sheet) s x) w.goes_on

  filled-known : KnownAt sheet s f opening lockout list' d
  filled-known = subst (KnownAt sheet s f opening lockout list') w.goes_on (w.taken.here s k)

fills-rest : (sheet : List ℕ) (s : Setup) (f : Facts) (opening lockout list : List ℕ) (c : Cursor) (ps : List (List ℕ)) → KnownAt sheet s f opening lockout list c
    → Fills sheet f opening lockout list c ps → in_one ps ≡ rest_of (name_of sheet) s c
fills-rest sheet s f opening lockout list c [] k e = sym (ap (rest_of (name_of sheet) s) e)
fills-rest sheet s f opening lockout list c (p ∷ ps) k w =
    ap (λ (t : List ℕ). p ++ t) (fills-rest sheet s f opening lockout w.0 w.1 ps (filled-known sheet s f opening lockout list c p w.0 w.1 k w.2) w.3)
    ∙ sym (filled-rest sheet s f opening lockout list c p w.0 w.1 k w.2)

pub whole-report : WholeReport
whole-report sheet r opening₀ lockout₀ opening lockout list b l parts w =
    fills-rest sheet (read_sheet sheet).setup r.facts opening lockout list r.cursor parts (b.here list l) w ∙ b.whole
