-- The theorem over every list of lines: they are an afternoon of the calls that they say.
-- Assumes nothing.
use mathlib.Core.Path.{◌≡◌, refl, sym, ◌∙◌, ap, subst}
use mathlib.Core.List.{List, [], ◌∷◌}
use mathlib.Core.Logic.{◌⊎◌, inl, inr, ⊎_elim}
use Prim.Native.Nat.{ℕ, ◌≤◌}
use lib.Dec.{eqb}
use lib.ListN.{length, take}
use borrow.Author.Tests.{eqb-true, eqb-false, ne_eqb}
use Rattle.vertex_set.proofs.Cases.{by_test}
use Rattle.setup.specs.declared.Setup.{Setup}
use Rattle.questions.specs.Asks.{Asks}
use Rattle.questions.specs.Questions.{asks12, asks13}
use Rattle.questions.proofs.Asks.{ask-no}
use Rattle.sheet_format.specs.Read.{Reading}
use Rattle.sheet_format.specs.Rows.{Doc, Valid, render, setup_of}
use Rattle.sheet_format.proofs.Meaning.{accepted-of-valid, rows-unique}
use Rattle.records.specs.declared.Record.{Record}
use Rattle.records.specs.declared.Registered.{Registered}
use Rattle.records.specs.Records.{without, RegisterOutcome, with_slice, hands_back, keeps_used}
use Rattle.register.specs.Calls.{asks25, asks27, Enters}
use Rattle.register.specs.Afternoon.{RegisterCall, HandIn, Withdraw, Made, MeetsCall, slice_after, used_after, Afternoon, RegisterAfter}
use Rattle.register.proofs.Afternoon.{register-law}
use Rattle.handin_format.specs.Lines.{line_no, line_call}
use Rattle.handin_format.specs.Calls.{asks_line, EntersLine, EnterCall}
use Rattle.handin_format.specs.Afternoon.{EnteredLine, slice_after_lines, used_after_lines, LinesEntered, calls_made, LinesLaw}

-- a call with too large a count is refused with 25, whatever call it is
overfull-meets : (s : Setup) (c : RegisterCall) (used : ℕ) (a : Registered) (entry exit : List Record) → (used ≤ length entry → ⊥)
    → with_slice a exit ≡ hands_back used entry 25 → MeetsCall s c used entry a exit
overfull-meets s (HandIn x) used a entry exit n e =
    ask-no (hands_back used entry) (Enters s used x.student x.target x.loss x.handed entry) (asks25 entry used)
    (asks12 s ∷ asks13 s x.target ∷ []) (with_slice a exit) n e
overfull-meets s (Withdraw k) used a entry exit n e =
    ask-no (hands_back used entry) (λ p. p ≡ keeps_used (without k (take used entry)) entry) (asks25 entry used) (asks27 entry used k ∷ [])
    (with_slice a exit) n e

module _ (d : Doc) (v : Valid d) (line : List ℕ) (used : ℕ) (a : Registered) (entry exit : List Record) where
  -- a line that can be read is the call that it says
  abbrev pub Said : Type 0
  Said = ((line_no d.items line).number ≡ 0) × MeetsCall (setup_of d) (line_call d.items line) used entry a exit

  -- one that can't be read changes nothing
  pub record Kept : Type 0 where
    pub no : (line_no d.items line).number ≡ 0 → ⊥
    pub number : ℕ
    pub back : with_slice a exit ≡ hands_back used entry number

  by-line : EntersLine (render d) line used entry (with_slice a exit) → Said ⊎ Kept
  unfolding Asks
  by-line h =
      let same = rows-unique h.d d h.valid v (sym h.is) in
      ⊎_elim (λ n. inr (record { no = n.0; number = (line_no d.items line).number; back = n.1 })) (λ y. inl y)
      (subst
      (λ (x : Doc). Asks (hands_back used entry) (asks_line x.items line ∷ [])
      (λ p. MeetsCall (setup_of x) (line_call x.items line) used entry p.answer p.slice) (with_slice a exit))
      same h.told)

  by_number : (used ≤ length entry → ⊥) → with_slice a exit ≡ hands_back used entry 25 → Said ⊎ Kept
  by_number n e =
      by_test (eqb (line_no d.items line).number 0)
      (λ t. inl (eqb-true (line_no d.items line).number 0 t, overfull-meets (setup_of d) (line_call d.items line) used a entry exit n e))
      (λ t. inr (record { no = eqb-false (line_no d.items line).number 0 t; number = 25; back = e }))

  pub line-comes : EnterCall (render d) line used a entry exit → Said ⊎ Kept
  unfolding Asks
  line-comes c =
      ⊎_elim (λ n. by_number n.0 n.1)
      (λ y. ⊎_elim (λ n. absurd (n.0 (ap (λ (r : Reading). r.number) (accepted-of-valid d v)))) (λ z. by-line z.1) y.1) c

-- the lines are an afternoon of the calls that they made
record SameAfternoon (s : Setup) (slice : List Record) (made : List Made) (used : ℕ) (left : List Record) : Type 0 where
  afternoon : Afternoon s slice made
  count : used ≡ used_after made
  records : left ≡ slice_after slice made

module _ (d : Doc) (v : Valid d) (slice : List Record) (m : EnteredLine) (earlier : List EnteredLine) where
  abbrev Before : Type 0
  Before = SameAfternoon (setup_of d) slice (calls_made d.items earlier) (used_after_lines earlier) (slice_after_lines slice earlier)

  abbrev After : Type 0
  After = SameAfternoon (setup_of d) slice (calls_made d.items (m ∷ earlier)) m.answer.used m.exit

  said : Before → Said d v m.line (used_after_lines earlier) m.answer (slice_after_lines slice earlier) m.exit → After
  unfolding calls_made
  said b c =
      rw (ap (λ (n : ℕ). eqb n 0) c.0)
      (record {
        afternoon = (
          subst (λ (n : ℕ). MeetsCall (setup_of d) (line_call d.items m.line) n (slice_after slice (calls_made d.items earlier)) m.answer m.exit)
              b.count
              (subst (λ (l : List Record). MeetsCall (setup_of d) (line_call d.items m.line) (used_after_lines earlier) l m.answer m.exit)
              b.records c.1),
          b.afternoon,
        );
        count = refl;
        records = refl;
      })

  kept : Before → Kept d v m.line (used_after_lines earlier) m.answer (slice_after_lines slice earlier) m.exit → After
  unfolding calls_made
  kept b k =
      rw (ne_eqb (line_no d.items m.line).number 0 k.no)
      (record {
        afternoon = b.afternoon;
        count = ap (λ (o : RegisterOutcome). o.answer.used) k.back ∙ b.count;
        records = ap (λ (o : RegisterOutcome). o.slice) k.back ∙ b.records;
      })

lines-afternoon : (d : Doc) → Valid d → (slice : List Record) (log : List EnteredLine) → LinesEntered (render d) slice log
    → SameAfternoon (setup_of d) slice (calls_made d.items log) (used_after_lines log) (slice_after_lines slice log)
unfolding calls_made
lines-afternoon d v slice [] h = record { afternoon = tt; count = refl; records = refl }
lines-afternoon d v slice (m ∷ earlier) h =
    let before = lines-afternoon d v slice earlier h.1 in
    ⊎_elim (said d v slice m earlier before) (kept d v slice m earlier before)
    (line-comes d v m.line (used_after_lines earlier) m.answer (slice_after_lines slice earlier) m.exit h.0)

pub lines-law : LinesLaw
lines-law d v slice log h =
    let same = lines-afternoon d v slice log h in
    subst (λ (n : ℕ). RegisterAfter (setup_of d) (calls_made d.items log) n (slice_after_lines slice log)) (sym same.count)
    (subst (λ (l : List Record). RegisterAfter (setup_of d) (calls_made d.items log) (used_after (calls_made d.items log)) l) (sym same.records)
    (register-law (setup_of d) slice (calls_made d.items log) same.afternoon))
