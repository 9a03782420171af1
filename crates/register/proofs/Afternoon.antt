-- The theorem over every list of calls: what the register holds after it.
-- Assumes nothing.
use mathlib.Core.Path.{◌≡◌, refl, sym, ◌∙◌, ap, subst}
use mathlib.Core.List.{List, [], ◌∷◌}
use mathlib.Core.Logic.{⊎_elim}
use Prim.Native.Nat.{ℕ}
use lib.ListN.{length, take, drop}
use lib.Seq.{take-append_seam}
use Rattle.setup.specs.declared.Setup.{Setup}
use Rattle.records.specs.declared.Record.{Record}
use Rattle.records.specs.declared.Registered.{Registered}
use Rattle.records.specs.Records.{with_record, without, RegisterOutcome, with_slice, keeps_used}
use Rattle.register.specs.Afternoon.{RegisterCall, HandIn, Withdraw, Made, MeetsCall, slice_after, used_after, Stands, RegisterHolds, RegisterAfter, RegisterLaw}
use Rattle.register.proofs.Outcomes.{Turned, Taken, answer-number, hand-in-outcome, withdraw-outcome, hand-in-no, withdraw-no}
use Rattle.register.proofs.Times.{stands-before, stands-refused, stands-withdrawn, stands-handed}
use Rattle.register.proofs.Holds.{holds_same, holds-less, holds_more}

-- the used records after a call
abbrev used-of : RegisterOutcome → List Record
used-of o = take o.answer.used o.slice

used-left : (w entry : List Record) (o : RegisterOutcome) → o ≡ keeps_used w entry → w ≡ used-of o
used-left w entry o h = sym (ap used-of h ∙ take-append_seam w (drop (length w) entry))

left-count : (w entry : List Record) (o : RegisterOutcome) → o ≡ keeps_used w entry → length (used-of o) ≡ o.answer.used
left-count w entry o h = ap length (sym (used-left w entry o h)) ∙ sym (ap (λ (x : RegisterOutcome). x.answer.used) h)

module _ (s : Setup) (used : ℕ) (entry : List Record) (earlier : List Made) (was : RegisterAfter s earlier used entry) where
  refused : (m : Made) {numbers : List ℕ} → Turned numbers used entry (with_slice m.answer m.exit) → (m.answer.number ≡ 0 → ⊥)
      → RegisterAfter s (m ∷ earlier) m.answer.used m.exit
  refused m t unmet =
      subst (λ (o : RegisterOutcome). RegisterAfter s (m ∷ earlier) o.answer.used o.slice) (sym t.refused)
      (record { holds = holds_same s (Stands earlier) (Stands (m ∷ earlier)) (stands-refused m earlier unmet) (take used entry) was.holds; count = was.count })

  after : (call : RegisterCall) (a : Registered) (exit : List Record) → MeetsCall s call used entry a exit
      → RegisterAfter s (record { call = call; answer = a; exit = exit } ∷ earlier) a.used exit
  after (HandIn x) a exit c =
      ⊎_elim taken (λ t. refused m t (λ z. hand-in-no t.number t.listed (sym (answer-number t.refused) ∙ z)))
      (hand-in-outcome s used x.student x.target x.loss x.handed a entry exit c)
    where
      m : Made
      m = record { call = HandIn x; answer = a; exit = exit }

      taken : Taken s used x.student x.target x.loss x.handed entry (with_slice a exit) → RegisterAfter s (m ∷ earlier) a.used exit
      taken t =
          record {
            holds = subst (λ (rs : List Record). RegisterHolds s (Stands (m ∷ earlier)) rs) (used-left (with_record t.row (take used entry)) entry (with_slice a exit) t.left)
                (holds_more s (Stands earlier) (Stands (m ∷ earlier)) x (length earlier) t.row t.is_record (stands-before earlier)
                (stands-handed x a exit earlier (answer-number t.left)) (take used entry) was.holds);
            count = left-count (with_record t.row (take used entry)) entry (with_slice a exit) t.left;
          }
  after (Withdraw k) a exit c =
      ⊎_elim left (λ t. refused m t (λ z. withdraw-no t.number t.listed (sym (answer-number t.refused) ∙ z))) (withdraw-outcome used k a entry exit c)
    where
      m : Made
      m = record { call = Withdraw k; answer = a; exit = exit }

      left : with_slice a exit ≡ keeps_used (without k (take used entry)) entry → RegisterAfter s (m ∷ earlier) a.used exit
      left h =
          record {
            holds = subst (λ (rs : List Record). RegisterHolds s (Stands (m ∷ earlier)) rs) (used-left (without k (take used entry)) entry (with_slice a exit) h)
                (holds-less s (Stands earlier) (Stands (m ∷ earlier)) k (stands-withdrawn k a exit earlier (answer-number h)) (take used entry) was.holds);
            count = left-count (without k (take used entry)) entry (with_slice a exit) h;
          }

none-used : (l : List Record) → take 0 l ≡ []
none-used [] = refl
none-used (r ∷ l) = refl

pub register-law : RegisterLaw
register-law s slice [] h =
    record {
      holds = subst (λ (rs : List Record). RegisterHolds s (Stands []) rs) (sym (none-used slice))
          (record { times = []; rising = tt; entries = tt; whole = λ t x p. absurd p.handed });
      count = ap length (none-used slice);
    }
register-law s slice (m ∷ earlier) h =
    after s (used_after earlier) (slice_after slice earlier) earlier (register-law s slice earlier h.1) m.call m.answer m.exit h.0
