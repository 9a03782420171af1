-- The afternoon holds: the marks are computed, and each call meets its contract with the slice that is told.
-- Assumes nothing.
use mathlib.Core.Path.{◌≡◌, refl}
use mathlib.Core.Bool.{Bool, true, false}
use mathlib.Core.List.{List, [], ◌∷◌}
use mathlib.Core.Logic.{◌⊎◌, inl, inr, ⊎_elim}
use Prim.Native.Nat.{ℕ, ◌≤◌, ◌<◌}
use native.Mathlib.Omega.{arith}
use lib.ListN.{length, take}
use Rattle.vertex_set.specs.Order.{sum_over}
use Rattle.vertex_set.proofs.Cases.{false-true}
use Rattle.setup.specs.declared.Setup.{Setup}
use Rattle.formed.specs.WellFormed.{WellFormed}
use Rattle.bases.proofs.FullMarks.{full-marks}
use Rattle.questions.specs.Asks.{Asks}
use Rattle.questions.specs.Questions.{asks12, asks13}
use Rattle.questions.proofs.Asks.{ask-all, ask-no, first-no}
use Rattle.records.specs.declared.Record.{Record}
use Rattle.records.specs.Records.{RecordOf, same_three, has_three, has_student, with_record, without, RegisterOutcome, hands_back, keeps_used}
use Rattle.register.specs.Calls.{asks25, asks26, asks27, Enters, HandInCall, WithdrawCall}
use Rattle.reference.specs.Tests.{lowest, some, every, filtered, is_listed, is_member, is_within, is_meeting, with_vertex}
use Rattle.reference.specs.Closures.{is_complete, is_broken, colour_of, is_added, pass_of, passes_of, closure_of, derives_of}
use Rattle.reference.specs.Bases.{is_chosen, sets_of_size, sets_up_to, sets_of, target_sets_of, is_minimal, base_of, mark_of, marks_from, counts_of, marks_of}
use Rattle.reference.proofs.Graphs.{own-graph}
use Rattle.reference.proofs.Marks.{counts_of_lem}
use Rattle.worked_examples.specs.Sheets.{bench, order}
use Rattle.worked_examples.specs.Register.{marked, mails, orders, full7, worse8, better8, lock9, BenchAfternoon}
use Rattle.worked_examples.proofs.Reading.{reads-well, read-bench}

abbrev s : Setup
s = bench.setup

well : WellFormed s
well = reads-well bench read-bench

-- ---- the marks

row_of : (student : ℕ) (loss : Bool) (handed : List ℕ) (right repeated shut loose missing : ℕ)
    → marks_of loss s s.graph order handed ≡ right ∷ repeated ∷ shut ∷ loose ∷ missing ∷ []
    → RecordOf s student order loss handed (marked student loss right repeated shut loose missing)
row_of student loss handed right repeated shut loose missing e =
    let c = counts_of_lem loss s s.graph order well (own-graph s well) handed right repeated shut loose missing e in
    record { is_student = refl; is_target = refl; is_way = refl; counts = c; full = full-marks loss s s.graph order handed right repeated shut loose missing c }

record Rows : Type 0 where
  seven : RecordOf s 7 order false (mails ∷ orders ∷ []) full7
  eight : RecordOf s 8 order false (mails ∷ mails ∷ 1 ∷ 3 ∷ []) worse8
  none : RecordOf s 9 order false (mails ∷ []) (marked 9 false 1 0 0 0 1)
  again : RecordOf s 8 order false (orders ∷ []) better8
  nine : RecordOf s 9 order true (3 ∷ 6 ∷ []) lock9

rows : Rows
unfolding lowest some every filtered is_listed is_member is_within is_meeting with_vertex is_complete is_broken colour_of is_added pass_of passes_of closure_of derives_of is_chosen sets_of_size sets_up_to sets_of target_sets_of is_minimal base_of mark_of marks_from counts_of marks_of sum_over
rows =
    record {
      seven = row_of 7 false (mails ∷ orders ∷ []) 2 0 0 0 0 refl;
      eight = row_of 8 false (mails ∷ mails ∷ 1 ∷ 3 ∷ []) 1 1 1 1 1 refl;
      none = row_of 9 false (mails ∷ []) 1 0 0 0 1 refl;
      again = row_of 8 false (orders ∷ []) 1 0 0 0 1 refl;
      nine = row_of 9 true (3 ∷ 6 ∷ []) 2 0 0 0 0 refl;
    }

-- ---- the calls

module _ (used student : ℕ) (entry : List Record) (l : used ≤ length entry) where
  module _ (loss : Bool) (handed : List ℕ) (row : Record) (r : RecordOf s student order loss handed row) where
    abbrev Left : RegisterOutcome → Type 0
    Left p = p ≡ keeps_used (with_record row (take used entry)) entry

    meets : (o : RegisterOutcome) → Asks (hands_back used entry) (asks26 entry used row ∷ []) Left o
        → HandInCall s used student order loss handed o.answer entry o.slice
    meets o t =
        ask-all (hands_back used entry) (Enters s used student order loss handed entry) (asks25 entry used ∷ asks12 s ∷ asks13 s order ∷ []) o (l, (well, (omega arith, tt)))
        (record { row = row; is_record = r; told = t })

    enters : (has_three row (take used entry) ≡ true) ⊎ (used < length entry) → HandInCall s used student order loss handed (keeps_used (with_record row (take used entry)) entry).answer entry (keeps_used (with_record row (take used entry)) entry).slice
    enters y = meets (keeps_used (with_record row (take used entry)) entry) (ask-all (hands_back used entry) Left (asks26 entry used row ∷ []) _ (y, tt) refl)

    full-up : ((has_three row (take used entry) ≡ true) ⊎ (used < length entry) → ⊥) → HandInCall s used student order loss handed (record { number = 26; used = used }) entry entry
    full-up n = meets (hands_back used entry 26) (ask-no (hands_back used entry) Left (asks26 entry used row) [] (hands_back used entry 26) n refl)

  abbrev Rest : RegisterOutcome → Type 0
  Rest p = p ≡ keeps_used (without student (take used entry)) entry

  leaves : has_student student (take used entry) ≡ true → WithdrawCall used student (keeps_used (without student (take used entry)) entry).answer entry (keeps_used (without student (take used entry)) entry).slice
  leaves h = ask-all (hands_back used entry) Rest (asks25 entry used ∷ asks27 entry used student ∷ []) _ (l, (h, tt)) refl

  unknown : (has_student student (take used entry) ≡ true → ⊥) → WithdrawCall used student (record { number = 27; used = used }) entry entry
  unfolding Asks
  unknown n = inr (l, inl (n, refl))

pub bench-afternoon : BenchAfternoon
unfolding same_three
bench-afternoon =
    record {
      setup = s;
      reading = read-bench;
      holds = record {
        calls = λ a b. (
          enters 1 9 (better8 ∷ better8 ∷ []) (omega arith) true (3 ∷ 6 ∷ []) lock9 rows.nine (inr (omega arith)),
          (
            leaves 2 7 (full7 ∷ better8 ∷ []) (omega arith) refl,
            (
              unknown 2 9 (full7 ∷ better8 ∷ []) (omega arith) (λ e. false-true e),
              (
                enters 2 8 (full7 ∷ worse8 ∷ []) (omega arith) false (orders ∷ []) better8 rows.again (inl refl),
                (
                  full-up 2 9 (full7 ∷ worse8 ∷ []) (omega arith) false (mails ∷ []) (marked 9 false 1 0 0 0 1) rows.none (⊎_elim (λ e. false-true e) (λ l. omega arith)),
                  (
                    enters 1 8 (full7 ∷ b ∷ []) (omega arith) false (mails ∷ mails ∷ 1 ∷ 3 ∷ []) worse8 rows.eight (inr (omega arith)),
                    (enters 0 7 (a ∷ b ∷ []) (omega arith) false (mails ∷ orders ∷ []) full7 rows.seven (inr (omega arith)), tt),
                  ),
                ),
              ),
            ),
          ),
        );
        too_many = λ a b.
            record {
              hand_in = λ r exit c.
                  first-no (hands_back 3 (a ∷ b ∷ [])) (Enters s 3 7 order false (mails ∷ []) (a ∷ b ∷ [])) [] (asks25 (a ∷ b ∷ []) 3) (asks12 s ∷ asks13 s order ∷ []) _ c tt (λ l. omega arith);
              withdraw = λ r exit c.
                  first-no (hands_back 3 (a ∷ b ∷ [])) (λ p. p ≡ keeps_used (without 7 (take 3 (a ∷ b ∷ []))) (a ∷ b ∷ [])) [] (asks25 (a ∷ b ∷ []) 3) (asks27 (a ∷ b ∷ []) 3 7 ∷ []) _ c tt
                  (λ l. omega arith);
            };
      };
    }
