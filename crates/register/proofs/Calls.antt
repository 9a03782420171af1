-- From the outcome of a pass to the contracts of the two calls.
-- Assumes nothing.
use mathlib.Core.Path.{◌≡◌, refl, sym, ◌∙◌, ap}
use mathlib.Core.Bool.{Bool, true, false}
use mathlib.Core.List.{List, [], ◌∷◌}
use mathlib.Core.Logic.{◌⊎◌, inl, inr, ⊎_elim}
use Prim.Native.Nat.{ℕ, suc, ◌≤◌, ◌<◌}
use native.Mathlib.Omega.{arith}
use lib.ListN.{length, take}
use lib.Seq.{length-take-le}
use borrow.Author.Tests.{eq-eqb, ne_eqb, lt-ltb, le-ltb}
use Rattle.vertex_set.specs.Order.{Listed}
use Rattle.vertex_set.proofs.Cases.{by_test, less-or, false-true}
use Rattle.setup.specs.declared.Setup.{Setup}
use Rattle.questions.specs.Asks.{Asks}
use Rattle.questions.specs.Questions.{asks12, asks13}
use Rattle.questions.proofs.Asks.{ask-no, ask-yes, asks-retold, not-zero}
use Rattle.records.specs.declared.Record.{Record}
use Rattle.records.specs.declared.Registered.{Registered}
use Rattle.records.specs.declared.Task.{Task}
use Rattle.records.specs.declared.Task.TheVariants as task
use Rattle.records.specs.Records.{has_three, has_student, with_record, without, RegisterOutcome, with_slice, hands_back, keeps_used}
use Rattle.records.specs.Inner.{hand_in, withdraw, outcome_of, Leaves, refused_by, Laid, Attempts}
use Rattle.records.proofs.Laws.{if-true, if-false, with_record-length, any-less, none-same}
use Rattle.register.specs.Calls.{asks25, asks26, Enters, HandInCall, WithdrawCall}

-- ---- the outcome, question by question

module _ (ys : List Record) (used : ℕ) where
  pub over : (t : Task) → length ys < used → outcome_of ys used t ≡ hands_back used ys 25
  unfolding outcome_of
  over t l = if-true _ _ _ (lt-ltb _ _ l)

  pub turned : (t : Task) → used ≤ length ys → (refused_by t ≡ 0 → ⊥) → outcome_of ys used t ≡ hands_back used ys (refused_by t)
  unfolding outcome_of
  turned (task.Refuse q) l n = if-false _ _ _ (le-ltb _ _ l)
  turned (task.Withdraw k) l n = absurd (n refl)
  turned (task.HandIn r) l n = absurd (n refl)

  hands : (n : Record) → used ≤ length ys → outcome_of ys used (task.HandIn n) ≡ hand_in ys used n
  unfolding outcome_of
  hands n l = if-false _ _ _ (le-ltb _ _ l)

  leaves : (k : ℕ) → used ≤ length ys → outcome_of ys used (task.Withdraw k) ≡ withdraw ys used k
  unfolding outcome_of
  leaves k l = if-false _ _ _ (le-ltb _ _ l)

-- ---- a withdrawal

module _ (used k : ℕ) (a : Registered) (ys zs : List Record) (h : Leaves a zs (outcome_of ys used (task.Withdraw k))) where
  pub withdraws : WithdrawCall used k a ys zs
  unfolding Asks
  withdraws =
      ⊎_elim (λ l. inl (λ n. omega (arith, l, n), h ∙ over ys used (task.Withdraw k) l))
      (λ l. inr (l, by_test (has_student k (take used ys)) (λ e. inr (e, left l e)) (λ e. inl (λ y. false-true (sym e ∙ y), none l e))))
      (less-or (length ys) used)
    where
      left : used ≤ length ys → has_student k (take used ys) ≡ true → with_slice a zs ≡ keeps_used (without k (take used ys)) ys
      left l e =
          let n = length-take-le used ys l in
          let less = any-less k (take used ys) e in
          h ∙ leaves ys used k l ∙ if-false _ _ _ (ne_eqb (length (without k (take used ys))) used (λ z. omega (arith, n, less, z)))

      none : used ≤ length ys → has_student k (take used ys) ≡ false → with_slice a zs ≡ hands_back used ys 27
      none l e =
          let n = length-take-le used ys l in
          h ∙ leaves ys used k l ∙ if-true _ _ _ (eq-eqb _ _ (ap length (none-same k (take used ys) e) ∙ n))

-- ---- a hand-in

module _ (n : Record) (used : ℕ) (o : RegisterOutcome) (ys : List Record) (fits : used ≤ length ys) (h : o ≡ hand_in ys used n) where
  abbrev u : List Record
  u = take used ys

  u-long : length u ≡ used
  u-long = length-take-le used ys fits

  as_long : has_three n u ≡ true → length (with_record n u) ≡ used
  as_long e = with_record-length n u ∙ if-true _ _ _ e ∙ u-long

  longer : has_three n u ≡ false → length (with_record n u) ≡ suc used
  longer e = with_record-length n u ∙ if-false _ _ _ e ∙ ap suc u-long

  takes : Asks (hands_back used ys) (asks26 ys used n ∷ []) (λ p. p ≡ keeps_used (with_record n u) ys) o
  unfolding Asks
  takes = by_test (has_three n u) (λ e. inr (inl e, room (let m = as_long e in omega (arith, m, fits))))
      (λ e. let m = longer e in ⊎_elim (λ l. inr (inr l, room (omega (arith, m, l)))) (λ l. inl (full e l, none e l)) (less-or used (length ys)))
    where
      room : length (with_record n u) ≤ length ys → o ≡ keeps_used (with_record n u) ys
      room l = h ∙ if-false _ _ _ (le-ltb (length ys) (length (with_record n u)) l)

      full : has_three n u ≡ false → length ys ≤ used → (has_three n u ≡ true) ⊎ (used < length ys) → ⊥
      full e l = ⊎_elim (λ d. false-true (sym e ∙ d)) (λ d. omega (arith, l, d))

      none : has_three n u ≡ false → length ys ≤ used → o ≡ hands_back used ys 26
      none e l = let m = longer e in h ∙ if-true _ _ _ (lt-ltb (length ys) (length (with_record n u)) (omega (arith, m, l)))

pub hands_in : (s : Setup) (used student target : ℕ) (loss : Bool) (handed : List ℕ) (t : Task) (a : Registered) (ys zs : List Record)
    → Attempts s student target loss handed t → Leaves a zs (outcome_of ys used t) → HandInCall s used student target loss handed a ys zs
hands_in s used student target loss handed t a ys zs m h = ⊎_elim early asked (less-or (length ys) used)
  where
    o : RegisterOutcome
    o = with_slice a zs

    early : length ys < used → HandInCall s used student target loss handed a ys zs
    early l =
        ask-no (hands_back used ys) (Enters s used student target loss handed ys) (asks25 ys used) (asks12 s ∷ asks13 s target ∷ []) o
        (λ n. omega (arith, l, n)) (h ∙ over ys used t l)

    asked : used ≤ length ys → HandInCall s used student target loss handed a ys zs
    asked l =
        ask-yes (hands_back used ys) (Enters s used student target loss handed ys) (asks25 ys used) (asks12 s ∷ asks13 s target ∷ []) o l
        (asks-retold (λ q. q) (hands_back used ys) (λ r. (r ≡ 0) × Laid s student target loss handed t) (Enters s used student target loss handed ys)
        (asks12 s ∷ asks13 s target ∷ []) (refused_by t) o refused (λ y x. laid x.1) m.asked)
      where
        refused : (q : ℕ) → Listed (12 ∷ 13 ∷ []) q → refused_by t ≡ q → o ≡ hands_back used ys q
        refused q i e =
            h ∙ turned ys used t l (λ z. not-zero (asks12 s ∷ asks13 s target ∷ []) q refl i (sym e ∙ z)) ∙ ap (hands_back used ys) e

        laid : Laid s student target loss handed t → Enters s used student target loss handed ys o
        laid x =
            record { row = x.row; is_record = x.is_record; told = takes x.row used o ys l (h ∙ ap (outcome_of ys used) x.is ∙ hands ys used x.row l) }
