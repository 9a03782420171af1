-- The calls on names and lines are settled.
-- Assumes nothing.
use mathlib.Core.Path.{◌≡◌, refl, sym, ap, ◌∙◌, subst}
use mathlib.Core.List.{List, [], ◌∷◌}
use mathlib.Core.Logic.{◌⊎◌, inl, inr, ⊎_elim}
use Prim.Native.Nat.{ℕ, ◌≤◌}
use native.Mathlib.Omega.{arith}
use Rattle.vertex_set.specs.Order.{Listed}
use Rattle.questions.specs.Asks.{TurnedAway}
use Rattle.questions.specs.Contract.{OneAnswer}
use Rattle.questions.specs.Questions.{asks14}
use Rattle.questions.specs.Told.{Told, SettledTold}
use Rattle.questions.proofs.Asks.{turned, all-numbered}
use Rattle.questions.proofs.Told.{settled-told}
use Rattle.sheet_format.specs.Read.{read_sheet}
use Rattle.records.specs.declared.Record.{Record}
use Rattle.records.specs.declared.Registered.{Registered}
use Rattle.records.specs.Records.{RegisterOutcome, with_slice, hands_back}
use Rattle.handin_format.specs.Calls.{NamedSet}
use Rattle.handin_format.specs.Calls.{LineAnswer}
use Rattle.handin_format.specs.Calls.{set_told, ReadSetCall, write_set_call, LineOutcome, with_sets, line_refused, ReadLineCall, EnterCall}
use Rattle.handin_format.specs.Meaning.{NamesSet}
use Rattle.handin_format.proofs.Unique.{line_numbers, SetComes, set-no-sheet, set-no-names, set-named, set-comes, one-read-set, LineComes, line-no-sheet, line-no, line-short, line-told, reading-comes, one-read-line, EnterComes, enter-overfull, enter-no-sheet, enter-no-line, enter-no-place, enter-done, enter-comes, one-entering}
use Rattle.demands.specs.Sheets.{sheet_numbers}
use Rattle.demands.specs.HandIns.{SetAnswered, SetRefusal, SettledReadSet, LineAnswered, LineRefusal, SettledReadLine, SettledEntering}
use Rattle.demands.proofs.Sheets.{sheet-number}
use Rattle.demands.proofs.Calls.{sheet-asked}

-- ---- a set by its names

module _ (sheet l : List ℕ) (a : NamedSet) where
  set-outcome : SetComes sheet l a → SetAnswered sheet l a ⊎ SetRefusal a
  set-outcome (set-no-sheet n e) =
      inr (record {
        asked = inl (subst (Listed sheet_numbers) (sym (ap (λ (x : NamedSet). x.number) e)) (sheet-asked sheet n), ap (λ (x : NamedSet). x.text) e);
        set = ap (λ (x : NamedSet). x.set) e;
      })
  set-outcome (set-no-names q m e) =
      inr (record {
        asked = inr (subst (Listed (5 ∷ 8 ∷ 6 ∷ [])) (sym (ap (λ (x : NamedSet). x.number) e)) m, ap (λ (x : NamedSet). x.text) e, ap (λ (x : NamedSet). x.place) e);
        set = ap (λ (x : NamedSet). x.set) e;
      })
  set-outcome (set-named x n e) =
      let s = sym (ap (λ (y : NamedSet). y.set) e) in
      inl (record { told = e ∙ ap set_told s; names = subst (NamesSet sheet l) s n })

  pub settled-read-set : ReadSetCall sheet l a → SettledReadSet sheet l a
  settled-read-set c = record { outcome = set-outcome (set-comes sheet l a c); only = λ b d. one-read-set sheet l b a d c }

-- ---- a line by itself

module _ (sheet line : List ℕ) (a : LineAnswer) (entry exit : List ℕ) where
  abbrev o : LineOutcome
  o = with_sets a exit

  abbrev Asked : ℕ → ℕ → ℕ → Type 0
  Asked number text place =
      (Listed sheet_numbers number × (text ≡ 1)) ⊎ (Listed (2 ∷ 4 ∷ 5 ∷ 6 ∷ 7 ∷ 8 ∷ []) number × (text ≡ 2)) ⊎ ((number ≡ 15) × (text ≡ 0) × (place ≡ 0))

  refusal : (text place q : ℕ) → Asked q text place → o ≡ line_refused text place entry q → LineRefusal a entry exit
  refusal text place q h e =
      record {
        asked = subst (λ (p : LineOutcome). Asked p.answer.number p.answer.text p.answer.place) (sym e) h;
        is = e ∙ ap (λ (p : LineOutcome). line_refused p.answer.text p.answer.place entry p.answer.number) (sym e);
      }

  line-outcome : LineComes sheet line entry o → LineAnswered sheet line a entry exit ⊎ LineRefusal a entry exit
  line-outcome (line-no-sheet n e) = inr (refusal 1 (read_sheet sheet).line (read_sheet sheet).number (inl (sheet-asked sheet n, refl)) e)
  line-outcome (line-no q k m e) = inr (refusal 2 k q (inr (inl (m, refl))) e)
  line-outcome (line-short e) = inr (refusal 0 0 15 (inr (inr (refl, refl, refl))) e)
  line-outcome (line-told c s e) = inl (record { call = c; says = s; told = e })

  pub settled-read-line : ReadLineCall sheet line a entry exit → SettledReadLine sheet line a entry exit
  settled-read-line c =
      record { outcome = line-outcome (reading-comes sheet line entry o c); only = λ b other d. one-read-line sheet line entry b a other exit d c }

-- ---- a line taken to the register

abbrev enter_numbers : List ℕ
enter_numbers = 25 ∷ 26 ∷ 27 ∷ sheet_numbers

line-bounds : (q : ℕ) → Listed line_numbers q → (1 ≤ q) × (q ≤ 11)
line-bounds q (inl e) = omega arith
line-bounds q (inr (inl e)) = omega arith
line-bounds q (inr (inr (inl e))) = omega arith
line-bounds q (inr (inr (inr (inl e)))) = omega arith
line-bounds q (inr (inr (inr (inr (inl e))))) = omega arith
line-bounds q (inr (inr (inr (inr (inr (inl e)))))) = omega arith
line-bounds q (inr (inr (inr (inr (inr (inr h)))))) = absurd h

module _ (sheet line : List ℕ) (used : ℕ) (a : Registered) (entry exit : List Record) where
  abbrev Back : Type 0
  Back = TurnedAway (λ x. x.answer.number) (hands_back used entry) enter_numbers (with_slice a exit)

  back : (q : ℕ) → Listed enter_numbers q → (q ≡ 0 → ⊥) → with_slice a exit ≡ hands_back used entry q → Back
  back = turned (λ x. x.answer.number) (hands_back used entry) (λ n. refl) enter_numbers (with_slice a exit)

  enter-outcome : EnterComes sheet used entry (with_slice a exit) → (a.number ≡ 0) ⊎ Back
  enter-outcome (enter-overfull e) = inr (back 25 (inl refl) (λ z. omega arith) e)
  enter-outcome (enter-no-sheet n e) = inr (back (read_sheet sheet).number (inr (inr (inr (sheet-asked sheet n)))) n e)
  enter-outcome (enter-no-line q m e) =
      let b = line-bounds q m in
      let l = b.0 in
      inr (back q (inr (inr (inr (sheet-number q b.0 b.1)))) (λ z. omega arith) e)
  enter-outcome (enter-no-place q (inl i) e) = inr (back q (inr (inl i)) (λ z. omega (arith, i)) e)
  enter-outcome (enter-no-place q (inr (inl i)) e) = inr (back q (inr (inr (inl i))) (λ z. omega (arith, i)) e)
  enter-outcome (enter-no-place q (inr (inr h)) e) = absurd h
  enter-outcome (enter-done z) = inl z

  pub settled-entering : EnterCall sheet line used a entry exit → SettledEntering sheet line used a entry exit
  settled-entering c =
      record {
        outcome = enter-outcome (enter-comes sheet line used a entry exit c);
        only = λ p b. one-entering sheet line used entry p.answer a p.slice exit b c;
      }

-- ---- the names of a set

module _ (sheet : List ℕ) (x : ℕ) (out : List ℕ) where
  one-text : OneAnswer (write_set_call sheet x out)
  one-text t u h k = h ∙ sym k

  pub settled-write-set : (n : ℕ) (f : List ℕ) (l : List (List ℕ)) → Told (write_set_call sheet x out) n f l → SettledTold (write_set_call sheet x out) n f l
  settled-write-set n f l t =
      settled-told (write_set_call sheet x out) one-text n f l t (λ z. z, all-numbered (asks14 (read_sheet sheet).setup x ∷ []) refl)
