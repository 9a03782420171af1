-- What C is told of a call is settled.
-- Assumes nothing.
use mathlib.Core.Path.{◌≡◌, refl, sym, ap, ◌∙◌}
use mathlib.Core.Bool.{Bool, true, false, cond}
use mathlib.Core.List.{List, [], ◌∷◌}
use mathlib.Core.Logic.{◌⊎◌, inl, inr, ⊎_elim}
use Prim.Native.Nat.{ℕ}
use lib.ListN.{length}
use lib.Dec.{eqb}
use borrow.Author.Tests.{ne_eqb}
use Rattle.vertex_set.proofs.Cases.{same_or, less-or}
use Rattle.setup.specs.declared.Setup.{Setup}
use Rattle.questions.specs.Asks.{Asks, Settled}
use Rattle.questions.specs.Questions.{asks13}
use Rattle.questions.specs.Contract.{ends, turns_away, Contract, telling, Answers, Fulfils}
use Rattle.questions.specs.Told.{Told, ToldNo, SettledTold}
use Rattle.questions.proofs.Asks.{all-numbered, asks-once, settled-asks}
use Rattle.questions.proofs.Told.{settled-told}
use Rattle.living.specs.Calls.{Call}
use Rattle.sheet_format.specs.Read.{read_sheet, asks_sheet}
use Rattle.histories.proofs.Once.{one_answer, numbered}
use Rattle.histories.specs.Requests.{contract_of}
use Rattle.portal_words.specs.Words.{setup_words, setup_in}
use Rattle.portal_sheets.specs.Reading.{HoldsName, ReadingCall, name_call}
use Rattle.portal_sheets.proofs.Sheets.{one_name}
use Rattle.portal_sets.specs.Check.{asks_reached}
use Rattle.portal_living.specs.Living.{living_call}
use Rattle.portal_living.proofs.Calls.{one-redrawn}
use Rattle.handin_format.specs.Calls.{line_refused}
use Rattle.handin_format.proofs.Unique.{lines-once}
use Rattle.portal_register.specs.declared.ReadLineResult.{ReadLineResult}
use Rattle.portal_register.specs.Lines.{LineTold, told_in_numbers, TellsLine, TellLineCall}
use Rattle.demands.specs.Demands.{SettledForC}
use Rattle.living.proofs.Kept.{living-numbered}
use Rattle.demands.proofs.HandIns.{settled-write-set}

-- ---- question 12, and the reading

checked : (words : List ℕ) (r : ℕ) → Asks (λ q. q) (asks_reached (setup_in words) ∷ []) (λ n. n ≡ 0) r
    → Settled (λ n. n) (λ q. q) (12 ∷ []) (Asks (λ q. q) (asks_reached (setup_in words) ∷ []) (λ n. n ≡ 0)) r
checked words r =
    settled-asks (λ n. n) (λ q. q) (λ q. refl) (asks_reached (setup_in words) ∷ []) (λ n. n ≡ 0) (12 ∷ []) (all-numbered (asks_reached (setup_in words) ∷ []) refl) (λ q l. l) r (λ e. inl e) (λ p d e. d ∙ sym e)

one-reading : (text : List ℕ) (n n' l l' : ℕ) (entry exit exit' : List ℕ) → ReadingCall text n l entry exit → ReadingCall text n' l' entry exit'
    → (n ≡ n') × (l ≡ l') × (exit ≡ exit')
one-reading text n n' l l' entry exit exit' p q =
    let room = less-or (length entry) setup_words in (
      ⊎_elim (λ z. ⊎_elim (λ k. p.short z k ∙ sym (q.short z k)) (λ k. p.accepted z k ∙ sym (q.accepted z k)) room) (λ z. p.refused z ∙ sym (q.refused z))
          (same_or (read_sheet text).number 0),
      p.lined ∙ sym q.lined,
      ⊎_elim (λ k. p.untouched k ∙ sym (q.untouched k)) (λ k. p.room k ∙ sym (q.room k)) room,
    )

-- a line in numbers: what is told is one, and so is what is told of it
one-line-told : (sheet line : List ℕ) (r r' : ReadLineResult) (entry exit exit' : List ℕ) → TellLineCall sheet line r entry exit → TellLineCall sheet line r' entry exit'
    → (r ≡ r') × (exit ≡ exit')
one-line-told sheet line r r' entry exit exit' a b =
    let e = asks-once (λ q. told_in_numbers (line_refused 1 (read_sheet sheet).line entry q)) (TellsLine sheet line entry) (asks_sheet sheet ∷ []) (record { answer = r; sets = exit }) (record { answer = r'; sets = exit' })
    (λ h k. h.told ∙ ap told_in_numbers (lines-once sheet line entry h.outcome k.outcome h.reads k.reads) ∙ sym k.told) a b in
    (ap (λ (t : LineTold). t.answer) e, ap (λ (t : LineTold). t.sets) e)

pub settled-for-c : SettledForC
settled-for-c =
    record {
      calls = λ q s n f l t. settled-told (contract_of q s) (one_answer q s) n f l t (numbered q s);
      living = λ c words n f l t. settled-told (living_call c words) (one-redrawn c words) n f l t (all-numbered (living_call c words).questions (living-numbered c (setup_in words)));
      name = λ text item n f l t. settled-told (name_call text item) (one_name text item) n f l t (λ z. z, all-numbered (asks13 (read_sheet text).setup item ∷ []) refl);
      write_set = settled-write-set;
      check = checked;
      read_line = one-line-told;
      reading = one-reading;
    }
