-- A text is read into a buffer, and any list of calls is made on it: what the words then show.
-- Assumes nothing.
use mathlib.Core.Path.{◌≡◌, refl, sym, ap, subst, ◌∙◌}
use mathlib.Core.List.{List, [], ◌∷◌}
use mathlib.Core.Logic.{◌⊎◌, inl, inr, ⊎_elim}
use Prim.Native.Nat.{ℕ, ◌<◌}
use native.Mathlib.Omega.{arith}
use lib.ListN.{length, get_or, drop}
use Rattle.vertex_set.specs.Set.{Member, Iff}
use Rattle.vertex_set.specs.Order.{Listed}
use Rattle.vertex_set.proofs.Cases.{less-or, same_or}
use Rattle.setup.specs.declared.Setup.{Setup}
use Rattle.setup.specs.Setup.{no_items}
use Rattle.formed.specs.WellFormed.{WellFormed}
use Rattle.questions.specs.Contract.{Outcome, ends, turns_away, Answers, Fulfils}
use Rattle.questions.proofs.Asks.{AllYes, asks-either}
use Rattle.derivations.specs.Access.{AccessFrom}
use Rattle.living.specs.Calls.{Redrawing}
use Rattle.living.specs.Calls.{Call, Drawing, drawing_of, Redrawn, asks_of}
use Rattle.living.proofs.Kept.{step, refused-malformed}
use Rattle.sheet_format.specs.Read.{Reading}
use Rattle.sheet_format.specs.Read.{read_sheet}
use Rattle.sheet_format.proofs.Meaning.{empty-setup, accepted-or-refused}
use Rattle.histories.specs.Histories.{Ran, left_by}
use Rattle.histories.proofs.Runs.{opened-always}
use Rattle.portal_words.specs.Words.{setup_words, held_place, opened_place, word_at, SaysSetup, setup_in, words_of}
use Rattle.portal_words.proofs.Strict.{formed-says, none-malformed, setup-none, held_word, opened-word}
use Rattle.portal_sheets.specs.Reading.{ReadingCall}
use Rattle.portal_sheets.proofs.Saying.{reading-says, read_back}
use Rattle.portal_living.specs.Living.{living_call, Redrew, MadeOn, Shows, LivesInWords}
use Rattle.portal_living.proofs.Calls.{done-of, call-of}

-- ---- one call

-- accepted, it leaves a setup that passes question 12; refused, it leaves every word
either : (c : Call) (number : ℕ) (entry exit : List ℕ) → Redrew c number entry exit → WellFormed (setup_in exit) ⊎ (exit ≡ entry)
unfolding Fulfils
either c number entry exit t =
    ⊎_elim
    (λ h. let d = done-of c entry number t.values exit h.0 h.1 in
    ⊎_elim (λ k. inl k.formed) (λ k. absurd (k.number d.numbered)) (step c (setup_in entry) (record { number = number; setup = setup_in exit }) (call-of c entry number exit t)))
    (λ h. inr (ap (λ (o : Outcome). get_or o.lent 0 []) h.2))
    (asks-either (turns_away (entry ∷ [])) (Answers (living_call c entry)) (asks_of c (setup_in entry)) (ends (record { number = number; values = t.values }) (exit ∷ [])) t.call)

-- ---- lists of calls

still-says : (calls : List Call) (numbers entry exit : List ℕ) → SaysSetup entry → MadeOn entry calls numbers exit → SaysSetup exit
still-says [] [] entry exit s e = subst SaysSetup e s
still-says [] (n ∷ numbers) entry exit s e = absurd e
still-says (c ∷ calls) [] entry exit s e = absurd e
still-says (c ∷ calls) (n ∷ numbers) entry exit s e =
    still-says calls numbers e.0 exit (⊎_elim (formed-says e.0) (λ k. subst SaysSetup (sym k) s) (either c n entry e.0 e.1)) e.2

ran : (calls : List Call) (numbers entry exit : List ℕ) → MadeOn entry calls numbers exit → Ran (setup_in entry) calls numbers (setup_in exit)
ran [] [] entry exit e = ap setup_in e
ran [] (n ∷ numbers) entry exit e = absurd e
ran (c ∷ calls) [] entry exit e = absurd e
ran (c ∷ calls) (n ∷ numbers) entry exit e = (setup_in e.0, call-of c entry n e.0 e.1, ran calls numbers e.0 exit e.2)

all-refused : (calls : List Call) (numbers entry exit : List ℕ) → (WellFormed (setup_in entry) → ⊥) → MadeOn entry calls numbers exit
    → (exit ≡ entry) × ((n : ℕ) → Listed numbers n → n ≡ 12)
all-refused [] [] entry exit m e = (sym e, λ n l. absurd l)
all-refused [] (n ∷ numbers) entry exit m e = absurd e
all-refused (c ∷ calls) [] entry exit m e = absurd e
all-refused (c ∷ calls) (n ∷ numbers) entry exit m e =
    let r = refused-malformed c (setup_in entry) (record { number = n; setup = setup_in e.0 }) (call-of c entry n e.0 e.1) m in
    let same : e.0 ≡ entry = ⊎_elim (λ w. absurd (m (subst WellFormed (ap (λ (x : Redrawing). x.setup) r) w))) (λ k. k) (either c n entry e.0 e.1) in
    let k = all-refused calls numbers e.0 exit (λ w. m (subst (λ (l : List ℕ). WellFormed (setup_in l)) same w)) e.2 in
    (k.0 ∙ same, λ x. ⊎_elim (λ h. h ∙ ap (λ (y : Redrawing). y.number) r) (k.1 x))

-- ---- a text that was read

module _ (text : List ℕ) (number line : ℕ) (entry fresh : List ℕ) (r : ReadingCall text number line entry fresh) where
  shown : (calls : List Call) (numbers words : List ℕ) → setup_in fresh ≡ (read_sheet text).setup → SaysSetup fresh → MadeOn fresh calls numbers words
      → Shows (read_sheet text).setup (left_by calls numbers (drawing_of (read_sheet text).setup)) words
  shown calls numbers words e s m =
      let s' = still-says calls numbers fresh words s m in
      let d = opened-always text calls numbers (setup_in words) (subst (λ (x : Setup). Ran x calls numbers (setup_in words)) e (ran calls numbers fresh words m)) in
      record {
        redrawn = d;
        held = λ v. subst (λ (h : ℕ). Iff (Member h v) ((left_by calls numbers (drawing_of (read_sheet text).setup)).Held v)) (held_word words s') (d.held v);
        opened = subst (λ (h : ℕ). AccessFrom (setup_in words).graph h (word_at words opened_place)) (held_word words s')
            (subst (AccessFrom (setup_in words).graph (setup_in words).held.0) (opened-word words s') d.opened);
      }

  -- a reading that was refused leaves no setup
  not-read : (number ≡ 0 → ⊥) → WellFormed (setup_in fresh) → ⊥
  not-read n w =
      ⊎_elim
      (λ l. none-malformed (subst WellFormed (setup-none fresh (λ s. let k = s.long in let e = ap length (r.untouched l) in omega arith)) w))
      (λ l. ⊎_elim
      (λ a. n (r.accepted (ap (λ (x : Reading). x.number) a.reading) l))
      (λ d. none-malformed (subst WellFormed (read_back text number line entry fresh r l ∙ ap (λ (x : Reading). x.setup) d.reading ∙ empty-setup) w))
      (accepted-or-refused.either text))
      (less-or (length entry) setup_words)

pub lives-in-words : LivesInWords
lives-in-words =
    record {
      shows = λ text number line entry fresh r l calls numbers words m.
          shown text number line entry fresh r calls numbers words (read_back text number line entry fresh r l)
          (subst SaysSetup (sym (r.room l)) (reading-says (drop (length (words_of (read_sheet text).setup)) entry) text)) m;
      refused = λ text number line entry fresh r n calls numbers words m.
          all-refused calls numbers fresh words (not-read text number line entry fresh r n) m;
    }
