-- What is put back into the buffer; it says what the call answered.
-- Assumes nothing.
use mathlib.Core.Path.{◌≡◌, refl, sym, ap, subst, ◌∙◌}
use mathlib.Core.Bool.{true}
use mathlib.Core.List.{List, [], ◌∷◌, ◌++◌}
use mathlib.Core.Logic.{inl, inr, ⊎_elim}
use Prim.Native.Nat.{ℕ, ◌≤◌}
use native.Mathlib.Nat.{zero-add}
use native.Mathlib.Omega.{arith}
use lib.ListN.{length, drop, get_or, take-append-drop}
use lib.Seq.{sets-eq}
use Rattle.vertex_set.specs.Order.{Listed}
use Rattle.setup.specs.declared.Setup.{Setup}
use Rattle.setup.specs.Calls.{written}
use Rattle.formed.specs.WellFormed.{WellFormed}
use Rattle.questions.specs.Asks.{Question, Asks}
use Rattle.questions.specs.Contract.{Outcome, ends, turns_away, Room, Answers, Fulfils, OneAnswer}
use Rattle.questions.proofs.Asks.{AllYes, not-zero, ask-all, asks-either, asks-retold}
use Rattle.questions.proofs.Contract.{given, answers_of}
use Rattle.std.specs.Prelude.{Result, Ok, Err, IfOk, OnErr}
use Rattle.questions.specs.declared.Refusal.{Refusal}
use Rattle.questions.specs.Inner.{asked}
use Rattle.questions.proofs.Refusals.{number_some}
use Rattle.living.specs.Calls.{Redrawing, handed_back, Call, TakeIn, TakeOut, AddEdge, RemoveEdge, drawing_of, after, Redrawn, asks_of, back, Done, CallOf}
use Rattle.living.proofs.Unique.{redrawn-unique, nothing-changes}
use Rattle.living.proofs.Kept.{living-numbered, step}
use Rattle.portal_words.specs.Words.{setup_words, setup_in, words_of}
use Rattle.portal_words.specs.Inner.{WroteAll}
use Rattle.portal_words.proofs.Saying.{words_long}
use Rattle.portal_words.proofs.Strict.{words_are, well-formed-back, formed-says}
use Rattle.portal_living.specs.Living.{living_call, Redrew, NoWordChanges}
use Rattle.portal_living.specs.Inner.{HasRoom, PutBack}

-- ---- what the code puts back

pub put-words : (s : Setup) (entry exit : List ℕ) (next : ℕ) → setup_words ≤ length entry → WroteAll setup_words entry 0 (words_of s) exit next
    → exit ≡ written (words_of s) entry
put-words s entry exit next l w =
    let xs = words_of s in
    let long = w.long in
    w.wrote.exit ∙ sets-eq xs entry 0 (omega arith) ∙ ap (λ (m : ℕ). xs ++ drop m entry) (zero-add (length xs))

formed-first : (c : Call) (s : Setup) → AllYes (asks_of c s) → WellFormed s
formed-first (TakeIn v) s y = y.0
formed-first (TakeOut v) s y = y.0
formed-first (AddEdge f v c m) s y = y.0
formed-first (RemoveEdge f v c) s y = y.0

-- ---- the call on what the words say

-- where a call is accepted there is room
module _ (c : Call) (entry : List ℕ) where
  room_of : (t : Setup) → AllYes (asks_of c (setup_in entry)) → Redrawn (setup_in entry) (after c (drawing_of (setup_in entry))) t
      → Room (entry ∷ []) (words_of t ∷ [])
  room_of t y r =
      let l = words_long t r.shaped in
      let k = (formed-says entry (formed-first c (setup_in entry) y)).long in
      (omega arith, tt)

  pub has_room : (s : Setup) → s ≡ setup_in entry → (r : Redrawing) → CallOf c s r → HasRoom r entry
  has_room s e r a =
      record {
        accepted = λ z. ⊎_elim
            (λ h. (formed-says entry (formed-first c (setup_in entry) (subst (λ (x : Setup). AllYes (asks_of c x)) e h.0))).long)
            (λ h. absurd (not-zero (asks_of c s) h.0 (living-numbered c s) h.1 (sym (ap (λ (x : Redrawing). x.number) h.2) ∙ z)))
            (asks-either (back s) (Done c s) (asks_of c s) r a);
      }

  -- the same, of what the call hands back
  pub room-for : (s : Setup) → s ≡ setup_in entry → (r : Result Setup Refusal) → CallOf c s (handed_back s r) → IfOk r (λ _. setup_words ≤ length entry)
  room-for s e r a = by r (has_room s e (handed_back s r) a)
    where
      by : (r : Result Setup Refusal) → HasRoom (handed_back s r) entry → IfOk r (λ _. setup_words ≤ length entry)
      by (Ok t) h = h.accepted refl
      by (Err e) h = tt

  call-fulfilled : (r : Redrawing) (exit : List ℕ) → CallOf c (setup_in entry) r → PutBack r entry exit
      → Fulfils (living_call c entry) (ends (record { number = r.number; values = [] }) (exit ∷ []))
  unfolding Fulfils
  call-fulfilled r exit a b =
      asks-retold (back (setup_in entry)) (turns_away (entry ∷ [])) (Done c (setup_in entry)) (Answers (living_call c entry)) (asks_of c (setup_in entry)) r
      (ends (record { number = r.number; values = [] }) (exit ∷ []))
      (λ q l e. let n : r.number ≡ q = ap (λ (x : Redrawing). x.number) e in
      let same = b.refused (λ z. not-zero (asks_of c (setup_in entry)) q (living-numbered c (setup_in entry)) l (sym n ∙ z)) in
      λ i. ends (record { number = n i; values = [] }) (same i ∷ []))
      (λ y d. given (living_call c entry) r.setup d.redrawn (room_of r.setup y d.redrawn) (ends (record { number = r.number; values = [] }) (exit ∷ []))
      (λ i. ends (record { number = d.numbered i; values = [] }) (b.accepted d.numbered i ∷ [])))
      a

  pub living-told : (s : Setup) → s ≡ setup_in entry → (r : Redrawing) (number : ℕ) (exit : List ℕ) → CallOf c s r → (number ≡ r.number) × PutBack r entry exit
      → Redrew c number entry exit
  living-told s e r number exit a b =
      record {
        values = [];
        call = subst (λ (n : ℕ). Fulfils (living_call c entry) (ends (record { number = n; values = [] }) (exit ∷ []))) (sym b.0)
            (call-fulfilled r exit (subst (λ (x : Setup). CallOf c x r) e a) b.1);
        unused = 0;
        told = refl;
      }

  put-back : (s : Setup) (r : Result Setup Refusal) (exit : List ℕ) → IfOk r (λ t. exit ≡ written (words_of t) entry) → OnErr r (exit ≡ entry)
      → PutBack (handed_back s r) entry exit
  put-back s (Ok t) exit a b = record { refused = λ d. absurd (d refl); accepted = λ z. a }
  put-back s (Err e) exit a b = record { refused = λ d. b; accepted = λ z. absurd (number_some e z) }

  number-back : (s : Setup) (r : Result Setup Refusal) → asked r ≡ (handed_back s r).number
  number-back s (Ok t) = refl
  number-back s (Err e) = refl

  pub answer_told : (s : Setup) → s ≡ setup_in entry → (r : Result Setup Refusal) (number : ℕ) (exit : List ℕ) → CallOf c s (handed_back s r) → number ≡ asked r
      → IfOk r (λ t. exit ≡ written (words_of t) entry) → OnErr r (exit ≡ entry) → Redrew c number entry exit
  answer_told s e r number exit a n o d = living-told s e (handed_back s r) number exit a (n ∙ number-back s r, put-back s r exit o d)

  -- and back: the words say what the call answered
  said : (number : ℕ) (exit : List ℕ) (t : Setup) → AllYes (asks_of c (setup_in entry)) → Redrawn (setup_in entry) (after c (drawing_of (setup_in entry))) t
      → exit ≡ written (words_of t) entry → setup_in exit ≡ t
  said number exit t y r e =
      ⊎_elim (λ k. ap setup_in e ∙ well-formed-back t k.formed (drop (length (words_of t)) entry)) (λ k. absurd (k.number refl))
      (step c (setup_in entry) (record { number = 0; setup = t })
      (ask-all (back (setup_in entry)) (Done c (setup_in entry)) (asks_of c (setup_in entry)) (record { number = 0; setup = t }) y (record { numbered = refl; redrawn = r })))

  pub done-of : (number : ℕ) (values : List ℕ) (exit : List ℕ) → AllYes (asks_of c (setup_in entry))
      → Answers (living_call c entry) (ends (record { number = number; values = values }) (exit ∷ [])) → Done c (setup_in entry) (record { number = number; setup = setup_in exit })
  unfolding Asks
  done-of number values exit y a =
      ⊎_elim (λ h. absurd (h.0 (room_of a.answer y a.right)))
      (λ h. let put : exit ≡ written (words_of a.answer) entry = ap (λ (o : Outcome). get_or o.lent 0 []) h.1 in
      record {
        numbered = ap (λ (o : Outcome). o.reply.number) h.1;
        redrawn = subst (Redrawn (setup_in entry) (after c (drawing_of (setup_in entry)))) (sym (said number exit a.answer y a.right put)) a.right;
      })
      a.told

  pub call-of : (number : ℕ) (exit : List ℕ) → Redrew c number entry exit → CallOf c (setup_in entry) (record { number = number; setup = setup_in exit })
  unfolding Fulfils
  call-of number exit t =
      asks-retold (turns_away (entry ∷ [])) (back (setup_in entry)) (Answers (living_call c entry)) (Done c (setup_in entry)) (asks_of c (setup_in entry))
      (ends (record { number = number; values = t.values }) (exit ∷ [])) (record { number = number; setup = setup_in exit })
      (λ q l e. λ i. record { number = ap (λ (o : Outcome). o.reply.number) e i; setup = setup_in (ap (λ (o : Outcome). get_or o.lent 0 []) e i) })
      (λ y a. done-of number t.values exit y a)
      t.call

-- ---- one result

pub one-redrawn : (c : Call) (words : List ℕ) → OneAnswer (living_call c words)
one-redrawn c words t t' a b = redrawn-unique (setup_in words) (after c (drawing_of (setup_in words))) t t' a b

-- ---- nothing changes

-- the words of the setup that they say are the words themselves
same-words : (entry : List ℕ) → WellFormed (setup_in entry) → written (words_of (setup_in entry)) entry ≡ entry
same-words entry w =
    let says = formed-says entry w in
    ap (λ (m : ℕ). words_of (setup_in entry) ++ drop m entry) (words_long (setup_in entry) w.shaped)
    ∙ ap (λ (l : List ℕ). l ++ drop setup_words entry) (sym (words_are entry says)) ∙ take-append-drop setup_words entry

-- an accepted call that leaves the setup as it was
unchanged : (c : Call) (number : ℕ) (entry exit : List ℕ) → AllYes (asks_of c (setup_in entry)) → Redrew c number entry exit
    → ((r : Redrawing) → CallOf c (setup_in entry) r → r ≡ back (setup_in entry) 0) → (number ≡ 0) × (exit ≡ entry)
unfolding Asks
unchanged c number entry exit y t same =
    let a = answers_of (living_call c entry) (ends (record { number = number; values = t.values }) (exit ∷ [])) t.call y in
    let s = setup_in entry in
    let is : a.answer ≡ s = ap (λ (r : Redrawing). r.setup) (same (record { number = 0; setup = a.answer })
    (ask-all (back s) (Done c s) (asks_of c s) (record { number = 0; setup = a.answer }) y (record { numbered = refl; redrawn = a.right }))) in
    ⊎_elim (λ h. absurd (h.0 (room_of c entry a.answer y a.right)))
    (λ h. (
      ap (λ (o : Outcome). o.reply.number) h.1,
      ap (λ (o : Outcome). get_or o.lent 0 []) h.1 ∙ ap (λ (x : Setup). written (words_of x) entry) is ∙ same-words entry (formed-first c s y),
    ))
    a.told

pub no-word-changes : NoWordChanges
no-word-changes =
    record {
      take_in = λ v number entry exit w m t.
          unchanged (TakeIn v) number entry exit (w, (w.holds.each v m, tt)) t (λ r a. nothing-changes.take_in (setup_in entry) v r w m a);
      take_out = λ v number entry exit w l o t.
          unchanged (TakeOut v) number entry exit (w, (l, tt)) t (λ r a. nothing-changes.take_out (setup_in entry) v r w l o a);
    }
