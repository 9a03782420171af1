-- What is told of a sheet: its reading, and its items' names.
-- Assumes nothing.
use mathlib.Core.Path.{◌≡◌, refl, sym, ap, ◌∙◌}
use mathlib.Core.List.{List, [], ◌∷◌, ◌++◌}
use mathlib.Core.Logic.{inl, inr}
use Prim.Native.Nat.{ℕ, ◌-◌, ◌≤◌, ◌<◌}
use native.Mathlib.Nat.{zero-add}
use native.Mathlib.Omega.{arith}
use lib.ListN.{length, drop, length-drop}
use lib.Seq.{sets-eq, length-take-le}
use Rattle.sheet_format.specs.Read.{Reading}
use Rattle.sheet_format.specs.Read.{read_sheet}
use Rattle.sheet_lines.specs.declared.names.Span.{Span}
use Rattle.sheet_lines.specs.Inner.Span.{span_of}
use Rattle.sheet.proofs.Names.{item-there, row-there, span-inside, span-name, span-start}
use Rattle.questions.specs.Asks.{Asks}
use Rattle.questions.specs.Contract.{gives, ends, turns_away, Fulfils, OneAnswer}
use Rattle.questions.specs.Told.{Told}
use Rattle.questions.proofs.Contract.{given, fulfilled}
use Rattle.portal_words.specs.Words.{setup_words, words_of}
use Rattle.portal_words.specs.Inner.{WroteAll}
use Rattle.portal_sheets.specs.Reading.{ReadingCall, HoldsName, name_call}

module _ (text : List ℕ) (r : Reading) (q : r ≡ read_sheet text) where
  number_is : r.number ≡ (read_sheet text).number
  number_is = ap (λ (x : Reading). x.number) q

  line-is : r.line ≡ (read_sheet text).line
  line-is = ap (λ (x : Reading). x.line) q

  -- ---- a reading

  pub read_short : (entry : List ℕ) → length entry < setup_words → r.number ≡ 0 → ReadingCall text 15 r.line entry entry
  read_short entry l z =
      record {
        refused = λ n. absurd (n (sym number_is ∙ z));
        short = λ e k. refl;
        accepted = λ e k. absurd (let h = k in omega arith);
        lined = line-is;
        room = λ k. absurd (let h = k in omega arith);
        untouched = λ k. refl;
      }

  pub read-refused : (entry : List ℕ) → length entry < setup_words → (r.number ≡ 0 → ⊥) → ReadingCall text r.number r.line entry entry
  read-refused entry l n =
      record {
        refused = λ m. number_is;
        short = λ e k. absurd (n (number_is ∙ e));
        accepted = λ e k. absurd (n (number_is ∙ e));
        lined = line-is;
        room = λ k. absurd (let h = k in omega arith);
        untouched = λ k. refl;
      }

  pub read-room : (entry exit : List ℕ) (next : ℕ) → setup_words ≤ length entry → WroteAll setup_words entry 0 (words_of r.setup) exit next
      → ReadingCall text r.number r.line entry exit
  read-room entry exit next l w =
      let xs = words_of r.setup in
      let long = w.long in
      record {
        refused = λ m. number_is;
        short = λ e k. absurd (let h = k in omega arith);
        accepted = λ e k. number_is ∙ e;
        lined = line-is;
        room =
            λ k. w.wrote.exit ∙ sets-eq xs entry 0 (omega arith) ∙ ap (λ (n : ℕ). xs ++ drop n entry) (zero-add (length xs))
            ∙ ap (λ (x : Reading). words_of x.setup ++ drop (length (words_of x.setup)) entry) q;
        untouched = λ k. absurd (let h = k in omega arith);
      }

  -- ---- a name

  module _ (item : ℕ) where
    pub name-refused : (r.number ≡ 0 → ⊥) → Told (name_call text item) r.number (0 ∷ 0 ∷ []) []
    unfolding Fulfils Asks
    name-refused n = record { values = []; call = inl (λ y. n (number_is ∙ y), λ i. turns_away [] (number_is i)); unused = 2; told = refl }

    pub name-beyond : r.number ≡ 0 → r.setup.count ≤ item → Told (name_call text item) 13 (0 ∷ 0 ∷ []) []
    unfolding Fulfils Asks
    name-beyond z l =
        let c = ap (λ (x : Reading). x.setup.count) q in
        record { values = []; call = inr (sym number_is ∙ z, inl (λ h. let b = h in omega arith, refl)); unused = 2; told = refl }

    pub name-there : r.number ≡ 0 → item < r.setup.count → (p : Span) → p ≡ span_of text item
        → Told (name_call text item) 0 (p.from ∷ (p.to - p.from) ∷ []) []
    name-there z l p e =
        record {
          values = p.from ∷ (p.to - p.from) ∷ [];
          call = fulfilled (name_call text item) (ends (gives (p.from ∷ (p.to - p.from) ∷ [])) []) (sym number_is ∙ z, (below, tt))
              (given (name_call text item) (record { start = p.from; size = p.to - p.from }) holds tt (ends (gives (p.from ∷ (p.to - p.from) ∷ [])) []) refl);
          unused = 0;
          told = refl;
        }
      where
        below : item < (read_sheet text).setup.count
        below = let c = ap (λ (x : Reading). x.setup.count) q in omega arith

        holds : HoldsName text item (record { start = p.from; size = p.to - p.from })
        holds =
            let h = item-there text item r q z l in
            let there = row-there text item r q z l in
            let name = span-name text item there p e h in
            let inside = span-inside text item there p e in
            let k = length-drop p.from text in
            let start = span-start text item there p e 0 h in
            record { begins = omega arith; long = sym (length-take-le (p.to - p.from) (drop p.from text) (omega arith)) ∙ ap length name; bytes = name }

-- one answer
pub one_name : (text : List ℕ) (item : ℕ) → OneAnswer (name_call text item)
one_name text item p p' a b = λ i. record { start = (a.begins ∙ sym b.begins) i; size = (a.long ∙ sym b.long) i }
