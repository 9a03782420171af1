-- The theorems of specs/Meaning: there are rows of a setup, but one list of them, and their text is a sheet of the setup.
-- Assumes nothing.
use mathlib.Core.Path.{◌≡◌, refl, sym, ap, subst, ◌∙◌}
use mathlib.Core.Bool.{true}
use mathlib.Core.List.{List, [], ◌∷◌, ◌++◌, map}
use mathlib.Core.Logic.{⊎_elim}
use Prim.Native.Nat.{ℕ, ◌≤◌, ◌<◌}
use native.Mathlib.Nat.{zero-add}
use native.Mathlib.Omega.{arith}
use lib.ListN.{length, get_or, take, drop, replicate}
use lib.Seq.{take-append_seam}
use Rattle.setup.specs.declared.Setup.{Setup}
use Rattle.setup.specs.Calls.{written}
use Rattle.formed.specs.WellFormed.{WellFormed}
use Rattle.questions.specs.Asks.{Asks}
use Rattle.questions.specs.Contract.{Outcome, gives, ends, turns_away, Fulfils, OneAnswer}
use Rattle.sheet_format.specs.Read.{Reading}
use Rattle.sheet_format.specs.Fields.{is_name}
use Rattle.sheet_format.specs.Rows.{ItemRow, Doc, ValidItem, Valid, number_in, render, setup_of}
use Rattle.sheet_format.specs.Stated.{StandsAt}
use Rattle.sheet_format.specs.Read.{read_sheet, accepted}
use Rattle.sheet_format.specs.Names.{name_of}
use Rattle.sheet_format.specs.Meaning.{Accepted, Refused}
use Rattle.sheet_format.proofs.Question12Lists.{of-each}
use Rattle.sheet_format.proofs.Stated.{at_place, stands-below, stands-in, stands-number, name_in}
use Rattle.sheet_format.proofs.Meaning.{accepted-of-valid, valid-of-accepted, accepted-or-refused}
use Rattle.sheet_format.proofs.Lengths.{longest-sheet}
use Rattle.sheet_format.proofs.SetupRows.{Names, doc_of, item-name, setup-of-doc, valid-doc}
use Rattle.sheet_format.proofs.Question12.{yielded-unheld}
use Rattle.sheet.proofs.Names.{names-of-rows}
use Rattle.save_format.specs.Rows.{unheld, SavedRows}
use Rattle.save_format.specs.Call.{save_call}
use Rattle.save_format.specs.Meaning.{SavedThere, IsSheetOf, SavedReads, SavedText, SavedBack, SavedAgain}
use Rattle.save_format.proofs.Rising.{doc-rising}
use Rattle.save_format.proofs.Unique.{saved-unique}

-- ---- the names of a sheet

-- in the written form of valid rows a row's name is that of its item
own_name : (d : Doc) → Valid d → (i : ℕ) (x : ItemRow) → StandsAt d.items i x → i < length d.items → x.name ≡ name_of (render d) i
own_name d v i x h l = sym (name_in d.items i x h) ∙ sym (names-of-rows d v i l)

names-valid : (d : Doc) → Valid d → (n : ℕ) → n ≤ length d.items → Names (name_of (render d)) n
names-valid d v n most =
    record {
      form = λ i l.
          let x = at_place d.items i (omega arith) in
          let h = of-each ValidItem d.items v.items x.0 (stands-in d.items i x.0 x.1) in
          subst (λ (m : List ℕ). is_name m ≡ true) (own_name d v i x.0 x.1 (omega arith)) h.name;
      one = λ i j l k e.
          let x = at_place d.items i (omega arith) in
          let y = at_place d.items j (omega arith) in
          let p : x.0.name ≡ y.0.name = own_name d v i x.0 x.1 (omega arith) ∙ e ∙ sym (own_name d v j y.0 y.1 (omega arith)) in
          sym (stands-number d.items v.names i x.0 x.1) ∙ ap (number_in d.items) p
          ∙ stands-number d.items v.names j y.0 y.1;
    }

-- an accepted text, and its rows
pub rows_of : (sheet : List ℕ) → (read_sheet sheet).number ≡ 0 → (d : Doc) × Valid d × (sheet ≡ render d) × ((read_sheet sheet).setup ≡ setup_of d)
rows_of sheet z =
    ⊎_elim
    (λ (a : Accepted sheet).
    let d = valid-of-accepted sheet a.setup a.reading in
    (d.0, d.1, d.2, ap (λ (r : Reading). r.setup) a.reading ∙ d.3))
    (λ (f : Refused sheet). absurd (let e = ap (λ (r : Reading). r.number) f.reading in let m = f.least in omega arith))
    (accepted-or-refused.either sheet)

pub names_of : (sheet : List ℕ) (n : ℕ) → (read_sheet sheet).number ≡ 0 → n ≤ (read_sheet sheet).setup.count → Names (name_of sheet) n
unfolding setup_of
names_of sheet n z l =
    let d = rows_of sheet z in
    let c : (read_sheet sheet).setup.count ≡ length d.0.items = ap (λ (s : Setup). s.count) d.3 in
    subst (λ (t : List ℕ). Names (name_of t) n) (sym d.2) (names-valid d.0 d.1 n (omega arith))

-- ---- there are rows of the setup

pub saved-doc : (sheet : List ℕ) (s : Setup) → (read_sheet sheet).number ≡ 0 → WellFormed s → s.count ≤ (read_sheet sheet).setup.count → SavedRows sheet s (doc_of (name_of sheet) s)
saved-doc sheet s z w l =
    let ns = names_of sheet s.count z l in
    record {
      valid = valid-doc (name_of sheet) s w ns;
      states = setup-of-doc (name_of sheet) s w ns;
      names = λ i x h. item-name (name_of sheet) s 0 s.count i x h ∙ ap (name_of sheet) (zero-add i);
      rising = doc-rising (name_of sheet) s w ns;
    }

pub saved-there : SavedThere
saved-there sheet s z w l = (doc_of (name_of sheet) s, saved-doc sheet s z w l)

-- ---- their text is a sheet of the setup

count-is : (sheet : List ℕ) (s : Setup) (d : Doc) → SavedRows sheet s d → length d.items ≡ s.count
unfolding setup_of
count-is sheet s d a = ap (λ (t : Setup). t.count) a.states

pub saved-reads : SavedReads
saved-reads sheet s d a =
    record {
      reads = accepted-of-valid d a.valid ∙ ap accepted a.states;
      names = λ i l.
          let c = count-is sheet s d a in
          let x = at_place d.items i (omega arith) in
          sym (own_name d a.valid i x.0 x.1 (omega arith)) ∙ a.names i x.0 x.1;
      short = longest-sheet d a.valid;
    }

-- what was read holds nothing
pub fresh-unheld : (sheet : List ℕ) (s : Setup) → read_sheet sheet ≡ accepted s → unheld s ≡ s
fresh-unheld sheet s e =
    let y = yielded-unheld sheet s e in
    λ i. record { count = s.count; vertices = s.vertices; graph = s.graph; recovery = s.recovery; held = record { 0 = sym y.0 i }; opened = record { 0 = sym y.1 i } }

pub saved-back : SavedBack
saved-back sheet s d e a = (saved-reads sheet s d a).reads ∙ ap accepted (fresh-unheld sheet s e)

pub saved-again : SavedAgain
saved-again sheet s d a =
    record {
      valid = a.valid;
      states = a.states;
      names = λ i x h. own_name d a.valid i x h (stands-below d.items i x h);
      rising = a.rising;
    }

-- ---- one answer

pub one-save : (sheet : List ℕ) (s : Setup) (out : List ℕ) → OneAnswer (save_call sheet s out)
one-save sheet s out = saved-unique sheet s

-- ---- what the call leaves

module _ (sheet : List ℕ) (s : Setup) (entry : List ℕ) where
  -- an outcome with the number 0 has the rows written
  rows_written : (o : Outcome) → Fulfils (save_call sheet s entry) o → o.reply.number ≡ 0
      → (d : Doc) × SavedRows sheet s d × (o ≡ ends (gives (length (render d) ∷ [])) (written (render d) entry ∷ []))
  unfolding Fulfils Asks
  rows_written o f z =
      ⊎_elim (λ h. absurd (h.0 (zero_of (read_sheet sheet).number h.1)))
      (λ h. ⊎_elim (λ k. absurd (let e = zero_of 12 k.1 in omega arith))
      (λ k. ⊎_elim (λ l. absurd (let e = zero_of 13 l.1 in omega arith))
      (λ l. ⊎_elim (λ m. absurd (let e = zero_of 15 m.1 in omega arith)) (λ m. (l.1.answer, l.1.right, m.1)) l.1.told)
      k.1) h.1) f
    where
      zero_of : (q : ℕ) → o ≡ turns_away (entry ∷ []) q → q ≡ 0
      zero_of q e = sym (ap (λ (x : Outcome). x.reply.number) e) ∙ z

pub saved-text : SavedText
saved-text sheet s number size entry exit t z =
    let d = rows_written sheet s entry (ends (record { number = number; values = t.values }) (exit ∷ [])) t.call z in
    let v : t.values ≡ length (render d.0) ∷ [] = ap (λ (x : Outcome). x.reply.values) d.2 in
    let l : size ≡ length (render d.0) =
    ap (λ (x : List ℕ). get_or x 0 0) t.told ∙ ap (λ (x : List ℕ). get_or (x ++ replicate t.unused 0) 0 0) v in
    let b : exit ≡ written (render d.0) entry = ap (λ (x : Outcome). get_or x.lent 0 []) d.2 in
    let e : take size exit ≡ render d.0 =
    ap (λ (n : ℕ). take n exit) l ∙ ap (take (length (render d.0))) b ∙ take-append_seam (render d.0) (drop (length (render d.0)) entry) in
    subst (IsSheetOf sheet s) (sym e) (saved-reads sheet s d.0 d.1)
