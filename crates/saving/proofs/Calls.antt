-- What the call knows of the sheet and the setup, and what it answers.
-- Assumes nothing.
use mathlib.Core.Path.{◌≡◌, refl, sym, ap, subst, ◌∙◌}
use mathlib.Core.List.{List, [], ◌∷◌, map}
use mathlib.Core.Logic.{◌⊎◌, inl, inr, ⊎_elim}
use Prim.Native.Nat.{ℕ, ◌≤◌, ◌<◌}
use native.Mathlib.Omega.{arith}
use lib.ListN.{length, length-append, length-map}
use Rattle.setup.specs.declared.Setup.{Setup}
use Rattle.setup.specs.Calls.{written}
use Rattle.formed.specs.WellFormed.{WellFormed}
use Rattle.questions.specs.Asks.{Asks}
use Rattle.questions.specs.Contract.{Outcome, gives, ends, turns_away, Room, asks15, Fulfils}
use Rattle.questions.specs.Told.{Told}
use Rattle.sheet_format.specs.Read.{Reading}
use Rattle.sheet_format.specs.Text.{lines_of}
use Rattle.sheet_format.specs.Rows.{second_header, setup_of}
use Rattle.sheet_format.specs.Read.{read_sheet}
use Rattle.sheet_format.specs.Names.{name_of}
use Rattle.sheet_format.proofs.Rows.{item_line, edge_line}
use Rattle.sheet_format.proofs.Documents.{doc_lines}
use Rattle.sheet_format.proofs.Meaning.{render-lines}
use Rattle.sheet.proofs.Names.{item-there}
use Rattle.report_facts.specs.declared.names.Names.{Names}
use Rattle.report_facts.specs.Inner.Places.{NamesPlaced}
use Rattle.sheet_format.specs.Meaning.{longest_sheet}
use Rattle.std.specs.Prelude.{Option}
use Rattle.std.specs.Option.{ok_or}
use Rattle.questions.specs.declared.Refusal.TheVariants.{Short}
use Rattle.save_format.specs.Call.{Saved, saved}
use Rattle.save_format.specs.Call.{save_call}
use Rattle.save_format.specs.Inner.{saved_text}
use Rattle.sheet_format.proofs.SetupRows.{doc_of}
use Rattle.save_format.proofs.Texts.{text-is}
use Rattle.save_format.proofs.Meaning.{rows_of, saved-doc, saved-reads}
use Rattle.report_rows.specs.declared.fields.ItemNames.{ItemNames}
use Rattle.report_rows.specs.Inner.Writing.{NameAtHand}
use Rattle.save_text.specs.Inner.{SetupNamed}
use Rattle.writing.specs.Inner.HandOut.{HandsOut}
use Rattle.saving.specs.Inner.{CanSave}

-- ---- names

-- all names of a setup are there
pub setup-named : (sheet : List ℕ) (s : Setup) (r : Names) (names : ItemNames) → CanSave sheet s → NamesPlaced sheet s.count r
    → names.sheet.now ≡ sheet → names.from.now ≡ r.from → names.to.now ≡ r.to → SetupNamed names s
setup-named sheet s r names c n a b d =
    let each : (v : ℕ) → v < s.count → NameAtHand names v = λ v h. rw (a, b, d) (n.each v h) in
    record {
      items = record { few = c.items.few; each = each };
      edges = record {
        each = λ v. record { each = λ k. record { each = λ f m. let e = c.ends f v k m in (each f e.0, each v e.1) } };
      };
    }

-- an accepted sheet has more lines than items
lines-enough : (sheet : List ℕ) → (read_sheet sheet).number ≡ 0 → (read_sheet sheet).setup.count < length (lines_of sheet)
unfolding setup_of
lines-enough sheet z =
    let d = rows_of sheet z in
    let c : (read_sheet sheet).setup.count ≡ length d.0.items = ap (λ (s : Setup). s.count) d.3 in
    let l : length (lines_of sheet) ≡ length (doc_lines d.0) = ap (λ (t : List ℕ). length (lines_of t)) d.2 ∙ ap length (render-lines d.0 d.1) in
    let m = length-map d.0.items item_line in
    let a = length-append (map item_line d.0.items) ([] ∷ second_header ∷ map edge_line d.0.edges) in
    omega arith

-- ---- the call

module _ (sheet : List ℕ) (s : Setup) (r : Saved) (entry exit : List ℕ) where
  abbrev Tells : Type 0
  Tells = Told (save_call sheet s entry) r.number (r.length ∷ []) (exit ∷ [])

  -- a refusal
  turned : (q : ℕ) → Fulfils (save_call sheet s entry) (turns_away (entry ∷ []) q) → r ≡ record { number = q; length = 0 } → exit ≡ entry → Tells
  turned q f e u =
      subst (λ (x : Saved). Told (save_call sheet s entry) x.number (x.length ∷ []) (exit ∷ [])) (sym e)
      (subst (λ (l : List ℕ). Told (save_call sheet s entry) q (0 ∷ []) (l ∷ [])) (sym u) (record { values = []; call = f; unused = 1; told = refl }))

  -- an answer
  answered : (text : List ℕ) → Fulfils (save_call sheet s entry) (ends (gives (length text ∷ [])) (written text entry ∷ []))
      → r ≡ record { number = 0; length = length text } → exit ≡ written text entry → Tells
  answered text f e u =
      subst (λ (x : Saved). Told (save_call sheet s entry) x.number (x.length ∷ []) (exit ∷ [])) (sym e)
      (subst (λ (l : List ℕ). Told (save_call sheet s entry) 0 (length text ∷ []) (l ∷ [])) (sym u)
      (record { values = length text ∷ []; call = f; unused = 0; told = refl }))

  module _ (read : Reading) (is : read ≡ read_sheet sheet) where
    number_is : read.number ≡ (read_sheet sheet).number
    number_is = ap (λ (x : Reading). x.number) is

    pub call-refused : (read.number ≡ 0 → ⊥) → r ≡ record { number = read.number; length = 0 } → exit ≡ entry → Tells
    unfolding Fulfils Asks
    call-refused n e u =
        turned (read_sheet sheet).number (inl (λ z. n (number_is ∙ z), refl)) (e ∙ ap (λ (q : ℕ). record { number = q; length = 0 }) number_is) u

    module _ (z : read.number ≡ 0) where
      zero_is : (read_sheet sheet).number ≡ 0
      zero_is = sym number_is ∙ z

      pub call-malformed : (WellFormed s → ⊥) → r ≡ record { number = 12; length = 0 } → exit ≡ entry → Tells
      unfolding Fulfils Asks
      call-malformed m e u = turned 12 (inr (zero_is, inl (m, refl))) e u

      count-is : read.setup.count ≡ (read_sheet sheet).setup.count
      count-is = ap (λ (x : Reading). x.setup.count) is

      pub call-nameless : WellFormed s → read.setup.count < s.count → r ≡ record { number = 13; length = 0 } → exit ≡ entry → Tells
      unfolding Fulfils Asks
      call-nameless w h e u = turned 13 (inr (zero_is, inr (w, inl (λ l. let c = count-is in omega arith, refl)))) e u

      module _ (w : WellFormed s) (h : s.count ≤ read.setup.count) where
        enough : s.count ≤ (read_sheet sheet).setup.count
        enough = let c = count-is in omega arith

        -- every item has a name, and the text is not too long
        pub call-can : CanSave sheet s
        call-can =
            let c = count-is in
            let l = lines-enough sheet zero_is in
            record {
              items = record { few = w.most; lines = omega arith; items = λ i l. item-there sheet i (read_sheet sheet) refl zero_is (omega arith) };
              ends = w.ends;
              short = subst (λ (t : List ℕ). length t ≤ longest_sheet) (text-is (name_of sheet) s) (saved-reads sheet s (doc_of (name_of sheet) s) (saved-doc sheet s zero_is w enough)).short;
            }

        -- the rows, once there is an end for their text
        rows_told : (o : Outcome) → ((Room (entry ∷ []) (saved_text (name_of sheet) s ∷ []) → ⊥) × (o ≡ turns_away (entry ∷ []) 15))
            ⊎ (Room (entry ∷ []) (saved_text (name_of sheet) s ∷ []) × (o ≡ ends (gives (length (saved_text (name_of sheet) s) ∷ [])) (written (saved_text (name_of sheet) s) entry ∷ [])))
            → Fulfils (save_call sheet s entry) o
        unfolding Fulfils Asks
        rows_told o t =
            inr (
              zero_is,
              inr (
                w,
                inr (
                  enough,
                  record {
                    answer = doc_of (name_of sheet) s;
                    right = saved-doc sheet s zero_is w enough;
                    told = subst (λ (u : List ℕ). Asks (turns_away (entry ∷ [])) (asks15 (entry ∷ []) (u ∷ []) ∷ []) (λ p. p ≡ ends (gives (length u ∷ [])) (written u entry ∷ [])) o)
                        (sym (text-is (name_of sheet) s)) t;
                  },
                ),
              ),
            )

        pub call-saves : (o : Option ℕ) → r ≡ saved (ok_or o Short) → HandsOut (saved_text (name_of sheet) s) o entry exit → Tells
        call-saves o e t =
            ⊎_elim
            (λ l. let k = l.0 in turned 15 (rows_told (turns_away (entry ∷ []) 15) (inl (λ m. let n = m.0 in omega arith, refl))) (e ∙ ap (λ (x : Option ℕ). saved (ok_or x Short)) l.1) l.2)
            (λ l. answered (saved_text (name_of sheet) s)
            (rows_told (ends (gives (length (saved_text (name_of sheet) s) ∷ [])) (written (saved_text (name_of sheet) s) entry ∷ [])) (inr ((l.0, tt), refl))) (e ∙ ap (λ (x : Option ℕ). saved (ok_or x Short)) l.1) l.2)
            t
