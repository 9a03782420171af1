-- Reading and writing a set, by the sheet's reading and the set's.
-- Assumes nothing.
use mathlib.Core.Path.{◌≡◌, refl, sym, ap, subst, ◌∙◌}
use mathlib.Core.Bool.{true}
use mathlib.Core.List.{List, [], ◌∷◌}
use mathlib.Core.Logic.{◌⊎◌, inl, inr, ⊎_elim}
use Prim.Native.Nat.{ℕ, ◌<◌}
use native.Mathlib.Omega.{arith}
use lib.ListN.{length}
use borrow.Author.Tests.{eq-eqb, ne_eqb}
use Rattle.vertex_set.specs.Set.{Member}
use Rattle.setup.specs.Calls.{written}
use Rattle.questions.specs.Asks.{Asks}
use Rattle.questions.specs.Contract.{Outcome, gives, ends, turns_away, Room, Fulfils}
use Rattle.questions.specs.Told.{Told}
use Rattle.questions.specs.Inner.{FirstNumber, answered12, inside14}
use Rattle.sheet_format.specs.Read.{Reading}
use Rattle.sheet_format.specs.Fields.{dash}
use Rattle.sheet_format.specs.Rows.{ItemRow}
use Rattle.sheet_format.specs.Read.{read_sheet}
use Rattle.sheet_format.specs.Names.{name_of}
use Rattle.sheet_lines.specs.declared.item_keys.Keys.{Keys}
use Rattle.sheet_lines.specs.Inner.Keys.{SheetKeys}
use Rattle.sheet_lines.proofs.Accepted.{accepts-of, count_of, rows-of-text}
use Rattle.report_text.specs.Rows.{set_text}
use Rattle.handin_format.specs.Sets.{SetField}
use Rattle.handin_format.specs.Calls.{NamedSet}
use Rattle.std.specs.Prelude.{Option}
use Rattle.std.specs.Option.{ok_or}
use Rattle.questions.specs.declared.Refusal.TheVariants.{Short}
use Rattle.handin_format.specs.Calls.{SetWritten}
use Rattle.handin_format.specs.Sets.{set_from, set_names}
use Rattle.handin_format.specs.Calls.{set_refused, set_told, ReadSetCall, set_written, write_set_call}
use Rattle.handin_lines.specs.Inner.Naming.{ReadsNames}
use Rattle.writing.specs.Inner.HandOut.{HandsOut}

-- ---- reading

module _ (sheet l : List ℕ) (r : Reading) (is : r ≡ read_sheet sheet) where
  number_is : r.number ≡ (read_sheet sheet).number
  number_is = ap (λ (x : Reading). x.number) is

  pub set-no-sheet : (a : NamedSet) → (r.number ≡ 0 → ⊥) → a ≡ set_refused 1 r.line r.number → ReadSetCall sheet l a
  unfolding Asks
  set-no-sheet a n e = inl (λ z. n (number_is ∙ z), e ∙ ap (λ (x : Reading). set_refused 1 x.line x.number) is)

  module _ (zero : r.number ≡ 0) (keys : Keys) (has : SheetKeys sheet r.setup.count keys) (f : SetField) (reads : ReadsNames keys.keys.low keys.keys.high keys.keys.count l f) where
    named : (a : NamedSet)
        → ((items : List ItemRow) → f ≡ set_from items l
        → (((set_from items l).number ≡ 0 → ⊥) × (a ≡ set_refused 2 0 (set_from items l).number)) ⊎ (((set_from items l).number ≡ 0) × (a ≡ set_told (set_from items l).set)))
        → ReadSetCall sheet l a
    unfolding Asks
    named a told =
        let t = accepts-of sheet r is zero in
        let d = rows-of-text sheet r.setup t in
        inr (
          sym number_is ∙ zero,
          record {
            d = d.doc;
            valid = d.valid;
            is = d.text;
            told = told d.doc.items (reads.each d.doc.items (has.keys d.doc d.valid d.text (count_of sheet r.setup d.doc t d.valid d.text)));
          },
        )

    pub set-refused : (a : NamedSet) → (f.number ≡ 0 → ⊥) → a ≡ set_refused 2 0 f.number → ReadSetCall sheet l a
    set-refused a n e =
        named a (λ items q. inl (λ z. n (ap (λ (x : SetField). x.number) q ∙ z), e ∙ ap (λ (x : SetField). set_refused 2 0 x.number) q))

    pub set_told_lem : (a : NamedSet) → f.number ≡ 0 → a ≡ set_told f.set → ReadSetCall sheet l a
    set_told_lem a z e =
        named a (λ items q. inr (sym (ap (λ (x : SetField). x.number) q) ∙ z, e ∙ ap (λ (x : SetField). set_told x.set) q))

-- ---- writing

-- question 14, where question 12 is no question
inside-no : (count x r : ℕ) → FirstNumber (answered12 true ∷ inside14 count x ∷ []) r → (r ≡ 0 → ⊥) → (((v : ℕ) → Member x v → v < count) → ⊥) × (r ≡ 14)
unfolding Asks
inside-no count x r h n = ⊎_elim (λ a. absurd (a.0 refl)) (λ b. ⊎_elim (λ a. (a.0, a.1)) (λ c. absurd (n c.1)) b.1) h

pub inside-yes : (count x r : ℕ) → FirstNumber (answered12 true ∷ inside14 count x ∷ []) r → r ≡ 0 → (v : ℕ) → Member x v → v < count
unfolding Asks
inside-yes count x r h z = ⊎_elim (λ a. absurd (a.0 refl)) (λ b. ⊎_elim (λ a. absurd (let e = a.1 in omega arith)) (λ c. c.0) b.1) h

pub names-empty : (name : ℕ → List ℕ) (x : ℕ) → x ≡ 0 → set_names name x ≡ dash
unfolding set_names
names-empty name x z = rw (eq-eqb x 0 z)

pub names-some : (name : ℕ → List ℕ) (x : ℕ) → (x ≡ 0 → ⊥) → set_names name x ≡ set_text name x
unfolding set_names
names-some name x n = rw (ne_eqb x 0 n)

module _ (sheet : List ℕ) (x : ℕ) (r : SetWritten) (entry exit : List ℕ) where
  abbrev Tells : Type 0
  Tells = Told (write_set_call sheet x entry) r.number (r.size ∷ []) (exit ∷ [])

  -- a refusal
  turned : (q : ℕ) → Fulfils (write_set_call sheet x entry) (turns_away (entry ∷ []) q) → r ≡ record { number = q; size = 0 } → exit ≡ entry → Tells
  turned q f e u =
      subst (λ (y : SetWritten). Told (write_set_call sheet x entry) y.number (y.size ∷ []) (exit ∷ [])) (sym e)
      (subst (λ (l : List ℕ). Told (write_set_call sheet x entry) q (0 ∷ []) (l ∷ [])) (sym u) (record { values = []; call = f; unused = 1; told = refl }))

  -- an answer
  answered : (text : List ℕ) → Fulfils (write_set_call sheet x entry) (ends (gives (length text ∷ [])) (written text entry ∷ []))
      → r ≡ record { number = 0; size = length text } → exit ≡ written text entry → Tells
  answered text f e u =
      subst (λ (y : SetWritten). Told (write_set_call sheet x entry) y.number (y.size ∷ []) (exit ∷ [])) (sym e)
      (subst (λ (l : List ℕ). Told (write_set_call sheet x entry) 0 (length text ∷ []) (l ∷ [])) (sym u)
      (record { values = length text ∷ []; call = f; unused = 0; told = refl }))

  module _ (read : Reading) (is : read ≡ read_sheet sheet) where
    read_number : read.number ≡ (read_sheet sheet).number
    read_number = ap (λ (y : Reading). y.number) is

    pub write-no-sheet : (read.number ≡ 0 → ⊥) → r ≡ record { number = read.number; size = 0 } → exit ≡ entry → Tells
    unfolding Fulfils Asks
    write-no-sheet n e u =
        turned (read_sheet sheet).number (inl (λ z. n (read_number ∙ z), refl)) (e ∙ ap (λ (q : ℕ). record { number = q; size = 0 }) read_number) u

    module _ (z : read.number ≡ 0) where
      zero_is : (read_sheet sheet).number ≡ 0
      zero_is = sym read_number ∙ z

      count-is : read.setup.count ≡ (read_sheet sheet).setup.count
      count-is = ap (λ (y : Reading). y.setup.count) is

      module _ (asked : ℕ) (first : FirstNumber (answered12 true ∷ inside14 read.setup.count x ∷ []) asked) where
        pub write-outside : (asked ≡ 0 → ⊥) → r ≡ record { number = asked; size = 0 } → exit ≡ entry → Tells
        unfolding Fulfils Asks
        write-outside n e u =
            let o = inside-no read.setup.count x asked first n in
            turned 14 (inr (zero_is, inl (λ i. o.0 (λ v k. let c = count-is in let h = i.each v k in omega arith), refl)))
            (e ∙ ap (λ (q : ℕ). record { number = q; size = 0 }) o.1) u

        module _ (none : asked ≡ 0) where
          inside : (v : ℕ) → Member x v → v < read.setup.count
          inside = inside-yes read.setup.count x asked first none

          names-told : (o : Outcome) → ((Room (entry ∷ []) (set_names (name_of sheet) x ∷ []) → ⊥) × (o ≡ turns_away (entry ∷ []) 15))
              ⊎ (Room (entry ∷ []) (set_names (name_of sheet) x ∷ []) × (o ≡ ends (gives (length (set_names (name_of sheet) x) ∷ [])) (written (set_names (name_of sheet) x) entry ∷ [])))
              → Fulfils (write_set_call sheet x entry) o
          unfolding Fulfils Asks
          names-told o t =
              inr (
                zero_is,
                inr (
                  record { each = λ v k. let c = count-is in let h = inside v k in omega arith },
                  record { answer = set_names (name_of sheet) x; right = refl; told = t },
                ),
              )

          pub write-names : (o : Option ℕ) → r ≡ set_written (ok_or o Short) → HandsOut (set_names (name_of sheet) x) o entry exit → Tells
          write-names o e t =
              ⊎_elim
              (λ l. let k = l.0 in turned 15 (names-told (turns_away (entry ∷ []) 15) (inl (λ m. let n = m.0 in omega arith, refl))) (e ∙ ap (λ (y : Option ℕ). set_written (ok_or y Short)) l.1) l.2)
              (λ l. answered (set_names (name_of sheet) x)
              (names-told (ends (gives (length (set_names (name_of sheet) x) ∷ [])) (written (set_names (name_of sheet) x) entry ∷ [])) (inr ((l.0, tt), refl))) (e ∙ ap (λ (y : Option ℕ). set_written (ok_or y Short)) l.1) l.2)
              t
