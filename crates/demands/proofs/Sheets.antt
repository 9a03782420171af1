-- The calls on a sheet's bytes: what `read_sheet` gives is what rows as data say, and nothing else is.
-- Assumes nothing.
use mathlib.Core.Path.{◌≡◌, refl, sym, ap, subst, ◌∙◌}
use mathlib.Core.Bool.{Bool, true}
use mathlib.Core.List.{List, [], ◌∷◌}
use mathlib.Core.Logic.{◌⊎◌, inl, inr, ⊎_elim}
use Prim.Native.Nat.{ℕ, zero, suc, ◌+◌, ◌≤◌, ◌<◌}
use native.Mathlib.Omega.{arith}
use lib.ListN.{length}
use Rattle.vertex_set.specs.Order.{Listed}
use Rattle.vertex_set.proofs.Cases.{same_or, less-or, false-true}
use Rattle.scores.specs.Never.{never}
use Rattle.sheet_format.specs.Read.{Reading}
use Rattle.sheet_format.specs.Fields.{is_name}
use Rattle.sheet_format.specs.Rows.{ItemRow, Doc, Each, ValidItem, setup_of}
use Rattle.sheet_format.specs.Read.{accepted, refused, read_sheet}
use Rattle.sheet_format.specs.Stated.{StandsAt, Stated}
use Rattle.sheet_format.specs.Names.{name_of, name_start}
use Rattle.sheet_format.specs.Meaning.{Accepted, Refused}
use Rattle.sheet_format.proofs.Meaning.{accepted-of-valid, valid-of-accepted, refusal-law, refusal-unique, empty-setup, accepted-or-refused}
use Rattle.sheet_format.proofs.Stated.{stands-below, at_place, stated-by-rows, name_in}
use Rattle.sheet.proofs.Names.{refused_none, beyond-none, name-none, start_none, names-of-rows, name-places}
use Rattle.questions.specs.Asks.{Asks}
use Rattle.bases.specs.Score.{Score}
use Rattle.portal.specs.Portal.{PortalCall}
use Rattle.portal.proofs.Portal.{one_number}
use Rattle.demands.specs.Sheets.{sheet_numbers, RowsOf, Reads, SettledReading, Named, SettledName, SettledPortal}

-- ---- the reading

rows-read : (text : List ℕ) (d : Doc) → RowsOf text d → read_sheet text ≡ accepted (setup_of d)
rows-read text d h = ap read_sheet h.written ∙ accepted-of-valid d h.valid

read-rows : (text : List ℕ) → Accepted text → (d : Doc) × RowsOf text d
read-rows text a = let d = valid-of-accepted text a.setup a.reading in (d.0, record { valid = d.1; written = d.2 })

reads-accepted : (text : List ℕ) (a : Accepted text) → Reads text (accepted a.setup)
reads-accepted text a =
    record {
      accepted = record { to = λ z. read-rows text a; from = λ d. refl };
      states = λ d h. let e = ap (λ (r : Reading). r.setup) (sym a.reading ∙ rows-read text d h) in (refl, e, subst (Stated d) (sym e) (stated-by-rows d h.valid));
      refused = λ n. absurd (n refl);
    }

reads-refused : (text : List ℕ) (f : Refused text) → Reads text (refused f.number f.line)
reads-refused text f =
    record {
      accepted = record { to = λ z. absurd (let l = f.least in omega arith); from = λ d. absurd (never-rows d.0 d.1) };
      states = λ d h. absurd (never-rows d h);
      refused = λ n. ((refusal-law text f.number f.line).to f.reading, empty-setup);
    }
  where
    never-rows : (d : Doc) → RowsOf text d → ⊥
    never-rows d h = let l = f.least in let z : 0 ≡ f.number = ap (λ (r : Reading). r.number) (sym (rows-read text d h) ∙ f.reading) in omega arith

pub reads : (text : List ℕ) (r : Reading) → r ≡ read_sheet text → Reads text r
reads text r e =
    ⊎_elim (λ (a : Accepted text). subst (Reads text) (sym (e ∙ a.reading)) (reads-accepted text a))
    (λ (f : Refused text). subst (Reads text) (sym (e ∙ f.reading)) (reads-refused text f)) (accepted-or-refused.either text)

-- as many numbers as k says, from a on
abbrev from : ℕ → ℕ → List ℕ
from zero a = []
from (suc k) a = a ∷ from k (suc a)

listed-from : (k a n : ℕ) → a ≤ n → n < a + k → Listed (from k a) n
listed-from zero a n l h = absurd (omega arith)
listed-from (suc k) a n l h = ⊎_elim inl (λ d. inr (listed-from k (suc a) n (omega (arith, d)) (omega arith))) (same_or n a)

pub sheet-number : (n : ℕ) → 1 ≤ n → n ≤ 11 → Listed sheet_numbers n
sheet-number n l h = listed-from 11 1 n l (omega arith)

module _ (text : List ℕ) (r : Reading) (h : Reads text r) where
  same-reading : (p : Reading) → p.number ≡ r.number → p.line ≡ r.line → p.setup ≡ r.setup → p ≡ r
  same-reading p a b c = λ i. record { number = a i; line = b i; setup = c i }

  only-reading : (p : Reading) → Reads text p → p ≡ r
  only-reading p k = ⊎_elim accepts refuses (same_or r.number 0)
    where
      accepts : r.number ≡ 0 → p ≡ r
      accepts z =
          let d = h.accepted.to z in
          let a = h.states d.0 d.1 in
          let b = k.states d.0 d.1 in
          same-reading p (k.accepted.from d ∙ sym z) (b.0 ∙ sym a.0) (b.1 ∙ sym a.1)

      refuses : (r.number ≡ 0 → ⊥) → p ≡ r
      refuses n =
          let a = h.refused n in
          let b = k.refused (λ z. n (h.accepted.from (k.accepted.to z))) in
          let u = refusal-unique text p.number p.line r.number r.line b.0 a.0 in
          same-reading p u.0 u.1 (b.1 ∙ sym a.1)

  pub settled-reading : r ≡ read_sheet text → SettledReading text r
  settled-reading e =
      record {
        outcome = ⊎_elim
            (λ (a : Accepted text). inl (ap (λ (x : Reading). x.number) (e ∙ a.reading), ap (λ (x : Reading). x.line) (e ∙ a.reading)))
            (λ (f : Refused text). inr (
              subst (Listed sheet_numbers) (sym (ap (λ (x : Reading). x.number) (e ∙ f.reading))) (sheet-number f.number f.least f.most),
              ap (λ (x : Reading). x.setup) (e ∙ f.reading) ∙ empty-setup,
            ))
            (accepted-or-refused.either text);
        only = only-reading;
      }

-- ---- an item's name

-- a name has a byte
name-some : (xs : List ItemRow) (i : ℕ) (x : ItemRow) → Each ValidItem xs → StandsAt xs i x → x.name ≡ [] → ⊥
unfolding is_name
name-some [] i x v h e = h
name-some (y ∷ ys) zero x v h e = false-true (subst (λ (n : List ℕ). is_name n ≡ true) (ap (λ (z : ItemRow). z.name) h ∙ e) v.0.name)
name-some (y ∷ ys) (suc i) x v h e = name-some ys i x v.1 h e

module _ (text : List ℕ) (item : ℕ) where
  -- the item is there, or it isn't, or the sheet is refused
  by-item : {Q : Type 0} → ((d : Doc) → RowsOf text d → (x : ItemRow) → StandsAt d.items item x → Q)
      → ((d : Doc) → RowsOf text d → length d.items ≤ item → Q) → (((d : Doc) → RowsOf text d → ⊥) → Q) → Q
  by-item there beyond none =
      ⊎_elim
      (λ z. let d = (reads text (read_sheet text) refl).accepted.to z in
      ⊎_elim (λ l. let x = at_place d.0.items item l in there d.0 d.1 x.0 x.1) (beyond d.0 d.1) (less-or item (length d.0.items)))
      (λ n. none (λ d h. n (ap (λ (r : Reading). r.number) (rows-read text d h)))) (same_or (read_sheet text).number 0)

  count-is : (d : Doc) → RowsOf text d → (read_sheet text).setup.count ≡ length d.items
  unfolding setup_of
  count-is d h = ap (λ (r : Reading). r.setup.count) (rows-read text d h)

  module _ (sheet : ℕ) (part : List ℕ) (at : ℕ) (e : part ≡ name_of text item) (f : at ≡ sheet + name_start text item) where
    pub named : Named text item sheet part at
    named =
        record {
          name = λ d h x j.
              e ∙ ap (λ (t : List ℕ). name_of t item) h.written ∙ names-of-rows d h.valid item (stands-below d.items item x j) ∙ name_in d.items item x j;
          place = λ d h x j. f ∙ ap (λ (t : List ℕ). sheet + name_start t item) h.written ∙ ap (λ (n : ℕ). sheet + n) (name-places d h.valid item x j).begins;
          beyond = λ d h l. let c = count-is d h in let b = beyond-none text item (read_sheet text) refl (omega arith) in
              (e ∙ sym (name-none text item b), f ∙ sym (start_none text item sheet b));
          refused = λ n. let b = refused_none text item (read_sheet text) refl (λ z. let d = (reads text (read_sheet text) refl).accepted.to z in n d.0 d.1) in
              (e ∙ sym (name-none text item b), f ∙ sym (start_none text item sheet b));
        }

  module _ (sheet : ℕ) (part : List ℕ) (at : ℕ) (k : Named text item sheet part at) where
    pub settled-name : SettledName text item sheet part at
    settled-name =
        record {
          outcome = by-item (λ d h x i. inl (λ e. name-some d.items item x h.valid.items i (sym (k.name d h x i) ∙ e)))
              (λ d h l. inr (k.beyond d h l)) (λ n. inr (k.refused n));
          only = λ p a j. by-item
              (λ d h x i. (j.name d h x i ∙ sym (k.name d h x i), j.place d h x i ∙ sym (k.place d h x i)))
              (λ d h l. both (j.beyond d h l) (k.beyond d h l)) (λ n. both (j.refused n) (k.refused n));
        }
      where
        both : {p : List ℕ} {a : ℕ} → (p ≡ []) × (a ≡ sheet) → (part ≡ []) × (at ≡ sheet) → (p ≡ part) × (a ≡ at)
        both x y = (x.0 ∙ sym y.0, x.1 ∙ sym y.1)

-- ---- the portal's number

number-listed : (text : List ℕ) → ((read_sheet text).number ≡ 0 → ⊥) → Listed sheet_numbers (read_sheet text).number
number-listed text n =
    ⊎_elim (λ z. absurd (n z.0)) (λ f. f.0) (settled-reading text (read_sheet text) (reads text (read_sheet text) refl) refl).outcome

pub settled-portal : (loss : Bool) (text : List ℕ) (item r : ℕ) → PortalCall loss text item r → SettledPortal loss text item r
unfolding Asks
settled-portal loss text item r h =
    record {
      outcome = ⊎_elim (λ n. inr ((read_sheet text).number, inr (number-listed text n.0), n.1))
          (λ y. ⊎_elim (λ n. inr (13, inl refl, n.1)) (λ x. inl (at-most x.1)) y.1) h;
      only = λ q k. one_number loss text item q r k h;
    }
  where
    at-most : Score loss (read_sheet text).setup (read_sheet text).setup.graph item r → r ≤ never
    at-most s = ⊎_elim (λ l. absurd (let z = s.none (λ v t. let b = s.some v t in omega arith) in omega arith)) (λ l. l) (less-or never r)
