-- The sets among the fields of a line: their questions, one by one, and what is written of them.
-- Assumes nothing.
use mathlib.Core.Path.{◌≡◌, refl, sym, ap, subst, ◌∙◌}
use mathlib.Core.List.{List, [], ◌∷◌, map}
use Prim.Native.Nat.{ℕ, suc, ◌+◌, ◌≤◌, ◌<◌}
use native.Mathlib.Omega.{arith}
use lib.ListN.{length, set, length-set}
use borrow.Author.Tests.{eq-eqb, ne_eqb}
use Rattle.written.specs.Inner.{Wrote}
use Rattle.written.proofs.Writing.{Writing, wrote_one, writing-none, writing-part, writing-end}
use Rattle.sheet_format.specs.Rows.{ItemRow}
use Rattle.sheet_rows.specs.Inner.NameKeys.{NameKeys}
use Rattle.handin_format.specs.Sets.{SetField}
use Rattle.handin_format.specs.Sets.{set_from}
use Rattle.handin_format.specs.Lines.{first_no_of, set_questions}
use Rattle.std.specs.Prelude.{Result, Ok, Err}
use Rattle.std.specs.Result.{result_unwrap_or}
use Rattle.questions.specs.declared.Refusal.{Refusal}
use Rattle.handin_lines.specs.Inner.Naming.{set_field}
use Rattle.handin_lines.specs.Inner.Sets.{Checked}
use Rattle.handin_lines.specs.Inner.Splitting.{split_from}
use Rattle.handin_lines.specs.Inner.Naming.{ReadsNames}
use Rattle.handin_lines.specs.Inner.Sets.{sets_from, ChecksSets, PutsSets}
use Rattle.handin_lines.proofs.Splitting.{split-over}

-- the first no, where the first set is one, and where it is not
pub set-read : (r : Result ℕ Refusal) → result_unwrap_or r 0 ≡ (set_field r).set
set-read (Ok x) = refl
set-read (Err q) = refl

set-yes : (items : List ItemRow) (k : ℕ) (f : List ℕ) (fs : List (List ℕ)) → (set_from items f).number ≡ 0
    → first_no_of (set_questions items k (f ∷ fs)) ≡ first_no_of (set_questions items (suc k) fs)
unfolding first_no_of set_questions
set-yes items k f fs z = rw (eq-eqb (set_from items f).number 0 z)

set-no : (items : List ItemRow) (k : ℕ) (f : List ℕ) (fs : List (List ℕ)) → ((set_from items f).number ≡ 0 → ⊥)
    → first_no_of (set_questions items k (f ∷ fs)) ≡ record { number = (set_from items f).number; place = k }
unfolding first_no_of set_questions
set-no items k f fs n = rw (ne_eqb (set_from items f).number 0 n)

no-sets : (items : List ItemRow) (k : ℕ) → first_no_of (set_questions items k []) ≡ record { number = 0; place = 0 }
unfolding first_no_of set_questions
no-sets items k = refl

-- What is found of the sets, of a list of fields.
checks-sets : (low high : List ℕ) (count : ℕ) (l : List ℕ) (start : ℕ) (all : List (List ℕ)) (r : Checked) → all ≡ split_from 32 start l
    → ((items : List ItemRow) → NameKeys items low high count → first_no_of (set_questions items 4 all) ≡ record { number = r.number; place = r.place })
    → (r.number ≡ 0 → r.count ≡ length all) → (r.number ≡ 0 → r.place ≡ 0) → ChecksSets low high count l start r
checks-sets low high count l start all r e f c p =
    record {
      first = λ items t. ap (λ (fs : List (List ℕ)). first_no_of (set_questions items 4 fs)) (sym e) ∙ f items t;
      counted = λ z. c z ∙ ap length e;
      plain = p;
    }

-- The first no of all the sets is that of those still to come, and n of them are behind.
pub record Checking (low high : List ℕ) (count : ℕ) (all : List (List ℕ)) (n : ℕ) (rest : List (List ℕ)) : Type 0 where
  pub first : (items : List ItemRow) → NameKeys items low high count → first_no_of (set_questions items 4 all) ≡ first_no_of (set_questions items (4 + n) rest)
  pub counted : n + length rest ≡ length all

pub checking-first : (low high : List ℕ) (count : ℕ) (all : List (List ℕ)) → Checking low high count all 0 all
checking-first low high count all = record { first = λ items t. refl; counted = omega arith }

module _ (low high : List ℕ) (count : ℕ) (l : List ℕ) (start : ℕ) (all : List (List ℕ)) (n : ℕ) (rest : List (List ℕ)) (here : Checking low high count all n rest)
    (x : List ℕ) (more : List (List ℕ)) (q : rest ≡ x ∷ more) (f : SetField) (reads : ReadsNames low high count x f) where
  here-no : (items : List ItemRow) → NameKeys items low high count → first_no_of (set_questions items 4 all) ≡ first_no_of (set_questions items (4 + n) (x ∷ more))
  here-no items t = here.first items t ∙ ap (λ (fs : List (List ℕ)). first_no_of (set_questions items (4 + n) fs)) q

  number_is : (items : List ItemRow) → NameKeys items low high count → f.number ≡ (set_from items x).number
  number_is items t = ap (λ (y : SetField). y.number) (reads.each items t)

  pub checking-no : all ≡ split_from 32 start l → (r : Checked) → (f.number ≡ 0 → ⊥) → r.number ≡ f.number → r.place ≡ 4 + n → ChecksSets low high count l start r
  checking-no e r m a b =
      checks-sets low high count l start all r e
      (λ items t.
      here-no items t
      ∙ set-no items (4 + n) x more (λ z. m (number_is items t ∙ z))
      ∙ (λ i. record { number = (sym (a ∙ number_is items t)) i; place = (sym b) i }))
      (λ z. absurd (m (sym a ∙ z)))
      (λ z. absurd (m (sym a ∙ z)))

  pub checking-next : f.number ≡ 0 → Checking low high count all (n + 1) more
  checking-next z =
      let c = here.counted in
      let k = ap length q in
      record {
        first = λ items t.
            here-no items t
            ∙ set-yes items (4 + n) x more (sym (number_is items t) ∙ z)
            ∙ ap (λ (m : ℕ). first_no_of (set_questions items m more)) (omega arith);
        counted = omega (arith, c, k);
      }

-- no set is left
pub checking-over : (low high : List ℕ) (count : ℕ) (l : List ℕ) (start : ℕ) (all : List (List ℕ)) (n : ℕ) (rest : List (List ℕ)) → Checking low high count all n rest → rest ≡ []
    → all ≡ split_from 32 start l → ChecksSets low high count l start (record { number = 0; place = 0; count = n })
checking-over low high count l start all n rest here h e =
    let c = here.counted in
    let k = ap length h in
    checks-sets low high count l start all (record { number = 0; place = 0; count = n }) e
    (λ items t. here.first items t ∙ ap (λ (fs : List (List ℕ)). first_no_of (set_questions items (4 + n) fs)) h ∙ no-sets items (4 + n))
    (λ z. omega (arith, c, k))
    (λ z. refl)

-- the place is behind the line's end
pub checking-none : (low high : List ℕ) (count : ℕ) (l : List ℕ) (start : ℕ) → length l < start → ChecksSets low high count l start (record { number = 0; place = 0; count = 0 })
checking-none low high count l start h = checking-over low high count l start [] 0 [] (checking-first low high count []) refl (sym (split-over 32 l start h))

-- ---- what is written

-- The sets of these fields.
unfoldable pub sets_of : List ItemRow → List (List ℕ) → List ℕ
sets_of items fields = map (λ x. (set_from items x).set) fields

-- The sets of the rest of the fields are still to be written, from place n on.
pub record Putting (low high : List ℕ) (count : ℕ) (all : List (List ℕ)) (n : ℕ) (rest : List (List ℕ)) (entry out : List ℕ) : Type 0 where
  pub counted : n + length rest ≡ length all
  pub long : length out ≡ length entry
  pub each : (items : List ItemRow) → NameKeys items low high count → Writing entry 0 (sets_of items all) (sets_of items rest) out n

pub putting-first : (low high : List ℕ) (count : ℕ) (all : List (List ℕ)) (entry : List ℕ) → Putting low high count all 0 all entry entry
putting-first low high count all entry = record { counted = omega arith; long = refl; each = λ items t. writing-none entry 0 (sets_of items all) }

module _ (low high : List ℕ) (count : ℕ) (all : List (List ℕ)) (n : ℕ) (rest : List (List ℕ)) (entry out : List ℕ) (here : Putting low high count all n rest entry out)
    (x : List ℕ) (more : List (List ℕ)) (q : rest ≡ x ∷ more) where
  -- there is a place for one more
  pub putting-room : length all ≤ length entry → n < length out
  putting-room room =
      let c = here.counted in
      let m = here.long in
      let k = ap length q in
      omega arith

  pub putting-next : (f : SetField) → ReadsNames low high count x f → Putting low high count all (n + 1) more entry (set out n f.set)
  unfolding sets_of
  putting-next f reads =
      let c = here.counted in
      let k = ap length q in
      record {
        counted = omega (arith, c, k);
        long = length-set out n f.set ∙ here.long;
        each = λ items t.
            let s : f.set ≡ (set_from items x).set = ap (λ (y : SetField). y.set) (reads.each items t) in
            writing-part entry 0 (sets_of items all) (f.set ∷ []) (sets_of items more) out n (set out n f.set) (n + 1)
            (rw s (rw q at (here.each items t))) (wrote_one out n f.set);
      }

pub putting-over : (low high : List ℕ) (count : ℕ) (l : List ℕ) (start : ℕ) (all : List (List ℕ)) (n : ℕ) (rest : List (List ℕ)) (entry out : List ℕ) → Putting low high count all n rest entry out
    → rest ≡ [] → all ≡ split_from 32 start l → PutsSets low high count l start n entry out
unfolding sets_of sets_from
putting-over low high count l start all n rest entry out here h e =
    record {
      each = λ items t.
          subst (λ (fs : List (List ℕ)). Wrote entry 0 (sets_of items fs) out n) e
          (writing-end entry 0 (sets_of items all) (sets_of items rest) out n (ap (sets_of items) h) (here.each items t));
    }

-- the place is behind the line's end
pub putting-none : (low high : List ℕ) (count : ℕ) (l : List ℕ) (start : ℕ) (entry : List ℕ) → length l < start → PutsSets low high count l start 0 entry entry
putting-none low high count l start entry h =
    putting-over low high count l start [] 0 [] entry entry (putting-first low high count [] entry) refl (sym (split-over 32 l start h))
