-- Cutting a line into its fields, one after the other.
-- Assumes nothing.
use mathlib.Core.Path.{◌≡◌, refl, sym, ap, ◌∙◌}
use mathlib.Core.List.{List, [], ◌∷◌}
use mathlib.Core.Bool.{true, false, ◌&&◌, and-false}
use mathlib.Core.Logic.{⊎_elim}
use Prim.Native.Nat.{ℕ, zero, suc, ◌+◌, ◌-◌, ◌≤◌, ◌<◌}
use native.Mathlib.Nat.{not-suc-le-zero, le_of_suc-le-suc, sub-zero}
use native.Mathlib.Omega.{arith}
use lib.ListN.{length, take, drop, length-drop, drop_of_length-le}
use lib.Seq.{drop-drop, take_all}
use lib.Dec.{eqb, ltb, eqb-suc-suc}
use borrow.Author.Tests.{ne_eqb, ltb-true, ltb-false, lt-ltb}
use Rattle.vertex_set.proofs.Cases.{by_test, less-or}
use Rattle.sheet_format.specs.Text.{grow, fields_of, is_empty}
use Rattle.sheet_format.specs.Questions.{none_empty, question4, field}
use Rattle.std.specs.Prelude.{Some, None}
use Rattle.vertex_set.proofs.Decisions.{and_parts}
use Rattle.sheet_fields.specs.Inner.Parts.{until, more_follow, end_at, CutWell}

-- ---- the first field, and the others

pub until-le : (b : ℕ) (l : List ℕ) → until b l ≤ length l
unfolding until
until-le b [] = omega arith
until-le b (a ∷ l) = let h = until-le b l in by_test (eqb a b) (λ e. rw e (omega arith)) (λ e. rw e (omega arith))

pub fields-more : (l : List ℕ) → until 32 l < length l → fields_of l ≡ take (until 32 l) l ∷ fields_of (drop (suc (until 32 l)) l)
unfolding until fields_of grow
fields-more [] h = absurd (not-suc-le-zero h)
fields-more (a ∷ l) h =
    by_test (eqb a 32) (λ e. rw e) (λ e.
    let i = fields-more l (le_of_suc-le-suc (rw e at h)) in
    rw (e, i))

pub fields-last : (l : List ℕ) → length l ≤ until 32 l → fields_of l ≡ l ∷ []
unfolding until fields_of grow
fields-last [] h = refl
fields-last (a ∷ l) h =
    by_test (eqb a 32) (λ e. absurd (not-suc-le-zero (rw e at h))) (λ e.
    let i = fields-last l (le_of_suc-le-suc (rw e at h)) in
    rw (e, i))

pub first_field : (l : List ℕ) → field (fields_of l) 0 ≡ take (until 32 l) l
first_field l =
    ⊎_elim (λ h. rw (fields-more l h)) (λ h. rw (fields-last l h) (sym (take_all (until 32 l) l h))) (less-or (until 32 l) (length l))

fields-some : (l : List ℕ) → 0 < length (fields_of l)
fields-some l =
    ⊎_elim (λ h. rw (fields-more l h) (omega arith)) (λ h. rw (fields-last l h) (omega arith)) (less-or (until 32 l) (length l))

-- ---- question 4, field by field

take-some : (n : ℕ) (l : List ℕ) → 0 < n → n < length l → is_empty (take n l) ≡ false
unfolding is_empty
take-some zero l p h = absurd (not-suc-le-zero p)
take-some (suc n) [] p h = absurd (not-suc-le-zero h)
take-some (suc n) (a ∷ l) p h = refl

drop-some : (l : List ℕ) (n : ℕ) → n < length l → is_empty (drop n l) ≡ false
unfolding is_empty
drop-some [] n h = absurd (not-suc-le-zero h)
drop-some (a ∷ l) zero h = refl
drop-some (a ∷ l) (suc n) h = drop-some l n (le_of_suc-le-suc h)

question-more : (k : ℕ) (l : List ℕ) → 0 < until 32 l → until 32 l < length l →
    question4 (suc (suc k)) (fields_of l) ≡ question4 (suc k) (fields_of (drop (suc (until 32 l)) l))
unfolding question4 none_empty
question-more k l p h =
    rw (fields-more l h, eqb-suc-suc (length (fields_of (drop (suc (until 32 l)) l))) (suc k), take-some (until 32 l) l p h)

question-none : (k : ℕ) (l : List ℕ) → until 32 l ≡ 0 → question4 (suc (suc k)) (fields_of l) ≡ false
unfolding question4 none_empty is_empty
question-none k [] e = rw (fields-last [] (omega arith), ne_eqb 1 (suc (suc k)) (λ q. omega arith))
question-none k (a ∷ l) e = rw (fields-more (a ∷ l) (omega arith), e, and-false (eqb (suc (length (fields_of (drop 1 (a ∷ l))))) (suc (suc k))))

question-one : (k : ℕ) (l : List ℕ) → length l ≤ until 32 l → question4 (suc (suc k)) (fields_of l) ≡ false
unfolding question4
question-one k l h = rw (fields-last l h, ne_eqb 1 (suc (suc k)) (λ e. omega arith))

-- ---- from a field's start to its end

-- From `at` on stands a field that ends at e, and others behind it.
pub record Stepped (l : List ℕ) (at e : ℕ) : Type 0 where
  pub less : at < e
  pub inside : e < length l
  pub fields : fields_of (drop at l) ≡ take (e - at) (drop at l) ∷ fields_of (drop (e + 1) l)
  pub question : (k : ℕ) → question4 (suc (suc k)) (fields_of (drop at l)) ≡ question4 (suc k) (fields_of (drop (e + 1) l))

pub stepped : (l : List ℕ) (at e : ℕ) → Some e ≡ end_at l at → Stepped l at e
unfolding end_at more_follow
stepped l at e q =
    by_test (ltb 0 (until 32 (drop at l)) && ltb (until 32 (drop at l)) (length (drop at l)))
    (λ t. step (and_parts (ltb 0 (until 32 (drop at l))) (ltb (until 32 (drop at l)) (length (drop at l))) t) (let k : Some e ≡ Some (at + until 32 (drop at l)) = rw t at q in cc))
    (λ t. absurd (let k : Some e ≡ None = rw t at q in cc))
  where
    step : (ltb 0 (until 32 (drop at l)) ≡ true) × (ltb (until 32 (drop at l)) (length (drop at l)) ≡ true) → e ≡ at + until 32 (drop at l) → Stepped l at e
    step t e' =
        let p' = ltb-true 0 (until 32 (drop at l)) t.0 in
        let h' = ltb-true (until 32 (drop at l)) (length (drop at l)) t.1 in
        let d = length-drop at l in
        let u : until 32 (drop at l) ≡ e - at = omega arith in
        let v : at + suc (until 32 (drop at l)) ≡ e + 1 = omega arith in
        let r : drop (suc (until 32 (drop at l))) (drop at l) ≡ drop (e + 1) l =
        drop-drop (suc (until 32 (drop at l))) at l ∙ ap (λ (k : ℕ). drop k l) v in
        record {
          less = omega arith;
          inside = omega arith;
          fields = fields-more (drop at l) h' ∙ rw (r, u);
          question = λ k. question-more k (drop at l) p' h' ∙ rw r;
        }

pub not-stepped : (l : List ℕ) (at : ℕ) → None ≡ end_at l at → (k : ℕ) → question4 (suc (suc k)) (fields_of (drop at l)) ≡ false
unfolding end_at more_follow
not-stepped l at q k =
    by_test (ltb 0 (until 32 (drop at l)))
    (λ p. by_test (ltb (until 32 (drop at l)) (length (drop at l)))
    (λ h. absurd (let y : None ≡ Some (at + until 32 (drop at l)) = rw (p, h) at q in cc))
    (λ h. question-one k (drop at l) (ltb-false (until 32 (drop at l)) (length (drop at l)) h)))
    (λ p. question-none k (drop at l) (let u = ltb-false 0 (until 32 (drop at l)) p in omega arith))

-- what `end_of_field` returns
pub end_is : (l : List ℕ) (at e : ℕ) → e ≡ at + until 32 (drop at l) → at < e → e < length l → Some e ≡ end_at l at
unfolding end_at more_follow
end_is l at e q s h =
    let d = length-drop at l in
    let p : ltb 0 (until 32 (drop at l)) ≡ true = lt-ltb 0 (until 32 (drop at l)) (omega arith) in
    let i : ltb (until 32 (drop at l)) (length (drop at l)) ≡ true = lt-ltb (until 32 (drop at l)) (length (drop at l)) (omega arith) in
    rw (p, i, q)

pub end_not : (l : List ℕ) (at e : ℕ) → e ≡ at + until 32 (drop at l) → (at < e → e < length l → ⊥) → None ≡ end_at l at
unfolding end_at more_follow
end_not l at e q n =
    let d = length-drop at l in
    by_test (ltb 0 (until 32 (drop at l)))
    (λ p. by_test (ltb (until 32 (drop at l)) (length (drop at l)))
    (λ h. absurd (let p' = ltb-true 0 (until 32 (drop at l)) p in let h' = ltb-true (until 32 (drop at l)) (length (drop at l)) h in n (omega arith) (omega arith)))
    (λ h. rw (p, h)))
    (λ p. rw p)

-- ---- the last field

pub last_none : (l : List ℕ) (at : ℕ) → at ≡ length l → question4 1 (fields_of (drop at l)) ≡ false
unfolding question4 none_empty is_empty fields_of
last_none l at e = rw (drop_of_length-le l {i = at} (omega arith))

pub last_more : (l : List ℕ) (at : ℕ) → at + until 32 (drop at l) < length l → question4 1 (fields_of (drop at l)) ≡ false
unfolding question4
last_more l at h =
    let d = length-drop at l in
    let f = fields-some (drop (suc (until 32 (drop at l))) (drop at l)) in
    rw (
      fields-more (drop at l) (omega arith),
      ne_eqb (suc (length (fields_of (drop (suc (until 32 (drop at l))) (drop at l))))) 1 (λ e. omega arith),
    )

pub last-fields : (l : List ℕ) (at : ℕ) → length l ≤ at + until 32 (drop at l) → fields_of (drop at l) ≡ drop at l ∷ []
last-fields l at h = let d = length-drop at l in fields-last (drop at l) (omega arith)

pub last-is : (l : List ℕ) (at : ℕ) → (at ≡ length l → ⊥) → at ≤ length l → length l ≤ at + until 32 (drop at l) → question4 1 (fields_of (drop at l)) ≡ true
unfolding question4 none_empty
last-is l at n i h = rw (last-fields l at h, drop-some l at (omega (arith, n)))

-- ---- four fields

pub cuts : (l : List ℕ) (a b d : ℕ) → Stepped l 0 a → Stepped l (a + 1) b → Stepped l (b + 1) d
    → (d + 1 ≡ length l → ⊥) → length l ≤ d + 1 + until 32 (drop (d + 1) l) → CutWell l (record { first = a; second = b; third = d })
cuts l a b d x y z n h =
    record {
      yes = x.question 2 ∙ y.question 1 ∙ z.question 0 ∙ last-is l (d + 1) n (omega (arith, z.inside)) h;
      places = record { first = omega (arith, y.less); second = omega (arith, z.less); third = z.inside };
      fields = x.fields ∙ rw (y.fields, z.fields, last-fields l (d + 1) h, sub-zero a);
    }
