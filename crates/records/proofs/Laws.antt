-- What the functions over the slice leave there. Lists and numbers alone: nothing of the program logic.
-- Assumes nothing.
use mathlib.Core.Path.{◌≡◌, refl, sym, ◌∙◌, ap, subst}
use mathlib.Core.Bool.{Bool, true, false, cond}
use mathlib.Core.List.{List, [], ◌∷◌, ◌++◌, append_assoc, append-nil}
use Prim.Native.Nat.{ℕ, zero, suc, ◌+◌, ◌<◌, ◌≤◌, max}
use native.Mathlib.Omega.{arith}
use lib.ListN.{length, take, drop, get_or, set, length-append, take-append-drop}
use lib.Seq.{set-append_seam, get_or-append-add, get_or-drop, drop-cons, drop_at, length-take-le}
use lib.Dec.{T as Holds, eqb, ltb}
use borrow.Author.Tests.{eq-eqb, ne_eqb, lt-ltb, le-ltb, ltb-true, ltb-false}
use Rattle.std.proofs.lemmas.List.{take_more}
use Rattle.std.specs.List.{position_or_len}
use Rattle.vertex_set.proofs.Cases.{by_test}
use Rattle.records.specs.Records.{same_three, has_three, has_student, with_record, without, with_slice}
use Rattle.records.specs.Inner.{hand_in, withdraw, done_with, outcome_of}
use Rattle.records.specs.declared.Record.{Record}
use Rattle.records.specs.declared.Task.{Task}
use Rattle.std.specs.Prelude.{Option, Some, None, unwrap_or}

differ : true ≡ false → ⊥
differ e = subst Holds e tt

pub if-true : {X : Type 0} (b : Bool) (x y : X) → b ≡ true → cond b x y ≡ x
if-true b x y e = ap (λ (c : Bool). cond c x y) e

pub if-false : {X : Type 0} (b : Bool) (x y : X) → b ≡ false → cond b x y ≡ y
if-false b x y e = ap (λ (c : Bool). cond c x y) e

pub with_record-length : (n : Record) (b : List Record) → length (with_record n b) ≡ cond (has_three n b) (length b) (suc (length b))
with_record-length n [] = refl
with_record-length n (r ∷ b) = by_test (same_three r n)
    (λ s. ap length (if-true (same_three r n) (n ∷ b) (r ∷ with_record n b) s) ∙ sym (ap (λ (f : Bool). cond f (suc (length b)) (suc (suc (length b)))) (if-true (same_three r n) true (has_three n b) s)))
    (λ s. ap length (if-false (same_three r n) (n ∷ b) (r ∷ with_record n b) s) ∙ ap suc (with_record-length n b) ∙ apart (has_three n b) ∙ sym (ap (λ (f : Bool). cond f (suc (length b)) (suc (suc (length b)))) (if-false (same_three r n) true (has_three n b) s)))
  where
    apart : (f : Bool) → suc (cond f (length b) (suc (length b))) ≡ cond f (suc (length b)) (suc (suc (length b)))
    apart true = refl
    apart false = refl

-- ---- a hand-in

-- the place of the new record
abbrev pub place_of : Record → List Record → ℕ
place_of n u = position_or_len (λ r. same_three r n) u

-- where it is, and how many records are used then
pub place-most : (n : Record) (u : List Record) → place_of n u ≤ length u
place-most n [] = omega arith
place-most n (r ∷ u) = by_test (same_three r n) (λ s. rw s (omega arith)) (λ s. rw s (omega (arith, place-most n u)))

pub place-found : (n : Record) (u : List Record) → place_of n u < length u → length (with_record n u) ≡ length u
place-found n [] = λ l. absurd (omega (arith, l))
place-found n (r ∷ u) = by_test (same_three r n) (λ s. rw s (λ l. refl)) (λ s. rw s (λ l. ap suc (place-found n u (omega (arith, l)))))

pub place-new : (n : Record) (u : List Record) → length u ≤ place_of n u → length (with_record n u) ≡ suc (length u)
place-new n [] = λ l. refl
place-new n (r ∷ u) = by_test (same_three r n) (λ s. rw s (λ l. absurd (omega (arith, l)))) (λ s. rw s (λ l. ap suc (place-new n u (omega (arith, l)))))

-- what stands in the slice once it is stored
pub stored : (n : Record) (u z : List Record) → place_of n u < length (u ++ z)
    → set (u ++ z) (place_of n u) n ≡ with_record n u ++ drop (length (with_record n u)) (u ++ z)
stored n [] [] = λ l. absurd (omega (arith, l))
stored n [] (y ∷ z) = λ l. refl
stored n (r ∷ u) z = by_test (same_three r n)
    (λ s. rw s (λ l. ap (λ (v : List Record). n ∷ (u ++ v)) (sym (drop_at u z (length u) refl))))
    (λ s. rw s (let e : 1 + place_of n u ≡ suc (place_of n u) = omega arith in rw e (λ l. ap (λ (v : List Record). r ∷ v) (stored n u z (omega (arith, l))))))

-- what the search for the place comes to
pub placed : (n : Record) (u : List Record) (used place : ℕ) (found : Option ℕ) → length u ≡ used
    → found ≡ cond (ltb (place_of n u) (length u)) (Some (place_of n u)) None → place ≡ unwrap_or found used → place ≡ place_of n u
placed n u used place found e f g = by_test (ltb (place_of n u) (length u))
    (λ t. g ∙ ap (λ (o : Option ℕ). unwrap_or o used) (f ∙ if-true (ltb (place_of n u) (length u)) (Some (place_of n u)) None t))
    (λ t. g ∙ ap (λ (o : Option ℕ). unwrap_or o used) (f ∙ if-false (ltb (place_of n u) (length u)) (Some (place_of n u)) None t)
    ∙ (let a = place-most n u in let b = ltb-false (place_of n u) (length u) t in omega arith))

module _ (ys : List Record) (used place : ℕ) (n : Record) (h : used ≤ length ys) (p : place ≡ place_of n (take used ys)) where
  long : length (take used ys) ≡ used
  long = length-take-le used ys h

  pub all-used : place ≡ length ys → with_slice (record { number = 26; used = used }) ys ≡ hand_in ys used n
  all-used e =
      let u : List Record = take used ys in
      let a = place-most n u in
      let b = place-new n u (omega (arith, long)) in
      sym (if-true (ltb (length ys) (length (with_record n u))) _ _ (lt-ltb _ _ (omega (arith, long))))

  pub laid-down : (many : ℕ) → (place ≡ length ys → ⊥) → many ≡ max used (place + 1)
      → with_slice (record { number = 0; used = many }) (set ys place n) ≡ hand_in ys used n
  laid-down many apart m =
      let u : List Record = take used ys in
      let a = place-most n u in
      let l : place < length ys = omega (arith, long, apart) in
      let whole : u ++ drop used ys ≡ ys = take-append-drop used ys in
      let count : many ≡ length (with_record n u) = by_test (ltb place used)
      (λ t. let b = ltb-true place used t in let c = place-found n u (omega (arith, long)) in omega (arith, long))
      (λ t. let b = ltb-false place used t in let c = place-new n u (omega (arith, long)) in omega (arith, long)) in
      let left : set ys place n ≡ with_record n u ++ drop (length (with_record n u)) ys =
      rw p (subst (λ (l : List Record). place_of n u < length l → set l (place_of n u) n ≡ with_record n u ++ drop (length (with_record n u)) l) whole (stored n u (drop used ys)) (omega arith)) in
      ap (λ (m : ℕ). with_slice (record { number = 0; used = m }) (set ys place n)) count ∙ ap (with_slice (record { number = 0; used = length (with_record n u) })) left
      ∙ sym (if-false (ltb (length ys) (length (with_record n u))) _ _ (le-ltb _ _ (by_test (ltb place used)
      (λ t. let b = ltb-true place used t in let c = place-found n u (omega (arith, long)) in omega (arith, long))
      (λ t. let b = ltb-false place used t in let c = place-new n u (omega (arith, long)) in omega (arith, long)))))

-- ---- a withdrawal

-- w, and behind it what stands in y
abbrev pub over : List Record → List Record → List Record
over w y = w ++ drop (length w) y

split-index : (m i : ℕ) → m ≤ i → (j : ℕ) × (i ≡ m + j)
split-index zero i l = (i, omega arith)
split-index (suc m) zero l = absurd (omega (arith, l))
split-index (suc m) (suc i) l = let r = split-index m i (omega (arith, l)) in (r.0, omega (arith, r.1))

over-get : (w y : List Record) (i : ℕ) (d : Record) → length w ≤ i → get_or (over w y) i d ≡ get_or y i d
over-get w y i d l = let r = split-index (length w) i l in
    ap (λ (k : ℕ). get_or (over w y) k d) r.1 ∙ get_or-append-add w (drop (length w) y) r.0 d ∙ get_or-drop (length w) y r.0 d ∙ sym (ap (λ (k : ℕ). get_or y k d) r.1)

snoc-length : (w : List Record) (r : Record) → length (w ++ (r ∷ [])) ≡ suc (length w)
snoc-length w r = length-append w (r ∷ []) ∙ omega arith

over-put : (w y : List Record) (r d : Record) → length w < length y → set (over w y) (length w) r ≡ over (w ++ (r ∷ [])) y
over-put w y r d l =
    ap (λ (m : List Record). set (w ++ m) (length w) r) (drop-cons y (length w) d l) ∙ set-append_seam w (get_or y (length w) d) (drop (suc (length w)) y) r
    ∙ sym (append_assoc w (r ∷ []) (drop (suc (length w)) y)) ∙ ap (λ (k : ℕ). (w ++ (r ∷ [])) ++ drop k y) (sym (snoc-length w r))

-- the students' records: none is found exactly where all are kept
pub without-le : (k : ℕ) (u : List Record) → length (without k u) ≤ length u
without-le k [] = omega arith
without-le k (r ∷ u) = by_test (eqb r.student k)
    (λ s. rw s (omega (arith, without-le k u))) (λ s. rw s (omega (arith, without-le k u)))

pub any-less : (k : ℕ) (u : List Record) → has_student k u ≡ true → length (without k u) < length u
any-less k [] e = absurd (differ (sym e))
any-less k (r ∷ u) e = by_test (eqb r.student k)
    (λ s. rw s (omega (arith, without-le k u))) (λ s. rw s (omega (arith, any-less k u (sym (if-false (eqb r.student k) true (has_student k u) s) ∙ e))))

pub none-same : (k : ℕ) (u : List Record) → has_student k u ≡ false → without k u ≡ u
none-same k [] e = refl
none-same k (r ∷ u) e = by_test (eqb r.student k)
    (λ s. absurd (differ (sym (if-true (eqb r.student k) true (has_student k u) s) ∙ e)))
    (λ s. if-false (eqb r.student k) (without k u) (r ∷ without k u) s ∙ ap (λ (v : List Record). r ∷ v) (none-same k u (sym (if-false (eqb r.student k) true (has_student k u) s) ∙ e)))

without-snoc : (k : ℕ) (u : List Record) (r : Record) → without k (u ++ (r ∷ [])) ≡ without k u ++ cond (eqb r.student k) [] (r ∷ [])
without-snoc k [] r = refl
without-snoc k (q ∷ u) r = by_test (eqb q.student k) (λ s. rw s (without-snoc k u r)) (λ s. rw s (ap (λ (v : List Record). q ∷ v) (without-snoc k u r)))

-- The first i records have been looked at: those of them that stay stand in front, and every place behind these is as it was.
pub record Removing (k : ℕ) (ys : List Record) (i kept : ℕ) (l : List Record) : Type 0 where
  pub inside : i ≤ length ys
  pub count : kept ≡ length (without k (take i ys))
  pub list : l ≡ over (without k (take i ys)) ys

module _ (k : ℕ) (ys : List Record) where
  pub removing-none : Removing k ys 0 0 ys
  removing-none = record { inside = omega arith; count = refl; list = refl }

  module _ (i kept : ℕ) (l : List Record) (w : Removing k ys i kept l) where
    pub kept-most : kept ≤ i
    kept-most = let a = without-le k (take i ys) in let b = length-take-le i ys w.inside in let c = w.count in omega arith

    pub reads : (d : Record) → get_or l i d ≡ get_or ys i d
    reads d = rw w.list (over-get (without k (take i ys)) ys i d (let a = kept-most in let c = w.count in omega arith))

    -- the next one is looked at
    next : (r d : Record) → r ≡ get_or l i d → i < length ys → without k (take (i + 1) ys) ≡ without k (take i ys) ++ cond (eqb r.student k) [] (r ∷ [])
    next r d e h =
        ap (without k) (take_more ys i d h ∙ ap (λ (x : Record). take i ys ++ (x ∷ [])) (sym (e ∙ reads d))) ∙ without-snoc k (take i ys) r

    pub removing-one : (r d : Record) → r ≡ get_or l i d → i < length ys → eqb r.student k ≡ true → Removing k ys (i + 1) kept l
    removing-one r d e h s =
        let n : without k (take (i + 1) ys) ≡ without k (take i ys) = next r d e h ∙ rw s (append-nil (without k (take i ys))) in
        record { inside = omega arith; count = rw n w.count; list = rw n w.list }

    pub removing-more : (r d : Record) → r ≡ get_or l i d → i < length ys → eqb r.student k ≡ false → Removing k ys (i + 1) (kept + 1) (set l kept r)
    removing-more r d e h s =
        let n : without k (take (i + 1) ys) ≡ without k (take i ys) ++ (r ∷ []) = next r d e h ∙ rw s refl in
        let c = w.count in
        let m = kept-most in
        record {
          inside = omega arith;
          count = rw n (omega (arith, snoc-length (without k (take i ys)) r));
          list = rw (n, w.list, c) (over-put (without k (take i ys)) ys r d (omega arith));
        }

  -- where all are kept none was of the student
  pub removed-none : (used kept : ℕ) (l : List Record) → Removing k ys used kept l → kept ≡ used → with_slice (record { number = 27; used = used }) l ≡ withdraw ys used k
  removed-none used kept l w e =
      let c = w.count in
      let long = length-take-le used ys w.inside in
      let same : without k (take used ys) ≡ take used ys = by_test (has_student k (take used ys)) (λ s. let a = any-less k (take used ys) s in absurd (omega arith)) (none-same k (take used ys)) in
      let as_was : l ≡ ys = w.list ∙ rw same (ap (λ (n : ℕ). take used ys ++ drop n ys) long ∙ take-append-drop used ys) in
      ap (with_slice (record { number = 27; used = used })) as_was ∙ sym (if-true (eqb (length (without k (take used ys))) used) _ _ (eq-eqb _ _ (sym c ∙ e)))

  pub removed-some : (used kept : ℕ) (l : List Record) → Removing k ys used kept l → (kept ≡ used → ⊥) → with_slice (record { number = 0; used = kept }) l ≡ withdraw ys used k
  removed-some used kept l w n =
      ap (λ (m : ℕ). with_slice (record { number = 0; used = m }) l) w.count ∙ ap (with_slice (record { number = 0; used = length (without k (take used ys)) })) w.list
      ∙ sym (if-false (eqb (length (without k (take used ys))) used) _ _ (ne_eqb _ _ (λ e. n (w.count ∙ e))))

-- ---- the whole call

pub overfull : (ys : List Record) (used : ℕ) (t : Task) → length ys < used → with_slice (record { number = 25; used = used }) ys ≡ outcome_of ys used t
unfolding outcome_of
overfull ys used t h = sym (if-true (ltb (length ys) used) _ _ (lt-ltb _ _ h))

pub goes_on : (ys : List Record) (used : ℕ) (t u : Task) → used ≤ length ys → t ≡ u → done_with ys used u ≡ outcome_of ys used t
unfolding outcome_of
goes_on ys used t u h e = sym (if-false (ltb (length ys) used) _ _ (le-ltb _ _ h) ∙ ap (done_with ys used) e)
