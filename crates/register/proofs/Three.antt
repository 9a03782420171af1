-- Records and attempts with the same student, target and way.
-- Assumes nothing.
use mathlib.Core.Path.{◌≡◌, refl, sym, ◌∙◌, ap}
use mathlib.Core.Bool.{Bool, true, false}
use mathlib.Core.List.{List, [], ◌∷◌}
use mathlib.Core.Logic.{inl, inr, ⊎_elim}
use Prim.Native.Nat.{ℕ}
use native.Mathlib.Omega.{arith}
use lib.Dec.{eqb}
use borrow.Author.Tests.{eq-eqb, eqb-true}
use Rattle.vertex_set.proofs.Cases.{by_test}
use Rattle.vertex_set.proofs.Decisions.{and_parts}
use Rattle.setup.specs.declared.Setup.{Setup}
use Rattle.records.specs.declared.Record.{Record}
use Rattle.records.specs.Records.{way_code, RecordOf, same_three, has_three, with_record, without}
use Rattle.records.proofs.Laws.{if-true, if-false}
use Rattle.register.specs.Afternoon.{Attempt, SameAttempt, IsOf, Held}

record Three (r n : Record) : Type 0 where
  student : r.student ≡ n.student
  target : r.target ≡ n.target
  way : r.way ≡ n.way

three-out : (r n : Record) → same_three r n ≡ true → Three r n
unfolding same_three
three-out r n e =
    let a = and_parts (eqb r.student n.student) _ e in
    let b = and_parts (eqb r.target n.target) _ a.1 in
    record { student = eqb-true _ _ a.0; target = eqb-true _ _ b.0; way = eqb-true _ _ b.1 }

three-in : (r n : Record) → Three r n → same_three r n ≡ true
unfolding same_three
three-in r n h = rw (eq-eqb r.student n.student h.student, eq-eqb r.target n.target h.target) (eq-eqb r.way n.way h.way)

way-once : (a b : Bool) → way_code a ≡ way_code b → a ≡ b
way-once false false e = refl
way-once false true e = absurd (omega (arith, e))
way-once true false e = absurd (omega (arith, e))
way-once true true e = refl

pub same_back : {x y : Attempt} → SameAttempt x y → SameAttempt y x
same_back h = record { student = sym h.student; target = sym h.target; way = sym h.way }

pub same_then : {x y z : Attempt} → SameAttempt x y → SameAttempt y z → SameAttempt x z
same_then h g = record { student = h.student ∙ g.student; target = h.target ∙ g.target; way = h.way ∙ g.way }

pub is-of : {s : Setup} {x : Attempt} {r : Record} → RecordOf s x.student x.target x.loss x.handed r → IsOf r x
is-of h = record { student = h.is_student; target = h.is_target; way = h.is_way }

-- two records of the same three, and two attempts that a record is of
pub same_of : (r n : Record) (x : Attempt) → same_three r n ≡ true → IsOf n x → IsOf r x
same_of r n x e h =
    let g = three-out r n e in
    record { student = g.student ∙ h.student; target = g.target ∙ h.target; way = g.way ∙ h.way }

pub of-same : (r n : Record) (x : Attempt) → IsOf r x → IsOf n x → same_three r n ≡ true
of-same r n x h g = three-in r n (record { student = h.student ∙ sym g.student; target = h.target ∙ sym g.target; way = h.way ∙ sym g.way })

pub of-both : (r : Record) (x y : Attempt) → IsOf r x → IsOf r y → SameAttempt x y
of-both r x y h g =
    record { student = sym h.student ∙ g.student; target = sym h.target ∙ g.target; way = way-once x.loss y.loss (sym h.way ∙ g.way) }

pub of-moved : (r : Record) (x y : Attempt) → IsOf r x → SameAttempt x y → IsOf r y
of-moved r x y h g = record { student = h.student ∙ g.student; target = h.target ∙ g.target; way = h.way ∙ ap way_code g.way }

-- ---- attempts that have a record

pub held-three : (n : Record) (x : Attempt) (rs : List Record) → IsOf n x → Held rs x → has_three n rs ≡ true
held-three n x [] h g = absurd g
held-three n x (r ∷ rs) h (inl g) = if-true _ _ _ (of-same r n x g h)
held-three n x (r ∷ rs) h (inr g) = by_test (same_three r n) (λ e. if-true _ _ _ e) (λ e. if-false _ _ _ e ∙ held-three n x rs h g)

pub held-without : (k : ℕ) (x : Attempt) (rs : List Record) → (x.student ≡ k → ⊥) → Held rs x → Held (without k rs) x
held-without k x [] d g = absurd g
held-without k x (r ∷ rs) d g =
    by_test (eqb r.student k)
    (λ e. rw (if-true _ (without k rs) (r ∷ without k rs) e)
    (⊎_elim (λ h. absurd (d (sym h.student ∙ eqb-true r.student k e))) (held-without k x rs d) g))
    (λ e. rw (if-false _ (without k rs) (r ∷ without k rs) e) (⊎_elim (λ h. inl h) (λ h. inr (held-without k x rs d h)) g))

pub held_new : (n : Record) (x : Attempt) (rs : List Record) → IsOf n x → Held (with_record n rs) x
held_new n x [] h = inl h
held_new n x (r ∷ rs) h =
    by_test (same_three r n) (λ e. rw (if-true _ (n ∷ rs) (r ∷ with_record n rs) e) (inl h)) (λ e. rw (if-false _ (n ∷ rs) (r ∷ with_record n rs) e) (inr (held_new n x rs h)))

pub held_with : (n : Record) (x : Attempt) (rs : List Record) → Held rs x → Held (with_record n rs) x
held_with n x [] g = absurd g
held_with n x (r ∷ rs) g =
    by_test (same_three r n)
    (λ e. rw (if-true _ (n ∷ rs) (r ∷ with_record n rs) e) (⊎_elim (λ h. inl (over e h)) (λ h. inr h) g))
    (λ e. rw (if-false _ (n ∷ rs) (r ∷ with_record n rs) e) (⊎_elim (λ h. inl h) (λ h. inr (held_with n x rs h)) g))
  where
    over : same_three r n ≡ true → IsOf r x → IsOf n x
    over e h =
        let t = three-out r n e in
        record { student = sym t.student ∙ h.student; target = sym t.target ∙ h.target; way = sym t.way ∙ h.way }
