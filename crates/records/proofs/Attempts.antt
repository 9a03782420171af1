-- What the marking answers, as the task of a hand-in.
-- Assumes nothing.
use mathlib.Core.Path.{◌≡◌, refl, sym, ap, subst}
use mathlib.Core.Bool.{Bool, true, false}
use mathlib.Core.List.{List, [], ◌∷◌}
use Prim.Native.Nat.{ℕ}
use native.Mathlib.Omega.{arith}
use lib.ListN.{length, get_or}
use mir.Val.{bool_byte}
use Rattle.std.specs.Prelude.{Result, Ok, Err}
use Rattle.setup.specs.declared.Setup.{Setup}
use Rattle.questions.specs.declared.Refusal.{Refusal}
use Rattle.questions.specs.Refusals.{number}
use Rattle.questions.specs.Questions.{asks12, asks13}
use Rattle.questions.specs.Contract.{Outcome, gives, ends, turns_away, Answers, Fulfils}
use Rattle.questions.proofs.Asks.{asks-retold}
use Rattle.questions.proofs.Contract.{answer-told}
use Rattle.answers.specs.declared.Marks.{Marks}
use Rattle.answers.specs.Answers.{marks_reply, AreMarks, marks_call}
use Rattle.records.specs.declared.Task.{Task}
use Rattle.records.specs.declared.Task.TheVariants as task
use Rattle.records.specs.Records.{way_code}
use Rattle.records.specs.Inner.{refused_by, Laid, Attempts}

pub coded : (loss : Bool) → bool_byte loss ≡ way_code loss
coded true = refl
coded false = refl

module _ (s : Setup) (student target way : ℕ) (loss : Bool) (handed : List ℕ) (is_way : way ≡ way_code loss) where
  abbrev values : Marks → List ℕ
  values m = m.right ∷ m.repeated ∷ m.shut ∷ m.loose ∷ m.missing ∷ []

  -- the task of a hand-in whose sets got this answer
  abbrev task_of : Result Marks Refusal → Task
  task_of (Ok m) = task.HandIn (record { student = student; target = target; way = way; right = m.right; repeated = m.repeated; shut = m.shut; loose = m.loose; missing = m.missing })
  task_of (Err q) = task.Refuse (number q)

  -- what was promised of the values stands in the five fields
  marked : (m n : Marks) → values m ≡ values n → AreMarks loss s target handed n → AreMarks loss s target handed m
  marked m n e h =
      subst (AreMarks loss s target handed)
      (sym (ap (λ (v : List ℕ). record { right = get_or v 0 0; repeated = get_or v 1 0; shut = get_or v 2 0; loose = get_or v 3 0; missing = get_or v 4 0 }) e)) h

  laid : (answer : Result Marks Refusal) → (m : Marks) → AreMarks loss s target handed m → ends (marks_reply answer) [] ≡ ends (gives (values m)) []
      → (refused_by (task_of answer) ≡ 0) × Laid s student target loss handed (task_of answer)
  laid (Ok k) m h e =
      let g = marked k m (ap (λ (o : Outcome). o.reply.values) e) h in
      (refl, record { row = record { student = student; target = target; way = way; right = k.right; repeated = k.repeated; shut = k.shut; loose = k.loose; missing = k.missing }; is = refl; is_record = record { is_student = refl; is_target = refl; is_way = is_way; counts = g.counts; full = g.full } })
  laid (Err q) m h e = absurd (let k = ap (λ (o : Outcome). length o.reply.values) e in omega (arith, k))

  refused : (answer : Result Marks Refusal) (q : ℕ) → ends (marks_reply answer) [] ≡ turns_away [] q → refused_by (task_of answer) ≡ q
  refused (Ok m) q e = ap (λ (o : Outcome). o.reply.number) e
  refused (Err p) q e = ap (λ (o : Outcome). o.reply.number) e

  tasks : (answer : Result Marks Refusal) → Fulfils (marks_call loss s target handed) (ends (marks_reply answer) []) → Attempts s student target loss handed (task_of answer)
  unfolding Fulfils
  tasks answer c =
      record {
        asked = asks-retold (turns_away []) (λ q. q) (Answers (marks_call loss s target handed))
            (λ r. (r ≡ 0) × Laid s student target loss handed (task_of answer)) (asks12 s ∷ asks13 s target ∷ [])
            (ends (marks_reply answer) []) (refused_by (task_of answer)) (λ q l. refused answer q)
            (λ y a. let t = answer-told (asks12 s ∷ asks13 s target ∷ []) (AreMarks loss s target handed) values (ends (marks_reply answer) []) a in
            laid answer t.0 t.1 t.2) c;
      }

  pub attempts : (answer given : Result Marks Refusal) → Fulfils (marks_call loss s target handed) (ends (marks_reply given) []) → given ≡ answer
      → Attempts s student target loss handed (task_of answer)
  attempts answer given c e = subst (λ (r : Result Marks Refusal). Attempts s student target loss handed (task_of r)) e (tasks given c)
