-- The contract leaves one answer: there is one next set, and where there is one there is not "no more".
-- Assumes nothing.
use mathlib.Core.Path.{refl, ap}
use Prim.Native.Nat.{ℕ}
use Rattle.setup.specs.declared.Setup.{Setup}
use Rattle.questions.specs.Contract.{OneAnswer}
use Rattle.next_sets.specs.Answers.{Next, Shown, End, next_call}
use Rattle.next_sets.proofs.Order.{next-unique}

pub one-next : (s : Setup) (target last : ℕ) → OneAnswer (next_call s target last)
one-next s target last (Shown x) (Shown y) p q = ap Shown (next-unique s target last x y p q)
one-next s target last (Shown x) End p q = absurd (q.none x p.is p.after)
one-next s target last End (Shown y) p q = absurd (p.none y q.is q.after)
one-next s target last End End p q = refl
