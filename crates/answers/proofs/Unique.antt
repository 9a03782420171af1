-- Each contract leaves one answer.
-- Assumes nothing.
use mathlib.Core.Bool.{Bool, true, false}
use mathlib.Core.List.{List}
use Prim.Native.Nat.{ℕ}
use Rattle.setup.specs.declared.Setup.{Setup}
use Rattle.questions.specs.Contract.{OneAnswer}
use Rattle.reference.proofs.Unique.{base-unique, score-unique, counts-unique}
use Rattle.answers.specs.Answers.{bases_call, score_call, marks_call}

pub one-bases : (s : Setup) (target : ℕ) (list : List ℕ) → OneAnswer (bases_call s target list)
one-bases s target list a b p q =
    let e = base-unique false s s.graph target a.opening b.opening p.is_opening q.is_opening in
    let f = base-unique true s s.graph target a.lockout b.lockout p.is_lockout q.is_lockout in
    λ i. record { opening = e i; lockout = f i }

pub one-score : (loss : Bool) (s : Setup) (target : ℕ) → OneAnswer (score_call loss s target)
one-score loss s target a b p q = score-unique loss s s.graph target a b p.all q.all

pub one-marks : (loss : Bool) (s : Setup) (target : ℕ) (handed : List ℕ) → OneAnswer (marks_call loss s target handed)
one-marks loss s target handed a b p q =
    let e = counts-unique loss s s.graph target handed a.right a.repeated a.shut a.loose a.missing b.right b.repeated b.shut b.loose b.missing
    p.counts q.counts in
    λ i. record { right = e.0 i; repeated = e.1 i; shut = e.2 i; loose = e.3 i; missing = e.4 i }
