-- The contract leaves one answer.
-- Assumes nothing.
use mathlib.Core.List.{List}
use Prim.Native.Nat.{ℕ}
use Rattle.vertex_set.proofs.Lists.{exactly-unique}
use Rattle.setup.specs.declared.Setup.{Setup}
use Rattle.questions.specs.Contract.{OneAnswer}
use Rattle.multiset_scores.specs.Scores.{FirstInScore}
use Rattle.multiset_scores.specs.Answers.{bags_call}

pub one-bags : (s : Setup) (target : ℕ) (places lengths : List ℕ) → OneAnswer (bags_call s target places lengths)
one-bags s target places lengths = exactly-unique (FirstInScore s target)
