use native.Mathlib.Omega.{arith}
use Rattle.family_words.proofs.Families.{merge-part}
use Rattle.family_words.proofs.merge_in.Goals as goal

pub returns : goal.returns
returns c = merge-part _ _ _ _ _ c.loop-b.invariant (omega arith)
