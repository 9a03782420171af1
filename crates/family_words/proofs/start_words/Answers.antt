use native.Mathlib.Omega.{arith}
use mathlib.Core.Path.{refl}
use lib.ListN.{replicate}
use Rattle.family_words.proofs.Families.{filled-part}
use Rattle.family_words.proofs.Starts.{patterns, start-low, start-high}
use Rattle.family_words.proofs.start_words.Goals as goal

pub returns-then-k-lt6 : goal.returns-then-k-lt6
unfolding patterns
returns-then-k-lt6 c = start-low c.args.k _ c.if-k-lt6.true (filled-part _ (replicate 16 0) _ refl (c.fill.ensures.after (λ y e. e)))

pub returns : goal.returns
returns c = start-high _ _ _ _ c.if-k-lt6.false c.loop-b.invariant (omega arith)
