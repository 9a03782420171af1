use Rattle.families.proofs.Families.{least-to-all, minimal-members}
use Rattle.families.proofs.minimal_members.Goals as goal

pub returns : goal.returns
returns c =
    minimal-members _ _ (least-to-all _ _ c.requires _ _ c.loop-b-test.false c.loop-b.invariant)
