use Rattle.writing.proofs.HandingOut.{handed-whole}
use Rattle.writing.proofs.hand_out.Goals as goal

pub returns : goal.returns
returns c = handed-whole _ _ _ _ c.if-out-text.false c.put.ensures
