use Rattle.living.proofs.Drawing.{rows-less}
use Rattle.living.proofs.Named.without.Goals as goal

pub returns : goal.returns
returns c = rows-less _ _ _ _ c.let_go.ensures
