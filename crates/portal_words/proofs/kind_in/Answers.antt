use Rattle.portal_words.proofs.Filling.{kind-credential, kind-account}
use Rattle.portal_words.proofs.kind_in.Goals as goal

pub returns-then-n-eq0 : goal.returns-then-n-eq0
returns-then-n-eq0 c = kind-credential _ c.if-n-eq0.true

pub returns : goal.returns
returns c = kind-account _ c.if-n-eq0.false
