use Rattle.portal_words.proofs.Filling.{value-blank, value-given}
use Rattle.portal_words.proofs.value_in.Goals as goal

pub returns-then-n-eq-BLANK : goal.returns-then-n-eq-BLANK
returns-then-n-eq-BLANK c = value-blank _ c.if-n-eq-BLANK.true

pub returns : goal.returns
returns c = value-given _ c.if-n-eq-BLANK.false
