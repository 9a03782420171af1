use Rattle.findings.proofs.security_in.Goals as goal

pub returns : goal.returns
returns c = rw c.of.ensures c.score_of.ensures.all
