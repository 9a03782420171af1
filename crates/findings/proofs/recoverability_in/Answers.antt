use Rattle.findings.proofs.recoverability_in.Goals as goal

pub returns : goal.returns
returns c = rw c.of.ensures c.score_of.ensures.all
