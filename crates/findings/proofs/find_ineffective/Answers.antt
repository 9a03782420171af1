-- Two scores of one kind, and which is at most the other.
use Rattle.findings.proofs.Calls.{ineffective-found}
use Rattle.findings.proofs.find_ineffective.Goals as goal

pub returns : goal.returns
returns c =
    let a = c.args in
    ineffective-found a.s a.v c.without_recovery.result c.without_recovery.ensures c.recoverability_in-score.result.0 c.recoverability_in-without.result.0
    c.recoverability_in-score.ensures c.recoverability_in-without.ensures c.at_most.result c.at_most.ensures
