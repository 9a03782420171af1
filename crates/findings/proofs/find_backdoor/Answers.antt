-- Two scores of one kind, and which is below the other.
use Rattle.findings.proofs.Calls.{backdoor-found}
use Rattle.findings.proofs.find_backdoor.Goals as goal

pub returns : goal.returns
returns c =
    let a = c.args in
    backdoor-found a.s a.v c.without_recovery.result c.without_recovery.ensures c.security_in-score.result.0 c.security_in-without.result.0
    c.security_in-score.ensures c.security_in-without.ensures c.below.result c.below.ensures
