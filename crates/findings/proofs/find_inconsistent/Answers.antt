-- Ranks in the right order, then scores; else no, whatever the scores are.
use Rattle.findings.proofs.Calls.{inconsistent-scores, inconsistent-ranks}
use Rattle.findings.proofs.find_inconsistent.Goals as goal

pub returns-then-lower-higher : goal.returns-then-lower-higher
returns-then-lower-higher c =
    let a = c.args in
    inconsistent-scores a.s a.v a.w c.if-lower-higher.true c.security_in-score.result.0 c.security_in-other.result.0
    c.security_in-score.ensures c.security_in-other.ensures c.at_most.result c.at_most.ensures

pub returns : goal.returns
returns c =
    inconsistent-ranks c.args.s c.args.v c.args.w c.requires.0.formed c.if-lower-higher.false
