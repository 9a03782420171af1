use Rattle.report_facts.proofs.Findings.{findings-are}
use Rattle.report_facts.proofs.figures.findings_of.Goals as goal

pub returns : goal.returns
returns c =
    findings-are c.args.s c.requires.formed c.without_recovery-less.result _ _ _ _ c.scores_with-without.result c.scores_with-own.result
    c.weaker_places-back.result c.idle_places-idle.result c.without_recovery-less.ensures c.scores_with-without.ensures c.scores_with-own.ensures
    c.weaker_places-back.ensures c.idle_places-idle.ensures
