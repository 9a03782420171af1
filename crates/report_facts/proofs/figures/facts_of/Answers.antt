use Rattle.report_facts.proofs.Findings.{facts-are}
use Rattle.report_facts.proofs.figures.facts_of.Goals as goal

pub returns : goal.returns
returns c =
    facts-are c.args.s c.requires.well_formed.0 _ _ _ c.name_places-names.result c.findings_of-findings.result c.accounts_of-accounts.result c.chosen.result c.chosen-2.result
    c.below_all-below.result c.values_of-starts.result c.values_of-losses.result c.requires.well_formed.1 c.name_places-names.ensures c.findings_of-findings.ensures
    c.accounts_of-accounts.ensures c.below_all-below.ensures c.chosen.ensures c.chosen-2.ensures c.values_of-starts.ensures c.values_of-losses.ensures
