use Rattle.std.proofs.Common.{rules}
use Rattle.report_text.specs.Report.{is_account}
use Rattle.report_facts.proofs.sets.accounts_of.Goals as goal

pub returns : goal.returns
unfolding is_account
returns c = c.places_where.ensures.each (is_account c.args.s.now) (λ v b h e. search rules)
