use Rattle.std.proofs.Common.{rules, leb}
use Rattle.vertex_set.proofs.Decisions.{decide-leb}
use Rattle.scores.specs.Inner.Lists.{recoverability_at}
use Rattle.report_facts.proofs.Gathering.{places-are}
use Rattle.report_facts.proofs.sets.idle_places.Goals as goal

pub returns : goal.returns
returns c =
    let a = c.args in
    places-are _ _ _ (λ v. leb (recoverability_at a.risks.now v) (recoverability_at a.without.now v)) c.places_where.ensures (λ v. decide-leb _ _) (λ v b h e. search rules)
