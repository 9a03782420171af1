use Rattle.std.proofs.Common.{rules, ltb}
use Rattle.vertex_set.proofs.Decisions.{decide-ltb}
use Rattle.scores.specs.Inner.Lists.{security_at}
use Rattle.report_facts.proofs.Gathering.{places-are}
use Rattle.report_facts.proofs.sets.weaker_places.Goals as goal

pub returns : goal.returns
returns c =
    let a = c.args in
    places-are _ _ _ (λ v. ltb (security_at a.scores.now v) (security_at a.without.now v)) c.places_where.ensures (λ v. decide-ltb _ _) (λ v b h e. search rules)
