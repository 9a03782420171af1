use Rattle.std.proofs.Common.{rules, ltb, leb, eqb, ◌/◌, ◌%◌, ◌^◌, ◌&&◌}
use Rattle.vertex_set.proofs.Sets.{member-decided}
use Rattle.vertex_set.proofs.Decisions.{decide-leb, decide-ltb}
use Rattle.setup.specs.Setup.{vertex_at}
use Rattle.scores.specs.Inner.Lists.{security_at}
use Rattle.report_facts.proofs.Gathering.{places-are, out-of-rank}
use Rattle.report_facts.proofs.sets.below_one.Goals as goal

pub returns : goal.returns
returns c =
    let a = c.args in
    places-are _ _ _ (λ w. eqb (a.accounts.0 / 2 ^ w % 2) 1 && (ltb (vertex_at a.s.now w).rank (vertex_at a.s.now a.v).rank && leb (security_at a.scores.now a.v) (security_at a.scores.now w)))
    c.places_where.ensures (λ w. out-of-rank _ _ _ _ w _ _ _ (member-decided _ w) (decide-ltb _ _) (decide-leb _ _)) (λ v b h e. search (rules, out-of-rank, decide-ltb))
