use Rattle.std.proofs.Common.{Fits, w64, rules, ◌<◌, ◌^◌, refl, sym, subst, ◌∙◌}
use lib.ListN.{get_or}
use Rattle.ways.proofs.Searches.{AllReady, all-ready, none-is-ready, vertex-added}
use Rattle.ways.proofs.Search.step.Goals as goal

pub returns-in_err-v : goal.returns-in_err-v
returns-in_err-v c =
    let all = all-ready _ _ _ _ _ c.requires.search c.admitted-more.ensures in
    rw c.from_residual.ensures (refl, none-is-ready _ _ _ all (sym c.vertices_of-ready.ensures ∙ c.in_err-v.ensures.steps))

pub returns : goal.returns
returns c =
    let a = c.args in
    let held = a.self.now.held.0 in
    let all = subst (AllReady a.graph.now held) (sym c.vertices_of-ready.ensures) (all-ready _ _ _ _ _ c.requires.search c.admitted-more.ensures) in
    let taken = c.in_ok-v.ensures.steps in
    let v = taken.0.vertex in
    let word : Fits w64 (get_or a.list.now c.in_ok-v.v 0) = search rules in
    let small : c.insert-self.result.0 < 2 ^ 64 = search rules in
    let few : c.next.new.self.left < 2 ^ 64 = search rules in
    record {
      place = v.place;
      ready = (all.each c.in_ok-v.v).to v.member;
      lowest = λ u d. taken.0.lower u ((all.each u).from d);
      taken = c.insert-self.ensures;
      search = vertex-added a.list.now c.in_ok-v.v held _ _ _ v c.insert-self.ensures taken.1 word.fits small few a.graph.now c.requires.list all;
    }
