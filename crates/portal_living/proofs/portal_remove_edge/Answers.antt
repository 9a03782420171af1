use Rattle.living.specs.Calls.{RemoveEdge}
use Rattle.portal_living.proofs.Calls.{room-for, answer_told}
use Rattle.portal_living.proofs.portal_remove_edge.Goals as goal

pub put_back-requires : goal.put_back-requires
put_back-requires c =
    let a = c.args in
    room-for (RemoveEdge a.from a.to a.colour) _ _ c.setup_in-s.ensures _ c.remove_edge-redrawing.ensures

pub returns : goal.returns
returns c =
    let a = c.args in
    answer_told (RemoveEdge a.from a.to a.colour) _ _ c.setup_in-s.ensures _ _ _ c.remove_edge-redrawing.ensures c.put_back.ensures.number c.put_back.ensures.accepted c.put_back.ensures.refused
