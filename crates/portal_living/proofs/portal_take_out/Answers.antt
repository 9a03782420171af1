use Rattle.living.specs.Calls.{TakeOut}
use Rattle.portal_living.proofs.Calls.{room-for, answer_told}
use Rattle.portal_living.proofs.portal_take_out.Goals as goal

pub put_back-requires : goal.put_back-requires
put_back-requires c =
    let a = c.args in
    room-for (TakeOut a.item) _ _ c.setup_in-s.ensures _ c.take_out-redrawing.ensures

pub returns : goal.returns
returns c =
    let a = c.args in
    answer_told (TakeOut a.item) _ _ c.setup_in-s.ensures _ _ _ c.take_out-redrawing.ensures c.put_back.ensures.number c.put_back.ensures.accepted c.put_back.ensures.refused
