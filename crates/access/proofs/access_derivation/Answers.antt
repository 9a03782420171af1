use mathlib.Core.Path.{refl}
use mathlib.Core.Logic.{inl, inr, ⊎_elim}
use native.Mathlib.Omega.{arith}
use Rattle.std.proofs.lemmas.Result.{err_from_is_err_and}
use Rattle.questions.proofs.Asks.{AllYes}
use Rattle.questions.proofs.Questions.{way_asked, way-yes}
use Rattle.questions.proofs.Contract.{handed_on, fulfilled, given}
use Rattle.access.specs.Answers.{way_call, Shut}
use Rattle.access.proofs.Calls.{way-short, way-room}
use Rattle.access.proofs.access_derivation.Goals as goal

pub returns-in_err-ask_way : goal.returns-in_err-ask_way
returns-in_err-ask_way c =
    let a = c.args in
    let p = err_from_is_err_and c.from_residual.result c.from_residual.ensures.1 in
    handed_on _ (way_call a.s a.target a.set.0 a.vertices.now a.colours.now) _ p.0
    (way_asked a.s _ c.well_formed-formed.ensures a.target a.set.0 _ c.in_err-ask_way.ensures) _ p.1 p.2

pub returns-in_default : goal.returns-in_default
returns-in_default c =
    let a = c.args in
    let yes = way-yes a.s _ c.well_formed-formed.ensures a.target a.set.0 _ c.in_ok-ask_way.ensures refl in
    let n = rw c.in_default.is at c.follow_way-way.ensures in
    let call = way_call a.s a.target a.set.0 a.vertices.now a.colours.now in
    fulfilled call _ yes (given call Shut n.0 tt _ refl)

pub returns-then-vertex_room-count : goal.returns-then-vertex_room-count
returns-then-vertex_room-count c =
    let a = c.args in
    let yes = way-yes a.s _ c.well_formed-formed.ensures a.target a.set.0 _ c.in_ok-ask_way.ensures refl in
    let y = rw c.in-Some.is at c.follow_way-way.ensures in
    let n = y.2 in
    fulfilled (way_call a.s a.target a.set.0 a.vertices.now a.colours.now) _ yes
    (way-short a.s a.target a.set.0 y.0 y.1 a.vertices.now a.colours.now
    (⊎_elim (λ l. inl (omega arith)) (λ l. let m = l.1 in inr (omega arith)) c.then-vertex_room-count.either))

pub write_way-requires : goal.write_way-requires
write_way-requires c =
    let y = rw c.in-Some.is at c.follow_way-way.ensures in
    let n = y.2 in
    record { steps = y.0; way = y.1; first = omega arith; second = omega arith }

pub returns : goal.returns
returns c =
    let a = c.args in
    let yes = way-yes a.s _ c.well_formed-formed.ensures a.target a.set.0 _ c.in_ok-ask_way.ensures refl in
    let y = rw c.in-Some.is at c.follow_way-way.ensures in
    fulfilled (way_call a.s a.target a.set.0 a.vertices.now a.colours.now) _ yes
    (way-room a.s a.target a.set.0 y.0 y.1 a.vertices.now a.colours.now _ _ _ y.2 c.if-vertex_room-count.false c.if-colour_room-count.false c.write_way.ensures)
