use mathlib.Core.Path.{refl}
use mathlib.Core.List.{[], ◌∷◌}
use mathlib.Core.Logic.{inl, inr}
use Rattle.questions.specs.Asks.{Asks}
use Rattle.questions.proofs.Asks.{AllYes, ask-then}
use Rattle.living.specs.Calls.{RemoveEdge, asks20, back, Done, CallOf}
use Rattle.living.specs.Calls.{Redrawing}
use Rattle.std.proofs.lemmas.Result.{err_from_is_err_and}
use Rattle.living.proofs.Calls.{handed-on, asks_place, place-asked, place-yes, placed, edge-place}
use Rattle.living.proofs.Drawing.{remove-redrawn}
use Rattle.living.proofs.remove_edge.Goals as goal

pub returns-in_err-ask_place : goal.returns-in_err-ask_place
returns-in_err-ask_place c =
    let a = c.args in
    let p = err_from_is_err_and c.from_residual.result c.from_residual.ensures.1 in
    handed-on a.s (RemoveEdge a.from a.to a.colour) (asks_place a.s a.from a.to a.colour) (asks20 a.s a.from a.to a.colour ∷ []) refl _ p.0 (place-asked a.s a.from a.to a.colour _ c.well_formed-formed.ensures _ c.in_err-ask_place.ensures) _ p.1 p.2

pub invariant_of-edge : goal.invariant_of-edge
invariant_of-edge c =
    let yes-to : let a = c.args in AllYes (asks_place a.s a.from a.to a.colour) = let a = c.args in
    place-yes a.s a.from a.to a.colour _ c.well_formed-formed.ensures _ c.in_ok-ask_place.ensures refl in
    let a = c.args in
    record { place = edge-place a.s a.from a.to a.colour yes-to }

pub returns : goal.returns
unfolding Asks
returns c =
    let yes-to : let a = c.args in AllYes (asks_place a.s a.from a.to a.colour) = let a = c.args in
    place-yes a.s a.from a.to a.colour _ c.well_formed-formed.ensures _ c.in_ok-ask_place.ensures refl in
    let behind : let a = c.args in (r : Redrawing) → Asks (back a.s) (asks20 a.s a.from a.to a.colour ∷ []) (Done (RemoveEdge a.from a.to a.colour) a.s) r → CallOf (RemoveEdge a.from a.to a.colour) a.s r = λ r h. let a = c.args in
    ask-then (back a.s) (Done (RemoveEdge a.from a.to a.colour) a.s) (asks_place a.s a.from a.to a.colour) (asks20 a.s a.from a.to a.colour ∷ []) r yes-to h in
    let a = c.args in
    let y = yes-to in
    let d = c.erase.ensures in
    behind _ (inr (
      c.is_in.ensures.yes c.if-not-is_in.false,
      record {
        numbered = refl;
        redrawn = remove-redrawn a.s c.erase.result a.from a.to a.colour y.0 (placed a.s a.from a.to a.colour y) d.graph d.recovery d.drawn d.less d.unmarked;
      },
    ))

pub returns-then-not-is_in : goal.returns-then-not-is_in
unfolding Asks
returns-then-not-is_in c =
    let yes-to : let a = c.args in AllYes (asks_place a.s a.from a.to a.colour) = let a = c.args in
    place-yes a.s a.from a.to a.colour _ c.well_formed-formed.ensures _ c.in_ok-ask_place.ensures refl in
    let behind : let a = c.args in (r : Redrawing) → Asks (back a.s) (asks20 a.s a.from a.to a.colour ∷ []) (Done (RemoveEdge a.from a.to a.colour) a.s) r → CallOf (RemoveEdge a.from a.to a.colour) a.s r = λ r h. let a = c.args in
    ask-then (back a.s) (Done (RemoveEdge a.from a.to a.colour) a.s) (asks_place a.s a.from a.to a.colour) (asks20 a.s a.from a.to a.colour ∷ []) r yes-to h in
    behind _ (inl (c.is_in.ensures.no c.if-not-is_in.true, refl))
