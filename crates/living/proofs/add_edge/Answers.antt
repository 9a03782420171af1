use Prim.Native.Nat.{ℕ, ◌≤◌, ◌<◌}
use Rattle.setup.specs.Bounds.{most_edges}
use Rattle.setup.specs.Setup.{edge_count}
use mathlib.Core.Path.{refl, subst}
use mathlib.Core.List.{[], ◌∷◌}
use mathlib.Core.Logic.{inl, inr}
use native.Mathlib.Omega.{arith}
use Rattle.questions.specs.Asks.{Asks}
use Rattle.questions.proofs.Asks.{AllYes, ask-then}
use Rattle.living.specs.Calls.{AddEdge, asks19, asks7, back, Done, CallOf}
use Rattle.living.specs.Calls.{Redrawing}
use Rattle.std.proofs.lemmas.Result.{err_from_is_err_and}
use Rattle.living.proofs.Calls.{handed-on, asks_place, place-asked, place-yes, placed, edge-place}
use Rattle.living.proofs.Drawing.{add-redrawn}
use Rattle.living.proofs.add_edge.Goals as goal

pub returns-in_err-ask_place : goal.returns-in_err-ask_place
returns-in_err-ask_place c =
    let a = c.args in
    let p = err_from_is_err_and c.from_residual.result c.from_residual.ensures.1 in
    handed-on a.s (AddEdge a.from a.to a.colour a.rec) (asks_place a.s a.from a.to a.colour) (asks19 a.s a.from a.to a.colour ∷ asks7 a.s ∷ []) refl _ p.0 (place-asked a.s a.from a.to a.colour _ c.well_formed-formed.ensures _ c.in_err-ask_place.ensures) _ p.1 p.2

pub returns-then-is_in : goal.returns-then-is_in
unfolding Asks
returns-then-is_in c =
    let yes-to : let a = c.args in AllYes (asks_place a.s a.from a.to a.colour) = let a = c.args in
    place-yes a.s a.from a.to a.colour _ c.well_formed-formed.ensures _ c.in_ok-ask_place.ensures refl in
    let behind : let a = c.args in (r : Redrawing) → Asks (back a.s) (asks19 a.s a.from a.to a.colour ∷ asks7 a.s ∷ []) (Done (AddEdge a.from a.to a.colour a.rec) a.s) r → CallOf (AddEdge a.from a.to a.colour a.rec) a.s r = λ r h. let a = c.args in
    ask-then (back a.s) (Done (AddEdge a.from a.to a.colour a.rec) a.s) (asks_place a.s a.from a.to a.colour) (asks19 a.s a.from a.to a.colour ∷ asks7 a.s ∷ []) r yes-to h in
    behind _ (inl (λ n. n (c.is_in.ensures.yes c.if-is_in.true), refl))

pub returns-then-edge_count : goal.returns-then-edge_count
unfolding Asks
returns-then-edge_count c =
    let yes-to : let a = c.args in AllYes (asks_place a.s a.from a.to a.colour) = let a = c.args in
    place-yes a.s a.from a.to a.colour _ c.well_formed-formed.ensures _ c.in_ok-ask_place.ensures refl in
    let behind : let a = c.args in (r : Redrawing) → Asks (back a.s) (asks19 a.s a.from a.to a.colour ∷ asks7 a.s ∷ []) (Done (AddEdge a.from a.to a.colour a.rec) a.s) r → CallOf (AddEdge a.from a.to a.colour a.rec) a.s r = λ r h. let a = c.args in
    ask-then (back a.s) (Done (AddEdge a.from a.to a.colour a.rec) a.s) (asks_place a.s a.from a.to a.colour) (asks19 a.s a.from a.to a.colour ∷ asks7 a.s ∷ []) r yes-to h in
    let a = c.args in
    let full : most_edges ≤ edge_count a.s.graph = subst (λ (x : ℕ). most_edges ≤ x) c.edge_count.ensures.0 c.if-edge_count.true in
    behind _ (inr (c.is_in.ensures.no c.if-is_in.false, inl (λ l. omega arith, refl)))

pub invariant_of-edge : goal.invariant_of-edge
invariant_of-edge c =
    let yes-to : let a = c.args in AllYes (asks_place a.s a.from a.to a.colour) = let a = c.args in
    place-yes a.s a.from a.to a.colour _ c.well_formed-formed.ensures _ c.in_ok-ask_place.ensures refl in
    let a = c.args in
    record { place = edge-place a.s a.from a.to a.colour yes-to }

pub returns : goal.returns
unfolding Asks
returns c =
    let yes-to : let a = c.args in AllYes (asks_place a.s a.from a.to a.colour) = let a = c.args in
    place-yes a.s a.from a.to a.colour _ c.well_formed-formed.ensures _ c.in_ok-ask_place.ensures refl in
    let behind : let a = c.args in (r : Redrawing) → Asks (back a.s) (asks19 a.s a.from a.to a.colour ∷ asks7 a.s ∷ []) (Done (AddEdge a.from a.to a.colour a.rec) a.s) r → CallOf (AddEdge a.from a.to a.colour a.rec) a.s r = λ r h. let a = c.args in
    ask-then (back a.s) (Done (AddEdge a.from a.to a.colour a.rec) a.s) (asks_place a.s a.from a.to a.colour) (asks19 a.s a.from a.to a.colour ∷ asks7 a.s ∷ []) r yes-to h in
    let a = c.args in
    let y = yes-to in
    let d = c.draw.ensures in
    let room : edge_count a.s.graph < most_edges = subst (λ (x : ℕ). x < most_edges) c.edge_count.ensures.0 c.if-edge_count.false in
    behind _ (inr (
      c.is_in.ensures.no c.if-is_in.false,
      inr (
        room,
        record {
          numbered = refl;
          redrawn = add-redrawn a.s c.draw.result a.from a.to a.colour y.0 (placed a.s a.from a.to a.colour y) d.graph d.recovery d.drawn a.rec d.more d.marked;
        },
      ),
    ))
