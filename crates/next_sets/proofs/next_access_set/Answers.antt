-- The questions in their order, then the next set.
-- Assumes nothing.
use mathlib.Core.Path.{refl}
use mathlib.Core.List.{[], ◌∷◌}
use mathlib.Core.Logic.{inl, inr}
use native.Mathlib.Nat.{lt_of_lt_of_le}
use Rattle.std.proofs.lemmas.Result.{err_from_is_err_and}
use Rattle.questions.specs.Asks.{Asks}
use Rattle.questions.specs.Contract.{turns_away, Answers, Fulfils}
use Rattle.questions.specs.Questions.{asks12, asks13}
use Rattle.questions.proofs.Asks.{AllYes}
use Rattle.questions.proofs.Questions.{target-asked, target-yes}
use Rattle.questions.proofs.Contract.{handed_before, fulfilled}
use Rattle.next_sets.specs.Answers.{asks21, next_call}
use Rattle.next_sets.proofs.Order.{of-initial, within-initial}
use Rattle.next_sets.proofs.next_access_set.Goals as goal

pub returns-in_err-ask_target : goal.returns-in_err-ask_target
returns-in_err-ask_target c =
    let a = c.args in
    let p = err_from_is_err_and c.from_residual.result c.from_residual.ensures.1 in
    handed_before _ (next_call a.s a.target a.last.0) (asks12 a.s ∷ asks13 a.s a.target ∷ []) (asks21 a.s a.last.0 ∷ []) refl _ p.0 (target-asked a.s _ c.well_formed-formed.ensures a.target _ c.in_err-ask_target.ensures) _ p.1 p.2

pub find_next-requires : goal.find_next-requires
find_next-requires c =
    let yes-to : let a = c.args in AllYes (asks12 a.s ∷ asks13 a.s a.target ∷ []) = let a = c.args in
    target-yes a.s _ c.well_formed-formed.ensures a.target _ c.in_ok-ask_target.ensures refl in
    let y = yes-to in
    record { well_formed = y.0; target_bound = lt_of_lt_of_le y.1.0 y.0.most; chosen_set = c.chosen-initial.ensures; within = c.within.ensures.yes c.if-not-within.false }

pub returns : goal.returns
returns c =
    let yes-to : let a = c.args in AllYes (asks12 a.s ∷ asks13 a.s a.target ∷ []) = let a = c.args in
    target-yes a.s _ c.well_formed-formed.ensures a.target _ c.in_ok-ask_target.ensures refl in
    let a = c.args in
    let y = yes-to in
    let o = of-initial a.s a.last.0 _ c.chosen-initial.ensures (c.within.ensures.yes c.if-not-within.false) in
    fulfilled (next_call a.s a.target a.last.0) _ (y.0, (y.1.0, (o, tt))) c.find_next.ensures

pub returns-then-not-within : goal.returns-then-not-within
unfolding Fulfils Asks
returns-then-not-within c =
    let yes-to : let a = c.args in AllYes (asks12 a.s ∷ asks13 a.s a.target ∷ []) = let a = c.args in
    target-yes a.s _ c.well_formed-formed.ensures a.target _ c.in_ok-ask_target.ensures refl in
    let a = c.args in
    let y = yes-to in
    inr (y.0, inr (y.1.0, inl (λ o. c.within.ensures.no c.if-not-within.true (within-initial a.s a.last.0 _ c.chosen-initial.ensures o), refl)))
