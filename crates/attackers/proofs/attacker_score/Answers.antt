-- The questions in their order, then the lowest kinds that get in.
-- Assumes nothing.
use mathlib.Core.Path.{refl}
use mathlib.Core.List.{[], ◌∷◌}
use mathlib.Core.Logic.{inl, inr}
use Rattle.std.proofs.lemmas.Result.{err_from_is_err_and}
use Rattle.vertex_set.proofs.Decisions.{decide_iff}
use Rattle.questions.specs.Asks.{Asks}
use Rattle.questions.specs.Contract.{turns_away, Answers, Fulfils}
use Rattle.questions.specs.Questions.{asks12, asks13}
use Rattle.questions.proofs.Asks.{AllYes}
use Rattle.questions.proofs.Questions.{target-asked, target-yes}
use Rattle.questions.proofs.Contract.{handed_before, fulfilled, given}
use Rattle.attackers.specs.Answers.{asks16, asks17, attacker_call}
use Rattle.attackers.proofs.Scores.{score-of}
use Rattle.attackers.proofs.Calls.{fit-iff}
use Rattle.attackers.proofs.attacker_score.Goals as goal

pub returns-in_err-ask_target : goal.returns-in_err-ask_target
returns-in_err-ask_target c =
    let a = c.args in
    let p = err_from_is_err_and c.from_residual.result c.from_residual.ensures.1 in
    handed_before _ (attacker_call a.s a.target a.kinds.now) (asks12 a.s ∷ asks13 a.s a.target ∷ []) (asks16 a.s a.kinds.now ∷ asks17 a.s a.kinds.now ∷ []) refl _ p.0 (target-asked a.s _ c.well_formed-formed.ensures a.target _ c.in_err-ask_target.ensures) _ p.1 p.2

pub returns-then-kinds-s : goal.returns-then-kinds-s
unfolding Fulfils Asks
returns-then-kinds-s c =
    let yes-to : let a = c.args in AllYes (asks12 a.s ∷ asks13 a.s a.target ∷ []) = let a = c.args in
    target-yes a.s _ c.well_formed-formed.ensures a.target _ c.in_ok-ask_target.ensures refl in
    let y = yes-to in
    inr (y.0, inr (y.1.0, inl (c.if-kinds-s.true, refl)))

pub returns : goal.returns
returns c =
    let yes-to : let a = c.args in AllYes (asks12 a.s ∷ asks13 a.s a.target ∷ []) = let a = c.args in
    target-yes a.s _ c.well_formed-formed.ensures a.target _ c.in_ok-ask_target.ensures refl in
    let a = c.args in
    let y = yes-to in
    let fit = (fit-iff a.s a.kinds.now c.chosen-initial.result.0 c.chosen-initial.ensures).to (c.entries_fit.ensures.yes c.if-not-entries_fit.false) in
    let call = attacker_call a.s a.target a.kinds.now in
    let r = c.lowest_kinds-score.result.0 in
    fulfilled call _ (y.0, (y.1.0, (c.if-kinds-s.false, (fit, tt))))
    (given call r (score-of a.s a.kinds.now a.target y.0 fit c.chosen-initial.result.0 r c.chosen-initial.ensures c.lowest_kinds-score.ensures) tt _ refl)

pub returns-then-not-entries_fit : goal.returns-then-not-entries_fit
unfolding Fulfils Asks
returns-then-not-entries_fit c =
    let yes-to : let a = c.args in AllYes (asks12 a.s ∷ asks13 a.s a.target ∷ []) = let a = c.args in
    target-yes a.s _ c.well_formed-formed.ensures a.target _ c.in_ok-ask_target.ensures refl in
    let a = c.args in
    let y = yes-to in
    inr (
      y.0,
      inr (
        y.1.0,
        inr (
          c.if-kinds-s.false,
          inl ((decide_iff (fit-iff a.s a.kinds.now c.chosen-initial.result.0 c.chosen-initial.ensures) c.entries_fit.ensures).no c.if-not-entries_fit.true, refl),
        ),
      ),
    )
