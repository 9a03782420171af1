-- The questions in their order, 13 of each of the two vertices, then the finding.
use mathlib.Core.Path.{refl}
use mathlib.Core.List.{[], ◌∷◌}
use mathlib.Core.Logic.{inl, inr}
use native.Mathlib.Omega.{arith}
use Rattle.std.proofs.lemmas.Result.{err_from_is_err_and}
use Rattle.questions.specs.Asks.{Asks}
use Rattle.questions.specs.Contract.{turns_away, Answers, Fulfils}
use Rattle.questions.specs.Questions.{asks12, asks13}
use Rattle.questions.proofs.Asks.{AllYes}
use Rattle.questions.proofs.Questions.{target-asked, target-yes}
use Rattle.questions.proofs.Contract.{handed_before, fulfilled, given}
use Rattle.findings.specs.Answers.{inconsistent_call}
use Rattle.findings.proofs.inconsistent.Goals as goal

pub returns-in_err-ask_target : goal.returns-in_err-ask_target
returns-in_err-ask_target c =
    let a = c.args in
    let p = err_from_is_err_and c.from_residual.result c.from_residual.ensures.1 in
    handed_before _ (inconsistent_call a.s a.v a.w) (asks12 a.s ∷ asks13 a.s a.v ∷ []) (asks13 a.s a.w ∷ []) refl _ p.0 (target-asked a.s _ c.well_formed-formed.ensures a.v _ c.in_err-ask_target.ensures) _ p.1 p.2

pub returns-then-s-w : goal.returns-then-s-w
unfolding Fulfils Asks
returns-then-s-w c =
    let yes-to : let a = c.args in AllYes (asks12 a.s ∷ asks13 a.s a.v ∷ []) = let a = c.args in
    target-yes a.s _ c.well_formed-formed.ensures a.v _ c.in_ok-ask_target.ensures refl in
    let y = yes-to in
    inr (y.0, inr (y.1.0, inl (λ l. let k = c.if-s-w.true in omega arith, refl)))

pub find_inconsistent-requires : goal.find_inconsistent-requires
find_inconsistent-requires c =
    let yes-to : let a = c.args in AllYes (asks12 a.s ∷ asks13 a.s a.v ∷ []) = let a = c.args in
    target-yes a.s _ c.well_formed-formed.ensures a.v _ c.in_ok-ask_target.ensures refl in
    let y = yes-to in (record { formed = y.0; vertex = y.1.0 }, c.if-s-w.false)

pub returns : goal.returns
returns c =
    let yes-to : let a = c.args in AllYes (asks12 a.s ∷ asks13 a.s a.v ∷ []) = let a = c.args in
    target-yes a.s _ c.well_formed-formed.ensures a.v _ c.in_ok-ask_target.ensures refl in
    let a = c.args in
    let y = yes-to in
    let call = inconsistent_call a.s a.v a.w in
    fulfilled call _ (y.0, (y.1.0, (c.if-s-w.false, tt))) (given call c.find_inconsistent.result c.find_inconsistent.ensures tt _ refl)
