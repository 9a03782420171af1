use mathlib.Core.Path.{refl, sym, subst}
use mathlib.Core.Logic.{inl, inr}
use Rattle.formed.specs.WellFormed.{WellFormed}
use Rattle.questions.specs.Asks.{Asks}
use Rattle.histories.proofs.Reaching.{question-12}
use Rattle.portal_sets.proofs.portal_check.Goals as goal

pub returns-then-well_formed : goal.returns-then-well_formed
unfolding Asks
returns-then-well_formed c =
    inr ((question-12 _).to (subst WellFormed c.setup_in-s.ensures (c.well_formed-2.ensures.yes c.if-well_formed.true)), refl)

pub returns : goal.returns
unfolding Asks
returns c =
    inl (λ h. c.well_formed-2.ensures.no c.if-well_formed.false (subst WellFormed (sym c.setup_in-s.ensures) ((question-12 _).from h)), c.number.ensures)
