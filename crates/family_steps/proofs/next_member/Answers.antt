use mathlib.Core.Path.{refl}
use borrow.Author.Rules.{rules}
use Rattle.family_steps.proofs.Steps.{seeking-first, seeking-more, seeking-found, seeking-end, of_words}
use Rattle.family_steps.proofs.next_member.Goals as goal

pub loop-s-init : goal.loop-s-init
loop-s-init c = seeking-first _ _

pub returns-in-Some : goal.returns-in-Some
returns-in-Some c =
    let h = c.loop-s in
    of_words _ _ _ _ (search rules) c.requires.f_len (seeking-found _ _ _ h.s _ h.invariant c.in-Some.ensures c.in-Some.next refl)

pub loop-s-preserved : goal.loop-s-preserved
loop-s-preserved c =
    let h = c.loop-s in
    seeking-more _ _ _ h.s _ h.invariant c.in_default.ensures refl

pub returns : goal.returns
returns c = of_words _ _ _ _ (search rules) c.requires.f_len (seeking-end _ _ _ c.loop-s.s (search rules) c.loop-s.invariant)
