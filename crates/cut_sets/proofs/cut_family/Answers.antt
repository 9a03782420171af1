-- `cut_sets::cut_family` meets its contract: the minimal members of the dual of the target's family.
-- Assumes nothing.
use borrow.Author.Rules.{rules}
use Rattle.cut_sets.proofs.Families.{cut-family}
use Rattle.cut_sets.proofs.cut_family.Goals as goal

pub returns : goal.returns
returns c =
    let a = c.args in
    cut-family a.s a.target a.initial.0 c.requires.formed c.requires.is_chosen _ _ c.family_of.ensures c.dual.ensures _ c.keep_minimal.ensures
    c.count_members.result (search rules) c.count_members.ensures.words c.count_members.ensures.count
