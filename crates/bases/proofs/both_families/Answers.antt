use borrow.Author.Rules.{rules}
use Rattle.bases.proofs.Bridge.{least-words, both-families}
use Rattle.bases.proofs.both_families.Goals as goal

pub minimal_members-requires : goal.minimal_members-requires
minimal_members-requires c =
    let a = c.args in
    least-words a.loss a.graph a.target a.chosen.0 _ _ c.family_of.ensures c.words_for-words.ensures

pub returns : goal.returns
returns c =
    let a = c.args in
    both-families a.loss a.s a.graph a.target a.chosen.0 _ _ c.count_members.result (search rules) c.requires.formed c.requires.is_chosen
    c.family_of.ensures c.minimal_members.ensures (search rules) c.count_members.ensures.words c.count_members.ensures.count
