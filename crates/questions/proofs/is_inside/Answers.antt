use Prim.Native.Nat.{◌^◌, ◌<◌}
use borrow.Author.Rules.{rules}
use Rattle.vertex_set.proofs.Decisions.{decide_iff}
use Rattle.questions.proofs.Questions.{inside-iff}
use Rattle.questions.proofs.is_inside.Goals as goal

pub returns : goal.returns
returns c =
    let a = c.args in
    let fits : a.set.0 < 2 ^ 64 = search rules in
    decide_iff (inside-iff a.count a.set.0 c.below.result.0 fits c.below.ensures) c.within.ensures
