use Rattle.pool_items.specs.Inner.Items.{AllAgree}
use Rattle.pool_items.proofs.Shared.all_agree.Given as goal

-- The items before j agree.
abbrev pub invariant-loop-j : goal.invariant-loop-j
invariant-loop-j l = AllAgree l.first l.second l.j l.self.places
