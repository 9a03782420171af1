use mathlib.Core.Path.{◌≡◌, ◌∙◌}
use mathlib.Core.List.{map}
use native.Mathlib.Omega.{arith}
use borrow.Author.Rules.{rules}
use lib.ListN.{get_or}
use Rattle.family_lists.specs.Inner.Tables.{sum_by, masks_in}
use Rattle.least_sums.specs.Inner.Least.{least_of}
use Rattle.least_sums.proofs.Least.{remaining-more, remaining-same, remaining-end, least-sum}
use Rattle.least_sums.proofs.least_by.Goals as goal
use Rattle.least_sums.proofs.least_by.Goals.{else-x-ne0, then-x-ne0}

pub loop-b-preserved : goal.loop-b-preserved
loop-b-preserved c =
    let sums = sum_by c.args.sums.now.low c.args.sums.now.high in
    let after : c.if-x-ne0.least ≡ least_of c.loop-b.least (map sums (masks_in c.loop-b.b (get_or c.args.f.now c.loop-b.b 0))) = elim c.if-x-ne0.branch [
      | then-x-ne0 w ↦ w.least-is ∙ w.least_in_word-least.ensures
      | else-x-ne0 w ↦ w.least-is ∙ remaining-same sums c.args.f.now c.loop-b.least c.loop-b.b w.if-x-ne0.false
    ] in
    remaining-more sums c.args.f.now c.loop-b.least c.loop-b.b c.if-x-ne0.least (omega arith) after c.loop-b.invariant

pub returns : goal.returns
returns c =
    let sums = sum_by c.args.sums.now.low c.args.sums.now.high in
    least-sum c.args.f.now c.args.sums.now.low c.args.sums.now.high c.loop-b.least (search rules)
    (remaining-end sums c.args.f.now c.loop-b.least c.loop-b.b (omega arith) c.loop-b.invariant)
