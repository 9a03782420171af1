use mathlib.Core.Path.{◌≡◌, ap, ◌∙◌}
use lib.Count.{count_trailing_zeros}
use borrow.Author.Rules.{rules}
use Prim.Native.Nat.{ℕ, ◌-◌, ◌*◌, ◌%◌, ◌^◌}
use Rattle.successors.specs.declared.Vertices.{Vertices}
use Rattle.families.proofs.Turns.{turn}
use Rattle.report_sections.proofs.Pairs.{pairs-none, pairs-room, pairs-more, pairs_end}
use Rattle.report_sections.proofs.accounts.put_pairs.Goals as goal

pub loop-w-init : goal.loop-w-init
loop-w-init c =
    let begun = ap (λ (i : Vertices). i.left) c.into_iter-w-iterator.ensures.into_iter_gives ∙ c.vertices_of-w-items.ensures in
    rw begun (pairs-none _ _ _ _ (search rules))

pub put_pair_row-requires : goal.put_pair_row-requires
put_pair_row-requires c =
    let i = c.loop-w.invariant in
    let taken = c.in-Some.ensures.steps in
    let t = turn _ _ _ i.small taken.0 taken.1 in
    record {
      above = c.requires.above;
      below = c.requires.below.each _ (i.within.each _ (rw t.vertex t.lowest.member));
      room = rw t.vertex (pairs-room _ _ _ _ _ _ i t.some c.requires.room);
    }

pub loop-w-preserved : goal.loop-w-preserved
loop-w-preserved c =
    let i = c.loop-w.invariant in
    let taken = c.in-Some.ensures.steps in
    let t = turn _ _ _ i.small taken.0 taken.1 in
    let less : c.loop-w.w-iterator.left - (1 * 2 ^ count_trailing_zeros 64 c.loop-w.w-iterator.left) % 2 ^ 64 ≡ c.loop-w.w-iterator.left - 2 ^ count_trailing_zeros 64 c.loop-w.w-iterator.left =
    ap (λ (p : ℕ). c.loop-w.w-iterator.left - p) t.lowest.power in
    let w = c.put_pair_row.ensures in
    rw t.rest (pairs-more _ _ _ _ _ _ i _ less t.some _ (record { same = w.same; row_written = rw t.vertex at w.row_written }))

pub returns-clause-row_written : goal.returns-clause-row_written
returns-clause-row_written c = (pairs_end _ _ _ _ _ _ c.loop-w.invariant c.in-None.ensures.steps c.requires.room).row_written
