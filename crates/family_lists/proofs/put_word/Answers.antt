use native.Mathlib.Omega.{arith}
use borrow.Author.Rules.{rules}
use Rattle.families.proofs.Turns.{turn}
use Rattle.family_lists.proofs.Lists.{putting-room, putting-more, putting-end, lane-sums, lane-fits}
use Rattle.family_lists.proofs.put_word.Goals as goal

pub overflow_add-out-in-loop-i : goal.overflow_add-out-in-loop-i
overflow_add-out-in-loop-i c =
    let vertex = c.in-Some.ensures.steps.0.vertex in
    record { fits = lane-fits c.args.sums.now.low c.args.sums.now.high c.args.b _ c.args.sums.now.fit c.requires.b_lt_family_words vertex.place }

pub offset_bounds-out-next : goal.offset_bounds-out-next
offset_bounds-out-next c =
    let taken = c.in-Some.ensures.steps in
    let t = turn _ _ _ c.loop-i.invariant.small taken.0 taken.1 in
    let room = putting-room _ c.args.y c.args.out.now c.args.at c.loop-i.out _ c.loop-i.next c.loop-i.invariant (search rules)
    t.some c.requires.y_in_bounds in
    omega (arith, room, c.loop-i.invariant.writing.long)

pub bounds-out-next : goal.bounds-out-next
bounds-out-next c =
    let taken = c.in-Some.ensures.steps in
    let t = turn _ _ _ c.loop-i.invariant.small taken.0 taken.1 in
    putting-room _ c.args.y c.args.out.now c.args.at c.loop-i.out _ c.loop-i.next c.loop-i.invariant (search rules)
    t.some c.requires.y_in_bounds

pub overflow_add-next : goal.overflow_add-next
overflow_add-next c =
    let taken = c.in-Some.ensures.steps in
    let t = turn _ _ _ c.loop-i.invariant.small taken.0 taken.1 in
    let room = putting-room _ c.args.y c.args.out.now c.args.at c.loop-i.out _ c.loop-i.next c.loop-i.invariant (search rules)
    t.some c.requires.y_in_bounds in
    omega (arith, room, c.loop-i.invariant.writing.long)

pub loop-i-preserved : goal.loop-i-preserved
loop-i-preserved c =
    let taken = c.in-Some.ensures.steps in
    let t = turn _ _ _ c.loop-i.invariant.small taken.0 taken.1 in
    rw (t.vertex, t.rest) (putting-more _ c.args.y c.args.out.now c.args.at c.loop-i.out _ c.loop-i.next c.loop-i.invariant t.some)

pub returns : goal.returns
returns c =
    rw (← lane-sums c.args.sums.now.low c.args.sums.now.high c.args.b c.args.y)
    (putting-end _ c.args.y c.args.out.now c.args.at c.loop-i.out _ c.loop-i.next c.loop-i.invariant c.in-None.ensures.steps)
