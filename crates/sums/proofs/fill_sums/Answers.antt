use Prim.Native.Nat.{◌<◌}
use native.Mathlib.Omega.{arith}
use lib.Count.{count_trailing_zeros}
use borrow.Author.Rules.{rules}
use Rattle.vertex_set.proofs.Places.{Lowest}
use Rattle.sums.proofs.Weights.{filling-first, filling-more, lowest-place, next-sum, sum_fits}
use Rattle.sums.proofs.fill_sums.Goals as goal

pub loop-k-init : goal.loop-k-init
loop-k-init c = (search rules, filling-first c.args.weights c.args.from c.args.table.now (search rules))

pub overflow_sub-table : goal.overflow_sub-table
overflow_sub-table c =
    let low : (count_trailing_zeros 64 c.loop-k.k < 7) × Lowest c.loop-k.k =
    lowest-place c.args.weights c.args.from c.loop-k.k c.loop-k.table c.loop-k-test.true (λ e. omega arith) in
    omega (arith, low)

pub bounds-weights-from : goal.bounds-weights-from
bounds-weights-from c =
    let low : (count_trailing_zeros 64 c.loop-k.k < 7) × Lowest c.loop-k.k =
    lowest-place c.args.weights c.args.from c.loop-k.k c.loop-k.table c.loop-k-test.true (λ e. omega arith) in
    omega (arith, low)

pub overflow_add-table-in-loop-k : goal.overflow_add-table-in-loop-k
overflow_add-table-in-loop-k c =
    let e = next-sum c.args.weights c.args.from c.loop-k.k c.loop-k.table c.loop-k-test.true (λ e. omega arith)
    c.loop-k.invariant.1 in
    let f = sum_fits c.args.weights c.args.from c.loop-k.k c.requires.sums_fit in
    record { fits = omega arith }

pub loop-k-preserved : goal.loop-k-preserved
loop-k-preserved c = (
  search rules,
  filling-more c.args.weights c.args.from c.loop-k.k c.loop-k.table
      c.loop-k-test.true (λ e. omega arith) (search rules) c.loop-k.invariant.1,
)
