use native.Mathlib.Omega.{arith}
use Rattle.sheet_fields.proofs.Packing.{packed-back, packed-fits, packed-end}
use Rattle.sheet_fields.proofs.pack.Goals as goal

pub loop-i-init : goal.loop-i-init
loop-i-init c = (omega arith, packed-end c.args.f.now)

pub overflow_mul-n : goal.overflow_mul-n
overflow_mul-n c =
    let z = packed-fits c.args.f.now c.loop-i.i c.loop-i-test.true c.loop-i.invariant.0 c.requires (λ j. (c.type_inv.f j).fits) in
    let e = c.loop-i.invariant.1 in
    record { fits = omega arith }

pub overflow_add-n : goal.overflow_add-n
overflow_add-n c =
    let z = packed-fits c.args.f.now c.loop-i.i c.loop-i-test.true c.loop-i.invariant.0 c.requires (λ j. (c.type_inv.f j).fits) in
    let e = c.loop-i.invariant.1 in
    let b = c.from.ensures in
    record { fits = omega arith }

pub loop-i-preserved : goal.loop-i-preserved
loop-i-preserved c =
    let z = packed-back c.args.f.now c.loop-i.i c.loop-i-test.true c.loop-i.invariant.0 in
    let e = c.loop-i.invariant.1 in
    let b = c.from.ensures in
    (omega arith, omega arith)
