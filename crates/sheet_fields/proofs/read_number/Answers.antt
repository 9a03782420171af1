use mathlib.Core.Path.{refl, sym, ◌∙◌}
use Prim.Native.Nat.{◌+◌}
use lib.ListN.{drop}
use Rattle.std.proofs.Common.{arith}
use Rattle.std.proofs.lemmas.Bool.Decides.{nat_tests}
use Rattle.sheet_fields.proofs.Numbers.{number-none, leading-zero, number-read, digits-no, digits-more, digits-next, digits_end}
use Rattle.sheet_fields.proofs.read_number.Goals as goal

pub returns-then-is_empty : goal.returns-then-is_empty
returns-then-is_empty c = number-none c.args.f.now (grind (arith, nat_tests))

pub returns-then-f-ne1 : goal.returns-then-f-ne1
returns-then-f-ne1 c = leading-zero c.args.f.now (omega arith) c.if-f-ne1.true

pub loop-b-init : goal.loop-b-init
loop-b-init c = (omega arith, refl)

pub returns-in_err-n : goal.returns-in_err-n
returns-in_err-n c =
    let f = c.args.f.now in
    c.from_residual.ensures
    ∙ digits-no c.loop-b.n _ (drop (c.loop-b.b-index + 1) f) c.in_err-n.ensures
    ∙ sym (digits-next c.loop-b.n f c.loop-b.b-index c.loop-b-test.true)
    ∙ sym c.loop-b.invariant.1
    ∙ number-read f (grind (arith, nat_tests)) (omega arith)

pub loop-b-preserved : goal.loop-b-preserved
loop-b-preserved c =
    let f = c.args.f.now in
    let m = digits-more c.loop-b.n _ c.in_ok-n.n (drop (c.loop-b.b-index + 1) f) c.in_ok-n.ensures in
    (m.0, c.loop-b.invariant.1 ∙ digits-next c.loop-b.n f c.loop-b.b-index c.loop-b-test.true ∙ m.1)

pub returns : goal.returns
returns c =
    let f = c.args.f.now in
    sym (c.loop-b.invariant.1 ∙ digits_end c.loop-b.n f c.loop-b.b-index c.loop-b-test.false) ∙ number-read f (grind (arith, nat_tests)) (omega arith)
