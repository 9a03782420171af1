-- `written::put` meets its contract: the items between its ends are those that it was given.
use mathlib.Core.Path.{refl}
use native.Mathlib.Omega.{arith}
use Rattle.written.proofs.Copying.{copying-none, copying-more, copying-end}
use Rattle.written.proofs.put.Goals as goal

pub loop-i-init : goal.loop-i-init
loop-i-init g c = copying-none c.args.items.now c.args.out.now c.args.at

pub loop-i-preserved : goal.loop-i-preserved
loop-i-preserved g c =
    copying-more c.args.items.now c.args.out.now c.args.at c.loop-i.out c.loop-i.i c.loop-i.invariant c.index-items-i.result c.loop-i-test.true
    c.index-items-i.is

pub returns : goal.returns
returns g c =
    record {
      exit = copying-end c.args.items.now c.args.out.now c.args.at c.loop-i.out c.loop-i.i c.loop-i.invariant (omega arith);
      next = refl;
    }
