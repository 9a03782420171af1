use borrow.Author.Rules.{rules}
use Prim.Native.Nat.{◌<◌}
use Rattle.living.proofs.Drawing.{rows_more}
use Rattle.living.proofs.Named.with.Goals as goal

pub returns : goal.returns
returns c =
    let place : c.args.self.from < 64 = search rules in
    rows_more _ _ _ _ place c.insert.ensures
