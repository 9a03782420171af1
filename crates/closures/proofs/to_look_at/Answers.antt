use mathlib.Core.Path.{◌≡◌, ◌∙◌}
use native.Mathlib.Omega.{arith}
use lib.Seq.{take_all}
use borrow.Author.Rules.{rules}
use Prim.Native.Nat.{◌^◌, ◌<◌}
use Rattle.closures.proofs.Passes.{look_at}
use Rattle.closures.proofs.to_look_at.Goals as goal

pub returns : goal.returns
returns c =
    let whole : c.unwrap.result.now ≡ c.args.list.now = search rules ∙ take_all 64 c.args.list.now (omega arith) in
    let held : c.args.held.0 < 2 ^ 64 = search rules in
    let grown : c.args.grown.0 < 2 ^ 64 = search rules in
    let users : c.of_set-users.result < 2 ^ 64 = search rules in
    look_at _ c.args.held.0 c.args.grown.0 c.of_set-users.result held grown users (rw whole at c.of_set-users.ensures)
