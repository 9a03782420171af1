-- `tables::extend` meets its contract: a settled block with v in every lane has something new only for the vertices that need v.
-- Assumes nothing.
use Prim.Native.Nat.{◌+◌, ◌-◌, ◌*◌}
use native.Mathlib.Omega.{arith}
use borrow.Author.Rules.{rules}
use Rattle.tables.proofs.Extending.{with_all, extending, extended}
use Rattle.tables.proofs.extend.Goals as goal

pub settle-requires : goal.settle-requires
settle-requires c =
    let v = c.args.v in
    let all = with_all v (v * 16 + 16 - v * 16) c.args.w.now _ _ (search rules) c.requires.v_bound (omega arith) (search rules) (c.fill.ensures.after (λ y e. e)) in
    record { successors = c.requires.successors; quiet = extending _ c.args.graph v _ _ all _ _ c.requires.v_bound c.requires.successors c.users-first.ensures c.requires.quiet }

pub returns : goal.returns
returns c =
    let v = c.args.v in
    let all = with_all v (v * 16 + 16 - v * 16) c.args.w.now _ _ (search rules) c.requires.v_bound (omega arith) (search rules) (c.fill.ensures.after (λ y e. e)) in
    extended _ c.args.graph v _ _ all _ c.settle.ensures
