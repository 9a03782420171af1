use borrow.Author.Rules.{rules}
use Prim.Native.Nat.{◌^◌, ◌<◌}
use Rattle.vertex_set.proofs.Sets.{member_below}
use Rattle.living.proofs.Drawing.{let-go-other}
use Rattle.living.proofs.let_go.Goals as goal

pub without-requires : goal.without-requires
without-requires c =
    let a = c.args in
    let m = c.has.ensures.yes c.if-has.true in
    let fits : a.s.0 < 2 ^ 64 = search rules in
    record { place = member_below 64 a.s.0 a.v fits m; member = m }

pub returns-then-has : goal.returns-then-has
returns-then-has c = record { each = c.without.ensures.each }

pub returns : goal.returns
returns c =
    let a = c.args in
    let-go-other a.s.0 a.v (c.has.ensures.no c.if-has.false)
