use mathlib.Core.Path.{◌≡◌, sym, subst}
use Prim.Native.Nat.{◌+◌, ◌<◌}
use mathlib.Core.Bool.{true, false}
use lib.ListN.{get_or, take}
use lib.Seq.{get_or-take}
use Rattle.std.proofs.Common.{rules}
use Rattle.std.specs.Prelude.{None}
use Rattle.std.specs.Option.{is_some}
use Rattle.pool_items.specs.declared.Remaining.{Remaining}
use Rattle.pool_items.proofs.Items.{no-place, some-place, CountsSoFar, counts-none, counts_same, counts-more}
use Rattle.pool_items.proofs.Shared.count_remaining.Goals as goal
use Rattle.pool_items.proofs.Shared.count_remaining.Goals.{else-remains, then-remains}

pub loop-j-init : goal.loop-j-init
loop-j-init c = counts-none _ _ _ _

pub loop-j-preserved : goal.loop-j-preserved
loop-j-preserved c =
    let a = c.args in
    let s = c.args.self.now in
    let h : c.loop-j.j < s.count = search rules in
    let e = get_or-take s.count s.places c.loop-j.j None h in
    elim c.if-remains.branch [
      | then-remains w ↦
          let n : is_some (get_or (take s.count s.places) c.loop-j.j None) ≡ false = search rules in
          subst (λ (x : Remaining). CountsSoFar a.vertices.now s.count s.places a.from.now x (c.loop-j.j + 1)) (sym w.r-is)
          (counts-more a.vertices.now s.count s.places a.from.now c.loop-j.r c.loop-j.j h c.requires c.loop-j.invariant w.with-r.result (no-place _ (rw e at n)) w.with-r.ensures)
      | else-remains w ↦
          let n : is_some (get_or (take s.count s.places) c.loop-j.j None) ≡ true = search rules in
          let i = some-place _ (rw e at n) in
          subst (λ (x : Remaining). CountsSoFar a.vertices.now s.count s.places a.from.now x (c.loop-j.j + 1)) (sym w.r-is)
          (counts_same a.vertices.now s.count s.places a.from.now c.loop-j.r c.loop-j.j h c.requires c.loop-j.invariant i.0 i.1)
    ]
