use mathlib.Core.Path.{◌≡◌}
use Prim.Native.Nat.{ℕ, ◌/◌, ◌^◌, ◌%◌}
use native.Mathlib.Omega.{arith}
use borrow.Author.Rules.{rules}
use Rattle.vertex_set.specs.Set.{Member}
use Rattle.families.proofs.Steps.{to_none, to-more, to_same}
use Rattle.families.proofs.steps_to_word.Goals as goal
use Rattle.families.proofs.steps_to_word.Goals.{else-bit-eq1, then-bit-eq1}

is_set : (b j : ℕ) → b / 2 ^ j % 2 ≡ 1 → Member b j
unfolding Member
is_set b j e = e

is-not-set : (b j : ℕ) → (b / 2 ^ j % 2 ≡ 1 → ⊥) → Member b j → ⊥
unfolding Member
is-not-set b j n = n

pub loop-j-init : goal.loop-j-init
loop-j-init c = (search rules, to_none c.args.f.now c.args.b)

pub loop-j-preserved : goal.loop-j-preserved
loop-j-preserved c =
    let f = c.args.f.now in
    let inv = c.loop-j.invariant.1 in (
      omega arith,
      elim c.if-bit-eq1.branch [ then-bit-eq1 w ↦ rw w.lanes-is (to-more f c.args.b c.loop-j.j c.loop-j.lanes (omega arith) (is_set _ _ w.if-bit-eq1.true) inv) | else-bit-eq1 w ↦ rw w.lanes-is (to_same f c.args.b c.loop-j.j c.loop-j.lanes (is-not-set _ _ w.if-bit-eq1.false) inv) ],
    )
