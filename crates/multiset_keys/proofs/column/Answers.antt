use Prim.Native.Nat.{◌+◌, ◌*◌, ◌^◌, ◌<◌}
use native.Mathlib.Omega.{arith}
use Rattle.multiset_keys.proofs.Sums.{pushing-room, is-high-small}
use Rattle.multiset_keys.proofs.column.Goals as goal

pub overflow_mul-key : goal.overflow_mul-key
overflow_mul-key c =
    let room : c.loop-k.key * 256 + c.is_high-bit.result < 2 ^ 64 =
    pushing-room c.args.thresholds.now c.args.value c.loop-k.k c.loop-k.key c.loop-k.invariant c.requires (omega arith) _
    (is-high-small _ _ _ c.is_high-bit.ensures) in
    record { fits = omega arith }

pub overflow_add-key : goal.overflow_add-key
overflow_add-key c =
    record {
      fits = pushing-room c.args.thresholds.now c.args.value c.loop-k.k c.loop-k.key c.loop-k.invariant c.requires (omega arith) _
          (is-high-small _ _ _ c.is_high-bit.ensures);
    }
