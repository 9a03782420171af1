-- `multiset_keys::key_at_most` meets its contract: no lane borrows from the next, so that the free bits tell.
-- Assumes nothing.
use native.Mathlib.Omega.{arith}
use Rattle.multiset_keys.proofs.Lanes.{key-tells, key-most}
use Rattle.multiset_keys.proofs.key_at_most.Goals as goal

pub overflow_add-result : goal.overflow_add-result
overflow_add-result c = record { fits = let h = key-most c.args.b c.requires.count_key_2 in omega arith }

pub overflow_sub-result : goal.overflow_sub-result
overflow_sub-result c = let h = key-most c.args.a c.requires.count_key in omega arith

pub returns : goal.returns
returns c = key-tells c.args.a c.args.b c.requires.count_key c.requires.count_key_2
