-- `multiset_keys::columns_of` meets its contract: each call of the closure gives the key of one value.
-- Assumes nothing.
use borrow.Author.Rules.{rules}
use mathlib.Core.Path.{◌≡◌}
use native.Mathlib.Omega.{arith}
use Rattle.multiset_keys.specs.Inner.{packed_counts, high_marks}
use Rattle.multiset_keys.proofs.Maps.{mapped}
use Rattle.multiset_keys.proofs.columns_of.Goals as goal

pub returns : goal.returns
returns c =
    record {
      long = c.map.ensures.items.long;
      few = c.requires;
      each = λ v h. mapped _ (λ x y. y ≡ packed_counts (high_marks c.args.thresholds.now x)) (record { 0 = c.args.thresholds }) (λ x y q k. search (rules, k.met)) c.args.values c.map.result 0 64
          c.map.ensures.items.each v v h (omega arith) 0 0;
    }
