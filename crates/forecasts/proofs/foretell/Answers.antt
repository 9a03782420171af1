-- `forecasts::foretell` meets its contract: at most 14 vertices are counted, and the table has the forecast for each number up to 14.
-- Assumes nothing.
use Prim.Native.Nat.{◌≤◌}
use native.Mathlib.Omega.{arith}
use lib.Bits.{bit_and}
use lib.Count.{ones}
use Rattle.forecasts.proofs.Bounds.{counted-few, foretold}
use Rattle.forecasts.proofs.foretell.Goals as goal

pub overflow_cast-counted : goal.overflow_cast-counted
overflow_cast-counted c =
    let few : ones (bit_and c.chosen-chosen.result.0 c.reaching-found.result.0) ≤ 14 = counted-few c.args.s c.args.target c.chosen-chosen.result.0 c.reaching-found.result.0 c.chosen-chosen.ensures c.reaching-found.ensures c.requires.well_formed in
    let l = few in record { fits = omega arith }

pub choose_half-requires : goal.choose_half-requires
choose_half-requires c =
    let few : ones (bit_and c.chosen-chosen.result.0 c.reaching-found.result.0) ≤ 14 = counted-few c.args.s c.args.target c.chosen-chosen.result.0 c.reaching-found.result.0 c.chosen-chosen.ensures c.reaching-found.ensures c.requires.well_formed in
    few

pub returns : goal.returns
returns c =
    foretold c.args.s c.args.target c.chosen-chosen.result.0 c.reaching-found.result.0 c.chosen-chosen.ensures c.reaching-found.ensures _ c.choose_half.ensures
