use mathlib.Core.Bool.{◌&&◌}
use Prim.Native.Nat.{ℕ}
use lib.Dec.{eqb}
use Rattle.std.proofs.Common.{arith, rules, tests}
use Rattle.std.proofs.lemmas.Iterator.{YieldsList-from_slice, YieldsList-from_zip}
use Rattle.std.proofs.lemmas.Iterator.Search.{position_from_yields_List}
use Rattle.sheet_rows.proofs.Tables.{found_in}
use Rattle.sheet_rows.proofs.ItemKeys.find.Goals as goal

pub returns : goal.returns
returns c =
    let s = c.args.self.now in
    found_in s.low s.high s.count c.args.key c.position.result (search (rules, arith)) (search (rules, arith))
    (position_from_yields_List (λ (p : ℕ × ℕ). eqb p.0 c.args.key.low && eqb p.1 c.args.key.high) c.position.new.self _ c.position.result c.position.ensures.ran
    (YieldsList-from_zip (YieldsList-from_slice _ cc) (YieldsList-from_slice _ cc)) (λ x b q k. search (rules, tests)))
