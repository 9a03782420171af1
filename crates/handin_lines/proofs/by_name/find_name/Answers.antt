use mathlib.Core.Bool.{◌&&◌}
use Prim.Native.Nat.{ℕ}
use lib.Dec.{eqb}
use Rattle.std.proofs.Common.{arith, rules, tests}
use Rattle.std.proofs.lemmas.Iterator.{YieldsList-from_slice, YieldsList-from_zip}
use Rattle.std.proofs.lemmas.Iterator.Search.{position_from_yields_List}
use Rattle.sheet_rows.proofs.Tables.{found_in}
use Rattle.handin_lines.proofs.by_name.find_name.Goals as goal

pub returns : goal.returns
returns c =
    let a = c.args in
    found_in a.low.now a.high.now a.count a.key c.position.result c.requires.0 c.requires.1
    (position_from_yields_List (λ (p : ℕ × ℕ). eqb p.0 a.key.low && eqb p.1 a.key.high) c.position.new.self _ c.position.result c.position.ensures.ran
    (YieldsList-from_zip (YieldsList-from_slice _ cc) (YieldsList-from_slice _ cc)) (λ x b q k. search (rules, tests)))
