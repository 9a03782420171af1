use native.Mathlib.Omega.{arith}
use Rattle.attackers.proofs.Table.{table_at}
use Rattle.attackers.proofs.at_most.Goals as goal

pub returns-then-b-lt-KINDS : goal.returns-then-b-lt-KINDS
returns-then-b-lt-KINDS c =
    let a = c.args in
    table_at a.a a.b (omega arith) (omega arith)
