use Rattle.std.proofs.Common.{ℕ, rules, Fits, w64}
use Rattle.setup.specs.Setup.{row_of}
use Rattle.formed.proofs.Edges.{edges-by-rows}
use Rattle.formed.proofs.edges_fit.Goals as goal

pub returns : goal.returns
returns c =
    let a = c.args in
    let words : (k : ℕ) → Fits w64 (row_of a.rows k) = search rules in
    edges-by-rows a.count a.v c.may_need.result.0 a.rows a.recovery c.rows_fit.result c.may_need.ensures (λ k. (words k).fits) c.rows_fit.ensures
