use mathlib.Core.Path.{ap, ◌∙◌}
use Prim.Native.Nat.{ℕ, ◌+◌}
use lib.Dec.{eqb}
use Rattle.std.proofs.Common.{rules, tests}
use Rattle.std.proofs.lemmas.Iterator.{YieldsList-from_slice}
use Rattle.std.proofs.lemmas.Iterator.Search.{position_from_yields_List}
use Rattle.sheet_fields.proofs.Scans.{found, from-min}
use Rattle.sheet_fields.proofs.find.Goals as goal

pub returns : goal.returns
returns c =
    let a = c.args in
    let rest = from-min a.s.now a.at c.min.result c.min.ensures in
    let p = position_from_yields_List (λ x. eqb x a.b) _ _ c.position.result c.position.ensures.ran (YieldsList-from_slice _ cc) (λ x b q k. search (rules, tests)) in
    ap (λ (k : ℕ). a.at + k) (c.unwrap_or.ensures ∙ found a.b _ c.position.result p ∙ rw rest)
