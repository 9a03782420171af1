use Rattle.std.proofs.Common.{◌≡◌, rules, tests}
use mathlib.Core.Logic.{◌⊎◌}
use Rattle.std.proofs.lemmas.Iterator.{cases_from_all, cases_from_any, YieldsList-from_slice}
use Rattle.vertex_set.specs.Set.{Meets}
use Rattle.closures.proofs.Colours.{broken-all}
use Rattle.closures.proofs.all_broken.Goals as goal

pub returns-then-any : goal.returns-then-any
returns-then-any c =
    let needs = c.args.rows.needs in
    let s = c.args.lost.0 in
    let some = cases_from_any _ _ _ (λ x. x ≡ 0 → ⊥) (λ x. x ≡ 0) c.any.ensures.ran (YieldsList-from_slice needs cc) (λ x q k. search (rules, tests)) (λ x q k. search (rules, tests)) in
    let each = cases_from_all _ _ _ (λ x. (x ≡ 0) ⊎ Meets x s) (λ x. (x ≡ 0 → ⊥) × (Meets x s → ⊥)) c.all.ensures.ran (YieldsList-from_slice needs cc) (λ x q k. search (rules, tests)) (λ x q k. search (rules, tests)) in
    broken-all c.args.rows s c.all.result (rw c.if-any.true at some) each
