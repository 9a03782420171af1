use mathlib.Core.Path.{◌∙◌}
use lib.Dec.{eqb}
use mathlib.Core.List.{List}
use Prim.Native.Nat.{ℕ}
use lib.ListN.{length}
use Rattle.std.proofs.Common.{rules, tests}
use Rattle.std.specs.List.{slice_split}
use Rattle.std.proofs.lemmas.Iterator.Splits.{YieldsList-from_slice_split}
use Rattle.std.proofs.lemmas.Iterator.Search.{position_from_yields_List}
use Rattle.std.proofs.lemmas.Iterator.Adapters.{position_from-zero}
use Rattle.handin_lines.proofs.Shapes.{filled-found, filled-over}
use Rattle.handin_lines.proofs.lines.first_empty.Goals as goal

pub returns-in_err-empty : goal.returns-in_err-empty
returns-in_err-empty c =
    let e = position_from_yields_List (λ (f : List ℕ). eqb (length f) 0) c.position.new.self _ c.position.result c.position.ensures.ran
    (YieldsList-from_slice_split _ (λ b. eqb b 32) c.args.l.now c.split.ensures.rest c.split.ensures.done c.split.ensures.closure (λ x b q k. search (rules, tests))) (λ x b q k. search (rules, tests)) in
    rw c.from_residual.ensures (filled-over c.args.l.now c.position.result (e ∙ position_from-zero {B = List ℕ} (λ f. eqb (length f) 0) (slice_split (λ b. eqb b 32) c.args.l.now)) c.in_err-empty.was)

pub returns : goal.returns
returns c =
    let e = position_from_yields_List (λ (f : List ℕ). eqb (length f) 0) c.position.new.self _ c.position.result c.position.ensures.ran
    (YieldsList-from_slice_split _ (λ b. eqb b 32) c.args.l.now c.split.ensures.rest c.split.ensures.done c.split.ensures.closure (λ x b q k. search (rules, tests))) (λ x b q k. search (rules, tests)) in
    filled-found c.args.l.now c.position.result (e ∙ position_from-zero {B = List ℕ} (λ f. eqb (length f) 0) (slice_split (λ b. eqb b 32) c.args.l.now)) c.in_ok-empty.empty c.in_ok-empty.was
