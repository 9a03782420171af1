use mathlib.Core.Path.{◌≡◌, ◌∙◌}
use Prim.Native.Nat.{◌-◌, ◌*◌}
use native.Mathlib.Omega.{arith}
use lib.ListN.{length, take, drop}
use borrow.Author.Rules.{rules}
use Rattle.std.proofs.lemmas.List.{take-take}
use Rattle.report_scores.proofs.words_of.Goals as goal

pub returns : goal.returns
returns c =
    let w = c.args.w.now in
    let at = c.args.v * 256 in
    let e : c.unwrap.result.now ≡ take 256 (take (length w - at) (drop at w)) = search rules in
    e ∙ take-take 256 (length w - at) (drop at w) (omega arith)
