use Rattle.std.specs.Prelude.{◌≤◌, ◌↔◌, IsTrue, EachIndex, slice_index}
use borrow.Author.Rules.{rules}
use Rattle.multisets.specs.Meaning.{at_least}
use Rattle.multisets.proofs.Meaning.{fewer-by-all}
use Rattle.multisets.proofs.is_fewer.Goals as goal

pub returns : goal.returns
returns c =
    let a = c.args.a.now in
    let b = c.args.b.now in
    let each : IsTrue c.all.result ↔ EachIndex a (λ k. at_least a (slice_index a k) ≤ at_least b (slice_index a k)) = search rules in
    fewer-by-all a b c.all.result each
