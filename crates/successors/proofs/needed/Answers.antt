use Rattle.std.proofs.Common.{rules, ◌≡◌, bit_or, sym, subst}
use Rattle.std.specs.Prelude.{fold}
use Rattle.successors.specs.Inner.{Needed}
use Rattle.successors.proofs.Needs.{needed-fold}
use Rattle.successors.proofs.needed.Goals as goal

pub returns : goal.returns
returns c =
    let e : c.fold.result ≡ fold bit_or 0 c.args.rows.needs = search rules in
    subst (Needed c.args.rows) (sym e) (needed-fold c.args.rows)
