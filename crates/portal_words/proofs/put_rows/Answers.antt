use mathlib.Core.Path.{◌≡◌}
use native.Mathlib.Omega.{arith}
use lib.ListN.{length}
use borrow.Author.Rules.{rules}
use Rattle.portal_words.proofs.put_rows.Goals as goal

pub put-requires : goal.put-requires
put-requires c =
    let long : length c.args.rows.needs ≡ 8 = search rules in
    omega arith
