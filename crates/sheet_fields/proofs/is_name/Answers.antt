use Rattle.std.proofs.Common.{arith, rules, tests}
use Rattle.std.proofs.lemmas.Bool.Decides.{nat_tests}
use Rattle.std.proofs.lemmas.Iterator.{YieldsList-from_slice}
use Rattle.std.proofs.lemmas.Iterator.Search.{all_from_yields_List}
use Rattle.sheet_format.specs.Fields.{is_name_byte, is_name}
use Rattle.sheet_fields.proofs.Scans.{all-list}
use Rattle.sheet_fields.proofs.is_name.Goals as goal

pub returns-then-f-le-NAME_BYTES : goal.returns-then-f-le-NAME_BYTES
unfolding is_name
returns-then-f-le-NAME_BYTES c =
    let all = all_from_yields_List is_name_byte _ _ c.all.result c.all.ensures.ran (YieldsList-from_slice c.args.f.now cc) (λ x b q k. search (rules, tests)) in
    let same = all-list is_name_byte c.args.f.now in
    grind (arith, nat_tests)

pub returns-else-f-le-NAME_BYTES : goal.returns-else-f-le-NAME_BYTES
unfolding is_name
returns-else-f-le-NAME_BYTES c = grind (arith, nat_tests)
