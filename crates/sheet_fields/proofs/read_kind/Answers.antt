use Rattle.std.proofs.Common.{rules}
use Rattle.sheet_fields.proofs.Forms.{kind_short, kind_long, kind_credential, kind_account, kind_other}
use Rattle.sheet_fields.proofs.read_kind.Goals as goal

pub returns-in-c : goal.returns-in-c
returns-in-c c = search (rules, kind_credential)

pub returns-in-a : goal.returns-in-a
returns-in-a c = search (rules, kind_account)

pub returns-in_default : goal.returns-in_default
returns-in_default c = kind_short c.args.f.now c.in_default.len_below

pub returns-in_default-2 : goal.returns-in_default-2
returns-in_default-2 c = search (rules, kind_other)

pub returns-in_default-3 : goal.returns-in_default-3
returns-in_default-3 c = kind_long c.args.f.now c.in_default.len_at_least
