use mathlib.Core.Path.{sym, ◌∙◌}
use Rattle.sheet_format.proofs.Fields.{name-length}
use Rattle.sheet_fields.proofs.read_name.Goals as goal

pub key_of-requires : goal.key_of-requires
key_of-requires c = name-length c.args.f.now (sym c.is_name.ensures ∙ c.if-is_name.true)
