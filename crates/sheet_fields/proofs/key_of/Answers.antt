use Rattle.sheet_fields.proofs.Packing.{key-cut}
use Rattle.sheet_fields.proofs.key_of.Goals as goal

pub returns : goal.returns
returns c =
    let s = c.split_at in
    key-cut c.args.name.now s.result.0.now s.result.1.now c.min.result c.pack.result c.pack-2.result c.min.ensures s.ensures.front s.ensures.back c.pack.ensures c.pack-2.ensures
