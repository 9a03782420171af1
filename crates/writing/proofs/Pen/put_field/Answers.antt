-- `writing::Pen::put_field` meets its contract: the text, then the byte behind it.
use Rattle.writing.proofs.Pens.{penned_then, room_then}
use Rattle.writing.proofs.Pen.put_field.Goals as goal

pub put_byte-requires : goal.put_byte-requires
put_byte-requires c = room_then _ _ _ c.put.ensures _ c.requires

pub returns : goal.returns
returns c = penned_then _ _ _ c.put.ensures _ _ c.put_byte.ensures
