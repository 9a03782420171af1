-- `writing::Pen::put_number` meets its contract: the digits, then the byte behind them.
use Rattle.writing.proofs.Pens.{penned_then, room_then}
use Rattle.writing.proofs.Pen.put_number.Goals as goal

pub put_byte-requires : goal.put_byte-requires
put_byte-requires c = room_then _ _ _ c.put_digits.ensures _ c.requires

pub returns : goal.returns
returns c = penned_then _ _ _ c.put_digits.ensures _ _ c.put_byte.ensures
