-- `report_rows::fields::ItemNames::put_set_field` meets its contract: the items, then the byte behind them.
use Rattle.writing.proofs.Pens.{penned_then, room_then}
use Rattle.report_rows.proofs.fields.ItemNames.put_set_field.Goals as goal

pub put_byte-requires : goal.put_byte-requires
put_byte-requires c = room_then _ _ _ c.put_items.ensures _ c.requires.room

pub returns : goal.returns
returns c = penned_then _ _ _ c.put_items.ensures _ _ c.put_byte.ensures
