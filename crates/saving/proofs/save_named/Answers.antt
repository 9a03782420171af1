-- `saving::save_named` meets its contract: the text is written to a buffer of its own, and handed out.
use mathlib.Core.Path.{refl}
use Rattle.sheet_format.specs.Names.{name_of}
use Rattle.save_format.specs.Inner.{saved_text}
use Rattle.writing.proofs.HandingOut.{text-there}
use Rattle.saving.proofs.Calls.{setup-named}
use Rattle.saving.proofs.save_named.Goals as goal

pub put_sheet-size-requires : goal.put_sheet-size-requires
put_sheet-size-requires c =
    record { named = setup-named _ _ _ _ c.requires c.name_places-places.ensures refl refl refl; room = c.requires.short }

pub returns : goal.returns
returns c =
    rw (text-there _ (saved_text (name_of c.args.sheet.now) c.args.s) _ _ c.requires.short c.put_sheet-size.ensures) at c.hand_out.ensures
