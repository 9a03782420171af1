-- A line of a failure is four texts, each put behind the one before.
use Rattle.std.proofs.KnownBytes.{Appends-trans}
use Rattle.streams.proofs.fail.Goals as goal

pub returns : goal.returns
returns g c =
    let one = Appends-trans _ _ _ _ _ c.write_whole.ensures.bytes c.write_whole-2.ensures.bytes in
    let two = Appends-trans _ _ _ _ _ one c.write_whole-3.ensures.bytes in
    record { added = _; appended = Appends-trans _ _ _ _ _ two c.write_whole-4.ensures.bytes }
