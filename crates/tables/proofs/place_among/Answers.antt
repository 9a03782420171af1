-- `tables::place_among` meets its contract: the ones of a remainder by 2^v are a place.
-- Assumes nothing.
use Rattle.tables.proofs.Starts.{place-counted}
use Rattle.tables.proofs.place_among.Goals as goal

pub returns : goal.returns
returns c = place-counted c.args.chosen c.args.v c.requires
