-- The next member of the base's family stands for the next set of the base.
use Rattle.std.proofs.Common.{refl}
use Rattle.next_sets.proofs.Finding.{found-set, found_none}
use Rattle.next_sets.proofs.find_next.Goals as goal

pub returns-in_err-next : goal.returns-in_err-next
returns-in_err-next c =
    rw c.from_residual.ensures (found_none c.args.s c.args.target c.args.initial.0 c.args.last.0 _ _ _ _ c.well_formed.1.1.0.1.1.0.1 c.base_family.ensures c.requires.within
    c.mask_of-mask.ensures c.in_err-next.ensures refl)

pub returns : goal.returns
returns c =
    found-set c.args.s c.args.target c.args.initial.0 c.args.last.0 _ _ _ _ c.well_formed.1.1.0.1.1.0.1 c.base_family.ensures c.requires.within
    c.mask_of-mask.ensures c.in_ok-next.ensures _ _ refl c.set_of.ensures
