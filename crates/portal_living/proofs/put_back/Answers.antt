use Rattle.portal_living.proofs.Calls.{put-words}
use Rattle.portal_living.proofs.put_back.Goals as goal

pub returns-in-Ok-clause-accepted : goal.returns-in-Ok-clause-accepted
returns-in-Ok-clause-accepted c = rw c.in-Ok.is (put-words _ _ _ _ (rw c.in-Ok.is at c.requires) c.put_setup.ensures)
