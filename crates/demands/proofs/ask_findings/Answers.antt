use Rattle.demands.proofs.Calls.{reached}
use Rattle.demands.proofs.ask_findings.Goals as goal

pub returns : goal.returns
returns c =
    record { backdoor = c.has_backdoor-backdoor.ensures; idle = c.ineffective_recovery-idle.ensures; pair = c.inconsistent-pair.ensures; formed = reached _ _ c.well_formed-formed.ensures }
