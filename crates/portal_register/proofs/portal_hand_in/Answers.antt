-- `portal_hand_in` meets its contract: the words are read as the setup, and the call is `register::hand_in`.
use Rattle.std.proofs.Common.{subst}
use Rattle.setup.specs.declared.Setup.{Setup}
use Rattle.register.specs.Calls.{HandInCall}
use Rattle.portal_register.proofs.portal_hand_in.Goals as goal

pub returns : goal.returns
returns c =
    let a = c.args in
    subst (λ (s : Setup). HandInCall s a.used a.student a.target a.lock a.sets.now c.hand_in.result a.records.now c.hand_in.new.records) c.setup_in-s.ensures c.hand_in.ensures
