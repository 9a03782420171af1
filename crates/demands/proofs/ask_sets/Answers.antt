use Rattle.demands.proofs.ask_sets.Goals as goal

pub returns : goal.returns
returns c =
    record { closure = c.access_from-closure.ensures; lost = c.lockout_from-lost.ensures; way = c.access_derivation-way.ensures; quick = c.opens-quick.ensures }
