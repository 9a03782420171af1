use Rattle.demands.proofs.ask_bags.Goals as goal

pub returns : goal.returns
returns c =
    record { compared = c.multiset_at_most-compared.ensures; score = c.multiset_score-score.ensures }
