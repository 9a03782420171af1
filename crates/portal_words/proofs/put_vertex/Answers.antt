use mathlib.Core.List.{[], ◌∷◌}
use Rattle.portal_words.proofs.Writing.{wrote_as}
use Rattle.portal_words.proofs.put_vertex.Goals as goal

pub returns : goal.returns
returns c =
    wrote_as (λ i. c.kind_word.ensures i ∷ c.value_word.ensures i ∷ c.value_word-2.ensures i ∷ c.args.x.rank ∷ []) c.put.ensures
