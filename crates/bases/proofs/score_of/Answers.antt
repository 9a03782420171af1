use Prim.Native.Nat.{◌^◌, ◌<◌}
use Rattle.vertex_set.proofs.Sums.{sum-over-same}
use Rattle.family_lists.proofs.MinimalSets.{least-of-minimal}
use Rattle.bases.specs.Score.{points_at}
use Rattle.bases.proofs.Bridge.{least-words, minimal-within, score-of}
use Rattle.bases.proofs.Scores.{score-base}
use Rattle.bases.proofs.Formed.{few}
use borrow.Author.Rules.{rules}
use Rattle.bases.proofs.score_of.Goals as goal

pub minimal_members-requires : goal.minimal_members-requires
minimal_members-requires c =
    let a = c.args in
    least-words a.loss a.graph a.target c.chosen-chosen.result.0 _ _ c.family_of.ensures c.words_for-words.ensures

pub returns : goal.returns
returns c =
    let a = c.args in
    let fits : c.chosen-chosen.result.0 < 2 ^ 64 = search rules in
    let k = few a.loss a.s c.chosen-chosen.result.0 c.requires.0 c.chosen-chosen.ensures in
    let r = score-of a.loss a.s a.graph a.target c.chosen-chosen.result.0 c.chosen-chosen.ensures _ fits k c.family_of.ensures c.least_sum.result _
    (λ x. sum-over-same _ (points_at a.loss a.s) x c.values_of-values.ensures.each)
    (least-of-minimal c.chosen-chosen.result.0 _ _ _ c.least_sum.result fits c.minimal_members.ensures c.least_sum.ensures) in
    record {
      all = r;
      base = λ l b. (score-base a.loss a.s a.graph a.target c.least_sum.result l b
          (minimal-within a.loss a.s a.graph a.target c.chosen-chosen.result.0 c.chosen-chosen.ensures _ fits k c.family_of.ensures)).to r;
    }
