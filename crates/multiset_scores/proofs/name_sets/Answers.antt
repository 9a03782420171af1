use Rattle.std.proofs.Common.{ℕ, ◌^◌, ◌<◌, ◌≡◌, ◌∙◌, ap, sym, length, take, arith, rules}
use Rattle.std.proofs.lemmas.List.{take-append-le, length-take-le}
use Rattle.std.proofs.Math.Seq.{take-length}
use Rattle.multiset_scores.specs.Inner.{sets_of_masks}
use Rattle.multiset_scores.proofs.Finding.{naming-none, naming-more}
use Rattle.multiset_scores.proofs.name_sets.Goals as goal

pub loop-mask-init : goal.loop-mask-init
loop-mask-init c = naming-none _ _

pub loop-mask-preserved : goal.loop-mask-preserved
loop-mask-preserved c =
    let word : c.args.initial.0 < 2 ^ 64 = search rules in
    naming-more c.args.initial.0 _ c.loop-mask.mask-index c.loop-mask.mask-items word c.loop-mask-test.true c.loop-mask.invariant _ c.set_of.ensures

pub returns : goal.returns
returns c =
    let l = c.loop-mask in
    let n = length-take-le c.args.n c.args.kept.now c.requires in
    let long : length l.mask-items ≡ c.args.n = l.invariant.long ∙ n in
    let end : l.mask-index ≡ c.args.n = omega arith in
    record {
      are = take-append-le c.args.n l.mask-items _ (omega arith)
          ∙ (ap (λ (i : ℕ). take i l.mask-items) (sym end)
          ∙ (l.invariant.done ∙ ap (sets_of_masks c.args.initial.0) (ap (λ (i : ℕ). take i (take c.args.n c.args.kept.now)) (end ∙ sym n) ∙ take-length _)));
    }
