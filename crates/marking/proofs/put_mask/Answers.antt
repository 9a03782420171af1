use Rattle.marking.proofs.Seeing.{put-mask}
use borrow.Author.Rules.{rules}
use Rattle.marking.proofs.put_mask.Goals as goal

pub returns : goal.returns
returns c = put-mask c.args.f.now c.args.m (search rules) (search rules)
