-- `handin_lines::tasks::hand_over` meets its contract: the sets stand in a list of their own, and its first places are marked.
use borrow.Author.Rules.{rules}
use Rattle.handin_lines.specs.declared.lines.LineRead.TheVariants as read
use Rattle.handin_lines.specs.Inner.Lines.{line_said}
use Rattle.handin_lines.proofs.Entering.{hands-over}
use Rattle.handin_lines.proofs.tasks.hand_over.Goals as goal

pub returns : goal.returns
returns c =
    let a = c.args in
    hands-over a.keys.now.low a.keys.now.high a.keys.now.count a.s a.l.now (line_said (read.Attempt a.attempt a.start)) c.attempt.result _ _ c.put_sets.result c.requires (search rules) c.put_sets.ensures c.attempt.ensures
