use Rattle.std.proofs.Common.{rules, ◌∙◌}
use Rattle.std.specs.Array.{IsFirstChunk}
use Rattle.portal_words.proofs.Front.{spelt-front, none-front}
use Rattle.portal_words.proofs.setup_in.Goals as goal

pub returns-then-kinds_said : goal.returns-then-kinds_said
returns-then-kinds_said c =
    let f : IsFirstChunk c.args.words.now c.unwrap-front.result.now 1283 = search rules in
    c.spell_out.ensures ∙ spelt-front c.args.words.now _ f (c.kinds_said.ensures.yes c.if-kinds_said.true)

pub returns : goal.returns
returns c =
    let f : IsFirstChunk c.args.words.now c.unwrap-front.result.now 1283 = search rules in
    c.no_items-2.ensures ∙ none-front c.args.words.now _ f (c.kinds_said.ensures.no c.if-kinds_said.false)
