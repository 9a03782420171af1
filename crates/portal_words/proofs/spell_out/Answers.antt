use Rattle.portal_words.specs.Words.{word_at, spelt}
use Rattle.portal_words.proofs.spell_out.Goals as goal

pub returns : goal.returns
unfolding spelt
returns c =
    let words = c.args.words.now in
    λ k. record {
      count = word_at words 0;
      vertices = c.vertices_in.ensures k;
      graph = c.graph_in.ensures k;
      recovery = c.graph_in-2.ensures k;
      held = record { 0 = word_at words 1281 };
      opened = record { 0 = word_at words 1282 };
    }
