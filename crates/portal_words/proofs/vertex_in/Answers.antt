use Prim.Native.Nat.{◌+◌, ◌*◌}
use Rattle.portal_words.specs.Words.{word_at}
use Rattle.portal_words.proofs.vertex_in.Goals as goal

pub returns : goal.returns
returns c =
    let a = c.args in
    λ i. record {
      kind = c.kind_in.ensures i;
      start = c.value_in.ensures i;
      loss = c.value_in-2.ensures i;
      rank = word_at a.words.now (1 + 4 * a.v + 3);
    }
