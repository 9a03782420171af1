-- `family_words::start_words` meets its contract: a pattern in every word, or whole words, which the loop writes.
-- Assumes nothing.
use Prim.Native.Nat.{◌-◌, ◌*◌, ◌/◌, ◌%◌, ◌^◌}
use lib.ListN.{replicate}
use Rattle.family_words.proofs.Words.{Mapped}
use Rattle.family_words.proofs.start_words.Given as goal

-- The words before b are all ones where their number has the bit k - 6, and 0 where not; the others are 0.
abbrev pub invariant-loop-b : goal.invariant-loop-b
invariant-loop-b l = Mapped (λ n. n / 2 ^ (l.k - 6) % 2 * (2 ^ 64 - 1)) (replicate 16 0) l.word-items l.b
