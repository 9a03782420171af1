-- `family_words::merge_in` meets its contract. The invariant: the words before b are merged with those of s, the others are as they were.
-- Assumes nothing.
use lib.ListN.{get_or}
use Rattle.family_words.specs.Inner.Words.{merged_word}
use Rattle.family_words.proofs.Words.{Mapped}
use Rattle.family_words.proofs.merge_in.Given as goal

abbrev pub invariant-loop-b : goal.invariant-loop-b
invariant-loop-b l = Mapped (λ k. merged_word l.any (get_or l.initial.d k 0) (get_or l.s k 0)) l.initial.d l.d l.b
