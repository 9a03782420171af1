-- What the call for a bag score answers, for every setup, target and two lent lists.
use Rattle.std.specs.Prelude.{Result, List, [], ◌∷◌, ℕ, length}
use Rattle.setup.specs.declared.Setup.{Setup}
use Rattle.questions.specs.declared.Refusal.{Refusal}
use Rattle.questions.specs.Contract.{Reply, Contract}
use Rattle.questions.specs.Refusals.{replies}
use Rattle.questions.specs.Questions.{asks12, asks13}
use Rattle.multiset_scores.specs.Scores.{MultisetScore, all_places, all_lengths}

-- The papers' number and values for each case of an answer: the number of multisets.
abbrev pub bags_reply : Result ℕ Refusal → Reply
bags_reply = replies (λ n. n ∷ [])

-- 12, 13; else the number of bags, with their values in one list, 14 places each, and their lengths in the other; 15.
abbrev pub bags_call : Setup → ℕ → List ℕ → List ℕ → Contract
bags_call s target places lengths =
    record {
      lent = places ∷ lengths ∷ [];
      questions = asks12 s ∷ asks13 s target ∷ [];
      Answer = List ℕ;
      Right = MultisetScore s target;
      values = λ l. length l ∷ [];
      writes = λ l. all_places s l ∷ all_lengths s l ∷ [];
    }
