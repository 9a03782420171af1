-- What the call for cut sets answers, for every setup, target and lent list.
use Rattle.std.specs.Prelude.{Result, List, [], ◌∷◌, ℕ, length}
use Rattle.setup.specs.declared.Setup.{Setup}
use Rattle.questions.specs.declared.Refusal.{Refusal}
use Rattle.questions.specs.Contract.{Reply, Contract}
use Rattle.questions.specs.Refusals.{replies}
use Rattle.questions.specs.Questions.{asks12, asks13}
use Rattle.cut_sets.specs.Cuts.{CutList, Duality}

-- The papers' number and values for each case of an answer: the number of sets.
abbrev pub cuts_reply : Result ℕ Refusal → Reply
cuts_reply = replies (λ n. n ∷ [])

-- The smallest cut sets, and what they are to the access base.
pub record AreCuts (s : Setup) (target : ℕ) (cuts : List ℕ) : Type 0 where
  pub list : CutList s target cuts
  pub duality : Duality s target cuts

-- 12, 13; else the number of the smallest cut sets, which are written; 15.
abbrev pub cuts_call : Setup → ℕ → List ℕ → Contract
cuts_call s target list =
    record {
      lent = list ∷ [];
      questions = asks12 s ∷ asks13 s target ∷ [];
      Answer = List ℕ;
      Right = AreCuts s target;
      values = λ cuts. length cuts ∷ [];
      writes = λ cuts. cuts ∷ [];
    }
