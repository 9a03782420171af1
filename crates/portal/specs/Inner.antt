-- What the inner functions ask and answer. Nothing of this has to be believed.
use Rattle.std.specs.Prelude.{◌≡◌, [], ◌∷◌, ℕ, ◌+◌}
use Rattle.scores.specs.Never.{never}
use Rattle.questions.specs.Contract.{Reply, gives, refuses}

-- A value is coded as itself, and a refusal by its number.
pub record Coded (reply : Reply) (r : ℕ) : Type 0 where
  pub value : (x : ℕ) → reply ≡ gives (x ∷ []) → r ≡ x
  pub refusal : (q : ℕ) → reply ≡ refuses q → r ≡ never + q
