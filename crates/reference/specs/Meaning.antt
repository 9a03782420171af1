-- What the executable definitions are: on each well formed setup and graph of it, the declared ones. Statements only; proofs/Meaning.antt
-- has the theorem.
use Rattle.std.specs.Prelude.{◌≡◌, Bool, true, false, List, [], ◌∷◌, ℕ}
use Rattle.vertex_set.specs.Set.{Member, Decides}
use Rattle.setup.specs.declared.Graph.{Graph}
use Rattle.setup.specs.declared.Setup.{Setup}
use Rattle.derivations.specs.Derivation.{Closure}
use Rattle.derivations.specs.Access.{HasAccess}
use Rattle.derivations.specs.Both.{rule_of}
use Rattle.derivations.specs.Passes.{Passes}
use Rattle.derivations.specs.Way.{Way}
use Rattle.bases.specs.Base.{Derives, Base}
use Rattle.bases.specs.Score.{Score}
use Rattle.bases.specs.Marks.{Counts}
use Rattle.reference.specs.Closures.{closure_of, pass_count_of, derives_of, way_of}
use Rattle.reference.specs.Bases.{base_of, score_of, marks_of}

-- The executable definitions are the declared ones, on the setup s and the graph g.
pub record Meaning (s : Setup) (g : Graph) : Type 0 where
  -- of any set, vertices of the setup or not
  pub closure : (loss : Bool) (set : ℕ) → Closure (rule_of loss g) set (closure_of loss s.count g set)
  pub passes : (loss : Bool) (set : ℕ) → Passes (rule_of loss g) (pass_count_of loss s.count g set) set (closure_of loss s.count g set)
  pub derives : (loss : Bool) (target set : ℕ) → Decides (Derives loss g target set) (derives_of loss s.count g target set)
  -- the way in where there is one, and else no derivation
  pub way : (target set : ℕ) → derives_of false s.count g target set ≡ true → Way g target (Member set) (way_of s.count g target set)
  pub shut : (target set : ℕ) → derives_of false s.count g target set ≡ false → HasAccess g (Member set) target → ⊥
  pub base : (loss : Bool) (target : ℕ) → Base loss s g target (base_of loss s g target)
  pub score : (loss : Bool) (target : ℕ) → Score loss s g target (score_of loss s g target)
  pub counts : (loss : Bool) (target : ℕ) (handed : List ℕ)
      → (right : ℕ) × (repeated : ℕ) × (shut : ℕ) × (loose : ℕ) × (missing : ℕ)
      × (marks_of loss s g target handed ≡ right ∷ repeated ∷ shut ∷ loose ∷ missing ∷ [])
      × Counts loss s g target handed right repeated shut loose missing
