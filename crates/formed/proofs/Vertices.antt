-- A vertex's kind.
-- Assumes nothing.
use mathlib.Core.Path.{◌≡◌}
use Rattle.setup.specs.declared.Kind.{Kind}
use Rattle.setup.specs.declared.Kind.TheVariants.{Credential, Account}

pub not-credential : (k : Kind) → k ≡ Account → k ≡ Credential → ⊥
not-credential k p q = cc
