-- A kind is told by its number.
-- Assumes nothing.
use mathlib.Core.Path.{◌≡◌, refl}
use native.Mathlib.Omega.{arith}
use Rattle.setup.specs.declared.Kind.{Kind}
use Rattle.setup.specs.declared.Kind.TheVariants.{Credential, Account}
use Rattle.setup.specs.Inner.{kind_number}

pub kind-same : (a b : Kind) → kind_number a ≡ kind_number b → a ≡ b
kind-same Credential Credential e = refl
kind-same Credential Account e = absurd (omega arith)
kind-same Account Credential e = absurd (omega arith)
kind-same Account Account e = refl
