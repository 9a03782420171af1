-- Looking for a byte, and testing each byte, by what std says of `position` and `all`.
-- Assumes nothing.
use mathlib.Core.Path.{◌≡◌, refl, sym, ap, ◌∙◌}
use mathlib.Core.List.{List, [], ◌∷◌}
use mathlib.Core.Bool.{Bool, cond}
use mathlib.Core.Logic.{⊎_elim}
use Prim.Native.Nat.{ℕ, ◌-◌, min}
use native.Mathlib.Omega.{arith}
use lib.ListN.{length, take, drop, drop_of_length-le}
use lib.Dec.{eqb, ltb}
use borrow.Author.Tests.{ltb-false}
use Rattle.std.specs.Prelude.{Option, Some, None, unwrap_or}
use Rattle.std.specs.List.{position_or_len, list_all}
use Rattle.vertex_set.proofs.Cases.{by_test, less-or}
use Rattle.sheet_format.specs.Text.{all}
use Rattle.sheet_fields.specs.Inner.Parts.{until}
use Rattle.sheet_fields.proofs.Cutting.{until-le}
use Rattle.sheet_fields.proofs.Slices.{rest_part}

pub until-position : (b : ℕ) (s : List ℕ) → position_or_len (λ x. eqb x b) s ≡ until b s
unfolding until
until-position b [] = refl
until-position b (a ∷ s) = let h = until-position b s in by_test (eqb a b) (λ e. rw e) (λ e. rw e (omega arith))

-- `position`, and the length where there is no place
pub found : (b : ℕ) (s : List ℕ) (r : Option ℕ) → r ≡ cond (ltb (position_or_len (λ x. eqb x b) s) (length s)) (Some (position_or_len (λ x. eqb x b) s)) None
    → unwrap_or r (length s) ≡ until b s
found b s r e =
    let u = until-position b s in
    let l = until-le b s in
    by_test (ltb (until b s) (length s))
    (λ t. rw (e, u, t))
    (λ t. rw (e, u, t) (let k = ltb-false (until b s) (length s) t in omega arith))

-- the part of a text from `at` on, or from its end
pub from-min : (s : List ℕ) (at m : ℕ) → m ≡ min at (length s) → take (length s - m) (drop m s) ≡ drop at s
from-min s at m e =
    rest_part s m
    ∙ ⊎_elim (λ h. ap (λ (k : ℕ). drop k s) (let r : m ≡ at = omega arith in r)) (λ h. drop_of_length-le s {i = m} (omega arith) ∙ sym (drop_of_length-le s {i = at} h)) (less-or at (length s))

pub all-list : (test : ℕ → Bool) (s : List ℕ) → list_all test s ≡ all test s
unfolding all
all-list test [] = refl
all-list test (b ∷ s) = rw (all-list test s)
