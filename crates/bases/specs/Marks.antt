-- Marks for handed-in sets (document 01, "Marks").
use Rattle.std.specs.Prelude.{◌≡◌, Bool, cond, List, [], ◌∷◌, ℕ, ◌+◌, ◌-◌, eqb, length}
use Rattle.vertex_set.specs.Set.{ProperlyWithin, Iff}
use Rattle.vertex_set.specs.Order.{Listed, Once}
use Rattle.setup.specs.declared.Graph.{Graph}
use Rattle.setup.specs.declared.Setup.{Setup}
use Rattle.bases.specs.Base.{Derives, TargetSet, MinimalSet, Base}

-- What a handed-in set counts as: the first that fits, in this order.
pub data Mark : Type 0 where
  Repeated : Mark
  Shut : Mark
  Loose : Mark
  Right : Mark

-- Some proper subset of x has a derivation of the target, too.
pub record SmallerDerives (loss : Bool) (g : Graph) (target x : ℕ) : Type 0 where
  pub subset : ℕ
  pub proper : ProperlyWithin subset x
  pub derives : Derives loss g target subset

-- The set x, handed in after the sets `earlier`, counts as the mark.
abbrev pub CountsAs : Bool → Setup → Graph → ℕ → List ℕ → ℕ → Mark → Type 0
-- repeated: equal to an earlier one, whatever that counted as
CountsAs loss s g target earlier x Repeated = Listed earlier x
-- shut: no access set (lockout set), for a vertex outside the initial (losable) ones or for want of a derivation
CountsAs loss s g target earlier x Shut = (Listed earlier x → ⊥) × (TargetSet loss s g target x → ⊥)
-- loose: not minimal
CountsAs loss s g target earlier x Loose = (Listed earlier x → ⊥) × TargetSet loss s g target x × SmallerDerives loss g target x
-- right: a set of the base
CountsAs loss s g target earlier x Right = (Listed earlier x → ⊥) × MinimalSet loss s g target x

-- The handed-in sets count as the marks, one by one.
abbrev pub MarkedAs : Bool → Setup → Graph → ℕ → List ℕ → List ℕ → List Mark → Type 0
MarkedAs loss s g target earlier [] [] = Unit {0}
MarkedAs loss s g target earlier [] (m ∷ ms) = ⊥
MarkedAs loss s g target earlier (x ∷ h) [] = ⊥
MarkedAs loss s g target earlier (x ∷ h) (m ∷ ms) = CountsAs loss s g target earlier x m × MarkedAs loss s g target (x ∷ earlier) h ms

-- Marks by number, to tell them apart.
abbrev pub mark_number : Mark → ℕ
mark_number Repeated = 0
mark_number Shut = 1
mark_number Loose = 2
mark_number Right = 3

-- How many of the marks are m.
abbrev pub tally : Mark → List Mark → ℕ
tally m [] = 0
tally m (x ∷ ms) = cond (eqb (mark_number m) (mark_number x)) 1 0 + tally m ms

-- The five counts of a handed-in list: how often each mark was given, and how many sets of the base are missing.
pub record Counts (loss : Bool) (s : Setup) (g : Graph) (target : ℕ) (handed : List ℕ) (right repeated shut loose missing : ℕ) : Type 0 where
  pub marks : List Mark
  pub marked : MarkedAs loss s g target [] handed marks
  pub base : List ℕ
  pub is_base : Base loss s g target base
  pub is_right : right ≡ tally Right marks
  pub is_repeated : repeated ≡ tally Repeated marks
  pub is_shut : shut ≡ tally Shut marks
  pub is_loose : loose ≡ tally Loose marks
  pub is_missing : missing ≡ length base - right

-- Full marks are due: the handed-in list has the sets of the base, each once, and no other.
pub record IsBaseOnce (loss : Bool) (s : Setup) (g : Graph) (target : ℕ) (handed : List ℕ) : Type 0 where
  pub sets : (x : ℕ) → Iff (Listed handed x) (MinimalSet loss s g target x)
  pub once : Once handed

-- Full marks are given: nothing repeated, shut, loose or missing.
pub record Full (repeated shut loose missing : ℕ) : Type 0 where
  pub none_repeated : repeated ≡ 0
  pub none_shut : shut ≡ 0
  pub none_loose : loose ≡ 0
  pub none_missing : missing ≡ 0
