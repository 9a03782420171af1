-- Kinds of intruder (document 02, point 1; document 003, 4.4: attackers): the six kinds and their order, the kind of a set, a target's score, and who gets in.
use Rattle.std.specs.Prelude.{◌≡◌, false, List, ℕ, zero, suc, ◌+◌, ◌*◌, ◌/◌, ◌%◌, ◌^◌, ◌≤◌, ◌<◌, max, get_or}
use Rattle.vertex_set.specs.Set.{Member, Iff}
use Rattle.setup.specs.declared.Setup.{Setup}
use Rattle.setup.specs.Setup.{Chosen}
use Rattle.formed.specs.WellFormed.{WellFormed}
use Rattle.derivations.specs.Access.{HasAccess}
use Rattle.bases.specs.Base.{TargetSet, MinimalSet}

-- ---- the six kinds

-- Where an attacker acts: 0 remote, 1 local. A kind's number is 3 times the location plus the skill.
abbrev pub location : ℕ → ℕ
location k = k / 3

-- The attacker's skill: 0 none, 1 some, 2 expert.
abbrev pub skill : ℕ → ℕ
skill k = k % 3

-- One kind is at most another if both parts are (document 003, definition 15).
pub record KindAtMost (a b : ℕ) : Type 0 where
  pub locations : location a ≤ location b
  pub skills : skill a ≤ skill b

-- One kind is below another: at most it, and not the same.
pub record Weaker (a b : ℕ) : Type 0 where
  pub at_most : KindAtMost a b
  pub other : a ≡ b → ⊥

-- ---- the kind of a set

-- The largest of the values of those vertices of s that are below n; 0 where there is none.
abbrev pub largest_below : (ℕ → ℕ) → ℕ → ℕ → ℕ
largest_below value s zero = 0
largest_below value s (suc n) = max (largest_below value s n) (s / 2 ^ n % 2 * value n)

-- The largest of the values of the vertices of s.
unfoldable pub largest_over : (ℕ → ℕ) → ℕ → ℕ
largest_over value s = largest_below value s 64

-- The kind of a set, where `kinds` has one for each vertex: the larger of each part, and not the larger number.
unfoldable pub attacker_of : List ℕ → ℕ → ℕ
attacker_of kinds x = 3 * largest_over (λ v. location (get_or kinds v 0)) x + largest_over (λ v. skill (get_or kinds v 0)) x

-- ---- the score

-- k is the kind of a set of the target's access base (document 01: of its opening list).
pub record OfBase (s : Setup) (kinds : List ℕ) (target k : ℕ) : Type 0 where
  pub set : ℕ
  pub is : MinimalSet false s s.graph target set
  pub attacker : k ≡ attacker_of kinds set

-- k is a kind of the score: one over the access base, and none of the other kinds over the base is below it (document 003, definition 17).
pub record KindInScore (s : Setup) (kinds : List ℕ) (target k : ℕ) : Type 0 where
  pub is : OfBase s kinds target k
  pub none : (j : ℕ) → OfBase s kinds target j → Weaker j k → ⊥

-- An attacker of kind t gets in: the initial vertices of at most that kind open the target.
abbrev pub GetsIn : Setup → List ℕ → ℕ → ℕ → Type 0
GetsIn s kinds target t = HasAccess s.graph (λ v. Chosen false s v × KindAtMost (get_or kinds v 0) t) target

-- The kind t is above some kind of the score r, or equal to it.
pub record AtOrAbove (r t : ℕ) : Type 0 where
  pub attacker : ℕ
  pub member : Member r attacker
  pub at_most : KindAtMost attacker t

-- r is the score, as the sum of 2^k over its kinds: 0 for none. Of the six kinds exactly those at or above a kind of the score get in.
pub record AttackerScore (s : Setup) (kinds : List ℕ) (target r : ℕ) : Type 0 where
  pub each : (k : ℕ) → Iff (Member r k) (KindInScore s kinds target k)
  pub none : ((k : ℕ) → KindInScore s kinds target k → ⊥) → r ≡ 0
  pub intruders : (t : ℕ) → t < 6 → Iff (AtOrAbove r t) (GetsIn s kinds target t)

-- Question 17: the entry of each initial vertex is one of the six kinds. Other entries may be anything.
pub record EntriesFit (s : Setup) (kinds : List ℕ) : Type 0 where
  pub each : (v : ℕ) → Chosen false s v → get_or kinds v 0 ≤ 5

-- ---- theorems

-- The kind of a set of vertices below 64 is the least that is at least that of each of them: it is at most t exactly where the kind of each is.
abbrev pub KindOfSet : Type 0
KindOfSet = (kinds : List ℕ) (x t : ℕ) → x < 2 ^ 64 → Iff (KindAtMost (attacker_of kinds x) t) ((v : ℕ) → Member x v → KindAtMost (get_or kinds v 0) t)

-- A score has none but the six kinds, and so is below 64.
abbrev pub SixKinds : Type 0
SixKinds = (s : Setup) (kinds : List ℕ) (target r : ℕ) → WellFormed s → EntriesFit s kinds → AttackerScore s kinds target r → r < 64

-- A score is 0 exactly where nobody gets in: where all initial vertices together do not open the target.
abbrev pub NobodyIn : Type 0
NobodyIn = (s : Setup) (kinds : List ℕ) (target r : ℕ) → WellFormed s → EntriesFit s kinds → AttackerScore s kinds target r
    → Iff (r ≡ 0) (HasAccess s.graph (Chosen false s) target → ⊥)

-- One score is at most another: for each kind of the other, it has one that is at most that (document 003, definition 16).
abbrev pub KindsAtMost : ℕ → ℕ → Type 0
KindsAtMost p q = (u : ℕ) → Member q u → AtOrAbove p u

-- The scores are sound (document 003, definition 10 and theorem 5): where every set of initial vertices that opens b opens a, the score of a is at
-- most that of b.
abbrev pub KindsSound : Type 0
KindsSound = (s : Setup) (kinds : List ℕ) (a b p q : ℕ) → WellFormed s → EntriesFit s kinds → AttackerScore s kinds a p → AttackerScore s kinds b q
    → ((x : ℕ) → TargetSet false s s.graph b x → TargetSet false s s.graph a x) → KindsAtMost p q
