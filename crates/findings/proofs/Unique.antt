-- The contracts leave one answer: which scores a finding compares, and the finding itself.
-- Assumes nothing.
use mathlib.Core.Path.{◌≡◌, refl}
use mathlib.Core.Bool.{Bool, true, false}
use Prim.Native.Nat.{ℕ, ◌≤◌, ◌<◌}
use Rattle.vertex_set.specs.Set.{Decides}
use Rattle.vertex_set.proofs.Decisions.{decide_iff}
use Rattle.setup.specs.declared.Setup.{Setup}
use Rattle.setup.specs.Setup.{vertex_at}
use Rattle.questions.specs.Contract.{OneAnswer}
use Rattle.bases.specs.Score.{Score}
use Rattle.reference.proofs.Unique.{score-unique}
use Rattle.findings.specs.Findings.{Compared, FindsBackdoor, FindsIneffective, FindsInconsistent}
use Rattle.findings.specs.Answers.{backdoor_call, ineffective_call, inconsistent_call}
use Rattle.findings.proofs.Alike.{score-alike, without-alike}

-- ---- findings

pub decided-once : {P : Type 0} (b b' : Bool) → Decides P b → Decides P b' → b ≡ b'
decided-once true true d e = refl
decided-once true false d e = absurd (e.no refl (d.yes refl))
decided-once false true d e = absurd (d.no refl (e.yes refl))
decided-once false false d e = refl

pub compared-unique : (loss : Bool) (s : Setup) (v r r' q q' : ℕ) → Compared loss s v r r' → Compared loss s v q q' → (r ≡ q) × (r' ≡ q')
compared-unique loss s v r r' q q' a b =
    let w = score-alike a.less b.less (λ i. Unit {0}) (without-alike s a.less b.less a.is_less b.is_less) loss s v r' tt a.without in
    (score-unique loss s s.graph v r q a.score b.score, score-unique loss s b.less v r' q' w b.without)

module _ (s : Setup) (v : ℕ) (b : Bool) where
  -- whatever scores are given, they decide
  pub backdoor-decides : (r r' : ℕ) → Compared false s v r r' → FindsBackdoor s v b → Decides (r < r') b
  backdoor-decides r r' a h =
      let e = compared-unique false s v r r' h.score h.without a h.are in
      rw (e.0, e.1) (decide_iff (record { to = λ k. k.below; from = λ l. record { are = h.are; below = l } }) h.decides)

  pub ineffective-decides : (r r' : ℕ) → Compared true s v r r' → FindsIneffective s v b → Decides (r ≤ r') b
  ineffective-decides r r' a h =
      let e = compared-unique true s v r r' h.score h.without a h.are in
      rw (e.0, e.1) (decide_iff (record { to = λ k. k.most; from = λ l. record { are = h.are; most = l } }) h.decides)

  pub inconsistent-decides : (w r r' : ℕ) → Score false s s.graph v r → Score false s s.graph w r' → FindsInconsistent s v w b
      → Decides (((vertex_at s w).rank < (vertex_at s v).rank) × (r ≤ r')) b
  inconsistent-decides w r r' p q h =
      rw (score-unique false s s.graph v r h.score p h.is_score, score-unique false s s.graph w r' h.other q h.is_other)
      (decide_iff
      (record { to = λ k. (k.rank, k.most); from = λ k. record { score = h.is_score; other = h.is_other; rank = k.0; most = k.1 } })
      h.decides)

module _ (s : Setup) (v : ℕ) (b b' : Bool) where
  pub backdoor-unique : FindsBackdoor s v b → FindsBackdoor s v b' → b ≡ b'
  backdoor-unique h k = decided-once b b' (backdoor-decides s v b _ _ h.are h) (backdoor-decides s v b' _ _ h.are k)

  pub ineffective-unique : FindsIneffective s v b → FindsIneffective s v b' → b ≡ b'
  ineffective-unique h k = decided-once b b' (ineffective-decides s v b _ _ h.are h) (ineffective-decides s v b' _ _ h.are k)

  pub inconsistent-unique : (w : ℕ) → FindsInconsistent s v w b → FindsInconsistent s v w b' → b ≡ b'
  inconsistent-unique w h k =
      decided-once b b' (inconsistent-decides s v b w _ _ h.is_score h.is_other h) (inconsistent-decides s v b' w _ _ h.is_score h.is_other k)

-- ---- calls

pub one-backdoor : (s : Setup) (v : ℕ) → OneAnswer (backdoor_call s v)
one-backdoor s v = backdoor-unique s v

pub one-ineffective : (s : Setup) (v : ℕ) → OneAnswer (ineffective_call s v)
one-ineffective s v = ineffective-unique s v

pub one-inconsistent : (s : Setup) (v w : ℕ) → OneAnswer (inconsistent_call s v w)
one-inconsistent s v w b b' = inconsistent-unique s v b b' w
