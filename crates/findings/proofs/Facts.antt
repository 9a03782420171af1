-- What follows for the answers. Equal scores are no backdoor, and idle: so never against never, and so an account to which no recovery edge
-- leads. Never is above every number: what only recovery opens has a backdoor, and recovery that takes every lockout away is not idle.
-- Assumes nothing.
use mathlib.Core.Path.{◌≡◌, ap, ◌∙◌}
use mathlib.Core.Bool.{Bool, true, false}
use mathlib.Core.List.{List, [], ◌∷◌}
use Prim.Native.Nat.{ℕ, ◌<◌}
use native.Mathlib.Omega.{arith}
use Rattle.vertex_set.proofs.Decisions.{decide-yes, decide-no}
use Rattle.setup.specs.declared.Graph.{Graph}
use Rattle.setup.specs.declared.Setup.{Setup}
use Rattle.setup.specs.Setup.{vertex_at, Edge, WithoutRecovery}
use Rattle.formed.specs.WellFormed.{WellFormed}
use Rattle.derivations.specs.Derivation.{Vertices}
use Rattle.bases.specs.Base.{TargetSet}
use Rattle.scores.specs.Never.{never}
use Rattle.bases.specs.Score.{Score}
use Rattle.findings.specs.Findings.{Compared, FindsBackdoor, FindsIneffective, FindsInconsistent}
use Rattle.questions.specs.Asks.{Question}
use Rattle.questions.specs.Contract.{Outcome, gives, ends, telling, Fulfils}
use Rattle.questions.specs.Questions.{asks12, asks13}
use Rattle.questions.proofs.Asks.{AllYes}
use Rattle.questions.proofs.Contract.{answers_of, answer-told}
use Rattle.findings.specs.Answers.{yes_no, backdoor_call, ineffective_call, inconsistent_call}
use Rattle.findings.proofs.Alike.{score-alike, recovery-alike}
use Rattle.findings.proofs.Unique.{decided-once, backdoor-decides, ineffective-decides, inconsistent-decides}

-- The answer is yes, or no, and no refusal.
abbrev pub Says : Bool → Outcome → Type 0
Says b o = o ≡ ends (gives (yes_no b ∷ [])) []

-- No recovery edge leads to v, at once or by way of other vertices: v is among vertices that need only one another, and have none.
pub record NoRecovery (s : Setup) (v : ℕ) : Type 1 where
  pub On : Vertices
  pub here : On v
  pub needs : (f u c : ℕ) → On u → Edge s.graph f u c → On f
  pub none : (f u c : ℕ) → On u → Edge s.recovery f u c → ⊥

-- so in a setup without recovery edges
pub none_at_all : (s : Setup) (v : ℕ) → ((f u c : ℕ) → Edge s.recovery f u c → ⊥) → NoRecovery s v
none_at_all s v none = record { On = λ u. Unit {0}; here = tt; needs = λ f u c o m. tt; none = λ f u c o m. none f u c m }

-- then the score is the same without recovery
same-without : (loss : Bool) (s : Setup) (v r r' : ℕ) → NoRecovery s v → Compared loss s v r r' → Compared loss s v r r
same-without loss s v r r' n a =
    record {
      score = a.score;
      less = a.less;
      is_less = a.is_less;
      without = score-alike s.graph a.less n.On (recovery-alike s a.less n.On a.is_less n.needs n.none) loss s v r n.here a.score;
    }

-- ---- findings

module _ (s : Setup) (v : ℕ) (b : Bool) where
  equal-no-backdoor : (r : ℕ) → Compared false s v r r → FindsBackdoor s v b → b ≡ false
  equal-no-backdoor r a h = decided-once b false (backdoor-decides s v b r r a h) (decide-no (λ l. omega arith))

  equal-idle : (r : ℕ) → Compared true s v r r → FindsIneffective s v b → b ≡ true
  equal-idle r a h = decided-once b true (ineffective-decides s v b r r a h) (decide-yes (omega arith))

  opened : (x : ℕ) → TargetSet false s s.graph v x → ((g : Graph) → WithoutRecovery s g → (y : ℕ) → TargetSet false s g v y → ⊥)
      → FindsBackdoor s v b → b ≡ true
  opened x t none h =
      let l = h.are.score.some x t in
      let e = h.are.without.none (none h.are.less h.are.is_less) in
      decided-once b true (backdoor-decides s v b h.score h.without h.are h) (decide-yes (omega arith))

  saved : ((x : ℕ) → TargetSet true s s.graph v x → ⊥) → ((g : Graph) → WithoutRecovery s g → (y : ℕ) × TargetSet true s g v y)
      → FindsIneffective s v b → b ≡ false
  saved none some h =
      let w = some h.are.less h.are.is_less in
      let l = h.are.without.some w.0 w.1 in
      let e = h.are.score.none none in
      decided-once b false (ineffective-decides s v b h.score h.without h.are h) (decide-no (λ k. omega arith))

-- ---- answers

says : (questions : List Question) (Finds : Bool → Type 0) (b : Bool) → ((b' : Bool) → Finds b' → b' ≡ b) → AllYes questions → (o : Outcome)
    → Fulfils (telling questions Finds (λ b. yes_no b ∷ [])) o → Says b o
says questions Finds b only all o c =
    let a = answer-told questions Finds (λ b. yes_no b ∷ []) o (answers_of (telling questions Finds (λ b. yes_no b ∷ [])) o c all) in
    a.2 ∙ ap (λ (x : Bool). ends (gives (yes_no x ∷ [])) []) (only a.0 a.1)

module _ (s : Setup) (v : ℕ) (w : WellFormed s) (below : v < s.count) (o : Outcome) where
  backdoor-says : (b : Bool) → ((b' : Bool) → FindsBackdoor s v b' → b' ≡ b) → Fulfils (backdoor_call s v) o → Says b o
  backdoor-says b only = says (asks12 s ∷ asks13 s v ∷ []) (FindsBackdoor s v) b only (w, (below, tt)) o

  idle-says : (b : Bool) → ((b' : Bool) → FindsIneffective s v b' → b' ≡ b) → Fulfils (ineffective_call s v) o → Says b o
  idle-says b only = says (asks12 s ∷ asks13 s v ∷ []) (FindsIneffective s v) b only (w, (below, tt)) o

  -- never against never
  pub never-no-backdoor : Compared false s v never never → Fulfils (backdoor_call s v) o → Says false o
  never-no-backdoor a = backdoor-says false (λ b. equal-no-backdoor s v b never a)

  pub never-idle : Compared true s v never never → Fulfils (ineffective_call s v) o → Says true o
  never-idle a = idle-says true (λ b. equal-idle s v b never a)

  -- no recovery edge leads to the account
  pub no-recovery-no-backdoor : NoRecovery s v → Fulfils (backdoor_call s v) o → Says false o
  no-recovery-no-backdoor n =
      backdoor-says false (λ b h. equal-no-backdoor s v b h.score (same-without false s v h.score h.without n h.are) h)

  pub no-recovery-idle : NoRecovery s v → Fulfils (ineffective_call s v) o → Says true o
  no-recovery-idle n =
      idle-says true (λ b h. equal-idle s v b h.score (same-without true s v h.score h.without n h.are) h)

  -- some set opens the account, and none does without recovery
  pub opened-by-recovery : (x : ℕ) → TargetSet false s s.graph v x → ((g : Graph) → WithoutRecovery s g → (y : ℕ) → TargetSet false s g v y → ⊥)
      → Fulfils (backdoor_call s v) o → Says true o
  opened-by-recovery x t none = backdoor-says true (λ b. opened s v b x t none)

  -- no loss locks out of the account, and without recovery some does
  pub saved-by-recovery : ((x : ℕ) → TargetSet true s s.graph v x → ⊥) → ((g : Graph) → WithoutRecovery s g → (y : ℕ) × TargetSet true s g v y)
      → Fulfils (ineffective_call s v) o → Says false o
  saved-by-recovery none some = idle-says false (λ b. saved s v b none some)

  -- two accounts of different rank that nothing opens
  pub never-inconsistent : (u : ℕ) → u < s.count → Score false s s.graph v never → Score false s s.graph u never
      → (vertex_at s u).rank < (vertex_at s v).rank → Fulfils (inconsistent_call s v u) o → Says true o
  never-inconsistent u below' p q k =
      says (asks12 s ∷ asks13 s v ∷ asks13 s u ∷ []) (FindsInconsistent s v u) true
      (λ b h. decided-once b true (inconsistent-decides s v b u never never p q h) (decide-yes (k, omega arith))) (w, (below, (below', tt))) o
