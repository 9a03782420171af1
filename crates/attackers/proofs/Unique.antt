-- The contract leaves one answer, whatever stands at vertices that are not initial.
-- Assumes nothing.
use mathlib.Core.Path.{◌≡◌, refl, sym, subst, ◌∙◌}
use mathlib.Core.List.{List}
use Prim.Native.Nat.{ℕ}
use native.Mathlib.Omega.{arith}
use Rattle.vertex_set.proofs.Decisions.{iff-refl, iff-trans}
use Rattle.vertex_set.proofs.Sets.{one_set}
use Rattle.setup.specs.declared.Setup.{Setup}
use Rattle.derivations.proofs.Closures.{opens-more}
use Rattle.questions.specs.Contract.{OneAnswer}
use Rattle.questions.proofs.Contract.{fulfils-once, fulfils-alike}
use Rattle.attackers.specs.Attackers.{KindAtMost, OfBase, KindInScore, GetsIn, AttackerScore, EntriesFit}
use Rattle.attackers.specs.Answers.{attacker_call, AgreeAtInitial, OthersUnread}
use Rattle.attackers.proofs.Sets.{attacker-same}

turned : (s : Setup) (kinds kinds' : List ℕ) → AgreeAtInitial s kinds kinds' → AgreeAtInitial s kinds' kinds
turned s kinds kinds' g = record { long = sym g.long; each = λ v c. sym (g.each v c) }

module _ (s : Setup) (kinds kinds' : List ℕ) (g : AgreeAtInitial s kinds kinds') (target : ℕ) where
  base_same : (k : ℕ) → OfBase s kinds target k → OfBase s kinds' target k
  base_same k q =
      record { set = q.set; is = q.is; attacker = q.attacker ∙ attacker-same kinds kinds' q.set (λ v m. g.each v (q.is.is.chosen v m)) }

  pub fit_same : EntriesFit s kinds → EntriesFit s kinds'
  fit_same f = record { each = λ v c. let e = g.each v c in let l = f.each v c in omega arith }

in-score-same : (s : Setup) (kinds kinds' : List ℕ) → AgreeAtInitial s kinds kinds' → (target k : ℕ) → KindInScore s kinds target k → KindInScore s kinds' target k
in-score-same s kinds kinds' g target k i =
    record { is = base_same s kinds kinds' g target k i.is; none = λ j q l. i.none j (base_same s kinds' kinds (turned s kinds kinds' g) target j q) l }

pub score-unique : (s : Setup) (kinds kinds' : List ℕ) → AgreeAtInitial s kinds kinds' → (target r r' : ℕ) → AttackerScore s kinds target r → AttackerScore s kinds' target r' → r ≡ r'
score-unique s kinds kinds' g target r r' a b =
    one_set (KindInScore s kinds target) r r' a.each
    (λ k. iff-trans (b.each k) (record { to = in-score-same s kinds' kinds (turned s kinds kinds' g) target k; from = in-score-same s kinds kinds' g target k }))

pub one-attackers : (s : Setup) (target : ℕ) (kinds : List ℕ) → OneAnswer (attacker_call s target kinds)
one-attackers s target kinds = score-unique s kinds kinds (record { long = refl; each = λ v c. refl }) target

-- ---- entries that are not read

-- the same attackers get in,
gets-in-same : (s : Setup) (kinds kinds' : List ℕ) → AgreeAtInitial s kinds kinds' → (target t : ℕ) → GetsIn s kinds target t → GetsIn s kinds' target t
gets-in-same s kinds kinds' g target t =
    opens-more s.graph _ _ (λ v p. (p.0, subst (λ (k : ℕ). KindAtMost k t) (g.each v p.0) p.1)) target

-- the score is the same,
score-same : (s : Setup) (kinds kinds' : List ℕ) → AgreeAtInitial s kinds kinds' → (target r : ℕ) → AttackerScore s kinds target r → AttackerScore s kinds' target r
score-same s kinds kinds' g target r a =
    let u = turned s kinds kinds' g in
    record {
      each = λ k. iff-trans (a.each k) (record { to = in-score-same s kinds kinds' g target k; from = in-score-same s kinds' kinds u target k });
      none = λ n. a.none (λ k i. n k (in-score-same s kinds kinds' g target k i));
      intruders = λ t l. iff-trans (a.intruders t l) (record { to = gets-in-same s kinds kinds' g target t; from = gets-in-same s kinds' kinds u target t });
    }

-- and so is the answer to each question
pub others-unread : OthersUnread
others-unread s target kinds kinds' o p g a b =
    let u = turned s kinds kinds' g in
    fulfils-once (attacker_call s target kinds') (one-attackers s target kinds') o p
    (fulfils-alike _ _ _ _ _ _ _ _ _ (
      refl,
      iff-refl,
      (
        refl,
        iff-refl,
        (
          refl,
          record { to = λ e. sym g.long ∙ e; from = λ e. g.long ∙ e },
          (refl, record { to = fit_same s kinds kinds' g target; from = fit_same s kinds' kinds u target }, tt),
        ),
      ),
    ) (score-same s kinds kinds' g target) (λ r. refl) o a) b
