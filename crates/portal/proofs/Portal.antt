-- The portal's coding of answers.
-- Assumes nothing.
use mathlib.Core.Path.{◌≡◌, refl, sym, ap, subst, ◌∙◌}
use mathlib.Core.Bool.{Bool}
use mathlib.Core.List.{List, [], ◌∷◌}
use mathlib.Core.Logic.{◌⊎◌, inl, inr, ⊎_elim}
use Prim.Native.Nat.{ℕ, ◌+◌, ◌≤◌, ◌<◌}
use native.Mathlib.Omega.{arith}
use lib.ListN.{length, get_or}
use Rattle.vertex_set.specs.Order.{Listed}
use Rattle.vertex_set.proofs.Cases.{less-or}
use Rattle.setup.specs.declared.Setup.{Setup}
use Rattle.formed.specs.WellFormed.{WellFormed}
use Rattle.questions.specs.Asks.{Asks}
use Rattle.questions.specs.Questions.{asks12, asks13}
use Rattle.questions.specs.Contract.{Reply, Outcome, gives, refuses, ends, turns_away, Answers, Fulfils}
use Rattle.questions.proofs.Asks.{asks-once, asks-retold}
use Rattle.questions.proofs.Contract.{answer-told}
use Rattle.sheet_format.specs.Read.{Reading}
use Rattle.sheet_format.specs.Read.{read_sheet, asks_sheet}
use Rattle.sheet_format.proofs.Question12.{accepted-formed}
use Rattle.scores.specs.Never.{never}
use Rattle.bases.specs.Score.{Score}
use Rattle.answers.specs.Answers.{IsScore, score_call}
use Rattle.reference.proofs.Unique.{score-unique}
use Rattle.portal.specs.Inner.{Coded}
use Rattle.portal.specs.Portal.{PortalCall, Decoded}

-- ---- one answer

pub coded-value : (x : ℕ) → Coded (gives (x ∷ [])) x
coded-value x =
    record {
      value = λ y e. ap (λ (p : Reply). get_or p.values 0 0) e;
      refusal = λ q e. absurd (let z = ap (λ (p : Reply). length p.values) e in omega (arith, z));
    }

pub coded-refusal : (q : ℕ) → Coded (refuses q) (never + q)
coded-refusal q =
    record {
      value = λ y e. absurd (let z = ap (λ (p : Reply). length p.values) e in omega (arith, z));
      refusal = λ p e. ap (λ (r : Reply). never + r.number) e;
    }

-- ---- the calls

module _ (loss : Bool) (text : List ℕ) (item : ℕ) (rd : Reading) (e : rd ≡ read_sheet text) where
  same : rd.number ≡ (read_sheet text).number
  same = ap (λ (r : Reading). r.number) e

  pub portal-refused : (rd.number ≡ 0 → ⊥) → PortalCall loss text item (never + rd.number)
  unfolding Asks
  portal-refused n = inl (λ z. n (same ∙ z), ap (λ (x : ℕ). never + x) same)

  module _ (reply : Reply) where
    abbrev s : Setup
    s = (read_sheet text).setup

    abbrev Told : Setup → Type 0
    Told t = Fulfils (score_call loss t item) (ends reply [])

    given : (t : Setup) → Answers (score_call loss t item) (ends reply []) → (x : ℕ) × IsScore loss t item x × (ends reply [] ≡ ends (gives (x ∷ [])) [])
    given t = answer-told (asks12 t ∷ asks13 t item ∷ []) (IsScore loss t item) (λ r. r ∷ []) (ends reply [])

    -- the setup is well formed: 13 alone is asked
    module _ (whole : WellFormed s) (r : ℕ) (c : Coded reply r) where
      scored : Answers (score_call loss s item) (ends reply []) → Score loss s s.graph item r
      scored a = let x = given s a in subst (Score loss s s.graph item) (sym (c.value x.0 (ap (λ (o : Outcome). o.reply) x.2))) x.1.all

      asked : Told s → Asks (λ q. never + q) (asks13 s item ∷ []) (Score loss s s.graph item) r
      unfolding Fulfils Asks
      asked h =
          ⊎_elim (λ n. absurd (n.0 whole))
          (λ y. asks-retold (turns_away []) (λ q. never + q) (Answers (score_call loss s item)) (Score loss s s.graph item) (asks13 s item ∷ []) (ends reply []) r
          (λ q l z. c.refusal q (ap (λ (o : Outcome). o.reply) z)) (λ k. scored) y.1) h

    pub portal-answers : rd.number ≡ 0 → Told rd.setup → (r : ℕ) → Coded reply r → PortalCall loss text item r
    unfolding Asks
    portal-answers z h r c = let y = sym same ∙ z in inr (y, asked (accepted-formed text y) r c (subst (λ (x : Reading). Told x.setup) e h))

-- ---- what the number says

pub decoded : (loss : Bool) (text : List ℕ) (item r : ℕ) → PortalCall loss text item r → Decoded text item r
unfolding Asks
decoded loss text item r h = record { answer = answer h; refusal = refusal h }
  where
    answer : PortalCall loss text item r → r ≤ never → ((read_sheet text).number ≡ 0) × (item < (read_sheet text).setup.count)
    answer c l =
        ⊎_elim (λ n. absurd (let k = n.0 in let z = n.1 in omega (arith, l, k, z)))
        (λ y. ⊎_elim (λ n. absurd (let z = n.1 in omega (arith, l, z))) (λ x. (y.0, x.0)) y.1) c

    refusal : PortalCall loss text item r → never < r → ((read_sheet text).number ≡ 0 → ⊥) ⊎ ((read_sheet text).setup.count ≤ item)
    refusal c l =
        ⊎_elim (λ n. inl n.0)
        (λ y. ⊎_elim (λ n. inr (⊎_elim (λ k. absurd (n.0 k)) (λ k. k) (less-or item (read_sheet text).setup.count)))
        (λ x. let s = x.1 in absurd (let z = s.none (λ v t. let b = s.some v t in omega arith) in omega arith)) y.1) c

-- ---- one number

pub one_number : (loss : Bool) (text : List ℕ) (item r r' : ℕ) → PortalCall loss text item r → PortalCall loss text item r' → r ≡ r'
one_number loss text item r r' =
    asks-once (λ q. never + q) (Score loss (read_sheet text).setup (read_sheet text).setup.graph item) (asks_sheet text ∷ asks13 (read_sheet text).setup item ∷ []) r r'
    (score-unique loss (read_sheet text).setup (read_sheet text).setup.graph item r r')
