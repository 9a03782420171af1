-- Where the definitions settle the answer, the contracts leave no other: what is told with number 0 has its values.
-- Assumes nothing.
use mathlib.Core.Path.{◌≡◌, refl, ap, ◌∙◌}
use mathlib.Core.Bool.{Bool}
use mathlib.Core.List.{List, [], ◌∷◌}
use Prim.Native.Nat.{ℕ}
use lib.ListN.{length}
use Rattle.vertex_set.specs.Set.{Member}
use Rattle.setup.specs.declared.Setup.{Setup}
use Rattle.derivations.specs.Access.{Step, access}
use Rattle.derivations.specs.Passes.{Passes}
use Rattle.derivations.specs.Way.{Way}
use Rattle.derivations.proofs.Passes.{passes-unique}
use Rattle.questions.specs.Contract.{Outcome, gives, ends, Contract, Fulfils}
use Rattle.questions.proofs.Contract.{answer-of, only-answer}
use Rattle.access.specs.Answers.{closure_call, Along, way_call}
use Rattle.access.proofs.Unique.{one_way}
use Rattle.bases.specs.Score.{Score}
use Rattle.bases.specs.Marks.{Counts}
use Rattle.answers.specs.Answers.{Bases, AreBases, bases_call, score_call, marks_call}
use Rattle.answers.proofs.Unique.{one-bases}
use Rattle.reference.proofs.Unique.{score-unique, counts-unique}

-- A call that is lent nothing answers with these values.
abbrev pub Gives : Contract → List ℕ → Type 0
Gives c values = Fulfils c (ends (gives values) [])

module _ (s : Setup) where
  pub closure-told : (set r n : ℕ) (values : List ℕ) → Passes (access s.graph) n set r → Gives (closure_call s set) values → values ≡ r ∷ n ∷ []
  closure-told set r n values h f =
      let a = answer-of (closure_call s set) refl _ refl f in
      let e = passes-unique (access s.graph) a.0.passes n set a.0.set r a.1.passes h in
      ap (λ (o : Outcome). o.reply.values) a.3 ∙ (λ i. e.1 i ∷ e.0 i ∷ [])

  module _ (target : ℕ) where
    pub way-told : (set : ℕ) (d : List Step) (vertices colours values : List ℕ) (lent : List (List ℕ)) → Way s.graph target (Member set) d
        → Fulfils (way_call s target set vertices colours) (ends (gives values) lent) → values ≡ 1 ∷ length d ∷ []
    way-told set d vertices colours values lent w f =
        ap (λ (o : Outcome). o.reply.values) (only-answer (way_call s target set vertices colours) (one_way s target set vertices colours) (Along d) w _ f refl refl)

    pub bases-told : (b : Bases) (list values : List ℕ) (lent : List (List ℕ)) → AreBases s target b
        → Fulfils (bases_call s target list) (ends (gives values) lent) → values ≡ length b.opening ∷ length b.lockout ∷ []
    bases-told b list values lent h f =
        ap (λ (o : Outcome). o.reply.values) (only-answer (bases_call s target list) (one-bases s target list) b h _ f refl refl)

    pub score-told : (loss : Bool) (r : ℕ) (values : List ℕ) → Score loss s s.graph target r → Gives (score_call loss s target) values → values ≡ r ∷ []
    score-told loss r values h f =
        let a = answer-of (score_call loss s target) refl _ refl f in
        ap (λ (o : Outcome). o.reply.values) a.3 ∙ ap (λ (n : ℕ). n ∷ []) (score-unique loss s s.graph target a.0 r a.1.all h)

    pub marks-told : (loss : Bool) (handed : List ℕ) (right repeated shut loose missing : ℕ) (values : List ℕ)
        → Counts loss s s.graph target handed right repeated shut loose missing → Gives (marks_call loss s target handed) values
        → values ≡ right ∷ repeated ∷ shut ∷ loose ∷ missing ∷ []
    marks-told loss handed right repeated shut loose missing values h f =
        let a = answer-of (marks_call loss s target handed) refl _ refl f in
        let m = a.0 in
        let e = counts-unique loss s s.graph target handed m.right m.repeated m.shut m.loose m.missing right repeated shut loose missing a.1.counts h in
        ap (λ (o : Outcome). o.reply.values) a.3 ∙ (λ i. e.0 i ∷ e.1 i ∷ e.2 i ∷ e.3 i ∷ e.4 i ∷ [])
