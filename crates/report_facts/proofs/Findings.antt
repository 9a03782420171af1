-- Scores that were read from tables are the report's, and so are the findings on them.
-- Assumes nothing.
use mathlib.Core.Path.{◌≡◌, refl, sym, ap, ◌∙◌, subst}
use mathlib.Core.Bool.{Bool, true, false}
use mathlib.Core.List.{List}
use mathlib.Core.Logic.{⊎_elim}
use Prim.Native.Nat.{ℕ, ◌≤◌, ◌<◌}
use native.Mathlib.Omega.{arith}
use lib.Dec.{ltb, leb}
use Rattle.vertex_set.specs.Set.{Iff, Decides}
use Rattle.vertex_set.specs.declared.VertexSet.{VertexSet}
use Rattle.vertex_set.proofs.Cases.{less-or, false-true}
use Rattle.vertex_set.proofs.Decisions.{decide-ltb, decide-leb, and_parts, and_both, yes_of}
use Rattle.scores.specs.Inner.Lists.{security_at, recoverability_at}
use Rattle.setup.specs.declared.Vertex.{Vertex}
use Rattle.setup.specs.declared.Graph.{Graph}
use Rattle.setup.specs.declared.Setup.{Setup}
use Rattle.setup.specs.Setup.{ChosenSet, WithoutRecovery}
use Rattle.formed.specs.WellFormed.{WellFormed}
use Rattle.bases.specs.Inner.Readers.{Values}
use Rattle.reference.specs.Bases.{score_of}
use Rattle.reference.proofs.Graphs.{own-graph, graph-without}
use Rattle.reference.proofs.Meaning.{score-is}
use Rattle.report_text.specs.Report.{less_recovery, is_account_kind, is_account, is_backdoor, is_idle, is_out_of_rank}
use Rattle.report_text.proofs.Meaning.{less-unique}
use Rattle.report_facts.specs.Inner.Sets.{AccountSet, WeakerSet, IdleSet, BelowAll}
use Rattle.report_scores.specs.Inner.Scores.{Scored}
use Rattle.report_facts.specs.declared.names.Names.{Names}
use Rattle.report_facts.specs.Inner.Places.{NamesPlaced}
use Rattle.report_facts.specs.declared.Facts.{Facts}
use Rattle.report_facts.specs.Inner.Facts.{HasNames, FactsOf, TablesOf}
use Rattle.report_facts.specs.declared.figures.Scores.{Scores}
use Rattle.report_facts.specs.declared.figures.Findings.{Findings}
use Rattle.report_facts.specs.Inner.Figures.{BothScored, FindingsOf}

-- the test on two numbers that are given otherwise
told : (P : ℕ → ℕ → Type 0) (test : ℕ → ℕ → Bool) → ((a b : ℕ) → Decides (P a b) (test a b)) → (a b x y : ℕ) → a ≡ x → b ≡ y → Iff (P a b) (test x y ≡ true)
told P test d a b x y e f =
    record {
      to = λ p. yes_of (test x y) (d x y) (subst (P x) f (subst (λ (z : ℕ). P z b) e p));
      from = λ t. subst (λ (z : ℕ). P z b) (sym e) (subst (P x) (sym f) ((d x y).yes t));
    }

module _ (s : Setup) (w : WellFormed s) where
  own_is : (loss : Bool) (table : List ℕ) (score : ℕ → ℕ) → Scored loss s s.graph table score → (v : ℕ) → v < 64 → score v ≡ score_of loss s s.graph v
  own_is loss table score h v l = score-is loss s s.graph v w (own-graph s w) (score v) (h.each v l)

  without_is : (loss : Bool) (less : Graph) (table : List ℕ) (score : ℕ → ℕ) → WithoutRecovery s less → Scored loss s less table score
      → (v : ℕ) → v < 64 → score v ≡ score_of loss s (less_recovery s) v
  without_is loss less table score r h v l =
      score-is loss s less v w (graph-without s less w r) (score v) (h.each v l) ∙ ap (λ (g : Graph). score_of loss s g v) (less-unique s less w r)

  -- the findings, from the scores with recovery (in the tables) and without
  pub findings-are : (less : Graph) (opening' lockout' opening lockout : List ℕ) (without own : Scores) (back idle : VertexSet) → WithoutRecovery s less
      → BothScored s less opening' lockout' without → BothScored s s.graph opening lockout own
      → WeakerSet own.scores without.scores back.0 → IdleSet own.risks without.risks idle.0
      → FindingsOf s opening lockout (record { scores = own.scores; risks = own.risks; back = back; idle = idle })
  unfolding is_backdoor is_idle
  findings-are less opening' lockout' opening lockout without own back idle r a b low most =
      record {
        opens = b.security.table;
        locks = b.recoverability.table;
        scores = own_is false opening (λ (u : ℕ). security_at own.scores u) b.security;
        risks = own_is true lockout (λ (u : ℕ). recoverability_at own.risks u) b.recoverability;
        back = λ v l.
            let t = told (λ m n. m < n) ltb decide-ltb (security_at own.scores v) (security_at without.scores v) (score_of false s s.graph v) (score_of false s (less_recovery s) v)
            (own_is false opening (λ (u : ℕ). security_at own.scores u) b.security v l) (without_is false less opening' (λ (u : ℕ). security_at without.scores u) r a.security v l) in
            record { to = λ m. t.to ((low.each v).to m).1; from = λ e. (low.each v).from (l, t.from e) };
        idle = λ v l.
            let t = told (λ m n. m ≤ n) leb decide-leb (recoverability_at own.risks v) (recoverability_at without.risks v) (score_of true s s.graph v) (score_of true s (less_recovery s) v)
            (own_is true lockout (λ (u : ℕ). recoverability_at own.risks u) b.recoverability v l) (without_is true less lockout' (λ (u : ℕ). recoverability_at without.risks u) r a.recoverability v l) in
            record { to = λ m. t.to ((most.each v).to m).1; from = λ e. (most.each v).from (l, t.from e) };
      }

  -- a vertex with an account's kind is one of the setup
  account-below : (v : ℕ) → v < 64 → is_account s v ≡ true → v < s.count
  unfolding is_account
  account-below v l e = ⊎_elim (λ h. h) (λ h. absurd (false-true (sym (ap (λ (x : Vertex). is_account_kind x.kind) (w.unused v l h)) ∙ e))) (less-or v s.count)

  -- the facts, from all their parts
  pub facts-are : (sheet opening lockout : List ℕ) (names : Names) (findings : Findings) (accounts initial losable : VertexSet)
      (below starts losses : List ℕ) → HasNames sheet s → NamesPlaced sheet s.count names → FindingsOf s opening lockout findings
      → AccountSet s accounts.0 → BelowAll accounts.0 s findings.scores below
      → ChosenSet false s initial.0 → ChosenSet true s losable.0 → Values false s starts → Values true s losses
      → let f : Facts = record {
        count = s.count;
        accounts = accounts;
        initial = initial;
        losable = losable;
        starts = starts;
        losses = losses;
        scores = findings.scores;
        risks = findings.risks;
        back = findings.back;
        idle = findings.idle;
        below = below;
        from = names.from;
        to = names.to;
      } in
      FactsOf sheet s f × TablesOf s f opening lockout
  unfolding is_out_of_rank
  facts-are sheet opening lockout names findings accounts initial losable below starts losses n p f a b ci cl vs vl = (
    record {
      formed = w;
      is_count = refl;
      accounts = λ v l. record { to = λ m. ((a.each v).to m).1; from = λ e. (a.each v).from (in64 v l, e) };
      initial = ci;
      losable = cl;
      starts = vs;
      losses = vl;
      scores = λ v l. f.scores v (in64 v l);
      risks = λ v l. f.risks v (in64 v l);
      back = λ v l. f.back v (in64 v l);
      idle = λ v l. f.idle v (in64 v l);
      pairs = λ v u l k. record {
        to = λ m.
            let h = ((b.each v (in64 v l)).each u).to m in
            (((a.each u).to h.1.account).1, and_both _ _ (yes_of _ (decide-ltb _ _) h.1.rank) ((score v u l k).to h.1.score));
        from = λ e.
            let h = and_parts _ _ e.1 in
            ((b.each v (in64 v l)).each u).from (
              in64 u k,
              record {
                account = (a.each u).from (in64 u k, e.0);
                rank = (decide-ltb _ _).yes h.0;
                score = (score v u l k).from h.1;
              },
            );
      };
      within = λ v u l m.
          let h = ((b.each v (in64 v l)).each u).to m in
          account-below u h.0 ((a.each u).to h.1.account).1;
      names = p.each;
      short = n.short;
    },
    record { opens = f.opens initial.0 ci; locks = f.locks losable.0 cl },
  )
    where
      in64 : (v : ℕ) → v < s.count → v < 64
      in64 v l = let m = w.most in omega arith

      score : (v u : ℕ) → v < s.count → u < s.count
          → Iff (security_at findings.scores v ≤ security_at findings.scores u) (leb (score_of false s s.graph v) (score_of false s s.graph u) ≡ true)
      score v u l k =
          told (λ m n. m ≤ n) leb decide-leb (security_at findings.scores v) (security_at findings.scores u) (score_of false s s.graph v) (score_of false s s.graph u)
          (f.scores v (in64 v l)) (f.scores u (in64 u k))
