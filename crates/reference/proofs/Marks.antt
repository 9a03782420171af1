-- `marks_of` gives the five counts.
-- Assumes nothing.
use mathlib.Core.Path.{◌≡◌}
use mathlib.Core.Bool.{Bool}
use mathlib.Core.List.{List, [], ◌∷◌}
use Prim.Native.Nat.{ℕ, ◌-◌, ◌^◌}
use Rattle.vertex_set.proofs.Subsets.{removed-proper}
use Rattle.setup.specs.declared.Graph.{Graph}
use Rattle.setup.specs.declared.Setup.{Setup}
use Rattle.formed.specs.WellFormed.{WellFormed}
use Rattle.bases.specs.Base.{TargetSet, MinimalSet}
use Rattle.bases.specs.Marks.{SmallerDerives, CountsAs, MarkedAs, Counts}
use Rattle.reference.specs.Bases.{target_sets_of, base_of, mark_of, marks_from, counts_of, marks_of}
use Rattle.reference.specs.Graphs.{GraphOf}
use Rattle.reference.proofs.Tests.{by-decision, decide-listed}
use Rattle.reference.proofs.Bases.{listed-targets, listed-base, base-of, decide-less-one, less-one-iff}

module _ (loss : Bool) (s : Setup) (g : Graph) (target : ℕ) (wf : WellFormed s) (h : GraphOf s g) where
  -- a target set outside the base has a smaller one
  smaller : (x : ℕ) → TargetSet loss s g target x → (MinimalSet loss s g target x → ⊥) → SmallerDerives loss g target x
  smaller x t n =
      by-decision _ (decide-less-one loss s g target wf h x)
      (λ e w. record { subset = x - 2 ^ w.0; proper = removed-proper x w.0 w.2.0; derives = w.2.1 })
      (λ e none. absurd (n (record { is = t; minimal = (less-one-iff loss s g target wf h x t.chosen).to none })))

  mark-of : (earlier : List ℕ) (x : ℕ) → CountsAs loss s g target earlier x (mark_of (target_sets_of loss s g target) (base_of loss s g target) earlier x)
  unfolding mark_of
  mark-of earlier x =
      by-decision _ (decide-listed earlier x)
      (λ e m. rw e m)
      (λ e n. by-decision _ (decide-listed (target_sets_of loss s g target) x)
      (λ f t. by-decision _ (decide-listed (base_of loss s g target) x)
      (λ k b. rw (e, f, k) (n, (listed-base loss s g target wf h x).to b))
      (λ k b.
      let is = (listed-targets loss s g target wf h x).to t in
      rw (e, f, k) (n, is, smaller x is (λ m. b ((listed-base loss s g target wf h x).from m)))))
      (λ f t. rw (e, f) (n, λ is. t ((listed-targets loss s g target wf h x).from is))))

  marked_from : (earlier handed : List ℕ)
      → MarkedAs loss s g target earlier handed (marks_from (target_sets_of loss s g target) (base_of loss s g target) earlier handed)
  unfolding marks_from
  marked_from earlier [] = tt
  marked_from earlier (x ∷ handed) = (mark-of earlier x, marked_from (x ∷ earlier) handed)

  -- the five numbers that `marks_of` gives are the counts
  pub counts_of_lem : (handed : List ℕ) (right repeated shut loose missing : ℕ)
      → marks_of loss s g target handed ≡ right ∷ repeated ∷ shut ∷ loose ∷ missing ∷ []
      → Counts loss s g target handed right repeated shut loose missing
  unfolding marks_of counts_of
  counts_of_lem handed right repeated shut loose missing e =
      record {
        marks = marks_from (target_sets_of loss s g target) (base_of loss s g target) [] handed;
        marked = marked_from [] handed;
        base = base_of loss s g target;
        is_base = base-of loss s g target wf h;
        is_right = cc;
        is_repeated = cc;
        is_shut = cc;
        is_loose = cc;
        is_missing = cc;
      }
