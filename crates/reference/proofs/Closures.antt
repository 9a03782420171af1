-- `closure_of` is the closure, reached by `pass_count_of` passes, and `derives_of` decides derivability.
-- Assumes nothing.
use mathlib.Core.Path.{◌≡◌, refl, sym, subst}
use mathlib.Core.Bool.{Bool, true, false, not}
use mathlib.Core.Logic.{◌⊎◌, inl, inr, ⊎_elim}
use Prim.Native.Nat.{ℕ, zero, suc, ◌≤◌, ◌<◌}
use native.Mathlib.Omega.{arith}
use lib.Dec.{eqb}
use lib.ListN.{length}
use borrow.Author.Tests.{eqb-true, eqb-false}
use Rattle.vertex_set.specs.Set.{Member, Decides, Iff, Inserted, count_outside}
use Rattle.vertex_set.proofs.Cases.{by_test, less-or, same_or}
use Rattle.vertex_set.proofs.Decisions.{decide_iff, decide-eqb, decide-not, decide-and, decide-or}
use Rattle.setup.specs.declared.Rows.{Rows}
use Rattle.setup.specs.declared.Graph.{Graph}
use Rattle.setup.specs.declared.Setup.{Setup}
use Rattle.setup.specs.Setup.{rows_at, row_of}
use Rattle.setup.proofs.Graphs.{colour-below}
use Rattle.formed.specs.WellFormed.{WellFormed}
use Rattle.derivations.specs.Derivation.{Closure}
use Rattle.derivations.specs.Both.{rule_of}
use Rattle.derivations.specs.Passes.{Pass, Passes}
use Rattle.derivations.specs.Inner.Admits.{Complete, Broken, Admits}
use Rattle.derivations.proofs.Both.{lawful}
use Rattle.derivations.proofs.Admits.{admits-allows, allows-admits}
use Rattle.derivations.proofs.Passes.{pass-grows, passes-closure}
use Rattle.closures.specs.Inner.{LowestColour}
use Rattle.closures.proofs.Colours.{some-complete}
use Rattle.bases.specs.Base.{Derives}
use Rattle.reference.specs.Tests.{every}
use Rattle.reference.specs.Closures.{is_complete, is_broken, colour_of, is_added, pass_of, passes_of, count_of, closure_of, pass_count_of, derives_of}
use Rattle.reference.specs.Graphs.{GraphOf}
use Rattle.reference.proofs.Tests.{by-decision, lowest-of, decide-some, decide-every, decide-member, decide-within, decide-meeting, inserted-with}
use Rattle.reference.proofs.Graphs.{few-colours, added-below}
use Rattle.vertex_set.proofs.Outside.{outside-most, outside-falls, outside-none}

-- ---- the rows of one vertex

decide-complete : (rows : Rows) (held c : ℕ) → Decides (Complete (Member held) (row_of rows c)) (is_complete (row_of rows c) held)
unfolding is_complete
decide-complete rows held c =
    decide_iff
    (record {
      to = λ p. record { coloured = p.0; within = p.1.each };
      from = λ h. (h.coloured, record { each = h.within });
    })
    (decide-and _ _ (decide-not _ (decide-eqb (row_of rows c) 0)) (decide-within (row_of rows c) held))

pub lowest-colour : (rows : Rows) (held : ℕ) → length rows.needs ≤ 8 → LowestColour rows (Member held) (colour_of rows held)
unfolding colour_of
lowest-colour rows held long =
    let h = lowest-of (λ c. Complete (Member held) (row_of rows c)) (λ c. is_complete (row_of rows c) held) (decide-complete rows held) 8 in
    record {
      most = h.most;
      complete = h.is;
      lower = λ c k. (⊎_elim (λ l. absurd (h.none c l k)) (λ l. l) (less-or c (colour_of rows held)), colour-below rows 8 c long k.coloured);
    }

decide-broken : (rows : Rows) (lost c : ℕ) → Decides (Broken (Member lost) (row_of rows c)) (is_broken (row_of rows c) lost)
unfolding is_broken
decide-broken rows lost c =
    decide_iff
    (record {
      to = ⊎_elim (λ e d. absurd (d e)) (λ m d. record { vertex = m.vertex; member = m.left; gone = m.right });
      from = λ h. ⊎_elim (λ e. inl e) (λ d. let l = h d in inr (record { vertex = l.vertex; left = l.member; right = l.gone })) (same_or (row_of rows c) 0);
    })
    (decide-or _ _ (decide-eqb (row_of rows c) 0) (decide-meeting (row_of rows c) lost))

pub decide-added : (loss : Bool) (rows : Rows) (held : ℕ) → length rows.needs ≤ 8
    → Decides (Admits loss rows (Member held)) (is_added loss rows held)
unfolding is_added
decide-added false rows held long = some-complete rows held (colour_of rows held) (lowest-colour rows held long)
decide-added true rows held long =
    decide_iff
    (record {
      to = λ p. record { colour = p.0.0; coloured = p.0.2; every = λ c d. p.1 c (colour-below rows 8 c long d) d };
      from = λ h. ((h.colour, colour-below rows 8 h.colour long h.coloured, h.coloured), λ c l d. h.every c d);
    })
    (decide-and _ _
    (decide-some (λ c. row_of rows c ≡ 0 → ⊥) (λ c. not (eqb (row_of rows c) 0)) (λ c. decide-not _ (decide-eqb (row_of rows c) 0)) 8)
    (decide-every _ (λ c. is_broken (row_of rows c) held) (decide-broken rows held) 8))

-- ---- passes

module _ (loss : Bool) (s : Setup) (g : Graph) (wf : WellFormed s) (h : GraphOf s g) where
  -- A pass over the vertices below n.
  record PassBelow (held n r : ℕ) : Type 0 where
    each : (v : ℕ) → Iff (Member r v) (Member held v ⊎ ((v < n) × Admits loss (rows_at g v) (Member held)))

  below_none : (held : ℕ) → PassBelow held 0 held
  below_none held = record { each = λ v. record { to = λ m. inl m; from = ⊎_elim (λ m. m) (λ p. let l = p.0 in absurd (omega arith)) } }

  module _ (held n r : ℕ) (p : PassBelow held n r) where
    below-same : (Admits loss (rows_at g n) (Member held) → ⊥) → PassBelow held (suc n) r
    below-same d =
        record {
          each = λ v. record {
            to = λ m. ⊎_elim (λ x. inl x) (λ a. let l = a.0 in inr (omega arith, a.1)) ((p.each v).to m);
            from = ⊎_elim (λ x. (p.each v).from (inl x))
                (λ a. let l = a.0 in (p.each v).from (inr (⊎_elim
                (λ e. absurd (d (subst (λ (u : ℕ). Admits loss (rows_at g u) (Member held)) e a.1)))
                (λ e. (omega (arith, e), a.1)) (same_or v n))));
          };
        }

    below_more : (r' : ℕ) → n < 64 → Admits loss (rows_at g n) (Member held) → Inserted r n r' → PassBelow held (suc n) r'
    below_more r' l b t =
        record {
          each = λ v. record {
            to = λ m. ⊎_elim
                (λ x. ⊎_elim (λ y. inl y) (λ a. let k = a.0 in inr (omega arith, a.1)) ((p.each v).to x))
                (λ e. inr (omega (arith, e), subst (λ (u : ℕ). Admits loss (rows_at g u) (Member held)) (sym e) b))
                ((t.taken l v).to m);
            from = ⊎_elim (λ x. (t.taken l v).from (inl ((p.each v).from (inl x))))
                (λ a. let k = a.0 in (t.taken l v).from (⊎_elim (λ e. inr e) (λ e. inl ((p.each v).from (inr (omega (arith, e), a.1)))) (same_or v n)));
          };
        }

  pass_below : (held n : ℕ) → n ≤ s.count → PassBelow held n (pass_of loss g n held)
  unfolding pass_of
  pass_below held zero l = below_none held
  pass_below held (suc n) l =
      let most = wf.most in
      let k : n < 64 = omega arith in
      let now : ℕ = pass_of loss g n held in
      let p = pass_below held n (omega arith) in
      by-decision (is_added loss (rows_at g n) held) (decide-added loss (rows_at g n) held (few-colours s g h n))
      (λ e a. rw e (below_more held n now p _ k a (inserted-with now n k)))
      (λ e d. rw e (below-same held n now p d))

  -- all that the set allows is below the count
  passed : (held : ℕ) → Pass (rule_of loss g) held (pass_of loss g s.count held)
  passed held =
      let p = pass_below held s.count (omega arith) in
      record {
        each = λ v. record {
          to = λ m. ⊎_elim (λ x. inl x) (λ a. inr (admits-allows loss g (Member held) v a.1)) ((p.each v).to m);
          from = λ m. (p.each v).from (⊎_elim (λ x. inl x)
              (λ a. let b = allows-admits loss g (Member held) v a in inr (added-below loss s g h (Member held) v b, b)) m);
        };
      }

  -- a pass that adds something leaves fewer outside
  pass-falls : (held : ℕ) → (pass_of loss g s.count held ≡ held → ⊥) → count_outside s.count (pass_of loss g s.count held) < count_outside s.count held
  pass-falls held n =
      let now : ℕ = pass_of loss g s.count held in
      outside-falls s.count held now (pass-grows (rule_of loss g) held now (passed held)) n
      (λ v m. ⊎_elim (λ x. inl x) (λ a. inr a.0) (((pass_below held s.count (omega arith)).each v).to m))

  -- where no vertex is outside, the next pass adds nothing
  full-idle : (held : ℕ) → count_outside s.count held ≡ 0 → Pass (rule_of loss g) held held
  full-idle held z =
      record {
        each = λ v. record {
          to = λ m. inl m;
          from = ⊎_elim (λ m. m)
              (λ a. outside-none s.count held v z (added-below loss s g h (Member held) v (allows-admits loss g (Member held) v a)));
        };
      }

  settle : (k held : ℕ) → count_outside s.count held ≤ k → Passes (rule_of loss g) (count_of loss s.count g k held) held (passes_of loss s.count g k held)
  unfolding passes_of count_of
  settle zero held l = inl (full-idle held (omega arith), refl, refl)
  settle (suc k) held l =
      let now : ℕ = pass_of loss g s.count held in
      by_test (eqb now held)
      (λ e. rw e (inl (subst (Pass (rule_of loss g) held) (eqb-true _ _ e) (passed held), refl, refl)))
      (λ e. rw e (inr (now, passed held, eqb-false _ _ e, settle k now (let f = pass-falls held (eqb-false _ _ e) in omega arith))))

  pub passes_of_lem : (set : ℕ) → Passes (rule_of loss g) (pass_count_of loss s.count g set) set (closure_of loss s.count g set)
  unfolding closure_of pass_count_of
  passes_of_lem set = settle s.count set (outside-most s.count set)

  pub closure-of : (set : ℕ) → Closure (rule_of loss g) set (closure_of loss s.count g set)
  closure-of set = passes-closure (rule_of loss g) (lawful loss g) (pass_count_of loss s.count g set) set (closure_of loss s.count g set) (passes_of_lem set)

  pub decide-derives : (target set : ℕ) → Decides (Derives loss g target set) (derives_of loss s.count g target set)
  unfolding derives_of
  decide-derives target set = decide_iff ((closure-of set).each target) (decide-member (closure_of loss s.count g set) target)
