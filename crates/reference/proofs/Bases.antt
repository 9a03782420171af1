-- `base_of` is the base.
-- Assumes nothing.
use mathlib.Core.Bool.{Bool, ◌&&◌}
use mathlib.Core.Logic.{inl, inr}
use Prim.Native.Nat.{ℕ, ◌-◌, ◌^◌, ◌<◌}
use native.Mathlib.Nat.{lt_of_lt_of_le}
use lib.Pow.{pow_mono}
use Rattle.vertex_set.specs.Set.{Member, Within, ProperlyWithin, Decides, Iff}
use Rattle.vertex_set.specs.Order.{Listed, Before}
use Rattle.vertex_set.proofs.Decisions.{decide_iff, decide-not, decide-and}
use Rattle.vertex_set.proofs.Subsets.{proper-lacks, within-removed, removed-proper, minimal-below}
use Rattle.vertex_set.proofs.Sorted.{sorted-ordered}
use Rattle.setup.specs.declared.Graph.{Graph}
use Rattle.setup.specs.declared.Setup.{Setup}
use Rattle.setup.specs.Setup.{Chosen}
use Rattle.formed.specs.WellFormed.{WellFormed}
use Rattle.derivations.specs.Both.{rule_of}
use Rattle.derivations.proofs.Rules.{monotone}
use Rattle.derivations.proofs.Both.{lawful}
use Rattle.bases.specs.Base.{Derives, TargetSet, MinimalSet, Base}
use Rattle.reference.specs.Tests.{some, is_member}
use Rattle.reference.specs.Closures.{derives_of}
use Rattle.reference.specs.Bases.{sets_of, target_sets_of, is_minimal, base_of}
use Rattle.reference.specs.Graphs.{GraphOf}
use Rattle.reference.proofs.Tests.{by-decision, SomeBelow, decide-some, decide-member, listed-filtered, sorted-filtered}
use Rattle.reference.proofs.Graphs.{chosen-below, own-graph}
use Rattle.reference.proofs.Closures.{decide-derives}
use Rattle.reference.proofs.Sets.{below-pow, listed-sets, sorted-sets}

module _ (loss : Bool) (s : Setup) (g : Graph) (target : ℕ) (wf : WellFormed s) (h : GraphOf s g) where
  pub listed-targets : (x : ℕ) → Iff (Listed (target_sets_of loss s g target) x) (TargetSet loss s g target x)
  unfolding target_sets_of
  listed-targets x =
      let l = listed-filtered (Derives loss g target) (derives_of loss s.count g target) (sets_of loss s) (λ y m. decide-derives loss s g wf h target y) x in
      let c = listed-sets loss s wf x in
      record {
        to = λ m. let p = l.to m in record { chosen = c.to p.0; derives = p.1 };
        from = λ t. l.from (c.from t.chosen, t.derives);
      }

  -- more derives more
  pub derives-more : (x y : ℕ) → Within x y → Derives loss g target x → Derives loss g target y
  derives-more x y w d = monotone (rule_of loss g) (lawful loss g) (Member x) (Member y) w.each target d

  -- a target set less one of its vertices
  abbrev pub LessOne : ℕ → ℕ → Type 0
  LessOne x v = Member x v × Derives loss g target (x - 2 ^ v)

  pub decide-less-one : (x : ℕ) → Decides (SomeBelow (LessOne x) s.count) (some (λ v. is_member x v && derives_of loss s.count g target (x - 2 ^ v)) s.count)
  decide-less-one x =
      decide-some (LessOne x) _ (λ v. decide-and _ _ (decide-member x v) (decide-derives loss s g wf h target (x - 2 ^ v))) s.count

  -- a set of chosen vertices is a word
  chosen-fits : (x : ℕ) → ((v : ℕ) → Member x v → Chosen loss s v) → x < 2 ^ 64
  chosen-fits x c =
      lt_of_lt_of_le (below-pow s.count x wf.most (λ v i. chosen-below loss s wf v (c v i))) (pow_mono {i = s.count} {j = 64} wf.most)

  -- of a set of chosen vertices
  pub less-one-iff : (x : ℕ) → ((v : ℕ) → Member x v → Chosen loss s v)
      → Iff (SomeBelow (LessOne x) s.count → ⊥) ((y : ℕ) → ProperlyWithin y x → Derives loss g target y → ⊥)
  less-one-iff x c =
      record {
        to = λ none y p d.
            let l = proper-lacks y x (chosen-fits x c) p in
            none (l.0, chosen-below loss s wf l.0 (c l.0 l.1), (l.1, derives-more y (x - 2 ^ l.0) (within-removed y x l.0 p.within l.1 l.2) d));
        from = λ m w. m (x - 2 ^ w.0) (removed-proper x w.0 w.2.0) w.2.1;
      }

  decide-minimal : (x : ℕ) → TargetSet loss s g target x → Decides (MinimalSet loss s g target x) (is_minimal loss s g target x)
  unfolding is_minimal
  decide-minimal x t =
      let i = less-one-iff x t.chosen in
      decide_iff (record { to = λ n. record { is = t; minimal = i.to n }; from = λ m. i.from m.minimal }) (decide-not _ (decide-less-one x))

  pub listed-base : (x : ℕ) → Iff (Listed (base_of loss s g target) x) (MinimalSet loss s g target x)
  unfolding base_of
  listed-base x =
      let l = listed-filtered (MinimalSet loss s g target) (is_minimal loss s g target) (target_sets_of loss s g target) (λ y m. decide-minimal y ((listed-targets y).to m)) x in
      record { to = λ m. (l.to m).1; from = λ m. l.from ((listed-targets x).from m.is, m) }

  pub base-of : Base loss s g target (base_of loss s g target)
  unfolding base_of target_sets_of
  base-of =
      record {
        sound = λ x. (listed-base x).to;
        whole = λ x. (listed-base x).from;
        ordered = sorted-ordered (base_of loss s g target)
            (sorted-filtered Before (is_minimal loss s g target) (target_sets_of loss s g target) (sorted-filtered Before (derives_of loss s.count g target) (sets_of loss s) (sorted-sets loss s)));
      }

  -- each target set has a minimal one within it
  pub minimal-within : (x : ℕ) → TargetSet loss s g target x → (y : ℕ) × Within y x × MinimalSet loss s g target y
  minimal-within x t =
      let r = minimal-below (Derives loss g target) (λ y. by-decision _ (decide-derives loss s g wf h target y) (λ e d. inl d) (λ e n. inr n))
      x (chosen-fits x t.chosen) t.derives in
      (r.0, r.1, record { is = record { chosen = λ v m. t.chosen v (r.1.each v m); derives = r.2 }; minimal = r.3 })

-- that of the setup's own graph
pub own-base : (loss : Bool) (s : Setup) (target : ℕ) → WellFormed s → Base loss s s.graph target (base_of loss s s.graph target)
own-base loss s target w = base-of loss s s.graph target w (own-graph s w)
