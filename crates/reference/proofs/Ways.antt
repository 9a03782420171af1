-- `way_of` is the way in, where there is one.
-- Assumes nothing.
use mathlib.Core.Path.{◌≡◌, refl}
use mathlib.Core.Bool.{true, false, not, ◌&&◌}
use mathlib.Core.Logic.{inl, inr, ⊎_elim}
use Prim.Native.Nat.{ℕ, zero, suc, ◌≤◌, ◌<◌}
use native.Mathlib.Nat.{lt_of_lt_of_le}
use native.Mathlib.Omega.{arith}
use Rattle.vertex_set.specs.Set.{Member, Within, count_outside}
use Rattle.vertex_set.proofs.Cases.{less-or}
use Rattle.vertex_set.proofs.Sets.{member-or}
use Rattle.setup.specs.declared.Graph.{Graph}
use Rattle.setup.specs.declared.Setup.{Setup}
use Rattle.setup.specs.Setup.{rows_at}
use Rattle.formed.specs.WellFormed.{WellFormed}
use Rattle.derivations.specs.Access.{access, HasAccess}
use Rattle.derivations.specs.Way.{LowestStep, Way}
use Rattle.derivations.specs.Inner.Admits.{Admits}
use Rattle.derivations.proofs.Rules.{least, monotone}
use Rattle.derivations.proofs.Graphs.{access-lawful}
use Rattle.derivations.proofs.Admits.{step-admits}
use Rattle.ways.proofs.Ways.{PassedOver, way-behind}
use Rattle.ways.proofs.Ways as ways
use Rattle.reference.specs.Tests.{is_member, with_vertex}
use Rattle.reference.specs.Closures.{colour_of, is_added, derives_of, next_vertex, steps_of, way_of}
use Rattle.reference.specs.Graphs.{GraphOf}
use Rattle.vertex_set.proofs.Decisions.{decide-not, decide-and}
use Rattle.reference.proofs.Tests.{by-decision, LowestOf, lowest-of, decide-member, in-with, inserted-with}
use Rattle.reference.proofs.Graphs.{few-colours, added-below, derived-below}
use Rattle.vertex_set.proofs.Outside.{outside-most, outside-less, outside-none}
use Rattle.reference.proofs.Closures.{lowest-colour, decide-added, decide-derives}

module _ (s : Setup) (g : Graph) (wf : WellFormed s) (h : GraphOf s g) where
  -- The vertex is not held, and can be opened.
  abbrev Next : ℕ → ℕ → Type 0
  Next held v = (Member held v → ⊥) × Admits false (rows_at g v) (Member held)

  next-vertex : (held : ℕ) → LowestOf (Next held) s.count (next_vertex s.count g held)
  unfolding next_vertex
  next-vertex held =
      lowest-of (Next held) (λ v. not (is_member held v) && is_added false (rows_at g v) held)
      (λ v. decide-and _ _ (decide-not _ (decide-member held v)) (decide-added false (rows_at g v) held (few-colours s g h v))) s.count

  -- a vertex below the one found that can be opened is held
  passed_over : (held : ℕ) → PassedOver g held (next_vertex s.count g held)
  passed_over held f l o =
      ⊎_elim (λ m. m) (λ n. absurd ((next-vertex held).none f.vertex l (n, step-admits false g (Member held) f o))) (member-or held f.vertex)

  -- the search finds the lowest step
  lowest_step : (held : ℕ) → next_vertex s.count g held < s.count
      → LowestStep g (Member held) (record { vertex = next_vertex s.count g held; colour = colour_of (rows_at g (next_vertex s.count g held)) held })
  lowest_step held l =
      let v : ℕ = next_vertex s.count g held in
      let n = (next-vertex held).is l in
      let low = lowest-colour (rows_at g v) held (few-colours s g h v) in
      let q = low.lower n.1.colour n.1.complete in
      let a = q.0 in
      let b = q.1 in
      ways.lowest_step g held v (passed_over held) n.0 (colour_of (rows_at g v) held) (low.complete (omega arith)) (λ c k. (low.lower c k).0)

  -- where the target is to be had and is not held, there is a step
  goes_on : (target held : ℕ) → HasAccess g (Member held) target → (Member held target → ⊥) → next_vertex s.count g held < s.count
  goes_on target held d o =
      ⊎_elim (λ l. l)
      (λ l. absurd (o (least (access g) (access-lawful g) (Member held) (Member held) (λ i m. m)
      (λ e a.
      let k = added-below false s g h (Member held) e.vertex (step-admits false g (Member held) e a) in
      passed_over held e (lt_of_lt_of_le k l) a) target d)))
      (less-or (next_vertex s.count g held) s.count)

  steps-of : (target k held : ℕ) → count_outside s.count held ≤ k → HasAccess g (Member held) target → Way g target (Member held) (steps_of s.count g target k held)
  unfolding steps_of
  steps-of target zero held l d = ⊎_elim (λ m. m) (λ b. outside-none s.count held target (omega arith) b) (derived-below false s g h (Member held) target d)
  steps-of target (suc k) held l d =
      let v : ℕ = next_vertex s.count g held in
      let next : ℕ = with_vertex held v in
      let grows : Within held next = record { each = λ i m. (in-with held v i).from (inl m) } in
      let most = wf.most in
      by-decision (is_member held target) (decide-member held target)
      (λ e m. rw e m)
      (λ e o.
      let b = goes_on target held d o in
      let f = outside-less s.count held next v grows b ((next-vertex held).is b).0 ((in-with held v v).from (inr refl)) in
      let rest = steps-of target k next (omega arith) (monotone (access g) (access-lawful g) (Member held) (Member next) grows.each target d) in
      rw e (o, lowest_step held b, (way-behind g target held v next (omega arith) (inserted-with held v (omega arith)) (steps_of s.count g target k next)).to rest))

  -- the way in, where there is one
  pub way-of : (target set : ℕ) → derives_of false s.count g target set ≡ true → Way g target (Member set) (way_of s.count g target set)
  unfolding way_of
  way-of target set e = steps-of target s.count set (outside-most s.count set) ((decide-derives false s g wf h target set).yes e)

  -- and else no derivation of the target
  pub no_way : (target set : ℕ) → derives_of false s.count g target set ≡ false → HasAccess g (Member set) target → ⊥
  no_way target set e = (decide-derives false s g wf h target set).no e
