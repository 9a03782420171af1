-- Which graphs are a setup's, and what follows for their rows.
-- Assumes nothing.
use mathlib.Core.Path.{◌≡◌, subst}
use mathlib.Core.Bool.{Bool, true, false}
use mathlib.Core.List.{[]}
use mathlib.Core.Logic.{◌⊎◌, inl, inr, ⊎_elim}
use Prim.Native.Nat.{ℕ, ◌≤◌, ◌<◌}
use native.Mathlib.Omega.{arith}
use lib.ListN.{length, get_or-eq_default}
use Rattle.vertex_set.proofs.Cases.{less-or}
use Rattle.vertex_set.proofs.Sets.{some-member}
use Rattle.setup.specs.declared.Vertex.{Vertex}
use Rattle.setup.specs.declared.Graph.{Graph}
use Rattle.setup.specs.declared.Setup.{Setup}
use Rattle.setup.specs.Setup.{rows_at, row, given, value_of, unused_vertex, Chosen, WithoutRecovery}
use Rattle.formed.specs.WellFormed.{WellFormed}
use Rattle.formed.proofs.Facts.{not-in-use}
use Rattle.derivations.specs.Derivation.{Vertices, Derivation}
use Rattle.derivations.specs.Both.{rule_of}
use Rattle.derivations.specs.Inner.Admits.{Admits}
use Rattle.derivations.proofs.Rules.{least}
use Rattle.derivations.proofs.Both.{lawful}
use Rattle.derivations.proofs.Admits.{step-admits, admits-coloured}
use Rattle.reference.specs.Graphs.{GraphOf}

-- the setup's own graph is one
pub own-graph : (s : Setup) → WellFormed s → GraphOf s s.graph
own-graph s w = record { shaped = w.shaped.graph; ends = w.ends }

-- and so is that without recovery
pub graph-without : (s : Setup) (g : Graph) → WellFormed s → WithoutRecovery s g → GraphOf s g
graph-without s g w h = record { shaped = h.shaped; ends = λ f v c m. w.ends f v c ((h.each f v c).to m).0 }

-- a chosen vertex is one of the setup
pub chosen-below : (loss : Bool) (s : Setup) → WellFormed s → (v : ℕ) → Chosen loss s v → v < s.count
chosen-below loss s w v c = ⊎_elim (λ l. l) (λ l. absurd (none loss (subst (λ (x : Vertex). given (value_of loss x) ≡ 1) (not-in-use s w v l) c))) (less-or v s.count)
  where
    none : (b : Bool) → given (value_of b unused_vertex) ≡ 1 → ⊥
    none false e = omega arith
    none true e = omega arith

-- at each place, in use or not, there are at most eight rows
pub few-colours : (s : Setup) (g : Graph) → GraphOf s g → (v : ℕ) → length (rows_at g v).needs ≤ 8
few-colours s g h v = ⊎_elim (λ l. let e = h.shaped.colours v l in omega arith) above (less-or v 64)
  where
    above : 64 ≤ v → length (rows_at g v).needs ≤ 8
    above l =
        let p = h.shaped.places in
        let e : rows_at g v ≡ record { needs = [] } = get_or-eq_default g.rows (record { needs = [] }) (omega arith) in
        rw e (omega arith)

module _ (loss : Bool) (s : Setup) (g : Graph) (h : GraphOf s g) where
  -- only vertices of the setup can be added
  pub added-below : (P : Vertices) (v : ℕ) → Admits loss (rows_at g v) P → v < s.count
  added-below P v a =
      let c = admits-coloured loss (rows_at g v) P a in
      let f = some-member (row g v c.0) c.1 in
      (h.ends f.0 v c.0 f.1).1

  -- what is derivable is held, or a vertex of the setup
  pub derived-below : (P : Vertices) (v : ℕ) → Derivation (rule_of loss g) P v → P v ⊎ (v < s.count)
  derived-below P =
      least (rule_of loss g) (lawful loss g) P Q (λ i p. inl p) (λ e a. inr (added-below Q ((rule_of loss g).adds e) (step-admits loss g Q e a)))
    where
      Q : Vertices
      Q i = P i ⊎ (i < s.count)
