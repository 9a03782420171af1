-- A vertex that its rows admit is one that a step adds.
-- Assumes nothing.
use mathlib.Core.Path.{◌≡◌, refl, sym, subst}
use mathlib.Core.Bool.{Bool, true, false}
use Prim.Native.Nat.{ℕ, ◌<◌}
use lib.ListN.{length}
use Rattle.vertex_set.specs.Set.{Member}
use Rattle.vertex_set.proofs.Sets.{some-member}
use Rattle.setup.specs.declared.Rows.{Rows}
use Rattle.setup.specs.declared.Graph.{Graph}
use Rattle.setup.specs.Setup.{row_of, rows_at}
use Rattle.setup.proofs.Graphs.{coloured-place}
use Rattle.derivations.specs.Derivation.{Vertices, Derivation}
use Rattle.derivations.specs.Both.{rule_of}
use Rattle.derivations.specs.Passes.{Allows}
use Rattle.derivations.specs.Inner.Admits.{Admits}
use Rattle.derivations.proofs.Rules.{Sub, closed}
use Rattle.derivations.proofs.Both.{lawful}

-- only the needed vertices count
pub admits-local : (loss : Bool) (rows : Rows) (P Q : Vertices) → ((c i : ℕ) → Member (row_of rows c) i → P i → Q i) → Admits loss rows P → Admits loss rows Q
admits-local false rows P Q h a =
    record {
      colour = a.colour;
      complete = record { coloured = a.complete.coloured; within = λ i m. h a.colour i m (a.complete.within i m) };
    }
admits-local true rows P Q h a =
    record {
      colour = a.colour;
      coloured = a.coloured;
      every = λ c n. let s = a.every c n in record { vertex = s.vertex; member = s.member; gone = h c s.vertex s.member s.gone };
    }

-- where more is held or lost, more is admitted
pub admits-mono : (loss : Bool) (rows : Rows) (P Q : Vertices) → Sub P Q → Admits loss rows P → Admits loss rows Q
admits-mono loss rows P Q s = admits-local loss rows P Q (λ c i m. s i)

-- the rows of the vertex that an allowed step adds admit it
pub step-admits : (loss : Bool) (g : Graph) (P : Vertices) (e : (rule_of loss g).Step) → (rule_of loss g).Allowed P e
    → Admits loss (rows_at g ((rule_of loss g).adds e)) P
step-admits false g P e o = record { colour = e.colour; complete = record { coloured = o.coloured; within = o.complete } }
step-admits true g P v o = record { colour = o.colour; coloured = o.coloured; every = o.every }

-- what the rows of a vertex admit is what some step adds
pub admits-allows : (loss : Bool) (g : Graph) (P : Vertices) (v : ℕ) → Admits loss (rows_at g v) P → Allows (rule_of loss g) P v
admits-allows false g P v a =
    record {
      step = record { vertex = v; colour = a.colour };
      allowed = record { coloured = a.complete.coloured; complete = a.complete.within };
      adds = refl;
    }
admits-allows true g P v a = record { step = v; allowed = record { colour = a.colour; coloured = a.coloured; every = a.every }; adds = refl }

pub allows-admits : (loss : Bool) (g : Graph) (P : Vertices) (v : ℕ) → Allows (rule_of loss g) P v → Admits loss (rows_at g v) P
allows-admits loss g P v a = subst (λ (u : ℕ). Admits loss (rows_at g u) P) (sym a.adds) (step-admits loss g P a.step a.allowed)

-- nothing is admitted by nothing
pub admits-some : (loss : Bool) (rows : Rows) (P : Vertices) → ((i : ℕ) → P i → ⊥) → Admits loss rows P → ⊥
admits-some false rows P none a = let m = some-member _ a.complete.coloured in none m.0 (a.complete.within m.0 m.1)
admits-some true rows P none a = let s = a.every a.colour a.coloured in none s.vertex s.gone

-- what derivable vertices admit is derivable
pub admits-derived : (loss : Bool) (g : Graph) (P Q : Vertices) (v : ℕ) → Sub Q (Derivation (rule_of loss g) P) → Admits loss (rows_at g v) Q
    → Derivation (rule_of loss g) P v
admits-derived loss g P Q v s a = derived loss (admits-mono loss (rows_at g v) Q (Derivation (rule_of loss g) P) s a)
  where
    derived : (b : Bool) → Admits b (rows_at g v) (Derivation (rule_of b g) P) → Derivation (rule_of b g) P v
    derived false h =
        closed (rule_of false g) (lawful false g) P (record { vertex = v; colour = h.colour })
        (record { coloured = h.complete.coloured; complete = h.complete.within })
    derived true h = closed (rule_of true g) (lawful true g) P v (record { colour = h.colour; coloured = h.coloured; every = h.every })

-- a vertex that is admitted has a colour,
pub admits-coloured : (loss : Bool) (rows : Rows) (P : Vertices) → Admits loss rows P → (c : ℕ) × (row_of rows c ≡ 0 → ⊥)
admits-coloured false rows P a = (a.colour, a.complete.coloured)
admits-coloured true rows P a = (a.colour, a.coloured)

-- and so a place in the graph
pub admits-place : (loss : Bool) (g : Graph) (P : Vertices) (v : ℕ) → length g.rows ≡ 64 → Admits loss (rows_at g v) P → v < 64
admits-place loss g P v e a = let c = admits-coloured loss (rows_at g v) P a in coloured-place g e v c.0 c.1
