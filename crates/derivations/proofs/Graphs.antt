-- Access and lockout are lawful rules.
-- Assumes nothing.
use mathlib.Core.Path.{◌≡◌, refl, subst}
use mathlib.Core.List.{List}
use mathlib.Core.Logic.{◌⊎◌, inl, inr, ⊎_elim}
use Prim.Native.Nat.{ℕ}
use native.Mathlib.Omega.{arith}
use lib.ListN.{length}
use Rattle.vertex_set.specs.Set.{Member}
use Rattle.vertex_set.proofs.Cases.{same_or}
use Rattle.vertex_set.proofs.Digits.{below-own-power}
use Rattle.vertex_set.proofs.Sets.{member-or, member_below}
use Rattle.setup.specs.declared.Graph.{Graph}
use Rattle.setup.specs.Setup.{row, rows_at}
use Rattle.setup.proofs.Graphs.{colour-below}
use Rattle.derivations.specs.Derivation.{Vertices, Run, Derivation}
use Rattle.derivations.specs.Access.{Step, Opens, access}
use Rattle.derivations.specs.Lockout.{SomeLost, Shuts, lockout}
use Rattle.derivations.proofs.Rules.{Sub, After, Lawful, gather}

-- ---- access

opens-mono : (g : Graph) (P Q : Vertices) → Sub P Q → (e : Step) → Opens g P e → Opens g Q e
opens-mono g P Q s e o = record { coloured = o.coloured; complete = λ i m. s i (o.complete i m) }

opens-gathers : (g : Graph) (P : Vertices) (e : Step) → Opens g (Derivation (access g) P) e
    → (d : List Step) × Run (access g) P d × Opens g (After (access g) P d) e
opens-gathers g P e o =
    let s = row g e.vertex e.colour in
    let h = gather (access g) (opens-mono g) P (Member s) (λ k i. i ≡ k) (member-or s) (λ k m. (k, refl, o.complete k m)) s in (
      h.0,
      h.1,
      record {
        coloured = o.coloured;
        complete = λ i m.
            let w = h.2 i (member_below s s i (below-own-power s) m) m in
            subst (After (access g) P h.0) w.1 w.2;
      },
    )

pub access-lawful : (g : Graph) → Lawful (access g)
access-lawful g = record { mono = opens-mono g; gathers = opens-gathers g }

-- ---- lockout

some-lost-mono : (P Q : Vertices) → Sub P Q → (s : ℕ) → SomeLost P s → SomeLost Q s
some-lost-mono P Q sub s l = record { vertex = l.vertex; member = l.member; gone = sub l.vertex l.gone }

shuts-mono : (g : Graph) (P Q : Vertices) → Sub P Q → (v : ℕ) → Shuts g P v → Shuts g Q v
shuts-mono g P Q s v o = record { colour = o.colour; coloured = o.coloured; every = λ c n. some-lost-mono P Q s (row g v c) (o.every c n) }

-- a row is empty, or is not
pub empty-or : (s : ℕ) → (s ≡ 0 → ⊥) ⊎ ((s ≡ 0 → ⊥) → ⊥)
empty-or s = ⊎_elim (λ e. inr (λ n. n e)) (λ n. inl n) (same_or s 0)

shuts-gathers : (g : Graph) (P : Vertices) (v : ℕ) → Shuts g (Derivation (lockout g) P) v
    → (d : List ℕ) × Run (lockout g) P d × Shuts g (After (lockout g) P d) v
shuts-gathers g P v o =
    let h = gather (lockout g) (shuts-mono g) P (λ c. row g v c ≡ 0 → ⊥) (λ c i. Member (row g v c) i) (λ c. empty-or (row g v c))
    (λ c n. let l = o.every c n in (l.vertex, l.member, l.gone)) (length (rows_at g v).needs) in (
      h.0,
      h.1,
      record {
        colour = o.colour;
        coloured = o.coloured;
        every = λ c n.
            let w = h.2 c (colour-below (rows_at g v) (length (rows_at g v).needs) c (omega arith) n) n in
            record { vertex = w.0; member = w.1; gone = w.2 };
      },
    )

pub lockout-lawful : (g : Graph) → Lawful (lockout g)
lockout-lawful g = record { mono = shuts-mono g; gathers = shuts-gathers g }
