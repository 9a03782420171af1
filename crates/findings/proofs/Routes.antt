-- Without recovery no route is easier: an allowed step there is the same step with recovery.
-- Assumes nothing.
use mathlib.Core.Path.{◌≡◌}
use mathlib.Core.Bool.{false}
use mathlib.Core.Logic.{⊎_elim}
use Prim.Native.Nat.{ℕ, ◌≤◌, ◌<◌}
use native.Mathlib.Omega.{arith}
use Rattle.vertex_set.specs.Set.{Member}
use Rattle.vertex_set.proofs.Cases.{less-or}
use Rattle.vertex_set.proofs.Sets.{not-empty, some-member}
use Rattle.setup.specs.declared.Graph.{Graph}
use Rattle.setup.specs.declared.Setup.{Setup}
use Rattle.setup.specs.Setup.{row, WithoutRecovery}
use Rattle.derivations.specs.Derivation.{Vertices}
use Rattle.derivations.specs.Access.{Step, Opens, access, HasAccess}
use Rattle.derivations.proofs.Rules.{held, closed, least}
use Rattle.derivations.proofs.Graphs.{access-lawful}
use Rattle.bases.specs.Base.{TargetSet}
use Rattle.scores.specs.Never.{never}
use Rattle.bases.specs.Score.{Score}
use Rattle.findings.specs.Findings.{Compared, NoEasierRoute}

module _ (s : Setup) (g : Graph) (h : WithoutRecovery s g) where
  -- a colour that is left has all of its edges
  opens-more : (Q : Vertices) (e : Step) → Opens g Q e → Opens s.graph Q e
  opens-more Q e o =
      let m = some-member (row g e.vertex e.colour) o.coloured in
      let k = (h.each m.0 e.vertex e.colour).to m.1 in
      record {
        coloured = not-empty (row s.graph e.vertex e.colour) m.0 k.0;
        complete = λ i n. o.complete i ((h.each i e.vertex e.colour).from (n, k.1));
      }

  access-more : (P : Vertices) (v : ℕ) → HasAccess g P v → HasAccess s.graph P v
  access-more P =
      least (access g) (access-lawful g) P (HasAccess s.graph P) (held (access s.graph) P)
      (λ e o. closed (access s.graph) (access-lawful s.graph) P e (opens-more (HasAccess s.graph P) e o))

  target_more : (v x : ℕ) → TargetSet false s g v x → TargetSet false s s.graph v x
  target_more v x t = record { chosen = t.chosen; derives = access-more (Member x) v t.derives }

-- a score is at most never
score-most : (s : Setup) (g : Graph) (v r : ℕ) → Score false s g v r → r ≤ never
score-most s g v r a =
    ⊎_elim (λ l. let e = a.none (λ x t. let k = a.some x t in omega arith) in omega arith) (λ l. l) (less-or never r)

score-more : (s : Setup) (v r r' : ℕ) → Compared false s v r r' → r ≤ r'
score-more s v r r' a =
    ⊎_elim
    (λ l.
    let w = a.without.reached l in
    let k = a.score.least w.0 (target_more s a.less a.is_less v w.0 w.1) in
    let e = w.2 in
    omega arith)
    (λ l. let k = score-most s s.graph v r a.score in omega arith)
    (less-or r' never)

pub no-easier-route : (s : Setup) → NoEasierRoute s
no-easier-route s = record { opens = access-more s; score = score-more s }
