-- Who holds more opens more, and who holds nothing opens nothing. Closures as sets: each set has one, and with one vertex more one may go on from
-- what is open.
-- Assumes nothing.
use mathlib.Core.Path.{◌≡◌}
use mathlib.Core.Logic.{◌⊎◌, inl, inr, ⊎_elim}
use Prim.Native.Nat.{ℕ}
use Rattle.vertex_set.specs.Set.{Member, Iff}
use Rattle.vertex_set.proofs.Sets.{none-in-zero, some-member, one_set}
use Rattle.setup.specs.declared.Graph.{Graph}
use Rattle.derivations.specs.Derivation.{Vertices, Rule, Derivation, Closure}
use Rattle.setup.specs.Setup.{row}
use Rattle.derivations.specs.Access.{access, HasAccess, AccessFrom}
use Rattle.derivations.proofs.Rules.{Lawful, held, monotone, least, union}
use Rattle.derivations.proofs.Graphs.{access-lawful}

pub closure-unique : (rule : Rule) (set t u : ℕ) → Closure rule set t → Closure rule set u → t ≡ u
closure-unique rule set t u a b = one_set (Derivation rule (Member set)) t u a.each b.each

-- who holds more opens more
pub opens-more : (g : Graph) (P Q : Vertices) → ((i : ℕ) → P i → Q i) → (v : ℕ) → HasAccess g P v → HasAccess g Q v
opens-more g P Q h v d = monotone (access g) (access-lawful g) P Q h v d

-- who holds nothing opens nothing: an empty row is no colour
pub nothing-opens : (g : Graph) (P : Vertices) → ((i : ℕ) → P i → ⊥) → (v : ℕ) → HasAccess g P v → ⊥
nothing-opens g P none v d =
    least (access g) (access-lawful g) P (λ i. ⊥) none (λ e o. let m = some-member (row g e.vertex e.colour) o.coloured in o.complete m.0 m.1) v d

pub none-opens : (g : Graph) → AccessFrom g 0 0
none-opens g = record { each = λ v. record { to = λ m. absurd (none-in-zero v m); from = λ d. absurd (nothing-opens g (Member 0) none-in-zero v d) } }

-- Where t is the closure of s, and both take in v, the closures of the two are one.
pub closure-on : (r : Rule) → Lawful r → (s t v s' t' u : ℕ) → Closure r s t
    → ((i : ℕ) → Iff (Member s' i) (Member s i ⊎ (i ≡ v))) → ((i : ℕ) → Iff (Member t' i) (Member t i ⊎ (i ≡ v))) → Closure r t' u → Closure r s' u
closure-on r law s t v s' t' u c hs ht d =
    record {
      each = λ w. record {
        to = λ m. monotone r law More (Member s') (λ i. (hs i).from) w ((union r law (Member s) One w).from (monotone r law (Member t') Further there w ((d.each w).to m)));
        from = λ p. (d.each w).from (monotone r law (Member s') (Member t') within w p);
      };
    }
  where
    One : Vertices
    One i = i ≡ v

    More : Vertices
    More i = Member s i ⊎ One i

    Further : Vertices
    Further i = Derivation r (Member s) i ⊎ One i

    there : (i : ℕ) → Member t' i → Further i
    there i m = ⊎_elim (λ k. inl ((c.each i).to k)) (λ e. inr e) ((ht i).to m)

    within : (i : ℕ) → Member s' i → Member t' i
    within i m = (ht i).from (⊎_elim (λ k. inl ((c.each i).from (held r (Member s) i k))) (λ e. inr e) ((hs i).to m))
