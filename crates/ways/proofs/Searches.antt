-- The search for the next step: which vertices are ready, kept up from step to step.
-- Assumes nothing.
use mathlib.Core.Path.{◌≡◌, refl, subst}
use mathlib.Core.Bool.{false}
use mathlib.Core.List.{List}
use mathlib.Core.Logic.{inl, inr, ⊎_elim}
use Prim.Native.Nat.{ℕ, ◌-◌, ◌^◌, ◌<◌}
use lib.Bits.{bit_and, bit_or, or_lt}
use lib.ListN.{get_or}
use Rattle.vertex_set.specs.Set.{Member, Inserted, Iff}
use Rattle.vertex_set.proofs.Sets.{in-less, in-or, member-or, none-in-zero}
use Rattle.setup.specs.declared.Graph.{Graph}
use Rattle.setup.specs.Setup.{row_of, rows_at}
use Rattle.derivations.specs.Access.{Step, Opens}
use Rattle.derivations.specs.Inner.Admits.{SomeComplete}
use Rattle.derivations.proofs.Admits.{admits-local, admits-mono, admits-some, step-admits}
use Rattle.successors.specs.Inner.{VertexOf, Without, Successors}
use Rattle.closures.specs.Inner.{ToLookAt, Admitted}
use Rattle.closures.proofs.Passes.{look-all}
use Rattle.ways.specs.Inner.{Ready, Searching, SearchBegun}

-- ---- the beginning

pub search-begun : (list : List ℕ) (set left : ℕ) → set < 2 ^ 64 → ToLookAt list 0 set left → SearchBegun list set set 0 left
search-begun list set left h t =
    record {
      same = refl;
      search = λ g s. record {
        sound = λ v m. absurd (none-in-zero v m);
        outside = λ v m. ((t.each v).to m).1;
        whole = λ v r. ⊎_elim (λ m. absurd (r.0 m)) (λ m. inr m)
            (look-all false g list s 0 set left h (λ u a. absurd (admits-some false (rows_at g u) (Member 0) none-in-zero a)) t v r.1);
      };
    }

-- ---- all ready vertices

-- r has the vertices that can be added.
pub record AllReady (g : Graph) (held r : ℕ) : Type 0 where
  pub each : (v : ℕ) → Iff (Member r v) (Ready g held v)

-- those known before, and those of the vertices to look at that what is held admits
pub all-ready : (g : Graph) (held ready left more : ℕ) → Searching g held ready left → Admitted false g held left more → AllReady g held (bit_or ready more)
all-ready g held ready left more s a =
    record {
      each = λ v.
          let o = in-or ready more v in
          record {
            to = λ m. ⊎_elim (s.sound v) (λ p. let q = (a.each v).to p in (s.outside v q.0, q.1)) (o.to m);
            from = λ d. o.from (⊎_elim (λ m. inl m) (λ m. inr ((a.each v).from (m, d.1))) (s.whole v d));
          };
    }

pub none-is-ready : (g : Graph) (held r : ℕ) → AllReady g held r → r ≡ 0 → (v : ℕ) → Ready g held v → ⊥
none-is-ready g held r a z v d = none-in-zero v (subst (λ (x : ℕ). Member x v) z ((a.each v).from d))

-- ---- a ready vertex added

module _ (list : List ℕ) (v held ready held' rest : ℕ) (p : VertexOf ready v) (t : Inserted held v held') (o : Without ready v rest)
    (fits : get_or list v 0 < 2 ^ 64) (small : held' < 2 ^ 64) (few : rest < 2 ^ 64) where
  abbrev left : ℕ
  left = bit_and (get_or list v 0) ((2 ^ 64 - 1) - bit_or held' rest)

  in_left : (u : ℕ) → Iff (Member left u) (Member (get_or list v 0) u × (Member (bit_or held' rest) u → ⊥))
  in_left u = in-less (get_or list v 0) (bit_or held' rest) u fits (or_lt 64 held' rest small few)

  -- what the vertices held before did not complete is completed with v, and so needs it
  before : (g : Graph) → Successors g list → (u : ℕ) → (Member (get_or list v 0) u → ⊥) → SomeComplete (rows_at g u) (Member held') → SomeComplete (rows_at g u) (Member held)
  before g s u n =
      admits-local false (rows_at g u) (Member held') (Member held)
      (λ c i m h. ⊎_elim (λ x. x)
      (λ q. absurd (n ((s.each v u p.place).from (record { colour = c; member = subst (Member (row_of (rows_at g u) c)) q m }))))
      ((t.taken p.place i).to h))

  pub vertex-added : (g : Graph) → Successors g list → AllReady g held ready → Searching g held' rest left
  vertex-added g s h =
      record {
        sound = λ u m.
            let q = (o.each u).to m in
            let r = (h.each u).to q.0 in (
              λ k. ⊎_elim r.0 q.1 ((t.taken p.place u).to k),
              admits-mono false (rows_at g u) (Member held) (Member held') (λ i k. (t.taken p.place i).from (inl k)) r.1,
            );
        outside = λ u m k. ((in_left u).to m).1 ((in-or held' rest u).from (inl k));
        whole = λ u d. ⊎_elim (λ m. inl m)
            (λ n. ⊎_elim (λ e. inr ((in_left u).from (e, λ k. ⊎_elim d.0 n ((in-or held' rest u).to k))))
            (λ e. inl ((o.each u).from ((h.each u).from (λ k. d.0 ((t.taken p.place u).from (inl k)), before g s u e d.1), λ q. d.0 ((t.taken p.place u).from (inr q)))))
            (member-or (get_or list v 0) u))
            (member-or rest u);
      }

-- ---- nothing is ready

-- then all that can be opened is held
pub none-ready : (g : Graph) (held : ℕ) → ((v : ℕ) → Ready g held v → ⊥) → (f : Step) → Opens g (Member held) f → Member held f.vertex
none-ready g held n f o = ⊎_elim (λ m. m) (λ k. absurd (n f.vertex (k, step-admits false g (Member held) f o))) (member-or held f.vertex)

-- how a search begins
pub ruleset search_answers = (search-begun)
