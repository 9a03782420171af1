-- What the loops over the initial vertices have found, and what a kind's vertices open.
-- Assumes nothing.
use mathlib.Core.Path.{◌≡◌, sym, subst}
use mathlib.Core.Bool.{Bool}
use mathlib.Core.List.{List}
use mathlib.Core.Logic.{◌⊎◌, inl, inr, ⊎_elim}
use Prim.Native.Nat.{ℕ, ◌^◌, ◌≤◌, ◌<◌}
use native.Mathlib.Omega.{arith}
use lib.ListN.{get_or}
use Rattle.vertex_set.specs.Set.{Member, Within, Inserted, Decides, Iff}
use Rattle.vertex_set.proofs.Cases.{less-or}
use Rattle.vertex_set.proofs.Decisions.{decide_iff}
use Rattle.vertex_set.proofs.Sets.{member_below, none-in-zero, within-refl}
use Rattle.setup.specs.declared.Graph.{Graph}
use Rattle.derivations.specs.Access.{access, HasAccess}
use Rattle.derivations.proofs.Rules.{monotone}
use Rattle.derivations.proofs.Graphs.{access-lawful}
use Rattle.successors.specs.Inner.{VertexOf, Without}
use Rattle.successors.proofs.Members.{Passed, passed_none, passed-more, passed-all, left-within}
use Rattle.attackers.specs.Inner.{BothAtMost, FitOver, OfKind, HeldBy, KindOpens}

-- each vertex that is no longer left has one of the six kinds
abbrev pub Fitting : List ℕ → ℕ → ℕ → Type 0
Fitting kinds initial left = Within left initial × ((v : ℕ) → Passed initial left v → get_or kinds v 0 ≤ 5)

module _ (kinds : List ℕ) (initial : ℕ) where
  pub fitting-none : Fitting kinds initial initial
  fitting-none = (within-refl initial, λ v p. absurd (passed_none initial v p))

  pub fitting-more : (left v rest : ℕ) → Fitting kinds initial left → VertexOf left v → Without left v rest → get_or kinds v 0 < 6 → Fitting kinds initial rest
  fitting-more left v rest f p o l = (
    left-within initial left v rest f.0 o,
    λ u q. ⊎_elim (λ x. f.1 u x) (λ e. subst (λ (x : ℕ). get_or kinds x 0 ≤ 5) (sym e) (omega arith)) ((passed-more initial left v rest f.0 p.member o u).from q),
  )

  pub fitting-done : (left : ℕ) → left ≡ 0 → Fitting kinds initial left → FitOver kinds initial
  fitting-done left e f = record { each = λ v m. f.1 v ((passed-all initial left e v).from m) }

-- ---- the vertices that a kind holds

-- r has the vertices of at most the kind t that are not left.
pub record Holding (kinds : List ℕ) (initial t left r : ℕ) : Type 0 where
  pub within : Within left initial
  pub each : (v : ℕ) → Iff (Member r v) (Passed initial left v × BothAtMost (get_or kinds v 0) t)

module _ (kinds : List ℕ) (initial t : ℕ) where
  pub holding-none : Holding kinds initial t initial 0
  holding-none =
      record {
        within = within-refl initial;
        each = λ v. record { to = λ m. absurd (none-in-zero v m); from = λ p. absurd (passed_none initial v p.0) };
      }

  module _ (left r v rest : ℕ) (h : Holding kinds initial t left r) (p : VertexOf left v) (o : Without left v rest) where
    passed : (u : ℕ) → Iff (Passed initial left u ⊎ (u ≡ v)) (Passed initial rest u)
    passed = passed-more initial left v rest h.within p.member o

    pub holding-more : (r' : ℕ) → BothAtMost (get_or kinds v 0) t → Inserted r v r' → Holding kinds initial t rest r'
    holding-more r' b i =
        record {
          within = left-within initial left v rest h.within o;
          each = λ u. record {
            to = λ m. ⊎_elim (λ x. let q = (h.each u).to x in ((passed u).to (inl q.0), q.1))
                (λ e. ((passed u).to (inr e), subst (λ (x : ℕ). BothAtMost (get_or kinds x 0) t) (sym e) b)) ((i.taken p.place u).to m);
            from = λ q. (i.taken p.place u).from (⊎_elim (λ x. inl ((h.each u).from (x, q.1))) (λ e. inr e) ((passed u).from q.0));
          };
        }

    pub holding-same : (BothAtMost (get_or kinds v 0) t → ⊥) → Holding kinds initial t rest r
    holding-same n =
        record {
          within = left-within initial left v rest h.within o;
          each = λ u. record {
            to = λ m. let q = (h.each u).to m in ((passed u).to (inl q.0), q.1);
            from = λ q. ⊎_elim (λ x. (h.each u).from (x, q.1)) (λ e. absurd (n (subst (λ (x : ℕ). BothAtMost (get_or kinds x 0) t) e q.1)))
                ((passed u).from q.0);
          };
        }

  pub holding-done : (left r : ℕ) → left ≡ 0 → Holding kinds initial t left r → HeldBy kinds initial t r
  holding-done left r e h =
      record {
        each = λ v. record {
          to = λ m. let q = (h.each v).to m in (q.0.0, q.1);
          from = λ q. (h.each v).from ((passed-all initial left e v).from q.0, q.1);
        };
      }

-- what the held vertices open
pub opens-decided : (g : Graph) (kinds : List ℕ) (initial target t held : ℕ) (r : Bool) → HeldBy kinds initial t held
    → Decides (HasAccess g (Member held) target) r → Decides (KindOpens g kinds initial target t) r
opens-decided g kinds initial target t held r h d =
    let more = monotone (access g) (access-lawful g) in
    decide_iff (record {
      to = more (Member held) (OfKind kinds initial t) (λ v. (h.each v).to) target;
      from = more (OfKind kinds initial t) (Member held) (λ v. (h.each v).from) target;
    }) d
