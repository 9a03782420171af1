-- Vertices taken in one by one, each at once of use to the others, until the target is among them or nothing is left to look at.
-- Assumes nothing.
use mathlib.Core.Path.{◌≡◌, refl, sym, subst}
use mathlib.Core.Bool.{false}
use mathlib.Core.List.{List}
use mathlib.Core.Logic.{◌⊎◌, inl, inr, ⊎_elim}
use Prim.Native.Nat.{ℕ, ◌+◌, ◌-◌, ◌*◌, ◌^◌, ◌≤◌, ◌<◌}
use native.Mathlib.Omega.{arith}
use lib.Bits.{bit_and, bit_or, and_le_r, or_lt}
use lib.ListN.{get_or}
use Rattle.vertex_set.specs.Set.{Member, Within, Inserted, Iff, count_outside}
use Rattle.vertex_set.proofs.Outside.{outside-less}
use Rattle.vertex_set.proofs.Sets.{in-less, in-or, member-or, none-in-zero, within-refl}
use Rattle.setup.specs.declared.Graph.{Graph}
use Rattle.setup.specs.Setup.{row_of, rows_at}
use Rattle.derivations.specs.Access.{access, HasAccess}
use Rattle.derivations.specs.Inner.Admits.{SomeComplete}
use Rattle.derivations.proofs.Rules.{held, least}
use Rattle.derivations.proofs.Graphs.{access-lawful}
use Rattle.derivations.proofs.Admits.{admits-local, admits-some, admits-derived, step-admits}
use Rattle.successors.specs.Inner.{VertexOf, Without, Successors}
use Rattle.closures.specs.Inner.{ToLookAt}
use Rattle.closures.proofs.Passes.{look-all, falls-next}

-- From s all of now can be opened. What now opens besides is left to be looked at.
pub record Reaching (g : Graph) (s now left : ℕ) : Type 0 where
  pub grows : Within s now
  pub sound : (v : ℕ) → Member now v → HasAccess g (Member s) v
  pub outside : (v : ℕ) → Member left v → Member now v → ⊥
  pub whole : (v : ℕ) → SomeComplete (rows_at g v) (Member now) → Member now v ⊎ Member left v

module _ (g : Graph) (list : List ℕ) (known : Successors g list) (s : ℕ) where
  pub reaching-none : (left : ℕ) → s < 2 ^ 64 → ToLookAt list 0 s left → Reaching g s s left
  reaching-none left fits t =
      record {
        grows = within-refl s;
        sound = held (access g) (Member s);
        outside = λ v m. ((t.each v).to m).1;
        whole = look-all false g list known 0 s left fits (λ u a. absurd (admits-some false (rows_at g u) (Member 0) none-in-zero a)) t;
      }

  module _ (now left : ℕ) (h : Reaching g s now left) where
    module _ (v rest : ℕ) (p : VertexOf left v) (o : Without left v rest) where
      -- v has no complete colour
      pub reaching-skip : (SomeComplete (rows_at g v) (Member now) → ⊥) → Reaching g s now rest
      reaching-skip none =
          record {
            grows = h.grows;
            sound = h.sound;
            outside = λ u m. h.outside u ((o.each u).to m).0;
            whole = λ u a. ⊎_elim (λ m. inl m)
                (λ m. inr ((o.each u).from (m, λ e. none (subst (λ (x : ℕ). SomeComplete (rows_at g x) (Member now)) e a)))) (h.whole u a);
          }

      module _ (now' : ℕ) (t : Inserted now v now') where
        keep : (u : ℕ) → Member now u → Member now' u
        keep u m = (t.taken p.place u).from (inl m)

        -- v has one, and is taken in: what it helps to open needs it
        pub reaching-take : SomeComplete (rows_at g v) (Member now) → rest < 2 ^ 64 → get_or list v 0 < 2 ^ 64 → now' < 2 ^ 64
            → Reaching g s now' (bit_and (bit_or rest (get_or list v 0)) ((2 ^ 64 - 1) - now'))
        reaching-take some few fits small =
            record {
              grows = record { each = λ u m. keep u (h.grows.each u m) };
              sound = λ u m. ⊎_elim (h.sound u) (λ e. subst (HasAccess g (Member s)) (sym e) here) ((t.taken p.place u).to m);
              outside = λ u m. ((less u).to m).1;
              whole = λ u a. ⊎_elim (λ m. inl m) (λ n. inr ((less u).from ((in-or rest (get_or list v 0) u).from (again u n a), n))) (member-or now' u);
            }
          where
            less : (u : ℕ) → Iff (Member (bit_and (bit_or rest (get_or list v 0)) ((2 ^ 64 - 1) - now')) u) (Member (bit_or rest (get_or list v 0)) u × (Member now' u → ⊥))
            less u = in-less (bit_or rest (get_or list v 0)) now' u (or_lt 64 rest (get_or list v 0) few fits) small

            here : HasAccess g (Member s) v
            here = admits-derived false g (Member s) (Member now) v h.sound some

            before : (u : ℕ) → (Member (get_or list v 0) u → ⊥) → SomeComplete (rows_at g u) (Member now') → SomeComplete (rows_at g u) (Member now)
            before u n =
                admits-local false (rows_at g u) (Member now') (Member now)
                (λ c i m k. ⊎_elim (λ x. x)
                (λ e. absurd (n ((known.each v u p.place).from (record { colour = c; member = subst (Member (row_of (rows_at g u) c)) e m }))))
                ((t.taken p.place i).to k))

            again : (u : ℕ) → (Member now' u → ⊥) → SomeComplete (rows_at g u) (Member now') → Member rest u ⊎ Member (get_or list v 0) u
            again u n a =
                ⊎_elim (λ m. inr m)
                (λ d. ⊎_elim (λ m. absurd (n (keep u m))) (λ m. inl ((o.each u).from (m, λ e. n ((t.taken p.place u).from (inr e))))) (h.whole u (before u d a)))
                (member-or (get_or list v 0) u)

        pub falls-take : count_outside 64 now' * 2 ^ 64 + bit_and (bit_or rest (get_or list v 0)) ((2 ^ 64 - 1) - now') < count_outside 64 now * 2 ^ 64 + left
        falls-take =
            falls-next now now' left (bit_and (bit_or rest (get_or list v 0)) ((2 ^ 64 - 1) - now'))
            (let l = and_le_r (bit_or rest (get_or list v 0)) ((2 ^ 64 - 1) - now') in omega arith)
            (outside-less 64 now now' v (record { each = keep }) p.place (h.outside v p.member) ((t.taken p.place v).from (inr refl)))

    -- nothing is left: all that can be opened has been taken in
    pub reaching-done : (target : ℕ) → left ≡ 0 → (Member now target → ⊥) → HasAccess g (Member s) target → ⊥
    reaching-done target z n a =
        n (least (access g) (access-lawful g) (Member s) (Member now) h.grows.each
        (λ e o. ⊎_elim (λ m. m) (λ m. absurd (none-in-zero e.vertex (subst (λ (x : ℕ). Member x e.vertex) z m)))
        (h.whole e.vertex (step-admits false g (Member now) e o)))
        target a)
