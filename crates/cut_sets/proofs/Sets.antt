-- Cut sets of a well-formed setup: the other initial vertices as a set, that each is decided, and that each has a smallest one within.
-- Assumes nothing.
use mathlib.Core.Path.{◌≡◌, sym, subst}
use mathlib.Core.Bool.{false}
use mathlib.Core.Logic.{◌⊎◌, inl, inr, ⊎_elim}
use Prim.Native.Nat.{ℕ, ◌-◌, ◌^◌, ◌<◌}
use native.Mathlib.Nat.{lt_of_lt_of_le}
use native.Mathlib.Omega.{arith}
use lib.Bits.{bit_and}
use Rattle.vertex_set.specs.Set.{Member, Within, Iff}
use Rattle.vertex_set.specs.Order.{Smallest}
use Rattle.vertex_set.proofs.Cases.{same_or}
use Rattle.vertex_set.proofs.Sets.{in_and, in-less, within-le, none-in-zero, same_set, bounded-by-members}
use Rattle.vertex_set.proofs.Subsets.{minimal-below}
use Rattle.setup.specs.declared.Setup.{Setup}
use Rattle.setup.specs.Setup.{Chosen, ChosenSet}
use Rattle.formed.specs.WellFormed.{WellFormed}
use Rattle.derivations.specs.Access.{HasAccess}
use Rattle.derivations.proofs.Closures.{opens-more, nothing-opens}
use Rattle.bases.specs.Base.{Derives}
use Rattle.reference.proofs.Tests.{by-decision}
use Rattle.reference.proofs.Graphs.{own-graph, chosen-below}
use Rattle.reference.proofs.Closures.{decide-derives}
use Rattle.cut_sets.specs.Cuts.{CutSet}

pub iff-sym : {P Q : Type 0} → Iff P Q → Iff Q P
iff-sym i = record { to = i.from; from = i.to }

-- the same sets have the same smallest ones
pub smallest-same : (P Q : ℕ → Type 0) → ((x : ℕ) → Iff (P x) (Q x)) → (x : ℕ) → Iff (Smallest P x) (Smallest Q x)
smallest-same P Q i x =
    record {
      to = λ h. record { is = (i x).to h.is; none = λ y p q. h.none y p ((i y).from q) };
      from = λ h. record { is = (i x).from h.is; none = λ y p q. h.none y p ((i y).to q) };
    }

-- ---- the empty set, and all initial vertices

-- where all initial vertices together do not open the target, the empty set is the one smallest cut set
pub empty-cut : (s : Setup) (target : ℕ) → (HasAccess s.graph (Chosen false s) target → ⊥) → (x : ℕ) → Iff (Smallest (CutSet s target) x) (x ≡ 0)
empty-cut s target shut x =
    record {
      to = λ h. ⊎_elim (λ e. e) (λ n. absurd (h.none 0 (record { within = none; other = λ e. n (sym e) }) cut)) (same_or x 0);
      from = λ e. subst (Smallest (CutSet s target)) (sym e)
          (record { is = cut; none = λ y p c. p.other (same_set y 0 p.within (record { each = λ i k. absurd (none-in-zero i k) })) });
    }
  where
    none : Within 0 x
    none = record { each = λ i k. absurd (none-in-zero i k) }

    cut : CutSet s target 0
    cut =
        record {
          chosen = λ v m. absurd (none-in-zero v m);
          shut = λ h. shut (opens-more s.graph (λ v. Chosen false s v × (Member 0 v → ⊥)) (Chosen false s) (λ i p. p.0) target h);
        }

-- all initial vertices are always a cut set
pub all-cut : (s : Setup) (target initial : ℕ) → ChosenSet false s initial → CutSet s target initial
all-cut s target initial ch =
    record {
      chosen = λ v m. (ch.each v).to m;
      shut = λ h. nothing-opens s.graph (λ v. Chosen false s v × (Member initial v → ⊥)) (λ i p. p.1 ((ch.each i).from p.0)) target h;
    }

-- ---- the other initial vertices

module _ (s : Setup) (target initial : ℕ) (w : WellFormed s) (ch : ChosenSet false s initial) where
  pub initial-fits : initial < 2 ^ 64
  initial-fits = bounded-by-members 64 initial (λ v m. lt_of_lt_of_le (chosen-below false s w v ((ch.each v).to m)) w.most)

  -- The initial vertices that are not in x.
  pub rest : ℕ → ℕ
  rest x = bit_and initial ((2 ^ 64 - 1) - bit_and x initial)

  pub in_rest : (x v : ℕ) → Iff (Member (rest x) v) (Member initial v × (Member x v → ⊥))
  unfolding rest
  in_rest x v =
      let both = in_and x initial v in
      let fits = initial-fits in
      let le = within-le (bit_and x initial) initial (record { each = λ i m. ((in_and x initial i).to m).1 }) in
      let o = in-less initial (bit_and x initial) v fits (omega arith) in
      record {
        to = λ m. let p = o.to m in (p.0, λ k. p.1 (both.from (k, p.0)));
        from = λ p. o.from (p.0, λ k. p.1 (both.to k).0);
      }

  -- they open the target exactly where x is no cut set
  pub rest-opens : (x : ℕ) → Iff (HasAccess s.graph (λ v. Chosen false s v × (Member x v → ⊥)) target) (Derives false s.graph target (rest x))
  rest-opens x =
      record {
        to = opens-more s.graph (λ v. Chosen false s v × (Member x v → ⊥)) (Member (rest x)) (λ v p. (in_rest x v).from ((ch.each v).from p.0, p.1)) target;
        from = opens-more s.graph (Member (rest x)) (λ v. Chosen false s v × (Member x v → ⊥))
            (λ v m. let p = (in_rest x v).to m in ((ch.each v).to p.0, p.1)) target;
      }

  -- it is decided what opens the target, and so what does not
  pub derives-or : (x : ℕ) → Derives false s.graph target x ⊎ (Derives false s.graph target x → ⊥)
  derives-or x = by-decision _ (decide-derives false s s.graph w (own-graph s w) target x) (λ e d. inl d) (λ e n. inr n)

  -- The others do not open the target.
  abbrev Shut : ℕ → Type 0
  Shut x = Derives false s.graph target (rest x) → ⊥

  shut-or : (x : ℕ) → Shut x ⊎ (Shut x → ⊥)
  shut-or x = ⊎_elim (λ d. inr (λ n. n d)) (λ n. inl n) (derives-or (rest x))

  -- every cut set has a smallest one within it
  pub cut-within : (y : ℕ) → CutSet s target y → (z : ℕ) × Within z y × Smallest (CutSet s target) z
  cut-within y c =
      let fits = initial-fits in
      let le = within-le y initial (record { each = λ v m. (ch.each v).from (c.chosen v m) }) in
      let r = minimal-below Shut shut-or y (omega arith) (λ d. c.shut ((rest-opens y).from d)) in (
        r.0,
        r.1,
        record {
          is = record { chosen = λ v m. c.chosen v (r.1.each v m); shut = λ h. r.2 ((rest-opens r.0).to h) };
          none = λ j p k. r.3 j p (λ d. k.shut ((rest-opens j).from d));
        },
      )
