-- The smallest cut sets and the access base are each other's smallest transversals.
-- Assumes nothing.
use mathlib.Core.Path.{◌≡◌, sym, subst}
use mathlib.Core.Bool.{false}
use mathlib.Core.List.{List}
use mathlib.Core.Logic.{◌⊎◌, inl, inr, ⊎_elim}
use Prim.Native.Nat.{ℕ}
use lib.Bits.{bit_and}
use Rattle.vertex_set.specs.Set.{Member, Within, Meets, Iff}
use Rattle.vertex_set.specs.Order.{Listed, Smallest}
use Rattle.vertex_set.proofs.Cases.{same_or}
use Rattle.vertex_set.proofs.Decisions.{iff-trans}
use Rattle.vertex_set.proofs.Sets.{member-or, in_and, meets-test, meets-not}
use Rattle.setup.specs.declared.Setup.{Setup}
use Rattle.setup.specs.Setup.{Chosen, ChosenSet}
use Rattle.formed.specs.WellFormed.{WellFormed}
use Rattle.derivations.proofs.Closures.{opens-more}
use Rattle.bases.specs.Base.{Derives, TargetSet, MinimalSet, Base}
use Rattle.reference.proofs.Graphs.{own-graph}
use Rattle.reference.proofs.Bases.{minimal-within}
use Rattle.cut_sets.specs.Cuts.{CutSet, CutList, MeetsEvery, Transversal}
use Rattle.cut_sets.proofs.Sets.{smallest-same, rest, in_rest, rest-opens, derives-or, cut-within}

meets-or : (a b : ℕ) → Meets a b ⊎ (Meets a b → ⊥)
meets-or a b = ⊎_elim (λ e. inr (meets-not a b e)) (λ n. inl (meets-test a b n)) (same_or (bit_and a b) 0)

module _ (s : Setup) (target initial : ℕ) (w : WellFormed s) (ch : ChosenSet false s initial) where
  -- The initial vertices that are not in x.
  abbrev others : ℕ → ℕ
  others x = rest s target initial w ch x

  in-others : (x v : ℕ) → Iff (Member (others x) v) (Member initial v × (Member x v → ⊥))
  in-others x v = in_rest s target initial w ch x v

  -- an access set meets every cut set: else the others would have all of it, and open the target
  opens-meets : (y x : ℕ) → TargetSet false s s.graph target y → CutSet s target x → Meets x y
  opens-meets y x t c =
      ⊎_elim (λ h. h)
      (λ n. absurd (c.shut (opens-more s.graph (Member y) (λ v. Chosen false s v × (Member x v → ⊥))
      (λ v m. (t.chosen v m, λ k. n (record { vertex = v; left = k; right = m }))) target t.derives)))
      (meets-or x y)

  -- ---- cut sets are the transversals of the access base

  module _ (l : List ℕ) (b : Base false s s.graph target l) where
    cut-transversal : (x : ℕ) → CutSet s target x → Transversal s l x
    cut-transversal x c = record { chosen = c.chosen; meets = record { each = λ y i. opens-meets y x (b.sound y i).is c } }

    -- if the others opened the target, they would have a set of the access base, which x meets
    transversal-cut : (x : ℕ) → Transversal s l x → CutSet s target x
    transversal-cut x t =
        record {
          chosen = t.chosen;
          shut = λ h.
              let y = minimal-within false s s.graph target w (own-graph s w) (others x)
              (record { chosen = λ v m. (ch.each v).to ((in-others x v).to m).0; derives = (rest-opens s target initial w ch x).to h }) in
              let m = t.meets.each y.0 (b.whole y.0 y.2) in
              ((in-others x m.vertex).to (y.1.each m.vertex m.right)).1 m.left;
        }

    pub cut-sets-meet : (x : ℕ) → Iff (CutSet s target x) (Transversal s l x)
    cut-sets-meet x = record { to = cut-transversal x; from = transversal-cut x }

    pub smallest-meet : (x : ℕ) → Iff (Smallest (CutSet s target) x) (Smallest (Transversal s l) x)
    smallest-meet x = smallest-same (CutSet s target) (Transversal s l) cut-sets-meet x

  -- ---- x meets every cut set exactly if its initial vertices open the target

  inside : ℕ → ℕ
  inside x = bit_and x initial

  -- where they do not, the others are a cut set, which x does not meet
  others-cut : (x : ℕ) → (Derives false s.graph target (inside x) → ⊥) → CutSet s target (others x)
  unfolding inside
  others-cut x n =
      record {
        chosen = λ v m. (ch.each v).to ((in-others x v).to m).0;
        shut = λ h. n (opens-more s.graph (λ v. Chosen false s v × (Member (others x) v → ⊥)) (Member (bit_and x initial))
            (λ v p. (in_and x initial v).from (
              ⊎_elim (λ m. m) (λ o. absurd (p.1 ((in-others x v).from ((ch.each v).from p.0, o)))) (member-or x v),
              (ch.each v).from p.0,
            )) target h);
      }

  meets-opens : (x : ℕ) → MeetsEvery (CutSet s target) x → Derives false s.graph target (inside x)
  meets-opens x m =
      ⊎_elim (λ d. d)
      (λ n. let h = m.each (others x) (others-cut x n) in absurd (((in-others x h.vertex).to h.right).1 h.left))
      (derives-or s target initial w ch (inside x))

  inside-meets : (x : ℕ) → MeetsEvery (CutSet s target) x → MeetsEvery (CutSet s target) (inside x)
  unfolding inside
  inside-meets x m =
      record {
        each = λ y c.
            let h = m.each y c in
            record {
              vertex = h.vertex;
              left = (in_and x initial h.vertex).from (h.left, (ch.each h.vertex).from (c.chosen h.vertex h.right));
              right = h.right;
            };
      }

  opens-all : (x : ℕ) → TargetSet false s s.graph target x → MeetsEvery (CutSet s target) x
  opens-all x t = record { each = λ y c. let h = opens-meets x y t c in record { vertex = h.vertex; left = h.right; right = h.left } }

  pub base-again : (x : ℕ) → Iff (Smallest (MeetsEvery (CutSet s target)) x) (MinimalSet false s s.graph target x)
  unfolding inside
  base-again x = record { to = to; from = from }
    where
      part : Within (bit_and x initial) x
      part = record { each = λ i m. ((in_and x initial i).to m).0 }

      -- a smallest one has initial vertices alone
      to : Smallest (MeetsEvery (CutSet s target)) x → MinimalSet false s s.graph target x
      to h =
          let e : inside x ≡ x = ⊎_elim (λ q. q) (λ n. absurd (h.none (inside x) (record { within = part; other = n }) (inside-meets x h.is))) (same_or (inside x) x) in
          let all : (v : ℕ) → Member x v → Chosen false s v = λ v m. (ch.each v).to ((in_and x initial v).to (subst (λ (z : ℕ). Member z v) (sym e) m)).1 in
          record {
            is = record { chosen = all; derives = subst (Derives false s.graph target) e (meets-opens x h.is) };
            minimal = λ y p d. h.none y p (opens-all y (record { chosen = λ v m. all v (p.within.each v m); derives = d }));
          }

      from : MinimalSet false s s.graph target x → Smallest (MeetsEvery (CutSet s target)) x
      from h =
          record {
            is = opens-all x h.is;
            none = λ y p m. h.minimal y p
                (opens-more s.graph (Member (bit_and y initial)) (Member y) (λ i k. ((in_and y initial i).to k).0) target (meets-opens y m));
          }

  -- ---- meeting the smallest cut sets is meeting all of them

  module _ (cuts : List ℕ) (c : CutList s target cuts) where
    listed-all : (x : ℕ) → MeetsEvery (Listed cuts) x → MeetsEvery (CutSet s target) x
    listed-all x m =
        record {
          each = λ y k.
              let z = cut-within s target initial w ch y k in
              let h = m.each z.0 (c.whole z.0 z.2) in
              record { vertex = h.vertex; left = h.left; right = z.1.each h.vertex h.right };
        }

    all_listed : (x : ℕ) → MeetsEvery (CutSet s target) x → MeetsEvery (Listed cuts) x
    all_listed x m = record { each = λ y i. m.each y (c.sound y i).is }

    pub base-again-listed : (x : ℕ) → Iff (Smallest (MeetsEvery (Listed cuts)) x) (MinimalSet false s s.graph target x)
    base-again-listed x =
        iff-trans
        (smallest-same (MeetsEvery (Listed cuts)) (MeetsEvery (CutSet s target)) (λ y. record { to = listed-all y; from = all_listed y }) x)
        (base-again x)
