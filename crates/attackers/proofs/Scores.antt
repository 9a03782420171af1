-- The score has just the lowest kinds that get in, and who gets in is at or above one of them.
-- Assumes nothing.
use mathlib.Core.Path.{refl, sym, subst}
use mathlib.Core.Bool.{false}
use mathlib.Core.List.{List}
use mathlib.Core.Logic.{◌⊎◌, inl, inr, ⊎_elim}
use Prim.Native.Nat.{ℕ, ◌<◌}
use native.Mathlib.Omega.{arith}
use lib.ListN.{get_or}
use Rattle.vertex_set.specs.Set.{Member, Iff}
use Rattle.vertex_set.proofs.Cases.{same_or, less-or, lowest}
use Rattle.vertex_set.proofs.Sets.{some-member, none-in-zero, bounded-by-members}
use Rattle.setup.specs.declared.Setup.{Setup}
use Rattle.setup.specs.Setup.{given, value_of, vertex_at, Chosen, ChosenSet}
use Rattle.formed.specs.WellFormed.{WellFormed}
use Rattle.derivations.specs.Access.{HasAccess}
use Rattle.derivations.proofs.Closures.{opens-more}
use Rattle.bases.specs.Base.{TargetSet, MinimalSet}
use Rattle.reference.proofs.Tests.{by-decision}
use Rattle.reference.proofs.Graphs.{own-graph, chosen-below}
use Rattle.reference.proofs.Closures.{decide-derives}
use Rattle.reference.proofs.Bases.{minimal-within}
use Rattle.attackers.specs.Attackers.{KindAtMost, Weaker, attacker_of, OfBase, KindInScore, GetsIn, AttackerScore, EntriesFit, SixKinds, NobodyIn, KindsSound}
use Rattle.attackers.specs.Inner.{OfKind, KindOpens, LowestOpen}
use Rattle.attackers.proofs.Table.{at-most-refl, at-most-trans, at-most-same, at-most-le, at-most-or}
use Rattle.attackers.proofs.Scans.{taken-below}
use Rattle.attackers.proofs.Sets.{attacker-small, each-at-most, least-attacker}

module _ (s : Setup) (kinds : List ℕ) (target : ℕ) (w : WellFormed s) (fit : EntriesFit s kinds) where
  more : (P Q : ℕ → Type 0) → ((i : ℕ) → P i → Q i) → HasAccess s.graph P target → HasAccess s.graph Q target
  more P Q h = opens-more s.graph P Q h target

  low : (v : ℕ) → Chosen false s v → v < 64
  low v c = let l = chosen-below false s w v c in let m = w.most in omega arith

  -- ---- the initial vertices of at most the kind t, as a set

  Weak : ℕ → ℕ → Type 0
  Weak t v = Chosen false s v × KindAtMost (get_or kinds v 0) t

  weak-or : (t v : ℕ) → Weak t v ⊎ (Weak t v → ⊥)
  unfolding Weak
  weak-or t v =
      ⊎_elim (λ c. ⊎_elim (λ a. inl (c, a)) (λ n. inr (λ p. n p.1)) (at-most-or (get_or kinds v 0) t)) (λ n. inr (λ p. n p.0))
      (same_or (given (value_of false (vertex_at s v))) 1)

  items : ℕ → ℕ
  items t = (taken-below (Weak t) (weak-or t) 64 (omega arith)).0

  in-items : (t v : ℕ) → Iff (Member (items t) v) (Chosen false s v × KindAtMost (get_or kinds v 0) t)
  unfolding Weak items
  in-items t v =
      let b = (taken-below (Weak t) (weak-or t) 64 (omega arith)).1 in
      record { to = λ m. ((b.each v).to m).1; from = λ p. (b.each v).from (low v p.0, p) }

  gets-in-or : (t : ℕ) → GetsIn s kinds target t ⊎ (GetsIn s kinds target t → ⊥)
  gets-in-or t =
      by-decision _ (decide-derives false s s.graph w (own-graph s w) target (items t))
      (λ e d. inl (more (Member (items t)) (λ v. Chosen false s v × KindAtMost (get_or kinds v 0) t) (λ v m. (in-items t v).to m) d))
      (λ e n. inr (λ g. n (more (λ v. Chosen false s v × KindAtMost (get_or kinds v 0) t) (Member (items t)) (λ v p. (in-items t v).from p) g)))

  -- ---- kinds of the base, and who gets in

  pub base-small : (k : ℕ) → OfBase s kinds target k → k < 6
  base-small k q =
      subst (λ (j : ℕ). j < 6) (sym q.attacker) (attacker-small kinds q.set (λ v m. fit.each v (q.is.is.chosen v m)))

  -- an attacker of a set's own kind, or above it, gets in
  set-gets-in : (x t : ℕ) → MinimalSet false s s.graph target x → KindAtMost (attacker_of kinds x) t → GetsIn s kinds target t
  set-gets-in x t m a =
      more (Member x) (λ v. Chosen false s v × KindAtMost (get_or kinds v 0) t)
      (λ v k. (m.is.chosen v k, at-most-trans (get_or kinds v 0) (attacker_of kinds x) t (each-at-most kinds x (λ v k. low v (m.is.chosen v k)) v k) a))
      m.is.derives

  pub base-gets-in : (k t : ℕ) → OfBase s kinds target k → KindAtMost k t → GetsIn s kinds target t
  base-gets-in k t q a = set-gets-in q.set t q.is (subst (λ (j : ℕ). KindAtMost j t) q.attacker a)

  -- one who gets in is at or above the kind of some set of the base
  in-by-set : (t : ℕ) → GetsIn s kinds target t → (k : ℕ) × OfBase s kinds target k × KindAtMost k t
  in-by-set t g =
      let y = minimal-within false s s.graph target w (own-graph s w) (items t) (record {
        chosen = λ v m. ((in-items t v).to m).0;
        derives = more (λ v. Chosen false s v × KindAtMost (get_or kinds v 0) t) (Member (items t)) (λ v p. (in-items t v).from p) g;
      }) in
      (attacker_of kinds y.0, record { set = y.0; is = y.2; attacker = refl }, least-attacker kinds y.0 t (λ v m. ((in-items t v).to (y.1.each v m)).1))

  -- ---- the score: the lowest kinds that get in

  -- k gets in, and of the six kinds none that is below k does.
  pub record LowestKinds (k : ℕ) : Type 0 where
    pub able : GetsIn s kinds target k
    pub none : (j : ℕ) → j < 6 → GetsIn s kinds target j → Weaker j k → ⊥

  pub score-lowest : (k : ℕ) → Iff (KindInScore s kinds target k) (LowestKinds k)
  score-lowest k = record { to = to; from = from }
    where
      to : KindInScore s kinds target k → LowestKinds k
      to h =
          record {
            able = base-gets-in k k h.is (at-most-refl k);
            none = λ j b g l.
                let q = in-by-set j g in
                h.none q.0 q.1 (record {
                  at_most = at-most-trans q.0 j k q.2 l.at_most;
                  other = λ e. l.other (at-most-same j k l.at_most (subst (λ (i : ℕ). KindAtMost i j) e q.2));
                });
          }

      from : LowestKinds k → KindInScore s kinds target k
      from h =
          let q = in-by-set k h.able in
          let n : (j : ℕ) → OfBase s kinds target j → Weaker j k → ⊥ = λ j p. h.none j (base-small j p) (base-gets-in j j p (at-most-refl j)) in
          ⊎_elim (λ e. record { is = subst (OfBase s kinds target) e q.1; none = n })
          (λ d. absurd (n q.0 q.1 (record { at_most = q.2; other = d }))) (same_or q.0 k)

  pub score-small : (k : ℕ) → KindInScore s kinds target k → k < 6
  score-small k h = base-small k h.is

  in-below-or : (t k : ℕ) → (GetsIn s kinds target k × KindAtMost k t) ⊎ (GetsIn s kinds target k × KindAtMost k t → ⊥)
  in-below-or t k = ⊎_elim (λ g. ⊎_elim (λ a. inl (g, a)) (λ n. inr (λ p. n p.1)) (at-most-or k t)) (λ n. inr (λ p. n p.0)) (gets-in-or k)

  -- below one who gets in there is a kind of the score: the one with the lowest number of those at most t that get in
  score-below : (t : ℕ) → GetsIn s kinds target t → (k : ℕ) × KindInScore s kinds target k × KindAtMost k t
  score-below t g =
      let r = lowest (λ k. GetsIn s kinds target k × KindAtMost k t) (in-below-or t) t (g, at-most-refl t) in
      let k : ℕ = r.0 in (
        k,
        (score-lowest k).from (record {
          able = r.1.0;
          none = λ j b gj l.
              ⊎_elim (λ c. r.2 j c (gj, at-most-trans j k t l.at_most r.1.1)) (λ c. l.other (let d = at-most-le j k l.at_most in omega arith)) (less-or j k);
        }),
        r.1.1,
      )

  module _ (r : ℕ) (each : (k : ℕ) → Iff (Member r k) (KindInScore s kinds target k)) where
    -- the kinds of the score tell the rest
    pub score-whole : AttackerScore s kinds target r
    score-whole =
        record {
          each = each;
          none = λ n. ⊎_elim (λ e. e) (λ d. absurd (let m = some-member r d in n m.0 ((each m.0).to m.1))) (same_or r 0);
          intruders = λ t l. record {
            to = λ a. base-gets-in a.attacker t ((each a.attacker).to a.member).is a.at_most;
            from = λ g. let q = score-below t g in record { attacker = q.0; member = (each q.0).from q.1; at_most = q.2 };
          };
        }

  -- ---- what the code works out

  module _ (initial r : ℕ) (c : ChosenSet false s initial) (h : LowestOpen s.graph kinds initial target r) where
    opens-iff : (t : ℕ) → t < 6 → Iff (KindOpens s.graph kinds initial target t) (GetsIn s kinds target t)
    opens-iff t l =
        record {
          to = more (OfKind kinds initial t) (λ v. Chosen false s v × KindAtMost (get_or kinds v 0) t) (λ v p. ((c.each v).to p.0, p.1.is));
          from = more (λ v. Chosen false s v × KindAtMost (get_or kinds v 0) t) (OfKind kinds initial t)
              (λ v p. ((c.each v).from p.0, record { first = let f = fit.each v p.0 in omega arith; second = l; is = p.1 }));
        }

    pub score-of : AttackerScore s kinds target r
    score-of = score-whole r (λ k. record { to = to k; from = from k })
      where
        to : (k : ℕ) → Member r k → KindInScore s kinds target k
        to k m =
            let p = h.is k m in
            (score-lowest k).from (record {
              able = (opens-iff k p.0).to p.1;
              none = λ j b g l.
                  h.lowest k j m ((opens-iff j b).from g) (record { at_most = record { first = b; second = p.0; is = l.at_most }; other = l.other });
            })

        from : (k : ℕ) → KindInScore s kinds target k → Member r k
        from k i =
            let l = (score-lowest k).to i in
            let b = score-small k i in
            let q = h.cover k b ((opens-iff k b).from l.able) in
            let o = h.is q.0 q.1 in
            ⊎_elim (λ e. subst (Member r) e q.1)
            (λ d. absurd (l.none q.0 o.0 ((opens-iff q.0 o.0).to o.1) (record { at_most = q.2.is; other = d }))) (same_or q.0 k)

-- ---- theorems

pub six-kinds : SixKinds
six-kinds s kinds target r w fit a = bounded-by-members 6 r (λ k m. score-small s kinds target w fit k ((a.each k).to m))

pub nobody-in : NobodyIn
nobody-in s kinds target r w fit a =
    record {
      to = λ e d. let p = (a.intruders 5 (omega arith)).from (all_in d) in none-in-zero p.attacker (subst (λ (x : ℕ). Member x p.attacker) e p.member);
      from = λ n. a.none (λ k i. n (opens-more s.graph (Member i.is.set) (Chosen false s) i.is.is.is.chosen target i.is.is.is.derives));
    }
  where
    all_in : HasAccess s.graph (Chosen false s) target → GetsIn s kinds target 5
    all_in =
        opens-more s.graph (Chosen false s) (λ v. Chosen false s v × KindAtMost (get_or kinds v 0) 5)
        (λ v c. (c, let f = fit.each v c in record { locations = omega arith; skills = omega arith })) target

pub sound : KindsSound
sound s kinds a b p q w fit pa qb h u m =
    let i = (qb.each u).to m in
    let x = h i.is.set i.is.is.is in
    let g = base-set-in i.is.set x in
    (pa.intruders u (score-small s kinds b w fit u i)).from (subst (GetsIn s kinds a) (sym i.is.attacker) g)
  where
    -- who has the kind of a set that opens a gets in there
    base-set-in : (x : ℕ) → TargetSet false s s.graph a x → GetsIn s kinds a (attacker_of kinds x)
    base-set-in x t =
        opens-more s.graph (Member x) (λ v. Chosen false s v × KindAtMost (get_or kinds v 0) (attacker_of kinds x))
        (λ v k. (t.chosen v k, each-at-most kinds x (λ v k. low s kinds a w fit v (t.chosen v k)) v k)) a t.derives
