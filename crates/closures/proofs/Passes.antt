-- Passes made one after the other, of which only what can have changed is looked at.
-- Assumes nothing.
use mathlib.Core.Path.{◌≡◌, refl, sym, subst}
use mathlib.Core.Bool.{Bool}
use mathlib.Core.List.{List}
use mathlib.Core.Logic.{◌⊎◌, inl, inr, ⊎_elim}
use Prim.Native.Nat.{ℕ, suc, ◌+◌, ◌-◌, ◌*◌, ◌^◌, ◌≤◌, ◌<◌}
use native.Mathlib.Omega.{arith}
use lib.Bits.{bit_and, bit_or}
use Rattle.vertex_set.specs.Set.{Member, Within, Inserted, Iff, count_outside}
use Rattle.vertex_set.proofs.Decisions.{iff-trans}
use Rattle.vertex_set.proofs.Outside.{outside-most, outside-falls}
use Rattle.vertex_set.proofs.Sets.{none-in-zero, in-or, in-less, member-or, member_below, within-refl}
use Rattle.setup.specs.declared.Graph.{Graph}
use Rattle.setup.specs.Setup.{row_of, rows_at}
use Rattle.derivations.specs.Both.{rule_of}
use Rattle.derivations.specs.Passes.{Pass, Passes}
use Rattle.derivations.specs.Inner.Admits.{Admits}
use Rattle.derivations.proofs.Admits.{admits-local, admits-allows, allows-admits}
use Rattle.successors.specs.Inner.{Without, Successors, AllSuccessors}
use Rattle.closures.specs.Inner.{ToLookAt, Admitted}
use Rattle.successors.proofs.Members.{Passed, passed_none, passed-more, passed-all, left-within}

-- ---- what is to be looked at

pub look_at : (list : List ℕ) (held grown users : ℕ) → held < 2 ^ 64 → grown < 2 ^ 64 → users < 2 ^ 64
    → AllSuccessors list (bit_and grown ((2 ^ 64 - 1) - held)) users → ToLookAt list held grown (bit_and users ((2 ^ 64 - 1) - grown))
look_at list held grown users h k l a =
    record {
      each = λ v.
          let n = in-less users grown v l k in
          record {
            to = λ m.
                let p = n.to m in
                let f = (a.each v).to p.0 in
                (record { vertex = f.vertex; holds = (in-less grown held f.vertex k h).to f.holds; edge = f.edge }, p.1);
            from = λ p.
                let f = p.0 in
                n.from ((a.each v).from (record { vertex = f.vertex; holds = (in-less grown held f.vertex k h).from f.holds; edge = f.edge }), p.1);
          };
    }

module _ (loss : Bool) (g : Graph) (list : List ℕ) (suc-of : Successors g list) where
  -- What grown admits is in it or to be looked at, if all that held admits is in it.
  pub look-all : (held grown left : ℕ) → grown < 2 ^ 64 → ((v : ℕ) → Admits loss (rows_at g v) (Member held) → Member grown v) → ToLookAt list held grown left
      → (v : ℕ) → Admits loss (rows_at g v) (Member grown) → Member grown v ⊎ Member left v
  look-all held grown left h all t v a =
      ⊎_elim (λ m. inl m)
      (λ n. ⊎_elim (λ m. inr m) (λ o. absurd (n (all v (admits-local loss (rows_at g v) (Member grown) (Member held) (old n o) a)))) (member-or left v))
      (member-or grown v)
    where
      old : (Member grown v → ⊥) → (Member left v → ⊥) → (c i : ℕ) → Member (row_of (rows_at g v) c) i → Member grown i → Member held i
      old n o c i m k =
          ⊎_elim (λ x. x)
          (λ x. absurd (o ((t.each v).from (
            record {
              vertex = i;
              holds = (k, x);
              edge = (suc-of.each i v (member_below 64 grown i h k)).from (record { colour = c; member = m });
            },
            n,
          ))))
          (member-or held i)

-- ---- one pass

-- Of the vertices of s, those that are not left have been looked at: r has those of them that held admits.
pub record Admitting (loss : Bool) (g : Graph) (held s left r : ℕ) : Type 0 where
  pub within : Within left s
  pub each : (v : ℕ) → Iff (Member r v) (Passed s left v × Admits loss (rows_at g v) (Member held))

module _ (loss : Bool) (g : Graph) (held s : ℕ) where
  pub admitting-none : Admitting loss g held s s 0
  admitting-none =
      record {
        within = within-refl s;
        each = λ v. record { to = λ m. absurd (none-in-zero v m); from = λ p. absurd (passed_none s v p.0) };
      }

  module _ (left r v rest : ℕ) (h : Admitting loss g held s left r) (m : Member left v) (o : Without left v rest) where
    passed : (u : ℕ) → Iff (Passed s left u ⊎ (u ≡ v)) (Passed s rest u)
    passed = passed-more s left v rest h.within m o

    -- a vertex that is not admitted
    pub admitting-skip : (Admits loss (rows_at g v) (Member held) → ⊥) → Admitting loss g held s rest r
    admitting-skip d =
        record {
          within = left-within s left v rest h.within o;
          each = λ u. record {
            to = λ k. let p = (h.each u).to k in ((passed u).to (inl p.0), p.1);
            from = λ p. ⊎_elim (λ q. (h.each u).from (q, p.1))
                (λ e. absurd (d (subst (λ (x : ℕ). Admits loss (rows_at g x) (Member held)) e p.1))) ((passed u).from p.0);
          };
        }

    -- a vertex that is
    pub admitting-take : (r' : ℕ) → v < 64 → Admits loss (rows_at g v) (Member held) → Inserted r v r' → Admitting loss g held s rest r'
    admitting-take r' l a t =
        record {
          within = left-within s left v rest h.within o;
          each = λ u. record {
            to = λ k. ⊎_elim (λ p. let q = (h.each u).to p in ((passed u).to (inl q.0), q.1))
                (λ e. ((passed u).to (inr e), subst (λ (x : ℕ). Admits loss (rows_at g x) (Member held)) (sym e) a)) ((t.taken l u).to k);
            from = λ p. ⊎_elim (λ q. (t.taken l u).from (inl ((h.each u).from (q, p.1)))) (λ e. (t.taken l u).from (inr e)) ((passed u).from p.0);
          };
        }

  pub admitting-done : (left r : ℕ) → left ≡ 0 → Admitting loss g held s left r → Admitted loss g held s r
  admitting-done left r z h =
      record {
        each = λ v. iff-trans (h.each v) (record {
          to = λ p. ((passed-all s left z v).to p.0, p.1);
          from = λ p. ((passed-all s left z v).from p.0, p.1);
        });
      }

-- grown has beside what held has the vertices of left that held admits.
pub record Grown (loss : Bool) (g : Graph) (held left grown : ℕ) : Type 0 where
  pub each : (v : ℕ) → Iff (Member grown v) (Member held v ⊎ (Member left v × Admits loss (rows_at g v) (Member held)))

pub grown-by : (loss : Bool) (g : Graph) (held left r : ℕ) → Admitted loss g held left r → Grown loss g held left (bit_or held r)
grown-by loss g held left r a =
    record {
      each = λ v. record {
        to = λ m. ⊎_elim (λ p. inl p) (λ p. inr ((a.each v).to p)) ((in-or held r v).to m);
        from = λ p. (in-or held r v).from (⊎_elim (λ m. inl m) (λ m. inr ((a.each v).from m)) p);
      };
    }

-- ---- the loop

-- n passes have led from s to held, and left has what held admits and has not.
pub record Passing (loss : Bool) (g : Graph) (s held left n : ℕ) : Type 0 where
  pub rest : (m t : ℕ) → Passes (rule_of loss g) m held t → Passes (rule_of loss g) (n + m) s t
  pub few : n + count_outside 64 held ≤ 64
  pub whole : (v : ℕ) → Admits loss (rows_at g v) (Member held) → Member held v ⊎ Member left v

module _ (loss : Bool) (g : Graph) (s : ℕ) where
  pub passing-none : (left : ℕ) → ((v : ℕ) → Admits loss (rows_at g v) (Member s) → Member s v ⊎ Member left v) → Passing loss g s s left 0
  passing-none left w =
      record {
        rest = λ m t p. let e : m ≡ 0 + m = omega arith in subst (λ (k : ℕ). Passes (rule_of loss g) k s t) e p;
        few = let o = outside-most 64 s in omega arith;
        whole = w;
      }

  module _ (held grown left n : ℕ) (h : Passing loss g s held left n) (o : Grown loss g held left grown) where
    grows : Within held grown
    grows = record { each = λ v m. (o.each v).from (inl m) }

    -- where it grew, fewer vertices are outside
    pub fewer-outside : grown < 2 ^ 64 → (grown ≡ held → ⊥) → count_outside 64 grown < count_outside 64 held
    fewer-outside k d = outside-falls 64 held grown grows d (λ v m. inr (member_below 64 grown v k m))

    made : Pass (rule_of loss g) held grown
    made =
        record {
          each = λ v. record {
            to = λ m. ⊎_elim (λ x. inl x) (λ p. inr (admits-allows loss g (Member held) v p.1)) ((o.each v).to m);
            from = ⊎_elim (λ x. (o.each v).from (inl x))
                (λ a. let k = allows-admits loss g (Member held) v a in
                ⊎_elim (λ x. (o.each v).from (inl x)) (λ m. (o.each v).from (inr (m, k))) (h.whole v k));
          };
        }

    -- the pass has added nothing
    pub passing-done : grown ≡ held → Passes (rule_of loss g) (n + 1) s held
    passing-done e = h.rest 1 held (inl (subst (Pass (rule_of loss g) held) e made, refl, refl))

    -- it has added something, and the next one begins
    pub passing-next : (left' : ℕ) → grown < 2 ^ 64 → (grown ≡ held → ⊥)
        → ((v : ℕ) → Admits loss (rows_at g v) (Member grown) → Member grown v ⊎ Member left' v)
        → Passing loss g s grown left' (n + 1)
    passing-next left' small d w =
        record {
          rest = λ m t p.
              let e : n + suc m ≡ n + 1 + m = omega arith in
              subst (λ (k : ℕ). Passes (rule_of loss g) k s t) e (h.rest (suc m) t (inr (grown, made, d, p)));
          few = let f = fewer-outside small d in let k = h.few in omega arith;
          whole = w;
        }

    -- all that held admits has been taken in
    pub passing-all : (v : ℕ) → Admits loss (rows_at g v) (Member held) → Member grown v
    passing-all v a = (made.each v).from (inr (admits-allows loss g (Member held) v a))

-- ---- the measure: fewer vertices are outside, or as many and fewer are left to look at

pub falls-next : (held grown left left' : ℕ) → left' < 2 ^ 64 → count_outside 64 grown < count_outside 64 held
    → count_outside 64 grown * 2 ^ 64 + left' < count_outside 64 held * 2 ^ 64 + left
falls-next held grown left left' h l = omega arith

pub falls-left : (held left rest : ℕ) → rest < left → count_outside 64 held * 2 ^ 64 + rest < count_outside 64 held * 2 ^ 64 + left
falls-left held left rest l = omega arith
