-- Which vertices need which: what a vertex needs, its successors, and the successors of a set.
-- Assumes nothing.
use mathlib.Core.Path.{◌≡◌, sym, ap, subst, ◌∙◌}
use mathlib.Core.List.{List, [], ◌∷◌}
use mathlib.Core.Logic.{◌⊎◌, inl, inr, ⊎_elim}
use Prim.Native.Nat.{ℕ, zero, suc, ◌+◌, ◌*◌, ◌%◌, ◌^◌, ◌≤◌, ◌<◌}
use native.Mathlib.Omega.{arith}
use lib.Bits.{bit_or}
use Rattle.std.specs.Prelude.{fold}
use lib.ListN.{length, get_or, set, replicate, length-set, length-replicate, get_or-replicate}
use lib.Seq.{get_or-set_same, get_or-set_other}
use Rattle.vertex_set.specs.Set.{Member, Within, Iff}
use Rattle.vertex_set.proofs.Cases.{same_or}
use Rattle.vertex_set.proofs.Decisions.{iff-trans}
use Rattle.vertex_set.proofs.Sets.{in-or, in_one, shifted_one, none-in-zero, not-empty, within-refl}
use Rattle.setup.specs.declared.Rows.{Rows}
use Rattle.setup.specs.declared.Graph.{Graph}
use Rattle.setup.specs.Setup.{row_of, rows_at}
use Rattle.setup.proofs.Graphs.{colour-below, edge-place}
use Rattle.successors.specs.Inner.{Without, Coloured, Needed, Noted, Successors, Follows, AllSuccessors}
use Rattle.successors.proofs.Members.{Passed, passed_none, passed-more, passed-all, left-within}

-- ---- all vertices that are needed

place : (x : ℕ) (xs : List ℕ) (s f r : ℕ) → Iff (Member r f) (Member (bit_or s x) f ⊎ ((c : ℕ) × Member (get_or xs c 0) f))
    → (c : ℕ) → Member (get_or (x ∷ xs) c 0) f → Member r f
place x xs s f r i zero m = i.from (inl ((in-or s x f).from (inr m)))
place x xs s f r i (suc c) m = i.from (inr (c, m))

-- The union of a set and of all sets of a list has what the set has and what one of them has.
in_fold : (xs : List ℕ) (s f : ℕ) → Iff (Member (fold bit_or s xs) f) (Member s f ⊎ ((c : ℕ) × Member (get_or xs c 0) f))
in_fold [] s f = record { to = λ m. inl m; from = ⊎_elim (λ m. m) (λ p. absurd (none-in-zero f p.1)) }
in_fold (x ∷ xs) s f =
    let ih = in_fold xs (bit_or s x) f in
    let o = in-or s x f in
    record {
      to = λ m. ⊎_elim (λ p. ⊎_elim (λ q. inl q) (λ q. inr (0, q)) (o.to p)) (λ p. inr (suc p.0, p.1)) (ih.to m);
      from = ⊎_elim (λ p. ih.from (inl (o.from (inl p)))) (λ p. place x xs s f (fold bit_or (bit_or s x) xs) ih p.0 p.1);
    }

pub needed-fold : (rows : Rows) → Needed rows (fold bit_or 0 rows.needs)
needed-fold rows =
    record {
      each = λ f.
          let i = in_fold rows.needs 0 f in
          record {
            to = λ m. ⊎_elim (λ z. absurd (none-in-zero f z)) (λ p. record { colour = p.0; member = p.1 }) (i.to m);
            from = λ k. i.from (inr (k.colour, k.member));
          };
    }

-- the same colour by colour, for those who compute a union step by step

-- A colour below n needs the vertex f.
abbrev ColouredBelow : Rows → ℕ → ℕ → Type 0
ColouredBelow rows n f = (c : ℕ) × (c < n) × Member (row_of rows c) f

pub record NeededBelow (rows : Rows) (s n : ℕ) : Type 0 where
  pub place : n ≤ 8
  pub each : (f : ℕ) → Iff (Member s f) (ColouredBelow rows n f)

module _ (rows : Rows) where
  pub needed-none : NeededBelow rows 0 0
  needed-none =
      record {
        place = omega arith;
        each = λ f. record { to = λ m. absurd (none-in-zero f m); from = λ s. let l = s.1 in absurd (omega arith) };
      }

  pub needed-more : (s n : ℕ) → n < 8 → NeededBelow rows s n → NeededBelow rows (bit_or s (row_of rows n)) (n + 1)
  needed-more s n l h =
      record {
        place = omega arith;
        each = λ f.
            let o = in-or s (row_of rows n) f in
            record {
              to = λ m. ⊎_elim (λ a. let b = (h.each f).to a in let k = b.1 in (b.0, omega arith, b.2)) (λ a. (n, omega arith, a)) (o.to m);
              from = λ b. let k = b.1 in o.from (⊎_elim
                  (λ e. inr (subst (λ (c : ℕ). Member (row_of rows c) f) e b.2))
                  (λ e. inl ((h.each f).from (b.0, omega (arith, e), b.2)))
                  (same_or b.0 n));
            };
      }

  pub needed-done : (s n : ℕ) → length rows.needs ≡ 8 → 8 ≤ n → NeededBelow rows s n → Needed rows s
  needed-done s n e l h =
      record {
        each = λ f. record {
          to = λ m. let b = (h.each f).to m in record { colour = b.0; member = b.2 };
          from = λ k. (h.each f).from
              (k.colour, colour-below rows n k.colour (omega arith) (not-empty (row_of rows k.colour) f k.member), k.member);
        };
      }

-- ---- a vertex noted as a successor

-- v has become a successor of the needed vertices that are not left.
pub record Noting (needed v : ℕ) (entry cur : List ℕ) (left : ℕ) : Type 0 where
  pub long : length cur ≡ 64
  pub within : Within left needed
  pub each : (f u : ℕ) → f < 64 → Iff (Member (get_or cur f 0) u) (Member (get_or entry f 0) u ⊎ (Passed needed left f × (u ≡ v)))

module _ (needed v : ℕ) (entry : List ℕ) where
  pub noting-none : length entry ≡ 64 → Noting needed v entry entry needed
  noting-none e =
      record {
        long = e;
        within = within-refl needed;
        each = λ f u l. record { to = λ m. inl m; from = ⊎_elim (λ m. m) (λ p. absurd (passed_none needed f p.0)) };
      }

  module _ (cur : List ℕ) (left f rest : ℕ) (h : Noting needed v entry cur left) (fl : f < 64) (vl : v < 64) (m : Member left f) (o : Without left f rest) where
    abbrev pub word : ℕ
    word = bit_or (get_or cur f 0) ((1 * 2 ^ v) % 2 ^ 64)

    in-word : (u : ℕ) → Iff (Member word u) (Member (get_or cur f 0) u ⊎ (u ≡ v))
    in-word u =
        let k = in-or (get_or cur f 0) ((1 * 2 ^ v) % 2 ^ 64) u in
        let one : Iff (Member ((1 * 2 ^ v) % 2 ^ 64) u) (u ≡ v) = subst (λ (x : ℕ). Iff (Member x u) (u ≡ v)) (sym (shifted_one v vl)) (in_one v u) in
        record {
          to = λ a. ⊎_elim (λ b. inl b) (λ b. inr (one.to b)) (k.to a);
          from = λ a. k.from (⊎_elim (λ b. inl b) (λ b. inr (one.from b)) a);
        }

    passed : (u : ℕ) → Iff (Passed needed left u ⊎ (u ≡ f)) (Passed needed rest u)
    passed = passed-more needed left f rest h.within m o

    -- the word of f
    here : (u : ℕ) → Iff (Member word u) (Member (get_or entry f 0) u ⊎ (Passed needed rest f × (u ≡ v)))
    here u =
        let w = in-word u in
        let k = h.each f u fl in
        record {
          to = λ a. ⊎_elim
              (λ b. ⊎_elim (λ x. inl x) (λ p. absurd (p.0.1 m)) (k.to b))
              (λ b. inr ((passed f).to (inr (λ i. f)), b))
              (w.to a);
          from = ⊎_elim (λ x. w.from (inl (k.from (inl x)))) (λ p. w.from (inr p.1));
        }

    -- the word of another vertex
    there : (g u : ℕ) → g < 64 → (g ≡ f → ⊥) → Iff (Member (get_or cur g 0) u) (Member (get_or entry g 0) u ⊎ (Passed needed rest g × (u ≡ v)))
    there g u l n =
        let k = h.each g u l in
        record {
          to = λ a. ⊎_elim (λ x. inl x) (λ p. inr ((passed g).to (inl p.0), p.1)) (k.to a);
          from = ⊎_elim (λ x. k.from (inl x))
              (λ p. k.from (inr (⊎_elim (λ q. q) (λ q. absurd (n q)) ((passed g).from p.0), p.1)));
        }

    pub noting-more : Noting needed v entry (set cur f word) rest
    noting-more =
        record {
          long = length-set cur f word ∙ h.long;
          within = left-within needed left f rest h.within o;
          each = λ g u l. ⊎_elim
              (λ e. subst (λ (x : ℕ). Iff (Member (get_or (set cur f word) x 0) u) (Member (get_or entry x 0) u ⊎ (Passed needed rest x × (u ≡ v)))) (sym e)
              (subst (λ (x : ℕ). Iff (Member x u) (Member (get_or entry f 0) u ⊎ (Passed needed rest f × (u ≡ v))))
              (sym (get_or-set_same cur f word 0 (let z = h.long in omega arith))) (here u)))
              (λ e. subst (λ (x : ℕ). Iff (Member x u) (Member (get_or entry g 0) u ⊎ (Passed needed rest g × (u ≡ v))))
              (sym (get_or-set_other cur f g word 0 e)) (there g u l e))
              (same_or g f);
        }

  pub noting-done : (cur : List ℕ) (left : ℕ) → left ≡ 0 → Noting needed v entry cur left → Noted needed v entry cur
  noting-done cur left e h =
      record {
        long = h.long;
        each = λ f u l.
            let k = h.each f u l in
            let p = passed-all needed left e f in
            record {
              to = λ a. ⊎_elim (λ x. inl x) (λ q. inr (p.to q.0, q.1)) (k.to a);
              from = ⊎_elim (λ x. k.from (inl x)) (λ q. k.from (inr (p.from q.0, q.1)));
            };
      }

-- ---- the successors of every vertex

-- The successors below n of each vertex stand in the list.
pub record Filling (g : Graph) (out : List ℕ) (n : ℕ) : Type 0 where
  pub place : n ≤ 64
  pub long : length out ≡ 64
  pub each : (f v : ℕ) → f < 64 → Iff (Member (get_or out f 0) v) ((v < n) × Coloured (rows_at g v) f)

module _ (g : Graph) where
  pub filling-none : (out : List ℕ) → out ≡ replicate 64 0 → Filling g out 0
  filling-none out e =
      record {
        place = omega arith;
        long = ap length e ∙ length-replicate {A = ℕ} 64 0;
        each = λ f v l. record {
          to = λ m. absurd (none-in-zero v (subst (λ (x : ℕ). Member x v) (ap (λ (o : List ℕ). get_or o f 0) e ∙ get_or-replicate 64 f 0 0 l) m));
          from = λ p. let k = p.0 in absurd (omega arith);
        };
      }

  pub filling-more : (out out' : List ℕ) (n s : ℕ) → n < 64 → Filling g out n → Needed (rows_at g n) s → Noted s n out out' → Filling g out' (n + 1)
  filling-more out out' n s l h q t =
      record {
        place = omega arith;
        long = t.long;
        each = λ f v k.
            let a = t.each f v k in
            let b = h.each f v k in
            record {
              to = λ m. ⊎_elim
                  (λ x. let p = b.to x in let j = p.0 in (omega arith, p.1))
                  (λ p. let j = p.1 in (omega arith, subst (λ (u : ℕ). Coloured (rows_at g u) f) (sym p.1) ((q.each f).to p.0)))
                  (a.to m);
              from = λ p. let j = p.0 in a.from (⊎_elim
                  (λ e. inr ((q.each f).from (subst (λ (u : ℕ). Coloured (rows_at g u) f) e p.1), e))
                  (λ e. inl (b.from (omega (arith, e), p.1)))
                  (same_or v n));
            };
      }

  pub filling-done : (out : List ℕ) (n : ℕ) → length g.rows ≡ 64 → 64 ≤ n → Filling g out n → Successors g out
  filling-done out n e l h =
      record {
        long = h.long;
        each = λ f v k.
            let b = h.each f v k in
            record {
              to = λ m. (b.to m).1;
              from = λ q. b.from (let j = edge-place g e f v q.colour q.member in omega arith, q);
            };
      }

-- ---- the successors of a set

-- r has the successors of the set's vertices that are not left.
pub record Gathering (list : List ℕ) (s left r : ℕ) : Type 0 where
  pub within : Within left s
  pub each : (v : ℕ) → Iff (Member r v) (Follows list (Passed s left) v)

module _ (list : List ℕ) (s : ℕ) where
  pub gathering-none : Gathering list s s 0
  gathering-none =
      record {
        within = within-refl s;
        each = λ v. record { to = λ m. absurd (none-in-zero v m); from = λ f. absurd (passed_none s f.vertex f.holds) };
      }

  pub gathering-more : (left r f rest : ℕ) → Gathering list s left r → Member left f → Without left f rest → Gathering list s rest (bit_or r (get_or list f 0))
  gathering-more left r f rest h m o =
      record {
        within = left-within s left f rest h.within o;
        each = λ v.
            let k = in-or r (get_or list f 0) v in
            record {
              to = λ a. ⊎_elim
                  (λ x. let w = (h.each v).to x in record { vertex = w.vertex; holds = (passed w.vertex).to (inl w.holds); edge = w.edge })
                  (λ x. record { vertex = f; holds = (passed f).to (inr (λ i. f)); edge = x })
                  (k.to a);
              from = λ w. k.from (⊎_elim
                  (λ p. inl ((h.each v).from (record { vertex = w.vertex; holds = p; edge = w.edge })))
                  (λ e. inr (subst (λ (x : ℕ). Member (get_or list x 0) v) e w.edge))
                  ((passed w.vertex).from w.holds));
            };
      }
    where
      passed : (u : ℕ) → Iff (Passed s left u ⊎ (u ≡ f)) (Passed s rest u)
      passed = passed-more s left f rest h.within m o

  pub gathering-done : (left r : ℕ) → left ≡ 0 → Gathering list s left r → AllSuccessors list s r
  gathering-done left r e h =
      record {
        each = λ v. iff-trans (h.each v) (record {
          to = λ w. record { vertex = w.vertex; holds = w.holds.0; edge = w.edge };
          from = λ w. record { vertex = w.vertex; holds = (passed-all s left e w.vertex).from w.holds; edge = w.edge };
        });
      }
