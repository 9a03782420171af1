-- Question 12: every well-formed setup is reached, by a sheet of the same drawing and by taking in what is held, one vertex after the other.
-- Assumes nothing.
use mathlib.Core.Path.{◌≡◌, refl, sym, subst}
use mathlib.Core.Bool.{false}
use mathlib.Core.List.{[], ◌∷◌, ◌++◌}
use mathlib.Core.Logic.{inl, inr, ⊎_elim}
use Prim.Native.Nat.{ℕ, zero, suc, ◌-◌, ◌^◌, ◌≤◌, ◌<◌}
use native.Mathlib.Nat.{lt_of_lt_of_le}
use native.Mathlib.Omega.{arith}
use lib.Bits.{bit_and}
use Rattle.vertex_set.specs.declared.VertexSet.{VertexSet}
use Rattle.vertex_set.specs.Set.{Member, Iff}
use Rattle.vertex_set.proofs.Cases.{same_or}
use Rattle.vertex_set.proofs.Decisions.{iff-refl}
use Rattle.vertex_set.proofs.Sets.{member-or, none-in-zero, same_set, in_and, below_power}
use Rattle.setup.specs.declared.Setup.{Setup}
use Rattle.setup.specs.Setup.{chosen_count}
use Rattle.setup.specs.Inner.{holding}
use Rattle.formed.specs.WellFormed.{WellFormed}
use Rattle.derivations.specs.Access.{access, AccessFrom}
use Rattle.derivations.proofs.Closures.{closure-unique}
use Rattle.reference.specs.Closures.{closure_of}
use Rattle.reference.proofs.Graphs.{own-graph}
use Rattle.reference.proofs.Closures.{closure-of}
use Rattle.questions.proofs.Asks.{ask-all}
use Rattle.living.specs.Calls.{Call, TakeIn, asks_of, back, Done, CallOf}
use Rattle.sheet_format.proofs.Question12.{question-12-sheets, yielded-formed}
use Rattle.histories.specs.Histories.{Reached, Question12}
use Rattle.histories.proofs.Runs.{still_formed, ran-more}

pub holding-formed : (s : Setup) (h o : VertexSet) → WellFormed s → ((v : ℕ) → Member h.0 v → v < s.count) → AccessFrom s.graph h.0 o.0
    → WellFormed (holding s h o)
unfolding chosen_count
holding-formed s h o w b a =
    record {
      shaped = record { places = w.shaped.places; graph = w.shaped.graph; recovery = w.shaped.recovery };
      some = w.some;
      most = w.most;
      used = w.used;
      unused = w.unused;
      ends = w.ends;
      marked = w.marked;
      edges = w.edges;
      initial = w.initial;
      losable = w.losable;
      holds = record { each = b };
      opens = a;
    }

-- one call more
further : (s t : Setup) (c : Call) (n : ℕ) → Reached s → CallOf c s (record { number = n; setup = t }) → Reached t
further s t c n r a =
    record {
      text = r.text;
      fresh = r.fresh;
      reading = r.reading;
      calls = r.calls ++ (c ∷ []);
      numbers = r.numbers ++ (n ∷ []);
      ran = ran-more r.calls r.numbers r.fresh s t c n r.ran a;
    }

-- the setup with x held, and what x opens
abbrev pub with_held : Setup → ℕ → Setup
with_held s x = holding s (record { 0 = x }) (record { 0 = closure_of false s.count s.graph x })

module _ (s : Setup) (w : WellFormed s) where
  opens : (x : ℕ) → AccessFrom s.graph x (closure_of false s.count s.graph x)
  opens x = closure-of false s s.graph w (own-graph s w) x

  -- the held vertices below k
  lower : ℕ → ℕ
  lower k = bit_and s.held.0 (2 ^ k - 1)

  in-lower : (k i : ℕ) → k ≤ 64 → Iff (Member (lower k) i) (Member s.held.0 i × (i < k))
  unfolding lower
  in-lower k i l =
      let a = in_and s.held.0 (2 ^ k - 1) i in
      let b = (below_power k l).each i in
      record {
        to = λ m. let p = a.to m in (p.0, (b.to p.1).0);
        from = λ p. a.from (p.0, b.from (p.1, lt_of_lt_of_le p.1 l));
      }

  part-formed : (k : ℕ) → k ≤ 64 → WellFormed (with_held s (lower k))
  part-formed k l = holding-formed s _ _ w (λ v m. w.holds.each v ((in-lower k v l).to m).0) (opens (lower k))

  -- one held vertex more
  takes : (k : ℕ) → suc k ≤ 64 → Member s.held.0 k → CallOf (TakeIn k) (with_held s (lower k)) (record { number = 0; setup = with_held s (lower (suc k)) })
  takes k l m =
      ask-all (back (with_held s (lower k))) (Done (TakeIn k) (with_held s (lower k))) (asks_of (TakeIn k) (with_held s (lower k)))
      (record { number = 0; setup = with_held s (lower (suc k)) }) (part-formed k (omega arith), (w.holds.each k m, tt))
      (record {
        numbered = refl;
        redrawn = record {
          count = refl;
          vertices = refl;
          shaped = (part-formed (suc k) l).shaped;
          edges = λ f v c. iff-refl;
          marks = λ f v c. iff-refl;
          held = λ i.
              let a = in-lower (suc k) i l in
              let b = in-lower k i (omega arith) in
              record {
                to = λ n. let p = a.to n in ⊎_elim (λ e. inr e) (λ d. inl (b.from (p.0, let h = p.1 in omega (arith, d)))) (same_or i k);
                from = ⊎_elim (λ n. let p = b.to n in a.from (p.0, let h = p.1 in omega arith)) (λ e. a.from (subst (Member s.held.0) (sym e) m, omega arith));
              };
          opened = opens (lower (suc k));
        };
      })

  -- a vertex that is not held
  skips : (k : ℕ) → suc k ≤ 64 → (Member s.held.0 k → ⊥) → lower (suc k) ≡ lower k
  skips k l n =
      same_set (lower (suc k)) (lower k)
      (record {
        each = λ i m.
            let p = (in-lower (suc k) i l).to m in
            (in-lower k i (omega arith)).from (
              p.0,
              let h = p.1 in
                  ⊎_elim (λ e. absurd (n (subst (Member s.held.0) e p.0))) (λ d. omega (arith, d)) (same_or i k),
            );
      })
      (record { each = λ i m. let p = (in-lower k i (omega arith)).to m in (in-lower (suc k) i l).from (p.0, let h = p.1 in omega arith) })

  none : lower 0 ≡ 0
  none = same_set (lower 0) 0 (record { each = λ i m. absurd (let h = ((in-lower 0 i (omega arith)).to m).1 in omega arith) }) (record { each = λ i m. absurd (none-in-zero i m) })

  all : lower 64 ≡ s.held.0
  all =
      same_set (lower 64) s.held.0 (record { each = λ i m. ((in-lower 64 i (omega arith)).to m).0 })
      (record { each = λ i m. (in-lower 64 i (omega arith)).from (m, lt_of_lt_of_le (w.holds.each i m) w.most) })

  unheld : (with_held s (lower 0)).held.0 ≡ 0
  unheld = none

  reach : (k : ℕ) → k ≤ 64 → Reached (with_held s (lower k))
  reach zero l =
      let t = (question-12-sheets (with_held s (lower 0))).to (part-formed 0 l, unheld) in
      record { text = t.0; fresh = with_held s (lower 0); reading = t.1; calls = []; numbers = []; ran = refl }
  reach (suc k) l =
      ⊎_elim
      (λ m. further (with_held s (lower k)) (with_held s (lower (suc k))) (TakeIn k) 0 (reach k (omega arith)) (takes k l m))
      (λ n. subst (λ (x : ℕ). Reached (with_held s x)) (sym (skips k l n)) (reach k (omega arith)))
      (member-or s.held.0 k)

  -- what is held opens what is opened, and so the setup is reached
  whole : with_held s s.held.0 ≡ s
  whole =
      let o : closure_of false s.count s.graph s.held.0 ≡ s.opened.0 =
      closure-unique (access s.graph) s.held.0 (closure_of false s.count s.graph s.held.0) s.opened.0 (opens s.held.0) w.opens in
      λ i. record { count = s.count; vertices = s.vertices; graph = s.graph; recovery = s.recovery; held = s.held; opened = record { 0 = o i } }

  reached : Reached s
  reached = subst Reached whole (subst (λ (x : ℕ). Reached (with_held s x)) all (reach 64 (omega arith)))

pub question-12 : Question12
question-12 s =
    record { to = reached s; from = λ r. still_formed r.calls r.numbers r.fresh s (yielded-formed r.text r.fresh r.reading) r.ran }
