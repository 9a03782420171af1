-- The questions about the rows of one place, and about all rows.
-- Assumes nothing.
use mathlib.Core.Path.{◌≡◌, refl, ap, ◌∙◌}
use mathlib.Core.Bool.{Bool}
use mathlib.Core.Logic.{inl, inr}
use Prim.Native.Nat.{ℕ, ◌+◌, ◌-◌, ◌^◌, ◌≤◌, ◌<◌}
use native.Mathlib.Nat.{not-le_of_lt}
use native.Mathlib.Omega.{arith}
use lib.Bits.{bit_and, bit_or, or_zero_l}
use lib.Count.{ones}
use lib.Dec.{leb}
use lib.ListN.{length, take}
use lib.Seq.{take_all}
use borrow.Author.Count.{below_none, below_more}
use Rattle.vertex_set.specs.Set.{Within, Decides, Iff}
use Rattle.vertex_set.proofs.Sets.{member_below, none-in-zero, in-or, within-le, within-test}
use Rattle.vertex_set.proofs.Decisions.{decide_iff, decide-leb}
use Rattle.setup.specs.Bounds.{most_edges}
use Rattle.setup.specs.declared.Rows.{Rows}
use Rattle.setup.specs.declared.Graph.{Graph}
use Rattle.setup.specs.Setup.{rows_at, row_of, total, edge_count}
use Rattle.formed.specs.Inner.Parts.{RowsFit, MayNeed, EdgesFit, GraphsFit}

pub need-unused : (count v : ℕ) → count ≤ v → MayNeed count v 0
need-unused count v l =
    record { each = λ f. record { to = λ m. absurd (none-in-zero f m); from = λ n. absurd (not-le_of_lt n.0 l) } }

-- The rows fit where they lie within what the place may need; the bound of 64 is the set's own.
pub edges-by-rows : (count v bound : ℕ) (rows recovery : Rows) (r : Bool) → MayNeed count v bound → ((c : ℕ) → row_of rows c < 2 ^ 64)
    → Decides (RowsFit bound rows recovery) r → Decides (EdgesFit count v rows recovery) r
edges-by-rows count v bound rows recovery r b fits =
    decide_iff (record {
      to = λ h. record {
        ends = λ f c lc m. let n = (b.each f).to ((h.bounded c lc).each f m) in (n.1, n.0);
        marked = λ f c lc m. (h.marked c lc).each f m;
        long = h.long;
        long_marked = h.long_marked;
      };
      from = λ h. record {
        bounded = λ c lc. record { each = λ f m. let e = h.ends f c lc m in (b.each f).from (e.1, e.0, member_below 64 (row_of rows c) f (fits c) m) };
        marked = λ c lc. record { each = λ f m. h.marked f c lc m };
        long = h.long;
        long_marked = h.long_marked;
      };
    })

-- A union is empty exactly where both sets are.
empty-or : (a b : ℕ) → Iff (bit_or a b ≡ 0) ((a ≡ 0) × (b ≡ 0))
empty-or a b =
    record {
      to = λ e.
          let l = within-le a (bit_or a b) (record { each = λ i m. (in-or a b i).from (inl m) }) in
          let r = within-le b (bit_or a b) (record { each = λ i m. (in-or a b i).from (inr m) }) in
          (omega arith, omega arith);
      from = λ z. ap (λ (x : ℕ). bit_or x b) z.0 ∙ or_zero_l b ∙ z.1;
    }

-- The rows of the colours below n fit.
pub record FitBelow (bound : ℕ) (rows recovery : Rows) (n : ℕ) : Type 0 where
  pub bounded : (c : ℕ) → c < n → Within (row_of rows c) bound
  pub marked : (c : ℕ) → c < n → Within (row_of recovery c) (row_of rows c)

-- Nothing strays in the colours below n exactly where they fit.
pub fit_none : (bound : ℕ) (rows recovery : Rows) → Iff (◌≡◌ {A = ℕ} 0 0) (FitBelow bound rows recovery 0)
fit_none bound rows recovery = record { to = λ e. record { bounded = below_none _; marked = below_none _ }; from = λ f. refl }

-- The machine's a without b.
abbrev less : ℕ → ℕ → ℕ
less a b = bit_and a ((2 ^ 64 - 1) - b)

pub fit-more : (bound : ℕ) (rows recovery : Rows) (n stray : ℕ) → bound < 2 ^ 64 → row_of rows n < 2 ^ 64 → row_of recovery n < 2 ^ 64 → Iff (stray ≡ 0) (FitBelow bound rows recovery n)
    → Iff (bit_or stray (bit_or (bit_and (row_of rows n) ((2 ^ 64 - 1) - bound)) (bit_and (row_of recovery n) ((2 ^ 64 - 1) - row_of rows n))) ≡ 0) (FitBelow bound rows recovery (n + 1))
fit-more bound rows recovery n stray hb hr hm i =
    let outside = less (row_of rows n) bound in
    let unmatched = less (row_of recovery n) (row_of rows n) in
    let both = empty-or stray (bit_or outside unmatched) in
    let strays = empty-or outside unmatched in
    let row = within-test (row_of rows n) bound hr hb in
    let mark = within-test (row_of recovery n) (row_of rows n) hm hr in
    record {
      to = λ e.
          let p = both.to e in
          let q = strays.to p.1 in
          let f = i.to p.0 in
          record { bounded = below_more _ n f.bounded (row.to q.0); marked = below_more _ n f.marked (mark.to q.1) };
      from = λ f.
          let before : FitBelow bound rows recovery n = record { bounded = λ c l. f.bounded c (omega arith); marked = λ c l. f.marked c (omega arith) } in
          both.from (i.from before, strays.from (row.from (f.bounded n (omega arith)), mark.from (f.marked n (omega arith))));
    }

pub rows-by-colours : (bound : ℕ) (rows recovery : Rows) (stray : ℕ) → length rows.needs ≡ 8 → length recovery.needs ≡ 8
    → Iff (stray ≡ 0) (FitBelow bound rows recovery 8) → Iff (stray ≡ 0) (RowsFit bound rows recovery)
rows-by-colours bound rows recovery stray long long_marked i =
    record {
      to = λ e. let f = i.to e in record { bounded = f.bounded; marked = f.marked; long = long; long_marked = long_marked };
      from = λ h. i.from (record { bounded = h.bounded; marked = h.marked });
    }

-- Where all rows fit, the number of edges decides.
pub graphs-by-edges : (count : ℕ) (graph recovery : Graph) (v edges : ℕ) → length graph.rows ≡ 64 → v ≡ 64
    → ((k : ℕ) → k < v → EdgesFit count k (rows_at graph k) (rows_at recovery k)) → edges ≡ total (λ r. total ones r.needs) (take v graph.rows)
    → Decides (GraphsFit count graph recovery) (leb edges most_edges)
unfolding edge_count
graphs-by-edges count graph recovery v edges long e each h =
    let n : edges ≡ edge_count graph = rw (e, take_all 64 graph.rows (omega arith)) at h in
    decide_iff (record { to = λ l. record { each = rw e at each; edges = omega arith }; from = λ g. let l = g.edges in omega arith }) (decide-leb edges most_edges)

-- what a place that is not in use may need
pub ruleset place_answers = (need-unused)
