-- The forecasts hold: vertices are looked at one by one from the target on, as the code does it, until all that were found have been seen.
-- Assumes nothing.
use mathlib.Core.Path.{◌≡◌, refl, sym, subst, ◌∙◌}
use mathlib.Core.Bool.{Bool, true, false, ◌&&◌}
use mathlib.Core.List.{List, [], ◌∷◌}
use Prim.Native.Nat.{ℕ, zero, suc, ◌*◌, ◌/◌, ◌^◌, ◌<◌}
use native.Mathlib.Numerals.{add-one}
use native.Mathlib.Omega.{arith}
use lib.Bits.{bit_or}
use lib.Count.{ones, ones_in}
use lib.Dec.{eqb, ltb}
use borrow.Author.Tests.{eqb-true, ltb-true}
use Rattle.vertex_set.specs.Set.{Member, Inserted}
use Rattle.vertex_set.proofs.Digits.{digit, digit_lt}
use Rattle.vertex_set.proofs.Sets.{member_below, inserted_new, shifted_one}
use Rattle.vertex_set.proofs.Shifts.{all, all-at}
use Rattle.setup.specs.declared.Graph.{Graph}
use Rattle.setup.specs.declared.Setup.{Setup}
use Rattle.setup.specs.Setup.{rows_at, row_of, given, value_of, vertex_at}
use Rattle.formed.specs.WellFormed.{WellFormed}
use Rattle.successors.specs.Inner.{Needed}
use Rattle.successors.proofs.Needs.{NeededBelow, needed-none, needed-more, needed-done}
use Rattle.antichains.specs.Antichains.{choose}
use Rattle.forecasts.specs.Forecast.{CountedSet}
use Rattle.forecasts.specs.Inner.{ReachingSet}
use Rattle.forecasts.proofs.Finding.{Finding, finding-none, finding-more, finding-done}
use Rattle.forecasts.proofs.Bounds.{forecast-holds}
use Rattle.sheet_format.specs.Rows.{Each}
use Rattle.vertex_set.proofs.Decisions.{and_parts}
use Rattle.worked_examples.specs.Sheets.{ReadsSheet}
use Rattle.worked_examples.specs.Table.{set_of}
use Rattle.worked_examples.specs.Forecasts.{ForecastExample, Foretells, forecasts, AllForetell}
use Rattle.worked_examples.proofs.Reading.{◌&◌, reads-well, read-bench, read-ring, read-alone, read-closed, read-loop, read-spare}

-- ---- what is found when some vertices are looked at in turn

-- What the vertex v needs by its colours below c.
needs_below : Graph → ℕ → ℕ → ℕ
needs_below g v zero = 0
needs_below g v (suc c) = bit_or (needs_below g v c) (row_of (rows_at g v) c)

found_by : Graph → List ℕ → ℕ → ℕ
found_by g [] found = found
found_by g (v ∷ vs) found = found_by g vs (bit_or found (needs_below g v 8))

seen_by : List ℕ → ℕ → ℕ
seen_by [] seen = seen
seen_by (v ∷ vs) seen = seen_by vs (bit_or seen (2 ^ v))

-- Each of them is found before it is looked at.
can_look : Graph → List ℕ → ℕ → Bool
can_look g [] found = true
can_look g (v ∷ vs) found = ltb v 64 && (eqb (digit found v) 1 && can_look g vs (bit_or found (needs_below g v 8)))

is_member : (x i : ℕ) → eqb (digit x i) 1 ≡ true → Member x i
unfolding Member
is_member x i h = eqb-true (digit x i) 1 h

module _ (s : Setup) (w : WellFormed s) where
  needs-below : (v c : ℕ) → c < 9 → NeededBelow (rows_at s.graph v) (needs_below s.graph v c) c
  unfolding needs_below
  needs-below v zero l = needed-none (rows_at s.graph v)
  needs-below v (suc c) l =
      subst (NeededBelow (rows_at s.graph v) (needs_below s.graph v (suc c))) (add-one c)
      (needed-more (rows_at s.graph v) (needs_below s.graph v c) c (omega arith) (needs-below v c (omega arith)))

  needs-of : (v : ℕ) → v < 64 → Needed (rows_at s.graph v) (needs_below s.graph v 8)
  needs-of v l = needed-done (rows_at s.graph v) (needs_below s.graph v 8) 8 (w.shaped.graph.colours v l) (omega arith) (needs-below v 8 (omega arith))

  inserted : (seen v : ℕ) → v < 64 → Inserted seen v (bit_or seen (2 ^ v))
  inserted seen v l = subst (λ (x : ℕ). Inserted seen v (bit_or seen x)) (shifted_one v l) (inserted_new seen v l)

  looking : (target : ℕ) (vs : List ℕ) (found seen : ℕ) → Finding s.graph target found seen → can_look s.graph vs found ≡ true
      → Finding s.graph target (found_by s.graph vs found) (seen_by vs seen)
  unfolding found_by seen_by can_look
  looking target [] found seen f e = f
  looking target (v ∷ vs) found seen f e =
      let p = and_parts (ltb v 64) _ e in
      let q = and_parts (eqb (digit found v) 1) _ p.1 in
      let l = ltb-true v 64 p.0 in
      looking target vs (bit_or found (needs_below s.graph v 8)) (bit_or seen (2 ^ v))
      (finding-more s.graph target found seen f v _ _ l (is_member found v q.0) (needs-of v l) (inserted seen v l)) q.1

  reached : (target : ℕ) (vs : List ℕ) → target < 64 → can_look s.graph vs (2 ^ target) ≡ true → seen_by vs 0 ≡ found_by s.graph vs (2 ^ target)
      → ReachingSet s.graph target (found_by s.graph vs (2 ^ target))
  reached target vs l e z =
      finding-done s.graph target (found_by s.graph vs (2 ^ target)) (seen_by vs 0)
      (looking target vs (2 ^ target) 0 (finding-none s.graph target (2 ^ target) l start) e) z
    where
      start : Inserted 0 target (2 ^ target)
      start = inserted 0 target l

-- ---- which of them are counted

-- At each vertex: it is counted exactly where it was found and has a start value.
counts_right : Setup → ℕ → ℕ → ℕ → Bool
counts_right s found counted v = eqb (digit counted v) (digit found v * given (value_of false (vertex_at s v)))

module _ (s : Setup) (target found counted : ℕ) (r : ReachingSet s.graph target found) (hf : found < 2 ^ 64) (hc : counted < 2 ^ 64)
    (t : all (counts_right s found counted) 64 ≡ true) where
  at : (v : ℕ) → v < 64 → digit counted v ≡ digit found v * given (value_of false (vertex_at s v))
  unfolding counts_right
  at v l = eqb-true _ _ (all-at (counts_right s found counted) 64 t v l)

  product-one : (a b : ℕ) → a < 2 → a * b ≡ 1 → (a ≡ 1) × (b ≡ 1)
  product-one zero b l e = absurd (omega arith)
  product-one (suc zero) b l e = (refl, omega arith)
  product-one (suc (suc a)) b l e = absurd (omega arith)

  one_product : (a b : ℕ) → a ≡ 1 → b ≡ 1 → a * b ≡ 1
  one_product a b e f = rw (e, f) refl

  counted_of : CountedSet s target counted
  unfolding Member
  counted_of =
      record {
        each = λ v. record {
          to = λ m.
              let p = product-one (digit found v) (given (value_of false (vertex_at s v))) (digit_lt found v) (sym (at v (member_below 64 counted v hc m)) ∙ m) in
              (p.1, (r.each v).to p.0);
          from = λ p.
              let m = (r.each v).from p.1 in
              at v (member_below 64 found v hf m) ∙ one_product (digit found v) (given (value_of false (vertex_at s v))) m p.0;
        };
      }

-- ---- an example, with the order in which vertices are looked at

abbrev graph_of : ForecastExample → Graph
graph_of x = x.sheet.setup.graph

record Looked (x : ForecastExample) (vs : List ℕ) : Type 0 where
  place : ltb x.target 64 ≡ true
  order : can_look (graph_of x) vs (2 ^ x.target) ≡ true
  done : seen_by vs 0 ≡ found_by (graph_of x) vs (2 ^ x.target)
  low : ltb (found_by (graph_of x) vs (2 ^ x.target)) (2 ^ 64) ≡ true
  few : ltb (set_of x.counted) (2 ^ 64) ≡ true
  counts : all (counts_right x.sheet.setup (found_by (graph_of x) vs (2 ^ x.target)) (set_of x.counted)) 64 ≡ true
  ways : x.sets ≡ choose (ones (set_of x.counted)) (ones (set_of x.counted) / 2)

foretold : (x : ForecastExample) (vs : List ℕ) → ReadsSheet x.sheet → Looked x vs → Foretells x
foretold x vs r h =
    let s : Setup = x.sheet.setup in
    let found : ℕ = found_by (graph_of x) vs (2 ^ x.target) in
    let k = reached s (reads-well x.sheet r) x.target vs (ltb-true x.target 64 h.place) h.order h.done in
    record {
      setup = s;
      reading = r;
      holds = forecast-holds s x.target (set_of x.counted) x.sets
          (counted_of s x.target found (set_of x.counted) k (ltb-true found (2 ^ 64) h.low) (ltb-true (set_of x.counted) (2 ^ 64) h.few) h.counts) h.ways;
    }

-- The order in which vertices are looked at, the sheet read, and all of it computed.
abbrev Shown : ForecastExample → Type 0
Shown x = (vs : List ℕ) × ReadsSheet x.sheet × Looked x vs

all-foretold : (l : List ForecastExample) → Each Shown l → Each Foretells l
all-foretold [] s = tt
all-foretold (x ∷ l) s = (foretold x s.0.0 s.0.1 s.0.2, all-foretold l s.1)

all_shown : Each Shown forecasts
unfolding needs_below found_by seen_by can_look counts_right choose ones ones_in
all_shown =
    (4 ∷ 0 ∷ 2 ∷ 3 ∷ 1 ∷ [], read-bench, record { place = refl; order = refl; done = refl; low = refl; few = refl; counts = refl; ways = refl })
    & (3 ∷ 1 ∷ [], read-bench, record { place = refl; order = refl; done = refl; low = refl; few = refl; counts = refl; ways = refl })
    & (0 ∷ 1 ∷ 5 ∷ 4 ∷ 2 ∷ 3 ∷ [], read-ring, record { place = refl; order = refl; done = refl; low = refl; few = refl; counts = refl; ways = refl })
    & (2 ∷ [], read-ring, record { place = refl; order = refl; done = refl; low = refl; few = refl; counts = refl; ways = refl })
    & (0 ∷ [], read-alone, record { place = refl; order = refl; done = refl; low = refl; few = refl; counts = refl; ways = refl })
    & (0 ∷ [], read-closed, record { place = refl; order = refl; done = refl; low = refl; few = refl; counts = refl; ways = refl })
    & (0 ∷ [], read-loop, record { place = refl; order = refl; done = refl; low = refl; few = refl; counts = refl; ways = refl })
    & (2 ∷ 0 ∷ 1 ∷ [], read-spare, record { place = refl; order = refl; done = refl; low = refl; few = refl; counts = refl; ways = refl })
    & tt

pub all-foretell : AllForetell
all-foretell = all-foretold forecasts all_shown
