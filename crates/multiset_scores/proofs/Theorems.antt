-- Nothing is lost by the score, each of its multisets is listed, one time, it is no longer than the access base, and it is sound.
-- Assumes nothing.
use mathlib.Core.Path.{sym, subst}
use mathlib.Core.Bool.{false}
use mathlib.Core.List.{List}
use mathlib.Core.Logic.{⊎_elim}
use Prim.Native.Nat.{ℕ, ◌^◌, ◌<◌}
use native.Mathlib.Omega.{arith}
use Rattle.vertex_set.specs.Set.{Within}
use Rattle.vertex_set.specs.Order.{Listed}
use Rattle.vertex_set.proofs.Lists.{exactly-unique, once-le, ordered-once}
use Rattle.vertex_set.proofs.Places.{ones-within}
use Rattle.vertex_set.proofs.Sets.{bounded-by-members}
use Rattle.vertex_set.proofs.Sorted.{before-one-way}
use Rattle.setup.specs.declared.Setup.{Setup}
use Rattle.formed.specs.WellFormed.{WellFormed}
use Rattle.bases.specs.Base.{MinimalSet}
use Rattle.bases.specs.Score.{points_at}
use Rattle.bases.proofs.Formed.{few}
use Rattle.forecasts.proofs.Bounds.{chosen-set, longest-base}
use Rattle.reference.proofs.Graphs.{own-graph, chosen-below}
use Rattle.reference.proofs.Bases.{minimal-within, own-base}
use Rattle.multisets.specs.Multisets.{Pairing}
use Rattle.multisets.proofs.Meaning.{transitive, same-turned}
use Rattle.multisets.proofs.Sets.{values-within, length_over}
use Rattle.multiset_scores.specs.Scores.{multiset_of, MultisetScore, FirstInScore, Covered, EachListed, BagsApart, AreBags, PlacesEach, NoLonger, LongestScore, ForecastEnough}
use Rattle.multiset_scores.proofs.Scores.{places-long}
use Rattle.multiset_scores.proofs.Computed.{score_of, score-of, front_of}

covered-minimal : (s : Setup) (target : ℕ) (l : List ℕ) → WellFormed s → MultisetScore s target l → (y : ℕ) → MinimalSet false s s.graph target y
    → (x : ℕ) × Listed l x × Pairing (multiset_of s x) (multiset_of s y)
covered-minimal s target l w h y m =
    let e = exactly-unique (FirstInScore s target) (score_of s target) l (score-of s target w) h in
    let c = (front_of s target w).cover y ((own-base false s target w).whole y m) in
    (c.0, subst (λ (k : List ℕ). Listed k c.0) e c.1, c.2)

pub covered : Covered
covered s target l w h y t =
    let z = minimal-within false s s.graph target w (own-graph s w) y t in
    let c = covered-minimal s target l w h z.0 z.2 in
    (c.0, c.1, transitive (multiset_of s c.0) (multiset_of s z.0) (multiset_of s y) c.2 (values-within (points_at false s) z.0 y z.1))

pub each-listed : EachListed
each-listed s target l w h x i =
    let c = covered s target l w h x i.is.is in
    (c.0, c.1, i.least c.0 (h.sound c.0 c.1).score.is c.2)

pub apart : BagsApart
apart s target l h x y i j p =
    let fx = h.sound x i in
    let fy = h.sound y j in
    let same = fy.score.least x fx.score.is p in
    ⊎_elim (λ e. sym e)
    (λ b. ⊎_elim (λ e. e) (λ a. absurd (before-one-way x y a b)) (fx.first y fy.score.is (same-turned (multiset_of s x) (multiset_of s y) same)))
    (fy.first x fx.score.is same)

pub are-bags : AreBags
are-bags s target x w m =
    let c = chosen-set false s w in
    let k = few false s c.0 w c.1 in
    let i : Within x c.0 = record { each = λ v h. (c.1.each v).from (m.is.chosen v h) } in
    let o = ones-within x c.0 i in
    let word : x < 2 ^ 64 = bounded-by-members 64 x (λ v h. let b = chosen-below false s w v (m.is.chosen v h) in omega (arith, w.most)) in
    let e = length_over (points_at false s) x word in
    omega arith

pub places-each : PlacesEach
places-each s target l w h = places-long s l (λ x i. are-bags s target x w (h.sound x i).score.is)

pub no_longer : NoLonger
no_longer s target l base h b = once-le l base (ordered-once l h.ordered) (λ x i. b.whole x (h.sound x i).score.is)

pub longest-score : LongestScore
longest-score s target l w h =
    let b = own-base false s target w in
    let n = no_longer s target l _ h b in
    let m = longest-base false s s.graph target _ w b in
    omega arith

pub forecast-enough : ForecastEnough
forecast-enough s target counted n l w h f =
    let b = own-base false s target w in
    let k = no_longer s target l _ h b in
    let m = f.enough _ b in
    omega arith
