-- The multisets, with room for them and without.
-- Assumes nothing.
use mathlib.Core.Path.{◌≡◌, subst, ◌∙◌}
use mathlib.Core.Bool.{false}
use mathlib.Core.List.{List, [], ◌∷◌, map}
use mathlib.Core.Logic.{◌⊎◌, ⊎_elim}
use Prim.Native.Nat.{ℕ, ◌*◌, ◌^◌, ◌≤◌, ◌<◌}
use native.Mathlib.Omega.{arith}
use lib.Count.{ones}
use lib.ListN.{length, get_or, take, length-map}
use lib.Seq.{length-take-le}
use Rattle.vertex_set.proofs.Lists.{listed_at}
use Rattle.setup.specs.declared.Setup.{Setup}
use Rattle.setup.specs.Calls.{written}
use Rattle.bases.specs.Inner.Readers.{Values}
use Rattle.bases.specs.Score.{points_at}
use Rattle.multisets.proofs.Sets.{length_over}
use Rattle.written.specs.Inner.{Wrote}
use Rattle.multiset_rows.specs.Inner.{rows_of, RowsHaveRoom}
use Rattle.written.proofs.Writing.{wrote-front}
use Rattle.multiset_rows.proofs.Writing.{rows_long}
use Rattle.questions.specs.Contract.{gives, ends, turns_away, Answers}
use Rattle.questions.proofs.Contract.{given, no_room}
use Rattle.multiset_scores.specs.Scores.{multiset_of, all_places, all_lengths}
use Rattle.multiset_scores.specs.Answers.{bags_call}
use Rattle.multiset_scores.specs.Inner.{ScoreFound}
use Rattle.multiset_scores.proofs.Scores.{rows-places, places-long, ones-lengths}

module _ (s : Setup) (target : ℕ) (places lengths : List ℕ) where
  module _ (kept : List ℕ) (n : ℕ) (f : ScoreFound s target kept n) where
    inside-kept : n ≤ length kept
    inside-kept = let e = f.long in let m = f.most in omega arith

    pub count : length (take n kept) ≡ n
    count = length-take-le n kept inside-kept

    -- the lengths of what is written
    all-long : length (all_places s (take n kept)) ≡ 14 * n
    all-long =
        let e = places-long s (take n kept) (λ x i. let o = length_over (points_at false s) x (f.few x i).0 in let k = (f.few x i).1 in omega arith) in
        let c = count in
        omega arith

    lengths-long : length (all_lengths s (take n kept)) ≡ n
    lengths-long = length-map (take n kept) (λ (x : ℕ). length (multiset_of s x)) ∙ count

    -- one of the lists is too short
    pub bags-short : (length places < 14 * n) ⊎ (length lengths < n) → Answers (bags_call s target places lengths) (turns_away (places ∷ lengths ∷ []) 15)
    bags-short h =
        no_room (bags_call s target places lengths) (take n kept) f.score
        (λ k. let p = all-long in let q = lengths-long in let i = k.0 in let j = k.1.0 in ⊎_elim (λ l. omega arith) (λ l. omega arith) h)

    pub rows_fit : 14 * n ≤ length places → RowsHaveRoom (take n kept) places
    rows_fit h = let c = count in record { few = λ i l. (f.few (get_or (take n kept) i 0) (listed_at (take n kept) i l)).1; room = omega arith }

    module _ (points : List ℕ) (p : Values false s points) (places' : List ℕ) (r : ℕ) (a : Wrote places 0 (rows_of (λ (v : ℕ). get_or points v 0) (take n kept)) places' r)
        (lengths' : List ℕ) (q : ℕ) (b : Wrote lengths 0 (map ones (take n kept)) lengths' q) (h : 14 * n ≤ length places) (k : n ≤ length lengths) where
      inside : (i : ℕ) → i < length (take n kept) → (get_or (take n kept) i 0 < 2 ^ 64) × (ones (get_or (take n kept) i 0) ≤ 14)
      inside i l = f.few (get_or (take n kept) i 0) (listed_at (take n kept) i l)

      rows : places' ≡ written (all_places s (take n kept)) places
      rows =
          let e = rows_long (λ (v : ℕ). get_or points v 0) (take n kept) inside in
          let c = count in
          subst (λ (l : List ℕ). places' ≡ written l places) (rows-places s points p (take n kept))
          (wrote-front places (rows_of (λ (v : ℕ). get_or points v 0) (take n kept)) places' r (omega arith) a)

      numbers : lengths' ≡ written (all_lengths s (take n kept)) lengths
      numbers =
          let e = length-map (take n kept) ones in
          let c = count in
          subst (λ (l : List ℕ). lengths' ≡ written l lengths) (ones-lengths s (take n kept) (λ x m. (f.few x m).0))
          (wrote-front lengths (map ones (take n kept)) lengths' q (omega arith) b)

      -- there is room in both
      pub bags-room : Answers (bags_call s target places lengths) (ends (gives (q ∷ [])) (places' ∷ lengths' ∷ []))
      bags-room =
          let c = count in
          let m = length-map (take n kept) ones in
          let e : q ≡ length (take n kept) = b.next ∙ omega arith in
          given (bags_call s target places lengths) (take n kept) f.score (let z = all-long in omega arith, (let z = lengths-long in omega arith, tt))
          (ends (gives (q ∷ [])) (places' ∷ lengths' ∷ [])) (λ i. ends (gives (e i ∷ [])) (rows i ∷ numbers i ∷ []))
