-- A block of which one vertex's part is written anew.
-- Assumes nothing.
use mathlib.Core.Path.{◌≡◌, refl, sym, ap, ◌∙◌, subst}
use mathlib.Core.Bool.{Bool}
use mathlib.Core.List.{List, ◌++◌}
use mathlib.Core.Logic.{◌⊎◌, inl, inr, ⊎_elim}
use Prim.Native.Nat.{ℕ, ◌+◌, ◌-◌, ◌*◌, ◌≤◌, ◌<◌}
use native.Mathlib.Omega.{arith}
use lib.ListN.{length, get_or, take, drop, length-append, length-drop, take-append-drop, get_or-append}
use lib.Seq.{length-take-le, get_or-append-add, get_or-take, get_or-drop}
use borrow.Rule.Slice.PartMut.{put_mid, put_same}
use Rattle.vertex_set.specs.Set.{Member, Iff}
use Rattle.vertex_set.proofs.Cases.{same_or, less-or}
use Rattle.vertex_set.proofs.Decisions.{iff-trans}
use Rattle.setup.specs.declared.Rows.{Rows}
use Rattle.derivations.specs.Inner.Admits.{Admits}
use Rattle.family_words.specs.Inner.Words.{At, PartWhere, room, Joined}
use Rattle.family_words.proofs.Joins.{room-append}
use Rattle.lanes.specs.Inner.Lanes.{Lane}
use Rattle.lanes.proofs.Scans.{part-lane}
use Rattle.tables.specs.Inner.Steps.{Stepped}

-- ---- any part of a list

module _ (w d : List ℕ) (at k : ℕ) (fit : at + k ≤ length w) (hd : length d ≡ k) where
  front : length (take at w) ≡ at
  front = length-take-le at w (omega arith)

  pub put-length : length (put_mid at k w d) ≡ length w
  put-length =
      let a = front in
      let e = length-append (take at w) (d ++ drop k (drop at w)) in
      let f = length-append d (drop k (drop at w)) in
      let g = length-drop k (drop at w) in
      let h = length-drop at w in
      omega arith

  pub put-own : (b : ℕ) → b < k → get_or (put_mid at k w d) (at + b) 0 ≡ get_or d b 0
  put-own b hb =
      subst (λ (n : ℕ). get_or (put_mid at k w d) (n + b) 0 ≡ get_or d b 0) front
      (get_or-append-add (take at w) (d ++ drop k (drop at w)) b 0 ∙ get_or-append d (drop k (drop at w)) 0 b (omega arith))

  -- a place before the part
  put-before : (n : ℕ) → n < at → get_or (put_mid at k w d) n 0 ≡ get_or w n 0
  put-before n l = get_or-append (take at w) (d ++ drop k (drop at w)) 0 n (let a = front in omega arith) ∙ get_or-take at w n 0 l

  -- a place behind it
  put-behind : (j : ℕ) → get_or (put_mid at k w d) (at + (k + j)) 0 ≡ get_or w (at + (k + j)) 0
  put-behind j =
      subst (λ (n : ℕ). get_or (put_mid at k w d) (n + (k + j)) 0 ≡ get_or w (at + (k + j)) 0) front
      (get_or-append-add (take at w) (d ++ drop k (drop at w)) (k + j) 0
      ∙ subst (λ (n : ℕ). get_or (d ++ drop k (drop at w)) (n + j) 0 ≡ get_or w (at + (k + j)) 0) hd
      (get_or-append-add d (drop k (drop at w)) j 0 ∙ get_or-drop k (drop at w) j 0 ∙ get_or-drop at w (k + j) 0))

  pub put_other : (n : ℕ) → (n < at) ⊎ (at + k ≤ n) → get_or (put_mid at k w d) n 0 ≡ get_or w n 0
  put_other n =
      ⊎_elim (put-before n)
      (λ l. let e : at + (k + (n - (at + k))) ≡ n = omega arith in
      subst (λ (x : ℕ). get_or (put_mid at k w d) x 0 ≡ get_or w x 0) e (put-behind (n - (at + k))))

-- ---- the part of a vertex in a block

module _ (w d : List ℕ) (v : ℕ) (hw : length w ≡ 1024) (hv : v < 64) (hd : length d ≡ 16) where
  fit : v * 16 + 16 ≤ length w
  fit = omega arith

  pub part_length : length (put_mid (v * 16) 16 w d) ≡ 1024
  part_length = put-length w d (v * 16) 16 fit hd ∙ hw

  pub lane-put : (b i : ℕ) → b < 16 → Iff (Lane (put_mid (v * 16) 16 w d) b i v) (At d b i)
  unfolding Lane At
  lane-put b i hb =
      let e = put-own w d (v * 16) 16 fit hd b hb in record { to = subst (λ (x : ℕ). Member x i) e; from = subst (λ (x : ℕ). Member x i) (sym e) }

  pub lane-kept : (b i u : ℕ) → b < 16 → (u ≡ v → ⊥) → Iff (Lane (put_mid (v * 16) 16 w d) b i u) (Lane w b i u)
  unfolding Lane
  lane-kept b i u hb n =
      let e = put_other w d (v * 16) 16 fit hd (u * 16 + b) (⊎_elim (λ l. inl (omega arith)) (λ l. inr (omega (arith, n))) (less-or u v)) in record { to = subst (λ (x : ℕ). Member x i) e; from = subst (λ (x : ℕ). Member x i) (sym e) }

  pub put-room : room (put_mid (v * 16) 16 w d) + room (take 16 (drop (v * 16) w)) ≡ room w + room d
  put-room =
      let a = room-append (take (v * 16) w) (d ++ drop 16 (drop (v * 16) w)) in
      let b = room-append d (drop 16 (drop (v * 16) w)) in
      let p = ap room (take-append-drop (v * 16) w) in
      let q = room-append (take (v * 16) w) (drop (v * 16) w) in
      let r = ap room (take-append-drop 16 (drop (v * 16) w)) in
      let s = room-append (take 16 (drop (v * 16) w)) (drop 16 (drop (v * 16) w)) in
      omega arith

module _ (loss : Bool) (rows : Rows) (v : ℕ) (w gains part d : List ℕ) (r : Bool) (hw : length w ≡ 1024) (hv : v < 64) where
  abbrev Grown : ℕ → ℕ → ℕ → Type 0
  Grown b i u = Iff (Lane (put_mid (v * 16) 16 w d) b i u) (Lane w b i u ⊎ ((u ≡ v) × Admits loss rows (Lane w b i)))

  module _ (e : part ≡ take 16 (drop (v * 16) w)) (g : PartWhere (λ b i. Admits loss rows (Lane w b i)) gains) (j : Joined part gains r d) where
    own : (b i : ℕ) → b < 16 → i < 64 → Grown b i v
    own b i hb hi =
        let p = part-lane w v part b i hb e in
        let a = g.each b i hb hi in
        iff-trans (lane-put w d v hw hv j.family.words b i hb) (iff-trans (j.family.each b i hb hi) (record {
          to = ⊎_elim (λ x. inl (p.to x)) (λ x. inr (refl, a.to x));
          from = ⊎_elim (λ x. inl (p.from x)) (λ x. inr (a.from x.1));
        }))

    other : (b i u : ℕ) → b < 16 → (u ≡ v → ⊥) → Grown b i u
    other b i u hb n =
        iff-trans (lane-kept w d v hw hv j.family.words b i u hb n)
        (record { to = λ x. inl x; from = ⊎_elim (λ x. x) (λ x. absurd (n x.0)) })

    stepped : Stepped loss rows v w r (put_mid (v * 16) 16 w d)
    stepped =
        record {
          words = part_length w d v hw hv j.family.words;
          each = λ b i u hb hi. ⊎_elim (λ q. subst (Grown b i) (sym q) (own b i hb hi)) (λ n. other b i u hb n) (same_or u v);
          same = λ q. ap (put_mid (v * 16) 16 w) (j.same q ∙ e) ∙ put_same (v * 16) 16 w;
          more = λ q. let m = j.more q in let p = put-room w d v hw hv j.family.words in let s = ap room e in omega arith;
        }

-- the part of v as the program cuts it out
pub stepped-in : (loss : Bool) (rows : Rows) (v k : ℕ) (w gains d : List ℕ) (r : Bool) → length w ≡ 1024 → v < 64 → k ≡ 16
    → PartWhere (λ b i. Admits loss rows (Lane w b i)) gains → Joined (take k (drop (v * 16) w)) gains r d → Stepped loss rows v w r (put_mid (v * 16) k w d)
stepped-in loss rows v k w gains d r hw hv hk g j =
    subst (λ (n : ℕ). Stepped loss rows v w r (put_mid (v * 16) n w d)) (sym hk)
    (stepped loss rows v w gains (take k (drop (v * 16) w)) d r hw hv (ap (λ (n : ℕ). take n (drop (v * 16) w)) hk) g j)
