-- From one member of a family to the next: the lanes of a word that come into question, the first member of a size, the first after a mask.
-- Assumes nothing.
use mathlib.Core.Path.{◌≡◌, refl, sym, subst}
use Rattle.std.specs.Prelude.{Option, None, Some}
use mathlib.Core.Logic.{◌⊎◌, inl, inr, ⊎_elim}
use mathlib.Core.List.{List}
use Prim.Native.Nat.{ℕ, ◌+◌, ◌-◌, ◌*◌, ◌/◌, ◌%◌, ◌^◌, ◌≤◌, ◌<◌}
use native.Mathlib.Omega.{arith}
use lib.Bits.{bit_and}
use lib.Count.{ones, ones-le}
use lib.ListN.{length, get_or, take}
use Rattle.vertex_set.specs.Set.{Member, Below, Iff}
use Rattle.vertex_set.specs.Order.{Before}
use Rattle.vertex_set.proofs.Cases.{less-or, same_or}
use Rattle.vertex_set.proofs.Digits.{digit_ones}
use Rattle.vertex_set.proofs.Sets.{in_and, in-not, none-in-zero}
use Rattle.successors.specs.Inner.{LowestOf}
use Rattle.families.specs.Inner.Family.{In, masks}
use Rattle.family_lists.specs.Inner.Tables.{LanesOfSize}
use Rattle.family_lists.proofs.SetLists.{front_whole}
use Rattle.family_steps.specs.Inner.{LanesFrom, FirstOfSize, NextMember}

-- ---- the lanes from a mask on

pub all_lanes : (b from : ℕ) → from ≤ b * 64 → LanesFrom b from (2 ^ 64 - 1)
unfolding Member
all_lanes b from h = record { each = λ i l. record { to = λ m. omega arith; from = λ k. digit_ones 64 i l } }

pub later-lanes : (b from low : ℕ) → b * 64 < from → low < 2 ^ 64 → Below (from - b * 64) low → LanesFrom b from ((2 ^ 64 - 1) - low)
later-lanes b from low h fits e =
    record {
      each = λ i l.
          let n = in-not low i fits l in
          record {
            to = λ m. ⊎_elim (λ k. absurd (n.to m ((e.each i).from (omega arith, l)))) (λ k. k) (less-or (b * 64 + i) from);
            from = λ k. n.from (λ m. let q = ((e.each i).to m).0 in omega arith);
          };
    }

-- ---- the first member of a size

-- No member of s bits that is `from` or above it is in a word before b.
pub record NoneBefore (f : List ℕ) (s from b : ℕ) : Type 0 where
  pub none : (k : ℕ) → k < b * 64 → In f k → ones k ≡ s → from ≤ k → ⊥

pub none_yet : (f : List ℕ) (s from : ℕ) → NoneBefore f s from (from / 64)
none_yet f s from = record { none = λ k l i e h. omega arith }

module _ (f : List ℕ) (s from b sized later : ℕ) (z : LanesOfSize b s sized) (t : LanesFrom b from later) where
  -- The lanes of word b that come into question.
  abbrev asked : ℕ
  asked = bit_and (bit_and (get_or f b 0) sized) later

  -- they are those of the members that do
  lane-asked : (k : ℕ) → k / 64 ≡ b → In f k → ones k ≡ s → from ≤ k → Member asked (k % 64)
  unfolding In
  lane-asked k e i o h =
      let q : b * 64 + k % 64 ≡ k = omega arith in
      (in_and (bit_and (get_or f b 0) sized) later (k % 64)).from (
        (in_and (get_or f b 0) sized (k % 64)).from (
          subst (λ (w : ℕ). Member (get_or f w 0) (k % 64)) e i,
          (z.each (k % 64) (omega arith)).from (subst (λ (m : ℕ). ones m ≡ s) (sym q) o),
        ),
        (t.each (k % 64) (omega arith)).from (omega arith),
      )

  asked-lane : (i : ℕ) → i < 64 → Member asked i → In f (b * 64 + i) × (ones (b * 64 + i) ≡ s) × (from ≤ b * 64 + i)
  unfolding In
  asked-lane i l m =
      let p = (in_and (bit_and (get_or f b 0) sized) later i).to m in
      let q = (in_and (get_or f b 0) sized i).to p.0 in
      let w : (b * 64 + i) / 64 ≡ b = omega arith in
      let v : (b * 64 + i) % 64 ≡ i = omega arith in
      (rw (w, v) q.0, (z.each i l).to q.1, (t.each i l).to p.1)

  -- a word without such a lane is passed over
  pub none_more : asked ≡ 0 → NoneBefore f s from b → NoneBefore f s from (b + 1)
  none_more e n =
      record {
        none = λ k l i o h. ⊎_elim (λ g. n.none k g i o h)
            (λ g. none-in-zero (k % 64) (subst (λ (w : ℕ). Member w (k % 64)) e (lane-asked k (omega arith) i o h)))
            (less-or k (b * 64));
      }

  -- and in the first word that has one, the lowest is the first member
  pub first-here : b < 256 → (i : ℕ) → LowestOf asked i → NoneBefore f s from b → FirstOfSize f s from (Some (b * 64 + i))
  first-here small i w n =
      record {
        found = λ m e. let here = asked-lane i w.vertex.place w.vertex.member in let p = w.vertex.place in
            let same : m ≡ b * 64 + i = cc in rw same (omega arith, here.0, here.1, here.2);
        lowest = λ k l m o h. (
          b * 64 + i,
          refl,
          ⊎_elim (λ g. absurd (n.none k g m o h))
              (λ g. ⊎_elim (λ e. let q = w.lower (k % 64) (lane-asked k e m o h) in omega arith)
              (λ d. let p = w.vertex.place in omega (arith, d)) (same_or (k / 64) b))
              (less-or k (b * 64)),
        );
      }

pub none_at_all : (f : List ℕ) (s from b : ℕ) → 256 ≤ b → NoneBefore f s from b → FirstOfSize f s from None
none_at_all f s from b h n =
    record { found = λ m e. cc; lowest = λ k l m o q. absurd (n.none k (omega arith) m o q) }

-- ---- the first member after a mask

-- No member after m has fewer than s bits, and of those with s bits the ones after m are `from` or above it.
pub record Seeking (f : List ℕ) (m from s : ℕ) : Type 0 where
  pub size : ones m ≤ s
  pub none : (k : ℕ) → k < masks → In f k → Before m k → s ≤ ones k
  pub here : (k : ℕ) → ones k ≡ s → Iff (from ≤ k) (Before m k)

pub seeking-first : (f : List ℕ) (m : ℕ) → Seeking f m (m + 1) (ones m)
unfolding Before
seeking-first f m =
    record {
      size = omega arith;
      none = λ k l i b. ⊎_elim (λ g. omega arith) (λ g. let e = g.0 in omega arith) b;
      here = λ k e. record { to = λ h. inr (omega arith, omega arith); from = ⊎_elim (λ g. omega arith) (λ g. let q = g.1 in omega arith) };
    }

module _ (f : List ℕ) (m from s : ℕ) (r : Option ℕ) (g : Seeking f m from s) (o : FirstOfSize f s from r) where
  -- no member of s bits comes after m: one size on, any member does
  pub seeking-more : r ≡ None → Seeking f m 0 (s + 1)
  unfolding Before
  seeking-more h =
      record {
        size = let q = g.size in omega arith;
        none = λ k l i b. let q = g.none k l i b in
            ⊎_elim (λ e. let j = (o.lowest k l i e ((g.here k e).from b)).1 in cc) (λ d. omega (arith, d)) (same_or (ones k) s);
        here = λ k e. record { to = λ j. let q = g.size in inl (omega arith); from = λ b. omega arith };
      }

  -- else the first of them is the next
  pub seeking-found : (n : ℕ) → r ≡ Some n → NextMember f m r
  unfolding Before
  seeking-found n h =
      let w = o.found n h in
      record {
        found = λ k e. let v = o.found k e in (v.0, v.1, (g.here k v.2).to v.3);
        first = λ k l i b. (n, h, ⊎_elim (λ e. same k l i e ((g.here k e).from b)) (λ d. let q = g.none k l i b in let p = w.2 in inr (inl (omega (arith, d)))) (same_or (ones k) s));
      }
    where
      same : (k : ℕ) → k < masks → In f k → ones k ≡ s → from ≤ k → (n ≡ k) ⊎ Before n k
      same k l i e j =
          let q = o.lowest k l i e j in
          let is : q.0 ≡ n = let a = q.1 in cc in
          let le = q.2 in
          let p = (o.found n h).2 in
          ⊎_elim (λ z. inl z) (λ d. inr (inr (omega arith, omega (arith, d)))) (same_or n k)

-- no size is left
pub seeking-end : (f : List ℕ) (m from s : ℕ) → 15 ≤ s → Seeking f m from s → NextMember f m None
seeking-end f m from s h g =
    record {
      found = λ n e. cc;
      first = λ k l i b. absurd (let q = g.none k l i b in let p = ones-le 14 k (omega arith) in omega arith);
    }

-- a family's words taken from its front are the family
pub of_words : (w f : List ℕ) (m : ℕ) (r : Option ℕ) → w ≡ take 256 f → length f ≡ 256 → NextMember w m r → NextMember f m r
of_words w f m r e long h = subst (λ (l : List ℕ). NextMember l m r) (front_whole w f e long) h
