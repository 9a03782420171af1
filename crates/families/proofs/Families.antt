-- Laws of families: their words, and the number of their members.
-- Assumes nothing.
use mathlib.Core.Path.{◌≡◌, refl, sym, subst, ◌∙◌}
use mathlib.Core.Logic.{◌⊎◌, ⊎_elim}
use mathlib.Core.List.{List}
use Prim.Native.Nat.{ℕ, ◌+◌, ◌-◌, ◌*◌, ◌/◌, ◌%◌, ◌^◌, ◌≤◌, ◌<◌}
use native.Mathlib.Numerals.{add-one}
use native.Mathlib.Omega.{arith}
use lib.ListN.{length, get_or, drop, set, length-set, get_or-eq_default}
use lib.Seq.{drop-cons, drop-length, get_or-set_same, get_or-set_other}
use lib.Pow.{pow-add}
use lib.Count.{ones}
use Rattle.vertex_set.specs.Set.{Member, Iff}
use Rattle.vertex_set.proofs.Cases.{less-or, same_or}
use Rattle.vertex_set.proofs.Decisions.{iff-refl}
use Rattle.vertex_set.proofs.Filling.{fill_more}
use Rattle.vertex_set.proofs.Sets.{none-in-zero, member-or, member_below}
use Rattle.vertex_set.proofs.Places.{member-le}
use Rattle.vertex_set.proofs.Shifts.{in-low, in-high}
use Rattle.vertex_set.proofs.Subsets.{proper-lacks, within-removed, removed-proper, proper-less}
use Rattle.families.specs.Inner.Family.{In, size, Monotone, Minimal, Least, MinimalMembers, LeastBelow}
use Rattle.families.specs.Inner.Steps.{StepInWord, LeastLane, LeastWord, ClearedFrom}

-- ---- one mask

pub in-or : (f : List ℕ) (m : ℕ) → In f m ⊎ (In f m → ⊥)
unfolding In
in-or f m = member-or (get_or f (m / 64) 0) (m % 64)

-- past the last word there is nothing
pub none-beyond : (f : List ℕ) (m : ℕ) → length f ≤ m / 64 → In f m → ⊥
unfolding In
none-beyond f m h i = none-in-zero (m % 64) (subst (λ (w : ℕ). Member w (m % 64)) (get_or-eq_default f 0 h) i)

-- ---- the number of members

pub size-drop : (f : List ℕ) (b : ℕ) → b < length f → size (drop b f) ≡ ones (get_or f b 0) + size (drop (b + 1) f)
size-drop f b h = rw (add-one, drop-cons f b 0 h)

pub size-end : (f : List ℕ) (b : ℕ) → b ≡ length f → size (drop b f) ≡ 0
size-end f b e = rw (e, drop-length f)

-- ---- minimal members

-- a bit below 6 is one of the lane's number, any other one of the word's
low_bit : (m j : ℕ) → j < 6 → Member m j → Member (m % 64) j
low_bit m j h k = (in-low 6 j m h).from k

step-low : (f : List ℕ) (m j : ℕ) → Member (m % 64) j → Iff (In f (m - 2 ^ j)) (Member (get_or f (m / 64) 0) (m % 64 - 2 ^ j))
unfolding In
step-low f m j r =
    let le = member-le j (m % 64) r in
    let e : (m - 2 ^ j) / 64 ≡ m / 64 = omega arith in
    let g : (m - 2 ^ j) % 64 ≡ m % 64 - 2 ^ j = omega arith in
    rw (e, g) iff-refl

step-high : (f : List ℕ) (m d : ℕ) → Member (m / 64) d → Iff (In f (m - 2 ^ (6 + d))) (Member (get_or f (m / 64 - 2 ^ d) 0) (m % 64))
unfolding In
step-high f m d r =
    let le = member-le d (m / 64) r in
    let p = pow-add 2 6 d in
    let e : (m - 2 ^ (6 + d)) / 64 ≡ m / 64 - 2 ^ d = omega arith in
    let g : (m - 2 ^ (6 + d)) % 64 ≡ m % 64 = omega arith in
    rw (e, g) iff-refl

-- what is least in the lanes of words is least by masks
lane-least : (f : List ℕ) (m : ℕ) → m < 16384 → LeastLane f (m / 64) (m % 64) → Least f m
unfolding In
lane-least f m b l = record { is = l.is; none = none }
  where
    high : (d j : ℕ) → j ≡ 6 + d → Member m j → In f (m - 2 ^ j) → ⊥
    high d j q k i =
        let r : Member (m / 64) d = (in-high 6 d m).from (rw q at k) in
        l.high (d, member_below 8 (m / 64) d (omega arith) r, r, (step-high f m d r).to (subst (λ (j : ℕ). In f (m - 2 ^ j)) q i))

    none : (j : ℕ) → Member m j → In f (m - 2 ^ j) → ⊥
    none j k i =
        ⊎_elim (λ h. let r = low_bit m j h k in l.low (j, r, (step-low f m j r).to i)) (λ h. high (j - 6) j (omega arith) k i) (less-or j 6)

least-lane : (f : List ℕ) (m : ℕ) → Least f m → LeastLane f (m / 64) (m % 64)
unfolding In
least-lane f m l =
    record {
      is = l.is;
      low = λ s. l.none s.0 ((in-low 6 s.0 m (member_below 6 (m % 64) s.0 (omega arith) s.1)).to s.1) ((step-low f m s.0 s.1).from s.2);
      high = λ s. l.none (6 + s.0) ((in-high 6 s.0 m).to s.2) ((step-high f m s.0 s.2).from s.3);
    }

-- in a monotone family one step down is enough
pub least-minimal : (f : List ℕ) (m : ℕ) → Monotone f → m < 16384 → Least f m → Minimal f m
least-minimal f m mono h l =
    record {
      is = l.is;
      none = λ k p i.
          let w = proper-lacks k m (omega arith) p in
          let le = proper-less k m p in
          l.none w.0 w.1 (mono.up k (m - 2 ^ w.0) (omega arith) (omega arith) (within-removed k m w.0 p.within w.1 w.2) i);
    }

pub minimal-least : (f : List ℕ) (m : ℕ) → Minimal f m → Least f m
minimal-least f m l = record { is = l.is; none = λ j k i. l.none (m - 2 ^ j) (removed-proper m j k) i }

-- a word that has no least lane
least-none : (f : List ℕ) (n b : ℕ) → LeastBelow n f → n ≤ b → b < 256 → LeastWord f b 0
least-none f n b l h k =
    record {
      each = λ i hi. record {
        to = λ m. absurd (none-in-zero i m);
        from = λ q.
            let e : b ≡ (b * 64 + i) / 64 = omega arith in
            let g : i ≡ (b * 64 + i) % 64 = omega arith in
            let r = subst (λ (x : ℕ). LeastLane f x ((b * 64 + i) % 64)) e (subst (LeastLane f b) g q) in
            let z = l.below (b * 64 + i) (omega arith) (lane-least f (b * 64 + i) (omega arith) r) in
            absurd (omega arith);
      };
    }

-- the words below b have their least lanes; those from n on are 0
pub record LeastTo (f : List ℕ) (n b : ℕ) (g : List ℕ) : Type 0 where
  pub place : b ≤ n
  pub words : length g ≡ 256
  pub done : (k : ℕ) → k < b → LeastWord f k (get_or g k 0)
  pub rest : (k : ℕ) → n ≤ k → k < 256 → get_or g k 0 ≡ 0

module _ (f : List ℕ) (n : ℕ) (l : LeastBelow n f) where
  pub least-to-none : (g : List ℕ) → ClearedFrom n g → LeastTo f n 0 g
  least-to-none g c = record { place = omega arith; words = c.words; done = λ k h. absurd (omega arith); rest = c.each }

  pub least-to-more : (b r : ℕ) (g : List ℕ) → b < n → LeastTo f n b g → LeastWord f b r → LeastTo f n (b + 1) (set g b r)
  least-to-more b r g h t w =
      record {
        place = omega arith;
        words = length-set g b r ∙ t.words;
        done = fill_more 0 (LeastWord f) g b r (let e = t.words in let p = l.place in omega arith) t.done w;
        rest = λ k a o. get_or-set_other g b k r 0 (omega arith) ∙ t.rest k a o;
      }

  -- so every word has its least lanes
  pub least-to-all : (b : ℕ) (g : List ℕ) → n ≤ b → LeastTo f n b g → (k : ℕ) → k < 256 → LeastWord f k (get_or g k 0)
  least-to-all b g h t k o =
      ⊎_elim (λ a. t.done k (omega arith)) (λ a. rw (t.rest k a o) (least-none f n k l a o)) (less-or k n)

pub minimal-members : (f g : List ℕ) → ((b : ℕ) → b < 256 → LeastWord f b (get_or g b 0)) → MinimalMembers f g
unfolding In
minimal-members f g w =
    let each : (m : ℕ) → m < 16384 → Iff (In g m) (Least f m) = λ m h.
    let l = (w (m / 64) (omega arith)).each (m % 64) (omega arith) in
    record { to = λ i. lane-least f m h (l.to i); from = λ q. l.from (least-lane f m q) } in
    record {
      least = each;
      minimal = λ mono m h. record {
        to = λ i. least-minimal f m mono h ((each m h).to i);
        from = λ q. (each m h).from (minimal-least f m q);
      };
    }

-- ---- minimal members in place, from the last word down

-- Word b is judged by words of numbers up to b alone.
least-lane-same : (f g : List ℕ) (b i : ℕ) → ((k : ℕ) → k ≤ b → get_or g k 0 ≡ get_or f k 0) → LeastLane g b i → LeastLane f b i
least-lane-same f g b i e l =
    let own = e b (omega arith) in
    record {
      is = subst (λ (x : ℕ). Member x i) own l.is;
      low = λ s. l.low (subst (λ (x : ℕ). StepInWord x i) (sym own) s);
      high = λ s. l.high (s.0, s.1, s.2, subst (λ (x : ℕ). Member x i) (sym (e (b - 2 ^ s.0) (omega arith))) s.3);
    }

least-word-same : (f g : List ℕ) (b r : ℕ) → ((k : ℕ) → k ≤ b → get_or g k 0 ≡ get_or f k 0) → LeastWord g b r → LeastWord f b r
least-word-same f g b r e l =
    record {
      each = λ i h. record {
        to = λ m. least-lane-same f g b i e ((l.each i h).to m);
        from = λ m. (l.each i h).from (least-lane-same g f b i (λ k j. sym (e k j)) m);
      };
    }

-- The words from b on have their least lanes, and those before are still the family's.
pub record KeptFrom (f : List ℕ) (b : ℕ) (g : List ℕ) : Type 0 where
  pub done : (k : ℕ) → b ≤ k → k < 256 → LeastWord f k (get_or g k 0)
  pub left : (k : ℕ) → k < b → get_or g k 0 ≡ get_or f k 0

pub kept-none : (f : List ℕ) → KeptFrom f 256 f
kept-none f = record { done = λ k h l. absurd (omega arith); left = λ k l. refl }

-- the word below b is written
pub kept_more : (f g : List ℕ) (b r : ℕ) → (b ≡ 0 → ⊥) → b ≤ length g → KeptFrom f b g → LeastWord g (b - 1) r → KeptFrom f (b - 1) (set g (b - 1) r)
kept_more f g b r ne h p l =
    record {
      done = λ k at lt. ⊎_elim
          (λ e. subst (λ (j : ℕ). LeastWord f j (get_or (set g (b - 1) r) j 0)) (sym e) (rw (get_or-set_same g (b - 1) r 0 (omega (arith, ne)))
          (least-word-same f g (b - 1) r (λ j q. p.left j (omega (arith, ne))) l)))
          (λ n. rw (get_or-set_other g (b - 1) k r 0 n) (p.done k (omega (arith, n)) lt)) (same_or k (b - 1));
      left = λ k lt. get_or-set_other g (b - 1) k r 0 (omega arith) ∙ p.left k (omega arith);
    }
