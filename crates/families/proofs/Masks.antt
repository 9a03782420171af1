-- Laws of masks: which set a mask stands for, which mask a set has, and that masks and sets agree on inclusion, size and order.
-- Assumes nothing.
use mathlib.Core.Path.{◌≡◌, refl, sym, ap, ◌∙◌, subst}
use mathlib.Core.Logic.{inl, inr, ⊎_elim}
use mathlib.Core.List.{List, [], ◌∷◌, map}
use Prim.Native.Nat.{ℕ, zero, suc, ◌+◌, ◌-◌, ◌*◌, ◌/◌, ◌%◌, ◌^◌, ◌≤◌, ◌<◌}
use native.Mathlib.Nat.{pow-suc, mul-le-mul_right}
use native.Mathlib.Numerals.{add-one}
use native.Mathlib.Omega.{arith}
use lib.Count.{ones, ones_step, count_trailing_zeros}
use lib.Pow.{pow_pos, pow_mono, shl_exact}
use Rattle.vertex_set.specs.Set.{Member, Within, ProperlyWithin, Iff}
use Rattle.vertex_set.specs.Order.{Before}
use Rattle.vertex_set.proofs.Cases.{same_or, less-or}
use Rattle.vertex_set.proofs.Digits.{digit, digit_lt, digit-first, digit-suc}
use Rattle.vertex_set.proofs.Sets.{member_below, none-in-zero, same_set, ones-zero, one_set}
use Rattle.vertex_set.proofs.Places.{in-first, in-later, places, places-odd, places-even, places-none, lowest}
use Rattle.vertex_set.proofs.Shifts.{low_first, low_half}
use Rattle.families.specs.Inner.Masks.{place_among, Picked, SetOfMask, MaskOf}

-- ---- ranks, by halves

pub place-zero : (c : ℕ) → place_among c 0 ≡ 0
unfolding place_among ones
place-zero c = let e : c % 1 ≡ 0 = omega arith in rw e

pub place-suc : (c v : ℕ) → place_among c (suc v) ≡ c % 2 + place_among (c / 2) v
unfolding place_among
place-suc c v = ones_step (c % 2 ^ suc v) ∙ rw (low_first c v, low_half c v)

place-even : (c v : ℕ) → c % 2 ≡ 0 → place_among c (suc v) ≡ place_among (c / 2) v
place-even c v e = let r = place-suc c v in omega arith

place-odd : (c v : ℕ) → c % 2 ≡ 1 → place_among c (suc v) ≡ suc (place_among (c / 2) v)
place-odd c v e = let r = place-suc c v in omega arith

-- ---- the set of a mask

abbrev either : ℕ → ℕ → ℕ → ℕ
either zero a b = a
either (suc d) a b = b

-- The set that the mask m stands for, with the chosen vertices c below k.
unfoldable pub spread : ℕ → ℕ → ℕ → ℕ
spread zero c m = 0
spread (suc k) c m = either (c % 2) (2 * spread k (c / 2) m) (m % 2 + 2 * spread k (c / 2) (m / 2))

pub spread-even : (k c m : ℕ) → c % 2 ≡ 0 → spread (suc k) c m ≡ 2 * spread k (c / 2) m
unfolding spread
spread-even k c m e = rw e

pub spread-odd : (k c m : ℕ) → c % 2 ≡ 1 → spread (suc k) c m ≡ m % 2 + 2 * spread k (c / 2) (m / 2)
unfolding spread
spread-odd k c m e = rw e

-- what holds of even and odd numbers holds of all
pub by-parity : {P : Type 0} (c : ℕ) → (c % 2 ≡ 0 → P) → (c % 2 ≡ 1 → P) → P
by-parity c even odd = ⊎_elim odd (λ n. even (omega arith)) (same_or (c % 2) 1)

picked-zero : (c m : ℕ) → Iff (Picked c m 0) ((c % 2 ≡ 1) × (m % 2 ≡ 1))
unfolding Picked
picked-zero c m =
    rw (place-zero c)
    (record { to = λ p. ((in-first c).to p.0, (in-first m).to p.1); from = λ p. ((in-first c).from p.0, (in-first m).from p.1) })

picked-even : (c m v : ℕ) → c % 2 ≡ 0 → Iff (Picked c m (suc v)) (Picked (c / 2) m v)
unfolding Picked
picked-even c m v e =
    rw (place-even c v e)
    (record { to = λ p. ((in-later c v).to p.0, p.1); from = λ p. ((in-later c v).from p.0, p.1) })

picked-odd : (c m v : ℕ) → c % 2 ≡ 1 → Iff (Picked c m (suc v)) (Picked (c / 2) (m / 2) v)
unfolding Picked
picked-odd c m v e =
    let l = in-later m (place_among (c / 2) v) in
    rw (place-odd c v e)
    (record { to = λ p. ((in-later c v).to p.0, l.to p.1); from = λ p. ((in-later c v).from p.0, l.from p.1) })

pub in-spread : (k c m v : ℕ) → c < 2 ^ k → Iff (Member (spread k c m) v) (Picked c m v)
unfolding spread Picked
in-spread zero c m v h =
    let e : c ≡ 0 = omega arith in
    record { to = λ i. absurd (none-in-zero v i); from = λ p. absurd (none-in-zero v (rw e at p.0)) }
in-spread (suc k) c m zero h =
    let p = picked-zero c m in
    let f = in-first (spread (suc k) c m) in
    by-parity c
    (λ even. let s = spread-even k c m even in
    record { to = λ i. let e = f.to i in absurd (omega arith); from = λ q. let e = (p.to q).0 in absurd (omega arith) })
    (λ odd. let s = spread-odd k c m odd in
    record { to = λ i. let e = f.to i in p.from (odd, omega arith); from = λ q. let e = (p.to q).1 in f.from (omega arith) })
in-spread (suc k) c m (suc v) h =
    let l = in-later (spread (suc k) c m) v in
    let pw = pow-suc 2 k in
    let hc : c / 2 < 2 ^ k = omega arith in
    by-parity c
    (λ even.
    let s = spread-even k c m even in
    let e : spread (suc k) c m / 2 ≡ spread k (c / 2) m = omega arith in
    let ih = in-spread k (c / 2) m v hc in
    let p = picked-even c m v even in
    record { to = λ i. p.from (ih.to (rw e at (l.to i))); from = λ q. l.from (rw e (ih.from (p.to q))) })
    (λ odd.
    let s = spread-odd k c m odd in
    let e : spread (suc k) c m / 2 ≡ spread k (c / 2) (m / 2) = omega arith in
    let ih = in-spread k (c / 2) (m / 2) v hc in
    let p = picked-odd c m v odd in
    record { to = λ i. p.from (ih.to (rw e at (l.to i))); from = λ q. l.from (rw e (ih.from (p.to q))) })

-- Every mask stands for a set, and for one only.
pub set-of : (c m : ℕ) → c < 2 ^ 64 → SetOfMask c m (spread 64 c m)
set-of c m h = record { each = λ v. in-spread 64 c m v h }

pub set-unique : (c m x y : ℕ) → SetOfMask c m x → SetOfMask c m y → x ≡ y
set-unique c m x y p q = one_set (Picked c m) x y p.each q.each

pub set_is : (c m x : ℕ) → c < 2 ^ 64 → SetOfMask c m x → x ≡ spread 64 c m
set_is c m x h p = set-unique c m x (spread 64 c m) p (set-of c m h)

-- It is a set of chosen vertices.
pub set-within : (c m x : ℕ) → SetOfMask c m x → Within x c
unfolding Picked
set-within c m x p = record { each = λ v i. ((p.each v).to i).0 }

-- ---- inclusion

-- A submask stands for a subset.
pub submask-subset : (c k m x y : ℕ) → SetOfMask c k x → SetOfMask c m y → Within k m → Within x y
unfolding Picked
submask-subset c k m x y p q w =
    record { each = λ v i. let r = (p.each v).to i in (q.each v).from (r.0, w.each (place_among c v) r.1) }

-- Every number below the number of chosen vertices is that of a chosen vertex.
pub placed : (k c j : ℕ) → c < 2 ^ k → j < ones c → (v : ℕ) × Member c v × (place_among c v ≡ j)
placed zero c j h l = let e : c ≡ 0 = omega arith in absurd (omega (arith, ap ones e, ones-zero))
placed (suc k) c zero h l =
    by-parity c
    (λ even.
    let pw = pow-suc 2 k in
    let r = placed k (c / 2) 0 (omega arith) (omega (arith, ones_step c)) in
    (suc r.0, (in-later c r.0).from r.1, place-even c r.0 even ∙ r.2))
    (λ odd. (0, (in-first c).from odd, place-zero c))
placed (suc k) c (suc j) h l =
    let pw = pow-suc 2 k in
    by-parity c
    (λ even.
    let r = placed k (c / 2) (suc j) (omega arith) (omega (arith, ones_step c)) in
    (suc r.0, (in-later c r.0).from r.1, place-even c r.0 even ∙ r.2))
    (λ odd.
    let r = placed k (c / 2) j (omega arith) (omega (arith, ones_step c)) in
    (suc r.0, (in-later c r.0).from r.1, place-odd c r.0 odd ∙ ap suc r.2))

-- A subset's mask is a submask, if it has no bit beyond the chosen vertices.
pub subset-submask : (c k m x y : ℕ) → c < 2 ^ 64 → k < 2 ^ ones c → SetOfMask c k x → SetOfMask c m y → Within x y → Within k m
unfolding Picked
subset-submask c k m x y h l p q w =
    record {
      each = λ j i.
          let r = placed 64 c j h (member_below (ones c) k j l i) in
          let a : Member x r.0 = (p.each r.0).from (r.1, subst (λ (n : ℕ). Member k n) (sym r.2) i) in
          subst (λ (n : ℕ). Member m n) r.2 ((q.each r.0).to (w.each r.0 a)).1;
    }

-- So below 2 ^ (number of chosen vertices) a set has one mask only,
pub mask-unique : (c k m x : ℕ) → c < 2 ^ 64 → k < 2 ^ ones c → m < 2 ^ ones c → SetOfMask c k x → SetOfMask c m x → k ≡ m
mask-unique c k m x h l n p q =
    let w : Within x x = record { each = λ v i. i } in
    same_set k m (subset-submask c k m x x h l p q w) (subset-submask c m k x x h n q p w)

-- and proper submasks are proper subsets.
pub proper-subset : (c k m x y : ℕ) → c < 2 ^ 64 → k < 2 ^ ones c → m < 2 ^ ones c → SetOfMask c k x → SetOfMask c m y
    → ProperlyWithin k m → ProperlyWithin x y
proper-subset c k m x y h l n p q w =
    record {
      within = submask-subset c k m x y p q w.within;
      other = λ e. w.other (mask-unique c k m y h l n (rw e at p) q);
    }

pub proper-submask : (c k m x y : ℕ) → c < 2 ^ 64 → k < 2 ^ ones c → SetOfMask c k x → SetOfMask c m y → ProperlyWithin x y → ProperlyWithin k m
proper-submask c k m x y h l p q w =
    record {
      within = subset-submask c k m x y h l p q w.within;
      other = λ e. w.other (set-unique c m x y (rw e at p) q);
    }

-- ---- the mask of a set

-- The bits of x at the listed places, the first of them lowest.
abbrev pub bits_at : ℕ → List ℕ → ℕ
bits_at x [] = 0
bits_at x (v ∷ l) = digit x v + 2 * bits_at x l

-- The mask of x, with the chosen vertices c below k.
unfoldable pub gather : ℕ → ℕ → ℕ → ℕ
gather k c x = bits_at x (places k c)

bits_at-suc : (x : ℕ) (l : List ℕ) → bits_at x (map suc l) ≡ bits_at (x / 2) l
bits_at-suc x [] = refl
bits_at-suc x (v ∷ l) = rw (digit-suc x v, bits_at-suc x l)

gather-even : (k c x : ℕ) → c % 2 ≡ 0 → gather (suc k) c x ≡ gather k (c / 2) (x / 2)
unfolding gather
gather-even k c x e = rw (places-even k c e) (bits_at-suc x (places k (c / 2)))

gather-odd : (k c x : ℕ) → c % 2 ≡ 1 → gather (suc k) c x ≡ x % 2 + 2 * gather k (c / 2) (x / 2)
unfolding gather
gather-odd k c x e = rw (places-odd k c e, digit-first x, bits_at-suc x (places k (c / 2)))

gather-zero : (c x : ℕ) → gather 0 c x ≡ 0
unfolding gather places
gather-zero c x = refl

pub gather-lt : (k c x : ℕ) → c < 2 ^ k → gather k c x < 2 ^ ones c
gather-lt zero c x h = let p = pow_pos (ones c) in rw (gather-zero c x) p
gather-lt (suc k) c x h =
    let pw = pow-suc 2 k in
    let st = ones_step c in
    let ih = gather-lt k (c / 2) (x / 2) (omega arith) in
    by-parity c
    (λ even. let e : ones c ≡ ones (c / 2) = omega arith in rw (gather-even k c x even, e) ih)
    (λ odd.
    let e : ones c ≡ suc (ones (c / 2)) = omega arith in
    let p = pow-suc 2 (ones (c / 2)) in
    rw (gather-odd k c x odd, e) (omega arith))

pub in-gather : (k c x v : ℕ) → c < 2 ^ k → Iff (Picked c (gather k c x) v) (Member x v × Member c v)
unfolding Picked
in-gather zero c x v h =
    let e : c ≡ 0 = omega arith in
    record { to = λ p. absurd (none-in-zero v (rw e at p.0)); from = λ p. absurd (none-in-zero v (rw e at p.1)) }
in-gather (suc k) c x zero h =
    let p = picked-zero c (gather (suc k) c x) in
    let f = in-first x in
    let g = in-first c in
    by-parity c
    (λ even. record { to = λ i. let e = (p.to i).0 in absurd (omega arith); from = λ q. let e = g.to q.1 in absurd (omega arith) })
    (λ odd. let s = gather-odd k c x odd in record {
      to = λ i. let e = (p.to i).1 in (f.from (omega arith), g.from odd);
      from = λ q. let e = f.to q.0 in p.from (odd, omega arith);
    })
in-gather (suc k) c x (suc v) h =
    let pw = pow-suc 2 k in
    let ih = in-gather k (c / 2) (x / 2) v (omega arith) in
    let a = in-later x v in
    let b = in-later c v in
    by-parity c
    (λ even. rw (gather-even k c x even)
    (let p = picked-even c (gather k (c / 2) (x / 2)) v even in record {
      to = λ i. let r = ih.to (p.to i) in (a.from r.0, b.from r.1);
      from = λ q. p.from (ih.from (a.to q.0, b.to q.1));
    }))
    (λ odd.
    let s = gather-odd k c x odd in
    let e : gather (suc k) c x / 2 ≡ gather k (c / 2) (x / 2) = omega arith in
    let p = picked-odd c (gather (suc k) c x) v odd in
    record {
      to = λ i. let r = ih.to (rw e at (p.to i)) in (a.from r.0, b.from r.1);
      from = λ q. p.from (rw e (ih.from (a.to q.0, b.to q.1)));
    })

-- Every set of chosen vertices has a mask,
pub mask-of : (c x : ℕ) → c < 2 ^ 64 → Within x c → SetOfMask c (gather 64 c x) x
mask-of c x h w =
    record {
      each = λ v. let g = in-gather 64 c x v h in record { to = λ i. g.from (i, w.each v i); from = λ p. (g.to p).0 };
    }

-- and where 14 at most are chosen, it is one of those of which families have a bit.
pub mask-exists : (c x : ℕ) → c < 2 ^ 64 → ones c ≤ 14 → MaskOf c x (gather 64 c x)
mask-exists c x h o =
    let l = gather-lt 64 c x h in
    let m = pow_mono {i = ones c} {j = 14} o in
    record { of = mask-of c x h; exact = l; room = omega arith }

-- ---- size and order

pub ones-spread : (k c m : ℕ) → c < 2 ^ k → m < 2 ^ ones c → ones (spread k c m) ≡ ones m
unfolding spread
ones-spread zero c m h l =
    let e : c ≡ 0 = omega arith in
    let f : ones c ≡ 0 = ap ones e ∙ ones-zero in
    let g : m ≡ 0 = omega (arith, subst (λ (n : ℕ). m < 2 ^ n) f l) in
    rw g
ones-spread (suc k) c m h l =
    let pw = pow-suc 2 k in
    let st = ones_step c in
    by-parity c
    (λ even.
    let e : ones c ≡ ones (c / 2) = omega arith in
    let ih = ones-spread k (c / 2) m (omega arith) (rw e at l) in
    let s = spread-even k c m even in
    let t = ones_step (spread (suc k) c m) in
    let d : spread (suc k) c m / 2 ≡ spread k (c / 2) m = omega arith in
    t ∙ rw d (omega arith))
    (λ odd.
    let e : ones c ≡ suc (ones (c / 2)) = omega arith in
    let pm = pow-suc 2 (ones (c / 2)) in
    let lm : m < 2 ^ suc (ones (c / 2)) = rw e at l in
    let ih = ones-spread k (c / 2) (m / 2) (omega arith) (omega arith) in
    let s = spread-odd k c m odd in
    let t = ones_step (spread (suc k) c m) in
    let u = ones_step m in
    let d : spread (suc k) c m / 2 ≡ spread k (c / 2) (m / 2) = omega arith in
    t ∙ rw d (omega arith))

pub spread-lt : (k c a b : ℕ) → c < 2 ^ k → b < 2 ^ ones c → a < b → spread k c a < spread k c b
spread-lt zero c a b h l lt =
    let e : c ≡ 0 = omega arith in
    let f : ones c ≡ 0 = ap ones e ∙ ones-zero in
    absurd (omega (arith, subst (λ (n : ℕ). b < 2 ^ n) f l))
spread-lt (suc k) c a b h l lt =
    let pw = pow-suc 2 k in
    let st = ones_step c in
    by-parity c
    (λ even.
    let e : ones c ≡ ones (c / 2) = omega arith in
    let ih = spread-lt k (c / 2) a b (omega arith) (rw e at l) lt in
    rw (spread-even k c a even, spread-even k c b even) (omega arith))
    (λ odd.
    let e : ones c ≡ suc (ones (c / 2)) = omega arith in
    let pm = pow-suc 2 (ones (c / 2)) in
    let lb : b < 2 ^ suc (ones (c / 2)) = rw e at l in
    rw (spread-odd k c a odd, spread-odd k c b odd)
    (⊎_elim
    (λ half. let ih = spread-lt k (c / 2) (a / 2) (b / 2) (omega arith) (omega arith) half in omega arith)
    (λ (ge : b / 2 ≤ a / 2). let e : a / 2 ≡ b / 2 = omega arith in rw e (omega arith))
    (less-or (a / 2) (b / 2))))

-- A set has as many vertices as its mask has bits.
pub set-size : (c m x : ℕ) → c < 2 ^ 64 → m < 2 ^ ones c → SetOfMask c m x → ones x ≡ ones m
set-size c m x h l p = ap ones (set_is c m x h p) ∙ ones-spread 64 c m h l

-- The order of masks is the order of sets.
pub set-less : (c a b x y : ℕ) → c < 2 ^ 64 → b < 2 ^ ones c → SetOfMask c a x → SetOfMask c b y → a < b → x < y
set-less c a b x y h lb p q l = rw (set_is c a x h p, set_is c b y h q) (spread-lt 64 c a b h lb l)

pub set_before : (c a b x y : ℕ) → c < 2 ^ 64 → a < 2 ^ ones c → b < 2 ^ ones c → SetOfMask c a x → SetOfMask c b y → Before a b → Before x y
unfolding Before
set_before c a b x y h la lb p q w =
    let s = set-size c a x h la p in
    let t = set-size c b y h lb q in
    ⊎_elim (λ less. inl (omega arith)) (λ r. let e = r.0 in inr (omega arith, set-less c a b x y h lb p q r.1)) w

-- ---- the loop that gathers a mask

-- With mask gathered of n chosen vertices, and those of rest still to come.
pub record Gathering (c x rest mask n : ℕ) : Type 0 where
  pub small : rest < 2 ^ 64
  pub count : n + ones rest ≡ ones c
  pub below : mask < 2 ^ n
  pub value : mask + 2 ^ n * bits_at x (places 64 rest) ≡ gather 64 c x

pub gathering-none : (c x : ℕ) → c < 2 ^ 64 → Gathering c x c 0 0
unfolding gather
gathering-none c x h = record { small = h; count = omega arith; below = omega arith; value = omega arith }

-- a mask of n bits with one more above them
pub added : (x rest mask n : ℕ) → mask < 2 ^ n → n < 63 → mask + (digit x (count_trailing_zeros 64 rest) * 2 ^ n) % 2 ^ 64 < 2 * 2 ^ n
added x rest mask n h hn =
    let d = digit_lt x (count_trailing_zeros 64 rest) in
    let q : digit x (count_trailing_zeros 64 rest) * 2 ^ n ≤ 1 * 2 ^ n = mul-le-mul_right (2 ^ n) (omega arith) in
    rw (shl_exact 1 n 64 d (omega arith)) (omega arith)

pub gathering-more : (c x rest mask n : ℕ) → n < 63 → (rest ≡ 0 → ⊥) → Gathering c x rest mask n
    → Gathering c x (rest - (1 * 2 ^ count_trailing_zeros 64 rest) % 2 ^ 64) (mask + (digit x (count_trailing_zeros 64 rest) * 2 ^ n) % 2 ^ 64) (n + 1)
gathering-more c x rest mask n hn ne g =
    let l = lowest rest g.small ne in
    let v : ℕ = count_trailing_zeros 64 rest in
    let d = digit_lt x v in
    let e : (digit x v * 2 ^ n) % 2 ^ 64 ≡ digit x v * 2 ^ n = shl_exact 1 n 64 d (omega arith) in
    let p : 2 ^ (n + 1) ≡ 2 * 2 ^ n = rw (add-one n) (omega (arith, pow-suc 2 n)) in
    let q : digit x v * 2 ^ n ≤ 1 * 2 ^ n = mul-le-mul_right (2 ^ n) (omega arith) in
    let b : bits_at x (places 64 rest) ≡ digit x v + 2 * bits_at x (places 64 (rest - 2 ^ v)) = ap (bits_at x) l.list in
    let r : 2 ^ n * bits_at x (places 64 rest) ≡ 2 ^ n * (digit x v + 2 * bits_at x (places 64 (rest - 2 ^ v))) = ap (λ (k : ℕ). 2 ^ n * k) b in
    rw (l.power, e)
    (record {
      small = omega arith;
      count = omega (arith, l.count, g.count);
      below = rw p (omega (arith, g.below));
      value = rw p (omega (arith, g.value));
    })

pub gathering-end : (c x rest mask n : ℕ) → c < 2 ^ 64 → ones c ≤ 14 → rest ≡ 0 → Gathering c x rest mask n → MaskOf c x mask
gathering-end c x rest mask n h few z g =
    let e : bits_at x (places 64 rest) ≡ 0 = ap (bits_at x) (places-none 64 rest z) in
    let f : 2 ^ n * bits_at x (places 64 rest) ≡ 2 ^ n * 0 = ap (λ (k : ℕ). 2 ^ n * k) e in
    let i : mask ≡ gather 64 c x = omega (arith, g.value) in
    let l = gather-lt 64 c x h in
    let m = pow_mono {i = ones c} {j = 14} few in
    rw i (record { of = λ w. mask-of c x h w; exact = l; room = omega arith })
