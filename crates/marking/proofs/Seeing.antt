-- The table of masks seen, and how many of the sets in it are in a family.
-- Assumes nothing.
use mathlib.Core.Path.{◌≡◌, refl, sym, ap, subst, ◌∙◌}
use mathlib.Core.Bool.{false}
use mathlib.Core.List.{List, [], ◌∷◌}
use mathlib.Core.Logic.{◌⊎◌, inl, inr, ⊎_elim}
use Prim.Native.Nat.{ℕ, zero, suc, ◌+◌, ◌-◌, ◌*◌, ◌/◌, ◌%◌, ◌^◌, ◌≤◌, ◌<◌}
use native.Mathlib.Omega.{arith}
use lib.Bits.{bit_and, bit_or, and_le_l}
use lib.Count.{ones, ones-le}
use lib.Dec.{eqb}
use borrow.Author.Tests.{eqb-true}
use lib.ListN.{length, take, drop, get_or, set, replicate}
use lib.Seq.{take_all, get_or-set_same, get_or-set_other}
use Rattle.vertex_set.specs.Set.{Member, Within, Iff}
use Rattle.vertex_set.specs.Order.{Listed}
use Rattle.vertex_set.proofs.Cases.{same_or, false-true}
use Rattle.vertex_set.proofs.Lists.{sorted-once, zeros}
use Rattle.vertex_set.proofs.Sets.{none-in-zero, in_and, in-or, in_one, shifted_one}
use Rattle.families.specs.Inner.Family.{In, size}
use Rattle.families.specs.Inner.Masks.{SetOfMask, MaskOf}
use Rattle.families.proofs.Families.{size-drop, size-end}
use Rattle.families.proofs.Masks.{spread, gather, set-of, set-unique, mask-unique, mask-exists}
use Rattle.family_lists.specs.Inner.Tables.{rising}
use Rattle.family_lists.proofs.Order.{Words, listed-members, sorted-rising, length-rising}
use Rattle.outsiders.specs.Inner.Outsiders.{HasSize}
use Rattle.marking.specs.Inner.Counting.{Put, Earlier, MaskIn, Seen, meet}
use Rattle.outsiders.proofs.Sizes.{size_same, size-map, size-of-list}
use Rattle.outsiders.proofs.Values.{listed_next}

-- ---- a mask put in

pub put-mask : (f : List ℕ) (m : ℕ) → m < 16384 → length f ≡ 256 → Put f m (set f (m / 64) (bit_or (get_or f (m / 64) 0) ((1 * 2 ^ (m % 64)) % 2 ^ 64)))
unfolding In
put-mask f m h e = record { each = λ k. ⊎_elim (here k) (there k) (same_or (k / 64) (m / 64)) }
  where
    new : List ℕ
    new = set f (m / 64) (bit_or (get_or f (m / 64) 0) ((1 * 2 ^ (m % 64)) % 2 ^ 64))

    word : get_or new (m / 64) 0 ≡ bit_or (get_or f (m / 64) 0) (2 ^ (m % 64))
    word =
        get_or-set_same f (m / 64) (bit_or (get_or f (m / 64) 0) ((1 * 2 ^ (m % 64)) % 2 ^ 64)) 0 (omega arith)
        ∙ ap (bit_or (get_or f (m / 64) 0)) (shifted_one (m % 64) (omega arith))

    here : (k : ℕ) → k / 64 ≡ m / 64 → Iff (Member (get_or new (k / 64) 0) (k % 64)) (Member (get_or f (k / 64) 0) (k % 64) ⊎ (k ≡ m))
    here k q =
        let o = in-or (get_or f (m / 64) 0) (2 ^ (m % 64)) (k % 64) in
        let i = in_one (m % 64) (k % 64) in
        rw q (
        record {
          to = λ p. ⊎_elim (λ a. inl a) (λ a. inr (let b = i.to a in omega arith)) (o.to (subst (λ (w : ℕ). Member w (k % 64)) word p));
          from = λ p. subst (λ (w : ℕ). Member w (k % 64)) (sym word) (o.from (⊎_elim (λ a. inl a) (λ a. inr (i.from (ap (λ (x : ℕ). x % 64) a))) p));
        }
        )

    there : (k : ℕ) → (k / 64 ≡ m / 64 → ⊥) → Iff (Member (get_or new (k / 64) 0) (k % 64)) (Member (get_or f (k / 64) 0) (k % 64) ⊎ (k ≡ m))
    there k d =
        let e = get_or-set_other f (m / 64) (k / 64) (bit_or (get_or f (m / 64) 0) ((1 * 2 ^ (m % 64)) % 2 ^ 64)) 0 d in
        record {
          to = λ p. inl (subst (λ (w : ℕ). Member w (k % 64)) e p);
          from = ⊎_elim (λ a. subst (λ (w : ℕ). Member w (k % 64)) (sym e) a) (λ a. absurd (d (ap (λ (x : ℕ). x / 64) a)));
        }

-- ---- the masks of a list's sets

pub earlier-none : (l : List ℕ) (i : ℕ) → Earlier l i false
earlier-none l i = record { yes = λ e. absurd (false-true e) }

pub earlier-next : (l : List ℕ) (i : ℕ) → i < length l → (i ≡ 0 → ⊥) → Earlier l i (eqb (get_or l i 0) (get_or l (i - 1) 0))
earlier-next l i h d =
    record { yes = λ e. subst (λ (k : ℕ). Listed (take k l) (get_or l i 0)) back ((listed_next l (i - 1) (get_or l i 0) (omega arith)).from (inr (eqb-true (get_or l i 0) (get_or l (i - 1) 0) e))) }
  where
    back : i - 1 + 1 ≡ i
    back = omega (arith, d)

pub seen_none : (chosen : ℕ) → Seen chosen [] (replicate 256 0)
unfolding In
seen_none chosen =
    record {
      words = refl;
      each = λ m. record {
        to = λ h. absurd (none-in-zero (m % 64) (subst (λ (w : ℕ). Member w (m % 64)) (zeros 256 (m / 64)) h));
        from = λ h. absurd h.listed;
      };
    }

module _ (chosen : ℕ) (l seen : List ℕ) (i : ℕ) (h : i < length l) (s : Seen chosen (take i l) seen) where
  widen : (m : ℕ) → MaskIn chosen (take i l) m → MaskIn chosen (take (i + 1) l) m
  widen m k = record { set = k.set; listed = (listed_next l i k.set h).from (inl k.listed); within = k.within; mask = k.mask }

  -- the set at i has no mask, or one that is in
  seen-kept : ((x : ℕ) → Within x chosen → x ≡ get_or l i 0 → Listed (take i l) x) → Seen chosen (take (i + 1) l) seen
  seen-kept old =
      record {
        words = s.words;
        each = λ m. record {
          to = λ p. widen m ((s.each m).to p);
          from = λ k. (s.each m).from (record {
            set = k.set;
            listed = ⊎_elim (λ j. j) (old k.set k.within) ((listed_next l i k.set h).to k.listed);
            within = k.within;
            mask = k.mask;
          });
        };
      }

  pub seen-outside : (Within (get_or l i 0) chosen → ⊥) → Seen chosen (take (i + 1) l) seen
  seen-outside n = seen-kept (λ x w e. absurd (n (subst (λ (y : ℕ). Within y chosen) e w)))

  pub seen-again : Listed (take i l) (get_or l i 0) → Seen chosen (take (i + 1) l) seen
  seen-again q = seen-kept (λ x w e. subst (Listed (take i l)) (sym e) q)

  pub seen-new : (m : ℕ) (next : List ℕ) → chosen < 2 ^ 64 → Within (get_or l i 0) chosen → MaskOf chosen (get_or l i 0) m → length next ≡ 256 → Put seen m next
      → Seen chosen (take (i + 1) l) next
  seen-new m next f w o e p =
      record {
        words = e;
        each = λ k. record {
          to = λ q. ⊎_elim (λ a. widen k ((s.each k).to a))
              (λ a. record { set = get_or l i 0; listed = (listed_next l i (get_or l i 0) h).from (inr refl); within = w; mask = subst (MaskOf chosen (get_or l i 0)) (sym a) o }) ((p.each k).to q);
          from = λ q. (p.each k).from (⊎_elim (λ a. inl ((s.each k).from (record { set = q.set; listed = a; within = q.within; mask = q.mask }))) (λ a. inr (same k q a))
              ((listed_next l i q.set h).to q.listed));
        };
      }
    where
      same : (k : ℕ) (q : MaskIn chosen (take (i + 1) l) k) → q.set ≡ get_or l i 0 → k ≡ m
      same k q a =
          mask-unique chosen k m (get_or l i 0) f q.mask.exact o.exact (subst (SetOfMask chosen k) a (q.mask.of q.within)) (o.of w)

pub seen_end : (chosen : ℕ) (l seen : List ℕ) (i : ℕ) → length l ≤ i → Seen chosen (take i l) seen → Seen chosen l seen
seen_end chosen l seen i e s = subst (λ (k : List ℕ). Seen chosen k seen) (take_all i l e) s

-- ---- two families' common masks

at_meet : (f g : List ℕ) (k : ℕ) → length f ≡ length g → get_or (meet f g) k 0 ≡ bit_and (get_or f k 0) (get_or g k 0)
at_meet [] [] k e = refl
at_meet [] (w ∷ g) k e = absurd (omega arith)
at_meet (v ∷ f) [] k e = absurd (omega arith)
at_meet (v ∷ f) (w ∷ g) zero e = refl
at_meet (v ∷ f) (w ∷ g) (suc k) e = at_meet f g k (omega arith)

pub length_meet : (f g : List ℕ) → length f ≡ length g → length (meet f g) ≡ length f
length_meet [] g e = refl
length_meet (v ∷ f) [] e = absurd (omega arith)
length_meet (v ∷ f) (w ∷ g) e = ap suc (length_meet f g (omega arith))

pub in_meet : (f g : List ℕ) (m : ℕ) → length f ≡ length g → Iff (In (meet f g) m) (In f m × In g m)
unfolding In
in_meet f g m e = rw (at_meet f g (m / 64) e) (in_and (get_or f (m / 64) 0) (get_or g (m / 64) 0) (m % 64))

words-meet : (f g : List ℕ) → length f ≡ length g → Words f → Words (meet f g)
words-meet f g e w k = rw (at_meet f g k e) (let a = and_le_l (get_or f k 0) (get_or g k 0) in let b = w k in omega arith)

-- what is counted and what is still to come
pub meet-next : (f g : List ℕ) (b : ℕ) → length f ≡ length g → b < length f
    → size (drop b (meet f g)) ≡ ones (bit_and (get_or f b 0) (get_or g b 0)) + size (drop (b + 1) (meet f g))
meet-next f g b e h =
    size-drop (meet f g) b (rw (length_meet f g e) h) ∙ ap (λ (w : ℕ). ones w + size (drop (b + 1) (meet f g))) (at_meet f g b e)

pub meet-end : (f g : List ℕ) (b : ℕ) → length f ≡ length g → b ≡ length f → size (drop b (meet f g)) ≡ 0
meet-end f g b e h = size-end (meet f g) b (h ∙ sym (length_meet f g e))

pub and-ones : (v w : ℕ) → v < 2 ^ 64 → ones (bit_and v w) ≤ 64
and-ones v w h = ones-le 64 (bit_and v w) (let a = and_le_l v w in omega arith)

-- ---- how many sets are in

pub family-size : (f : List ℕ) → Words f → HasSize (In f) (size f)
family-size f w =
    subst (HasSize (In f)) (length-rising f 0 w)
    (size_same (Listed (rising 0 f)) (In f) (listed-members f) (size-of-list (rising 0 f) (sorted-once (rising 0 f) (sorted-rising f 0))))

pub meet-size : (f g : List ℕ) → length f ≡ length g → Words f → HasSize (λ m. In f m × In g m) (size (meet f g))
meet-size f g e w = size_same (In (meet f g)) (λ m. In f m × In g m) (λ m. in_meet f g m e) (family-size (meet f g) (words-meet f g e w))

-- the sets of the masks that have S: those of the list that have P
pub size-of-sets : (chosen : ℕ) (l : List ℕ) (S P : ℕ → Type 0) (r : ℕ) → chosen < 2 ^ 64 → ones chosen ≤ 14 → ((m : ℕ) → S m → MaskIn chosen l m)
    → ((x : ℕ) → P x → Within x chosen) → ((m x : ℕ) → Listed l x → Within x chosen → MaskOf chosen x m → Iff (S m) (P x)) → HasSize S r
    → HasSize (λ x. Listed l x × P x) r
size-of-sets chosen l S P r f o seen inside both h =
    size_same (λ x. (m : ℕ) × S m × (x ≡ spread 64 chosen m)) (λ x. Listed l x × P x) (λ x. record { to = to x; from = from x })
    (size-map S (spread 64 chosen) r injective h)
  where
    injective : (m k : ℕ) → S m → S k → spread 64 chosen m ≡ spread 64 chosen k → m ≡ k
    injective m k p q e =
        mask-unique chosen m k (spread 64 chosen k) f (seen m p).mask.exact (seen k q).mask.exact (subst (SetOfMask chosen m) e (set-of chosen m f)) (set-of chosen k f)

    to : (x : ℕ) → (m : ℕ) × S m × (x ≡ spread 64 chosen m) → Listed l x × P x
    to x k =
        let i = seen k.0 k.1 in
        let e : i.set ≡ x = set-unique chosen k.0 i.set (spread 64 chosen k.0) (i.mask.of i.within) (set-of chosen k.0 f) ∙ sym k.2 in
        (subst (Listed l) e i.listed, subst P e ((both k.0 i.set i.listed i.within i.mask).to k.1))

    from : (x : ℕ) → Listed l x × P x → (m : ℕ) × S m × (x ≡ spread 64 chosen m)
    from x k =
        let w = inside x k.1 in
        let m = gather 64 chosen x in
        let a = mask-exists chosen x f o in
        (m, (both m x k.0 w a).from k.1, set-unique chosen m x (spread 64 chosen m) (a.of w) (set-of chosen m f))
