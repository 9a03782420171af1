-- With no change in between, the sets shown from the empty set on up to "no more" are the whole access base, and the base is so shown.
-- Assumes nothing.
use mathlib.Core.Path.{◌≡◌, refl, sym, ap, subst}
use mathlib.Core.Bool.{false}
use mathlib.Core.List.{List, [], ◌∷◌}
use mathlib.Core.Logic.{inl, inr, ⊎_elim}
use Prim.Native.Nat.{ℕ, ◌<◌}
use native.Mathlib.Omega.{arith}
use lib.ListN.{get_or}
use Rattle.vertex_set.specs.Order.{Listed, Ordered, Before}
use Rattle.vertex_set.proofs.Sets.{none-in-zero}
use Rattle.vertex_set.proofs.Sorted.{not-before-self}
use Rattle.setup.specs.declared.Setup.{Setup}
use Rattle.formed.specs.WellFormed.{WellFormed}
use Rattle.bases.specs.Base.{MinimalSet, Base}
use Rattle.next_sets.specs.Next.{OfInitial, NextSet, NoMore}
use Rattle.questions.specs.Contract.{Outcome}
use Rattle.questions.proofs.Contract.{answer-of, fulfilled, given}
use Rattle.next_sets.specs.Answers.{Next, Shown, End, IsNext, next_values, next_call}
use Rattle.next_sets.specs.Walks.{Tells, Walk, WholeWalk}
use Rattle.next_sets.proofs.Order.{before-trans, after-empty}

-- ---- what the values tell

-- the values of a right answer tell which it is
told-next : (s : Setup) (target last : ℕ) (a b : Next) → next_values a ≡ next_values b → IsNext s target last b → IsNext s target last a
told-next s target last (Shown x) (Shown y) e n = subst (NextSet s target last) (sym (ap (λ (l : List ℕ). get_or l 1 0) e)) n
told-next s target last (Shown x) End e n = absurd (let d : 1 ≡ 0 = ap (λ (l : List ℕ). get_or l 0 0) e in omega arith)
told-next s target last End (Shown y) e n = absurd (let d : 0 ≡ 1 = ap (λ (l : List ℕ). get_or l 0 0) e in omega arith)
told-next s target last End End e n = n

-- what a call tells is right
pub told-right : (s : Setup) (target last : ℕ) (a : Next) → Tells s target last a → IsNext s target last a
told-right s target last a f =
    let h = answer-of (next_call s target last) refl _ refl f in
    told-next s target last a h.0 (ap (λ (o : Outcome). o.reply.values) h.3) h.1

-- ---- sets shown one after the other

module _ (s : Setup) (target : ℕ) where
  -- The sets of the list are next sets one after the other, from `last` on, and then there is no more.
  abbrev Listing : ℕ → List ℕ → Type 0
  Listing last [] = NoMore s target last
  Listing last (x ∷ l) = NextSet s target last x × Listing x l

  -- each is after the set that was given,
  listing-after : (last : ℕ) (l : List ℕ) → Listing last l → (x : ℕ) → Listed l x → Before last x
  listing-after last [] w x i = absurd i
  listing-after last (y ∷ l) w x i =
      ⊎_elim (λ e. subst (Before last) (sym e) w.0.after) (λ k. before-trans last y x w.0.after (listing-after y l w.1 x k)) i

  listing-ordered : (last : ℕ) (l : List ℕ) → Listing last l → Ordered l
  listing-ordered last [] w = tt
  listing-ordered last (y ∷ l) w = (listing-after y l w.1, listing-ordered y l w.1)

  -- each is a set of the base,
  listing-sound : (last : ℕ) (l : List ℕ) → Listing last l → (x : ℕ) → Listed l x → MinimalSet false s s.graph target x
  listing-sound last [] w x i = absurd i
  listing-sound last (y ∷ l) w x i = ⊎_elim (λ e. subst (MinimalSet false s s.graph target) (sym e) w.0.is) (λ k. listing-sound y l w.1 x k) i

  -- and all sets of the base after the one that was given are there
  listing-whole : (last : ℕ) (l : List ℕ) → Listing last l → (x : ℕ) → MinimalSet false s s.graph target x → Before last x → Listed l x
  listing-whole last [] w x m b = absurd (w.none x m b)
  listing-whole last (y ∷ l) w x m b = ⊎_elim (λ e. inl (sym e)) (λ k. inr (listing-whole y l w.1 x m k)) (w.0.first x m b)

  listing-base : (l : List ℕ) → Listing 0 l → Base false s s.graph target l
  listing-base l w =
      record { sound = listing-sound 0 l w; whole = λ x m. listing-whole 0 l w x m (after-empty s target x m); ordered = listing-ordered 0 l w }

  -- a list in order of exactly the base's sets after `last` is such a listing
  listing : (last : ℕ) (l : List ℕ) → Ordered l → ((x : ℕ) → Listed l x → MinimalSet false s s.graph target x × Before last x)
      → ((x : ℕ) → MinimalSet false s s.graph target x → Before last x → Listed l x) → Listing last l
  listing last [] o a b = record { none = λ y m k. b y m k }
  listing last (y ∷ l) o a b = (
    record { is = (a y (inl refl)).0; after = (a y (inl refl)).1; first = λ z m k. ⊎_elim (λ e. inl (sym e)) (λ i. inr (o.0 z i)) (b z m k) },
    listing y l o.1 (λ x i. ((a x (inr i)).0, o.0 x i))
        (λ x m k. ⊎_elim (λ e. absurd (not-before-self y (subst (Before y) e k))) (λ i. i) (b x m (before-trans last y x (a y (inl refl)).1 k))),
  )

  base-listing : (l : List ℕ) → Base false s s.graph target l → Listing 0 l
  base-listing l b = listing 0 l b.ordered (λ x i. (b.sound x i, after-empty s target x (b.sound x i))) (λ x m k. b.whole x m)

  -- ---- by calls

  module _ (w : WellFormed s) (h : target < s.count) where
    shown-initial : (last x : ℕ) → NextSet s target last x → OfInitial s x
    shown-initial last x n = record { each = λ v m. n.is.is.chosen v m }

    tells : (last : ℕ) (a : Next) → OfInitial s last → IsNext s target last a → Tells s target last a
    tells last a i n = fulfilled (next_call s target last) _ (w, (h, (i, tt))) (given (next_call s target last) a n tt _ refl)

    walk-listing : (last : ℕ) (l : List ℕ) → Walk s target last l → Listing last l
    walk-listing last [] c = told-right s target last End c
    walk-listing last (x ∷ l) c = (told-right s target last (Shown x) c.0, walk-listing x l c.1)

    listing-walk : (last : ℕ) (l : List ℕ) → OfInitial s last → Listing last l → Walk s target last l
    listing-walk last [] i n = tells last End i n
    listing-walk last (x ∷ l) i n = (tells last (Shown x) i n.0, listing-walk x l (shown-initial last x n.0) n.1)

    empty-initial : OfInitial s 0
    empty-initial = record { each = λ v m. absurd (none-in-zero v m) }

pub whole-walk : WholeWalk
whole-walk s target w h l =
    record {
      to = λ c. listing-base s target l (walk-listing s target w h 0 l c);
      from = λ b. listing-walk s target w h 0 l (empty-initial s target w h) (base-listing s target l b);
    }
