-- From the next member of the base's family to the next set of the base: masks and sets are in one order.
-- Assumes nothing.
use mathlib.Core.Path.{◌≡◌, refl, sym, ap, subst, ◌∙◌}
use Rattle.std.specs.Prelude.{Option, Some, None, unwrap_or, is_some}
use Rattle.vertex_set.proofs.Cases.{false-true}
use mathlib.Core.Bool.{false}
use mathlib.Core.List.{List, [], ◌∷◌}
use mathlib.Core.Logic.{inl, inr, ⊎_elim}
use Prim.Native.Nat.{ℕ, ◌^◌, ◌≤◌, ◌<◌}
use native.Mathlib.Omega.{arith}
use lib.Count.{ones}
use Rattle.vertex_set.specs.Set.{Within}
use Rattle.vertex_set.specs.Order.{Before}
use Rattle.vertex_set.proofs.Sorted.{not-before-self, before-one-way}
use Rattle.setup.specs.declared.Setup.{Setup}
use Rattle.families.specs.Inner.Family.{In, masks}
use Rattle.families.specs.Inner.Masks.{SetOfMask, MaskOf}
use Rattle.families.proofs.Masks.{set-unique, set_before}
use Rattle.family_lists.specs.Inner.Lists.{ListOf}
use Rattle.family_lists.proofs.SetLists.{sets_of, list_of}
use Rattle.family_steps.specs.Inner.{NextMember}
use Rattle.bases.specs.Base.{MinimalSet}
use Rattle.bases.specs.Inner.Readers.{BaseFamily}
use Rattle.questions.specs.Contract.{gives, ends, Answers}
use Rattle.questions.proofs.Contract.{given}
use Rattle.next_sets.specs.Next.{NextSet, NoMore}
use Rattle.next_sets.specs.Answers.{Shown, End, next_call}
use Rattle.next_sets.proofs.Order.{before-or}

-- the value of an Option
some-injective : (m n : ℕ) → Some m ≡ Some n → m ≡ n
some-injective m n e = ap (λ (o : Option ℕ). unwrap_or o 0) e

some-none : (m : ℕ) → Some m ≡ None → ⊥
some-none m e = false-true (sym (ap (λ (o : Option ℕ). is_some o) e))

-- sets in order have masks in order
mask-before : (c a b x y : ℕ) → c < 2 ^ 64 → a < 2 ^ ones c → b < 2 ^ ones c → SetOfMask c a x → SetOfMask c b y → Before x y → Before a b
mask-before c a b x y h la lb p q w =
    ⊎_elim (λ k. k)
    (⊎_elim
    (λ e. absurd (not-before-self y (subst (λ (z : ℕ). Before z y) (set-unique c b x y (subst (λ (m : ℕ). SetOfMask c m x) e p) q) w)))
    (λ k. absurd (before-one-way x y w (set_before c b a y x h lb la q p k))))
    (before-or a b)

module _ (s : Setup) (target chosen last k : ℕ) (r : Option ℕ) (n : ℕ) (g : List ℕ) (fits : chosen < 2 ^ 64) (b : BaseFamily false s s.graph target chosen g n)
    (w : Within last chosen) (o : MaskOf chosen last k) (next : NextMember g k r) where
  sets : ListOf chosen g (sets_of chosen g)
  sets = list_of chosen g fits b.words b.exact

  -- a member stands for a set of the base, and a set of the base has a member
  member-set : (m x : ℕ) → m < masks → In g m → SetOfMask chosen m x → MinimalSet false s s.graph target x
  member-set m x l i p =
      let h = sets.whole m l i in
      subst (MinimalSet false s s.graph target) (set-unique chosen m h.0 x h.2 p) ((b.each (sets_of chosen g) sets).sound h.0 h.1)

  set-member : (x : ℕ) → MinimalSet false s s.graph target x → (m : ℕ) × (m < masks) × In g m × SetOfMask chosen m x
  set-member x h = sets.sound x ((b.each (sets_of chosen g) sets).whole x h)

  -- the member of a set that comes after the last one comes after the last one's mask
  member-after : (m y : ℕ) → m < masks → In g m → SetOfMask chosen m y → Before last y → Before k m
  member-after m y l i p = mask-before chosen k m last y fits o.exact (b.exact.below m l i) (o.of w) p

  next-set : (i x : ℕ) → r ≡ Some i → SetOfMask chosen i x → NextSet s target last x
  next-set i x e p =
      let f = next.found i e in
      record {
        is = member-set i x f.0 f.1 p;
        after = set_before chosen k i last x fits o.exact (b.exact.below i f.0 f.1) (o.of w) p f.2;
        first = λ y h a.
            let q = set-member y h in
            let n = next.first q.0 q.1 q.2 (member-after q.0 y q.1 q.2 q.3 a) in
            let same : n.0 ≡ i = some-injective n.0 i (sym n.1 ∙ e) in
            ⊎_elim
            (λ e. inl (set-unique chosen q.0 x y (subst (λ (m : ℕ). SetOfMask chosen m x) (sym same ∙ e) p) q.3))
            (λ c. inr (set_before chosen i q.0 x y fits (b.exact.below i f.0 f.1) (b.exact.below q.0 q.1 q.2) p q.3 (subst (λ (m : ℕ). Before m q.0) same c)))
            n.2;
      }

  no_more : r ≡ None → NoMore s target last
  no_more e =
      record {
        none = λ y h a. let q = set-member y h in let f = next.first q.0 q.1 q.2 (member-after q.0 y q.1 q.2 q.3 a) in some-none f.0 (sym f.1 ∙ e);
      }

  pub found-set : (i x : ℕ) → r ≡ Some i → SetOfMask chosen i x → Answers (next_call s target last) (ends (gives (1 ∷ x ∷ [])) [])
  found-set i x e p = given (next_call s target last) (Shown x) (next-set i x e p) tt _ refl

  pub found_none : r ≡ None → Answers (next_call s target last) (ends (gives (0 ∷ [])) [])
  found_none e = given (next_call s target last) End (no_more e) tt _ refl
