-- Cut sets as the third family of a rising predicate, beside access and lockout: the dual of the family of access sets.
-- Assumes nothing.
use mathlib.Core.Path.{◌≡◌, sym, ◌∙◌}
use mathlib.Core.Bool.{false}
use mathlib.Core.List.{List}
use Prim.Native.Nat.{ℕ, ◌-◌, ◌<◌}
use native.Mathlib.Nat.{lt_of_lt_of_le}
use native.Mathlib.Omega.{arith}
use lib.ListN.{length}
use Rattle.vertex_set.specs.Set.{Member, Iff}
use Rattle.vertex_set.specs.Order.{Smallest}
use Rattle.vertex_set.proofs.Digits.{digit_not}
use Rattle.vertex_set.proofs.Lists.{exactly-same}
use Rattle.vertex_set.proofs.Sets.{not-member}
use Rattle.setup.specs.declared.Setup.{Setup}
use Rattle.setup.specs.Setup.{Chosen, ChosenSet}
use Rattle.formed.specs.WellFormed.{WellFormed}
use Rattle.derivations.specs.Access.{HasAccess}
use Rattle.derivations.proofs.Closures.{opens-more}
use Rattle.families.specs.Inner.Family.{family_words, masks, MinimalMembers, size}
use Rattle.families.specs.Inner.Masks.{place_among, Picked}
use Rattle.families.specs.Inner.Exact.{FamilyOf}
use Rattle.families.proofs.Exact.{Rising, place-lt, minimal-on-chosen}
use Rattle.family_lists.specs.Inner.Lists.{ListOf}
use Rattle.family_lists.proofs.Order.{Words}
use Rattle.family_lists.proofs.SetLists.{sets_of, list_of, length-sets-of}
use Rattle.family_lists.proofs.SetsOfFamily.{Has, list-smallest}
use Rattle.bases.proofs.Formed.{few}
use Rattle.cut_sets.specs.Cuts.{CutSet, CutList}
use Rattle.cut_sets.specs.Inner.{CutFamily, Dual}
use Rattle.cut_sets.proofs.Sets.{smallest-same, initial-fits}

module _ (s : Setup) (target initial : ℕ) (w : WellFormed s) (ch : ChosenSet false s initial) where
  -- The initial vertices that are not held do not open the target.
  abbrev Cuts : (ℕ → Type 0) → Type 0
  Cuts held = HasAccess s.graph (λ v. Member initial v × (held v → ⊥)) target → ⊥

  cuts-rising : Rising Cuts
  cuts-rising A B h c d =
      c (opens-more s.graph (λ v. Member initial v × (B v → ⊥)) (λ v. Member initial v × (A v → ⊥)) (λ v p. (p.0, λ a. p.1 (h v a))) target d)

  -- the mask of all other bits picks the other initial vertices
  picks-others : (m v : ℕ) → m < masks → Iff (Picked initial (masks - 1 - m) v) (Member initial v × (Picked initial m v → ⊥))
  unfolding Picked Member
  picks-others m v l =
      record {
        to = λ p. let e = digit_not 14 m (place_among initial v) l (below p.0) in (p.0, λ q. absurd (let a = p.1 in let b = q.1 in omega arith));
        from = λ p.
            let e = digit_not 14 m (place_among initial v) l (below p.0) in
            let z = not-member m (place_among initial v) (λ k. p.1 (p.0, k)) in
            (p.0, omega arith);
      }
    where
      below : Member initial v → place_among initial v < 14
      below k = lt_of_lt_of_le (place-lt initial v k) (few false s initial w ch)

  module _ (f g : List ℕ) (fam : FamilyOf initial (λ held. HasAccess s.graph held target) f) (d : Dual f g) where
    dual-family : FamilyOf initial Cuts g
    dual-family =
        record {
          each = λ m l.
              let o : masks - 1 - m < masks = omega arith in
              let i = d.each m l in
              let e = fam.each (masks - 1 - m) o in
              let P : ℕ → Type 0 = Picked initial (masks - 1 - m) in
              let Q : ℕ → Type 0 = λ v. Member initial v × (Picked initial m v → ⊥) in
              record {
                to = λ h a. i.to h (e.from (opens-more s.graph Q P (λ v. (picks-others m v l).from) target a));
                from = λ c. i.from (λ h. c (opens-more s.graph P Q (λ v. (picks-others m v l).to) target (e.to h)));
              };
        }

    has-cut : (x : ℕ) → Iff (Has initial Cuts x) (CutSet s target x)
    has-cut x =
        record {
          to = λ h. record {
            chosen = λ v m. (ch.each v).to (h.0.each v m);
            shut = λ a. h.1 (opens-more s.graph (λ v. Chosen false s v × (Member x v → ⊥)) (λ v. Member initial v × (Member x v → ⊥))
                (λ v p. ((ch.each v).from p.0, p.1)) target a);
          };
          from = λ c. (
            record { each = λ v m. (ch.each v).from (c.chosen v m) },
            λ a. c.shut (opens-more s.graph (λ v. Member initial v × (Member x v → ⊥)) (λ v. Chosen false s v × (Member x v → ⊥))
                (λ v p. ((ch.each v).to p.0, p.1)) target a),
          );
        }

    smallest-cut : (x : ℕ) → Iff (Smallest (Has initial Cuts) x) (Smallest (CutSet s target) x)
    smallest-cut x = smallest-same (Has initial Cuts) (CutSet s target) has-cut x

    module _ (m : List ℕ) (min : MinimalMembers g m) where
      -- the list of the minimal members' sets is the list of the smallest cut sets
      cut_list : (l : List ℕ) → ListOf initial m l → CutList s target l
      cut_list l o =
          exactly-same (Smallest (Has initial Cuts)) (Smallest (CutSet s target)) l smallest-cut
          (list-smallest initial Cuts cuts-rising g (initial-fits s target initial w ch) (few false s initial w ch) dual-family m min l o)

      pub cut-family : (n : ℕ) → length m ≡ family_words → Words m → n ≡ size m → CutFamily s target initial m n
      cut-family n long words e =
          let fits = initial-fits s target initial w ch in
          let on = minimal-on-chosen initial Cuts cuts-rising g dual-family m min in
          record {
            words = long;
            few = few false s initial w ch;
            exact = on;
            count = sym e;
            cuts = sets_of initial m;
            is_list = cut_list (sets_of initial m) (list_of initial m fits long on);
            counted = e ∙ sym (length-sets-of initial m long words);
            each = cut_list;
          }
