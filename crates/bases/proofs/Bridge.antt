-- Access and lockout as two families of a rising predicate, derivability: what they say of the target's sets, its base and its score.
-- Assumes nothing.
use mathlib.Core.Path.{◌≡◌, sym, subst, ◌∙◌}
use mathlib.Core.Bool.{Bool}
use mathlib.Core.List.{List}
use mathlib.Core.Logic.{⊎_elim}
use Prim.Native.Nat.{ℕ, ◌^◌, ◌≤◌, ◌<◌}
use native.Mathlib.Omega.{arith}
use lib.ListN.{length}
use lib.Count.{ones}
use Rattle.vertex_set.specs.Set.{Within, Iff}
use Rattle.vertex_set.specs.Order.{Smallest, sum_over}
use Rattle.vertex_set.proofs.Cases.{search-below}
use Rattle.vertex_set.proofs.Lists.{exactly-same}
use Rattle.vertex_set.proofs.Sets.{within-trans}
use Rattle.setup.specs.declared.Graph.{Graph}
use Rattle.setup.specs.declared.Setup.{Setup}
use Rattle.setup.specs.Setup.{ChosenSet}
use Rattle.formed.specs.WellFormed.{WellFormed}
use Rattle.derivations.specs.Derivation.{Derivation}
use Rattle.derivations.specs.Both.{rule_of}
use Rattle.families.specs.Inner.Family.{family_words, masks, In, MinimalMembers, size, LeastBelow}
use Rattle.families.specs.Inner.Masks.{SetOfMask}
use Rattle.families.specs.Inner.Exact.{OnChosen, WordsFor}
use Rattle.family_lists.specs.Inner.Lists.{ListOf, LeastSum}
use Rattle.families.proofs.Families.{in-or}
use Rattle.families.proofs.Masks.{spread, set-of}
use Rattle.families.proofs.Exact.{minimal-on-chosen, least-below}
use Rattle.family_lists.proofs.Order.{Words}
use Rattle.family_lists.proofs.SetLists.{sets_of, list_of, length-sets-of}
use Rattle.family_lists.proofs.SetsOfFamily.{Has, MaskFor, mask-for, set-for, smallest-within, list-smallest}
use Rattle.tables.specs.Inner.Table.{FamilyOfVertex}
use Rattle.tables.proofs.Tables.{derivation-rising}
use Rattle.bases.specs.Inner.Readers.{BothFamilies}
use Rattle.bases.proofs.Formed.{few}
use Rattle.bases.specs.Base.{TargetSet, MinimalSet, Base}
use Rattle.bases.specs.Score.{sum_of, Score}

-- minimal masks have no bit beyond the chosen vertices
pub on-chosen : (loss : Bool) (g : Graph) (target chosen : ℕ) (f m : List ℕ) → FamilyOfVertex (rule_of loss g) chosen target f → MinimalMembers f m → OnChosen chosen m
on-chosen loss g target chosen f m fam min =
    minimal-on-chosen chosen (λ held. Derivation (rule_of loss g) held target) (derivation-rising loss g target) f fam m min

-- so they are all in the words of the chosen vertices' masks
pub least-words : (loss : Bool) (g : Graph) (target chosen : ℕ) (f : List ℕ) (n : ℕ) → FamilyOfVertex (rule_of loss g) chosen target f → WordsFor chosen n → LeastBelow n f
least-words loss g target chosen f n fam w =
    least-below chosen (λ held. Derivation (rule_of loss g) held target) (derivation-rising loss g target) f fam n w

-- ---- the target's sets, and those of the family

module _ (loss : Bool) (s : Setup) (g : Graph) (target chosen : ℕ) (ch : ChosenSet loss s chosen) where
  -- The target has a derivation from what is held.
  abbrev Derives : (ℕ → Type 0) → Type 0
  Derives held = Derivation (rule_of loss g) held target

  pub target-has : (x : ℕ) → Iff (TargetSet loss s g target x) (Has chosen Derives x)
  target-has x =
      record {
        to = λ t. (record { each = λ v m. (ch.each v).from (t.chosen v m) }, t.derives);
        from = λ h. record { chosen = λ v m. (ch.each v).to (h.0.each v m); derives = h.1 };
      }

  pub minimal-smallest : (x : ℕ) → Iff (MinimalSet loss s g target x) (Smallest (Has chosen Derives) x)
  minimal-smallest x =
      record {
        to = λ h. record { is = (target-has x).to h.is; none = λ y p t. h.minimal y p t.1 };
        from = λ h. record { is = (target-has x).from h.is; minimal = λ y p d. h.none y p (within-trans p.within h.is.0, d) };
      }

  module _ (f : List ℕ) (fits : chosen < 2 ^ 64) (small : ones chosen ≤ 14) (fam : FamilyOfVertex (rule_of loss g) chosen target f) where
    -- every set with a derivation has a minimal one within it
    pub minimal-within : (x : ℕ) → TargetSet loss s g target x → (y : ℕ) × Within y x × MinimalSet loss s g target y
    minimal-within x t =
        let h = smallest-within chosen Derives (derivation-rising loss g target) f fits small fam x ((target-has x).to t) in
        (h.0, h.1, (minimal-smallest h.0).from h.2)

    -- the list of the minimal members' sets is the base
    pub base-of : (m : List ℕ) → MinimalMembers f m → (l : List ℕ) → ListOf chosen m l → Base loss s g target l
    base-of m min l o =
        exactly-same (Smallest (Has chosen Derives)) (MinimalSet loss s g target) l (λ x. record { to = (minimal-smallest x).from; from = (minimal-smallest x).to })
        (list-smallest chosen Derives (derivation-rising loss g target) f fits small fam m min l o)

    -- the least sum over the members' sets is the score
    pub score-of : (r : ℕ) (value : ℕ → ℕ) → ((x : ℕ) → sum_over value x ≡ sum_of loss s x) → LeastSum chosen f value r → Score loss s g target r
    score-of r value same h =
        record {
          none = λ n. h.none (λ m l i. n (spread 64 chosen m) (set m (spread 64 chosen m) l i (set-of chosen m fits)));
          some = λ x t. let k = mask x t in h.below k.mask k.is.room k.member;
          least = λ x t.
              let k = mask x t in
              subst (λ (n : ℕ). r ≤ n) (same x) (h.least k.mask x k.is.room k.member (k.is.of ((target-has x).to t).0));
          reached = λ l. ⊎_elim (λ e. found e.0 e.1 e.2) (λ n. absurd (let z = h.none n in omega arith)) (search-below (In f) (in-or f) masks);
        }
      where
        mask : (x : ℕ) → TargetSet loss s g target x → MaskFor f chosen x
        mask x t = mask-for chosen Derives (derivation-rising loss g target) f fits small fam x ((target-has x).to t)

        set : (m x : ℕ) → m < masks → In f m → SetOfMask chosen m x → TargetSet loss s g target x
        set m x l i o = (target-has x).from (set-for chosen Derives (derivation-rising loss g target) f fits small fam m x l i o)

        found : (m : ℕ) → m < masks → In f m → (x : ℕ) × TargetSet loss s g target x × (r ≡ sum_of loss s x)
        found m l i = let q = h.reached m l i in (q.set, set q.mask q.set q.below q.is q.of, q.sum ∙ same q.set)

-- ---- a family whose sets are the base

pub both-families : (loss : Bool) (s : Setup) (g : Graph) (target chosen : ℕ) (f m : List ℕ) (n : ℕ) → chosen < 2 ^ 64 → WellFormed s → ChosenSet loss s chosen
    → FamilyOfVertex (rule_of loss g) chosen target f → MinimalMembers f m → length m ≡ family_words → Words m → n ≡ size m → BothFamilies loss s g target chosen f m n
both-families loss s g target chosen f m n fits w ch fam min long words e =
    record {
      is_family = fam;
      is_minimal = min;
      base = record {
        words = long;
        few = k;
        exact = on;
        count = sym e;
        base = sets_of chosen m;
        is_base = base-of loss s g target chosen ch f fits k fam m min (sets_of chosen m) (list_of chosen m fits long on);
        counted = e ∙ sym (length-sets-of chosen m long words);
        each = base-of loss s g target chosen ch f fits k fam m min;
      };
    }
  where
    k : ones chosen ≤ 14
    k = few loss s chosen w ch

    on : OnChosen chosen m
    on = on-chosen loss g target chosen f m fam min
