-- Finding the score: the masks of the base's sets are listed, compared at the values of all initial vertices, and the lowest kept.
-- Assumes nothing.
use mathlib.Core.Path.{◌≡◌, refl, sym, ap, subst, ◌∙◌}
use mathlib.Core.Bool.{false}
use mathlib.Core.List.{List, [], ◌∷◌, ◌++◌, map-append}
use Prim.Native.Nat.{ℕ, zero, suc, ◌+◌, ◌/◌, ◌^◌, ◌≤◌, ◌<◌}
use native.Mathlib.Nat.{pow-suc}
use native.Mathlib.Omega.{arith}
use lib.Count.{ones}
use lib.ListN.{length, get_or, take, drop, set, length-append, length-map, length-set}
use lib.Pow.{pow_mono}
use lib.Seq.{take-append_seam, get_or-set_other}
use Rattle.vertex_set.specs.Set.{Iff}
use Rattle.vertex_set.specs.Order.{Listed, Before}
use Rattle.vertex_set.proofs.Sorted.{listed-map, listed-of-map, Sorted, sorted-map, sorted-ordered, ordered-sorted}
use Rattle.setup.specs.declared.Setup.{Setup}
use Rattle.setup.specs.Setup.{ChosenSet}
use Rattle.formed.specs.WellFormed.{WellFormed}
use Rattle.families.specs.Inner.Family.{In, masks}
use Rattle.families.specs.Inner.Masks.{SetOfMask}
use Rattle.families.proofs.Masks.{spread, spread-odd, set-of, set_is, set_before}
use Rattle.family_lists.specs.Inner.Lists.{ListOf, Writable, WroteSets}
use Rattle.family_lists.specs.Inner.Tables.{sum_by}
use Rattle.bases.specs.Base.{Base}
use Rattle.bases.specs.Inner.Readers.{BaseFamily, Values}
use Rattle.forecasts.proofs.Bounds.{longest-base}
use Rattle.multiset_keys.proofs.Sums.{key-tables}
use Rattle.antichains.specs.Antichains.{most_sets}
use Rattle.multiset_fronts.specs.Inner.{KeysLe, Front, CanKeep, KeptLowest}
use Rattle.multiset_fronts.proofs.Front.{front-map}
use Rattle.multiset_fronts.proofs.Lists.{take_more, take-stored}
use Rattle.multiset_scores.specs.Inner.{ValuesLe, BothKeys, sets_of_masks, CanCompare, ComparedLowest, SetsInPlace, ScoreFound}
use Rattle.multiset_scores.proofs.Thresholds.{threshold, in_halves, masks-values}
use Rattle.multiset_scores.proofs.Scores.{front-points, score-of-front, few-of-front}

-- ---- the lowest of listed masks' sets

module _ (list : List ℕ) (n initial : ℕ) (points low₁ high₁ low₂ high₂ : List ℕ) (p : CanCompare list n initial) (word : initial < 2 ^ 64)
    (k : BothKeys initial points low₁ high₁ low₂ high₂) where
  small : (x : ℕ) → Listed (take n list) x → x < masks
  small x h = let l = p.exact x h in let m = pow_mono {i = ones initial} {j = 14} p.few in omega arith

  pub can-keep : CanKeep list n low₁ high₁ low₂ high₂
  can-keep =
      record {
        sets = p.sets;
        few = p.most;
        small = small;
        ordered = p.ordered;
        is_first = key-tables initial points (take 7 k.thresholds) low₁ high₁ k.first;
        is_second = key-tables initial points (take 7 (drop 7 k.thresholds)) low₂ high₂ k.second;
      }

  pub compared-lowest : (kept : List ℕ) (r : ℕ) → KeptLowest list n low₁ high₁ low₂ high₂ kept r → ComparedLowest list n initial points kept r
  compared-lowest kept r l =
      record {
        most = l.most;
        front = front-map (KeysLe (sum_by low₁ high₁) (sum_by low₂ high₂)) (ValuesLe points) (spread 64 initial) (take n list) (take r kept)
            (λ x y i j. same x y (small x i) (small y j))
            (λ x y i j. set_before initial x y _ _ word (p.exact x i) (p.exact y j) (set-of initial x word) (set-of initial y word)) l.front;
      }
    where
      same : (x y : ℕ) → x < masks → y < masks
          → Iff (KeysLe (sum_by low₁ high₁) (sum_by low₂ high₂) x y) (ValuesLe points (spread 64 initial x) (spread 64 initial y))
      same =
          masks-values points (take 7 k.thresholds) (take 7 (drop 7 k.thresholds)) k.first.columns k.second.columns k.first.are k.second.are initial
          (λ v m. in_halves k.thresholds k.values.long (get_or points v 0) (threshold initial (λ (v : ℕ). get_or points v 0) k.thresholds k.values p.few word v m))
          (sum_by low₁ high₁) (sum_by low₂ high₂) (λ m l. k.first.sums.sum m (spread 64 initial m) l (set-of initial m word))
          (λ m l. k.second.sums.sum m (spread 64 initial m) l (set-of initial m word)) word

-- ---- masks in the places of sets

-- The sets of the masks before place i stand there; from i on stand masks.
pub record Naming (initial : ℕ) (kept₀ : List ℕ) (i : ℕ) (kept : List ℕ) : Type 0 where
  pub long : length kept ≡ length kept₀
  pub done : take i kept ≡ sets_of_masks initial (take i kept₀)
  pub rest : (j : ℕ) → i ≤ j → get_or kept j 0 ≡ get_or kept₀ j 0

pub naming-none : (initial : ℕ) (kept : List ℕ) → Naming initial kept 0 kept
naming-none initial kept = record { long = refl; done = refl; rest = λ j h. refl }

pub naming-more : (initial : ℕ) (kept₀ : List ℕ) (i : ℕ) (kept : List ℕ) → initial < 2 ^ 64 → i < length kept₀ → Naming initial kept₀ i kept
    → (x : ℕ) → SetOfMask initial (get_or kept i 0) x → Naming initial kept₀ (i + 1) (set kept i x)
naming-more initial kept₀ i kept word l p x s =
    record {
      long = length-set kept i x ∙ p.long;
      done = take-stored kept i x (let e = p.long in omega arith)
          ∙ (ap (λ (q : List ℕ). q ++ (x ∷ [])) p.done
          ∙ (ap (λ (z : ℕ). sets_of_masks initial (take i kept₀) ++ (z ∷ [])) (set_is initial (get_or kept i 0) x word s ∙ ap (spread 64 initial) (p.rest i (omega arith)))
          ∙ (sym (map-append (spread 64 initial) (take i kept₀) (get_or kept₀ i 0 ∷ [])) ∙ ap (sets_of_masks initial) (sym (take_more kept₀ i l)))));
      rest = λ j h. get_or-set_other kept i j x 0 (λ e. omega arith) ∙ p.rest j (omega arith);
    }

pub naming-all : (initial : ℕ) (kept₀ : List ℕ) (n i : ℕ) (kept : List ℕ) → i ≡ n → Naming initial kept₀ i kept → SetsInPlace initial kept₀ n kept
naming-all initial kept₀ n i kept e p = record { are = subst (λ (j : ℕ). take j kept ≡ sets_of_masks initial (take j kept₀)) e p.done }

-- ---- the base listed

-- over the first n vertices a mask of n bits stands for itself
spread_none : (k m : ℕ) → spread k 0 m ≡ 0
unfolding spread
spread_none zero m = refl
spread_none (suc k) m = let r = spread_none k m in omega arith

spread-own : (k n c m : ℕ) → n ≤ k → c + 1 ≡ 2 ^ n → m < 2 ^ n → spread k c m ≡ m
unfolding spread
spread-own zero n c m h e l = let z : n ≡ 0 = omega arith in let q : m < 2 ^ 0 = rw z at l in omega arith
spread-own (suc k) zero c m h e l =
    let z : c ≡ 0 = omega arith in
    ap (λ (y : ℕ). spread (suc k) y m) z ∙ (spread_none (suc k) m ∙ omega arith)
spread-own (suc k) (suc n) c m h e l =
    let p = pow-suc 2 n in
    let r = spread-own k n (c / 2) (m / 2) (omega arith) (omega arith) (omega arith) in
    spread-odd k c m (omega arith) ∙ omega arith

own-set : (m x : ℕ) → m < masks → SetOfMask 16383 m x → x ≡ m
own-set m x l s = set_is 16383 m x (omega arith) s ∙ spread-own 64 14 16383 m (omega arith) refl l

module _ (s : Setup) (target initial : ℕ) (wf : WellFormed s) (word : initial < 2 ^ 64) (m : List ℕ) (k : ℕ) (f : BaseFamily false s s.graph target initial m k) where
  pub can-list : (places : ℕ) → places ≡ most_sets → Writable 16383 m places
  unfolding ones
  can-list places e =
      record {
        words = f.words;
        few = omega arith;
        exact = record { below = λ x l i. l };
        room = let a = f.count in let b = f.counted in let c = longest-base false s s.graph target f.base wf f.is_base in omega arith;
      }

  module _ (entry : List ℕ) (n : ℕ) (exit : List ℕ) (w : WroteSets 16383 m entry n exit) where
    listed : take n exit ≡ w.list
    listed = ap (λ (l : List ℕ). take n l) w.wrote ∙ (ap (λ (j : ℕ). take j (w.list ++ drop (length w.list) entry)) w.count ∙ take-append_seam w.list (drop (length w.list) entry))

    -- what is listed are the masks of the family
    member : (x : ℕ) → Listed w.list x → (x < masks) × In m x
    member x h =
        let r = w.is.sound x h in
        let e = own-set r.0 x r.1 r.3 in
        (subst (λ (z : ℕ). z < masks) (sym e) r.1, subst (In m) (sym e) r.2)

    exact : (x : ℕ) → Listed w.list x → x < 2 ^ ones initial
    exact x h = let r = member x h in f.exact.below x r.0 r.1

    sets-listed : ListOf initial m (sets_of_masks initial w.list)
    sets-listed =
        record {
          sound = λ x h.
              let r = listed-of-map (spread 64 initial) w.list x h in
              let q = member r.0 r.1 in
              (r.0, q.0, q.1, subst (SetOfMask initial r.0) (sym r.2) (set-of initial r.0 word));
          whole = λ x l i.
              let r = w.is.whole x l i in
              (spread 64 initial x, listed-map (spread 64 initial) w.list x (subst (Listed w.list) (own-set x r.0 l r.2) r.1), set-of initial x word);
          ordered = sorted-ordered (sets_of_masks initial w.list) (sorted-map Before Before (spread 64 initial) w.list
              (λ x y i j. set_before initial x y _ _ word (exact x i) (exact y j) (set-of initial x word) (set-of initial y word))
              (ordered-sorted w.list w.is.ordered));
        }

    base : Base false s s.graph target (sets_of_masks initial w.list)
    base = f.each (sets_of_masks initial w.list) sets-listed

    few-sets : n ≤ most_sets
    few-sets =
        let a = w.count in
        let b = length-map w.list (spread 64 initial) in
        let c = longest-base false s s.graph target (sets_of_masks initial w.list) wf base in omega arith

    pub can-compare : CanCompare exit n initial
    can-compare =
        record {
          sets = let a = ap length w.wrote in let b = length-append w.list (drop (length w.list) entry) in let c = w.count in omega arith;
          most = few-sets;
          few = f.few;
          exact = λ x h. exact x (subst (λ (l : List ℕ). Listed l x) listed h);
          ordered = subst (Sorted Before) (sym listed) (ordered-sorted w.list w.is.ordered);
        }

    pub few-left : (points kept : List ℕ) (r : ℕ) → ComparedLowest exit n initial points kept r → r ≤ most_sets
    few-left points kept r c = let a = few-sets in let b = c.most in omega arith

    pub score-found : (points : List ℕ) → Values false s points → ChosenSet false s initial → (kept kept' : List ℕ) (r : ℕ) → length kept' ≡ most_sets
        → ComparedLowest exit n initial points kept r → SetsInPlace initial kept r kept' → ScoreFound s target kept' r
    score-found points p ch kept kept' r long c t =
        let g : Front (ValuesLe points) (sets_of_masks initial w.list) (take r kept') =
        subst (λ (l : List ℕ). Front (ValuesLe points) (sets_of_masks initial l) (take r kept')) listed
        (subst (Front (ValuesLe points) (sets_of_masks initial (take n exit))) (sym t.are) c.front) in
        let h = front-points s points p (sets_of_masks initial w.list) (take r kept') g in
        record {
          long = long;
          most = few-left points kept r c;
          few = few-of-front s target (sets_of_masks initial w.list) (take r kept') base h initial ch word f.few;
          score = score-of-front s target (sets_of_masks initial w.list) (take r kept') base h;
        }
