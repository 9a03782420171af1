-- The least of a family's sums.
-- Assumes nothing.
use mathlib.Core.Path.{◌≡◌, refl, sym, ap, ◌∙◌, subst}
use mathlib.Core.Logic.{◌⊎◌, inl, inr, ⊎_elim}
use mathlib.Core.List.{List, [], ◌∷◌, ◌++◌, map, map-append}
use Prim.Native.Nat.{ℕ, ◌+◌, ◌-◌, ◌*◌, ◌%◌, ◌^◌, min, ◌≤◌, ◌<◌}
use native.Mathlib.Omega.{arith}
use lib.Count.{count_trailing_zeros}
use lib.ListN.{length, get_or, drop}
use Rattle.vertex_set.specs.Order.{Listed, sum_over}
use Rattle.vertex_set.proofs.Cases.{less-or}
use Rattle.vertex_set.proofs.Places.{places, places-none, lowest}
use Rattle.vertex_set.proofs.Sorted.{listed-map, listed-of-map}
use Rattle.vertex_set.proofs.Sums.{sum_bound}
use Rattle.scores.specs.Never.{never}
use Rattle.families.specs.Inner.Family.{In}
use Rattle.families.proofs.Masks.{spread, set-of, set-within}
use Rattle.family_lists.specs.Inner.Lists.{Summable, SumTables, SumOfMember, LeastSum, LeastBy}
use Rattle.sums.specs.Inner.Sums.{sum_at, WeightsOf, SumsFit, SumTable}
use Rattle.family_lists.specs.Inner.Tables.{TablesFit, sum_by, masks_in, rising}
use Rattle.least_sums.specs.Inner.Least.{least_of}
use Rattle.family_lists.proofs.Lists.{rising-drop, rising-end}
use Rattle.family_lists.proofs.Order.{listed-members, member-small}
use Rattle.sums.proofs.Tables.{tables-sum}

-- ---- the least of a list

pub least_start : (l : List ℕ) (d : ℕ) → least_of d l ≤ d
least_start [] d = omega arith
least_start (x ∷ l) d = let ih = least_start l (min d x) in omega arith

pub least-listed : (l : List ℕ) (d x : ℕ) → Listed l x → least_of d l ≤ x
least-listed [] d x z = absurd z
least-listed (y ∷ l) d x h =
    ⊎_elim (λ e. let ih = least_start l (min d y) in omega arith) (λ m. least-listed l (min d y) x m) h

pub least-is : (l : List ℕ) (d : ℕ) → (least_of d l ≡ d) ⊎ Listed l (least_of d l)
least-is [] d = inl refl
least-is (y ∷ l) d =
    ⊎_elim
    (λ e. ⊎_elim (λ less. inl (omega arith)) (λ le. inr (inl (omega arith))) (less-or d y))
    (λ m. inr (inr m)) (least-is l (min d y))

least-append : (l k : List ℕ) (d : ℕ) → least_of d (l ++ k) ≡ least_of (least_of d l) k
least-append [] k d = refl
least-append (x ∷ l) k d = least-append l k (min d x)

-- ---- the loop over a word's lanes

-- The sums of the lanes of rest are still to be looked at.
pub record Seeking (g : ℕ → ℕ) (y best rest least : ℕ) : Type 0 where
  pub small : rest < 2 ^ 64
  pub value : least_of least (map g (places 64 rest)) ≡ least_of best (map g (places 64 y))

pub seeking-more : (g : ℕ → ℕ) (y best rest least next : ℕ) → (rest ≡ 0 → ⊥) → next ≡ min least (g (count_trailing_zeros 64 rest))
    → Seeking g y best rest least → Seeking g y best (rest - (1 * 2 ^ count_trailing_zeros 64 rest) % 2 ^ 64) next
seeking-more g y best rest least next ne e p =
    let l = lowest rest p.small ne in
    rw (l.power, e)
    (record { small = omega (arith, p.small); value = sym (ap (λ (k : List ℕ). least_of least (map g k)) l.list) ∙ p.value })

pub seeking-end : (g : ℕ → ℕ) (y best rest least : ℕ) → rest ≡ 0 → Seeking g y best rest least → least ≡ least_of best (map g (places 64 y))
seeking-end g y best rest least z p = sym (ap (λ (k : List ℕ). least_of least (map g k)) (places-none 64 rest z)) ∙ p.value

-- ---- the loop over the words

-- The sums of the words from b on are still to be looked at.
abbrev pub Remaining : (ℕ → ℕ) → List ℕ → ℕ → ℕ → Type 0
Remaining N f least b = least_of least (map N (rising b (drop b f))) ≡ least_of never (map N (rising 0 f))

pub remaining-more : (N : ℕ → ℕ) (f : List ℕ) (least b next : ℕ) → b < length f → next ≡ least_of least (map N (masks_in b (get_or f b 0)))
    → Remaining N f least b → Remaining N f next (b + 1)
remaining-more N f least b next h e r =
    let rest : List ℕ = rising (b + 1) (drop (b + 1) f) in
    let parts : map N (rising b (drop b f)) ≡ map N (masks_in b (get_or f b 0)) ++ map N rest =
    ap (map N) (rising-drop f b h) ∙ map-append N (masks_in b (get_or f b 0)) rest in
    rw e (sym (least-append (map N (masks_in b (get_or f b 0))) (map N rest) least) ∙ sym (ap (least_of least) parts) ∙ r)

-- a word without members changes nothing
pub remaining-same : (N : ℕ → ℕ) (f : List ℕ) (least b : ℕ) → get_or f b 0 ≡ 0 → least ≡ least_of least (map N (masks_in b (get_or f b 0)))
remaining-same N f least b z = sym (ap (λ (k : List ℕ). least_of least (map N (map (λ (i : ℕ). b * 64 + i) k))) (places-none 64 (get_or f b 0) z))

pub remaining-end : (N : ℕ → ℕ) (f : List ℕ) (least b : ℕ) → b ≡ length f → Remaining N f least b → least ≡ least_of never (map N (rising 0 f))
remaining-end N f least b e r = sym (ap (λ (k : List ℕ). least_of least (map N k)) (rising-end f b e)) ∙ r

-- ---- the least sum

module _ (c : ℕ) (value : ℕ → ℕ) (h : c < 2 ^ 64) (s : Summable c value) (ws : List ℕ) (w : WeightsOf c value ws) where
  -- every sum stays below never
  value-bound : (m : ℕ) → sum_at ws m ≤ 64 * (2 ^ 56 - 1)
  unfolding sum_over
  value-bound m =
      let x : ℕ = spread 64 c m in
      rw (w.sum m x (set-of c m h))
      (sum_bound value (2 ^ 56 - 1) 64 x (λ v i. let k = s.small v ((set-within c m x (set-of c m h)).each v i) in omega arith))

  pub value-fits : SumsFit ws
  value-fits = record { fits = λ m. let b = value-bound m in omega arith }

  pub value-tables : (low high : List ℕ) → TablesFit low high → SumTable ws 0 low → SumTable ws 7 high → SumTables c value low high
  value-tables low high fit p q =
      record {
        fit = fit;
        word = h;
        below = λ m l. let e = tables-sum ws low high p q m l in let v = value-bound m in omega arith;
        sum = λ m x l o. tables-sum ws low high p q m l ∙ w.sum m x o;
      }

pub least-sum : (f low high : List ℕ) (r : ℕ) → length f ≡ 256 → r ≡ least_of never (map (sum_by low high) (rising 0 f)) → LeastBy f low high r
least-sum f low high r words e = record { each = sums }
  where
    l : List ℕ
    l = map (sum_by low high) (rising 0 f)

    some : (r ≡ never) ⊎ Listed l r
    some = subst (λ (x : ℕ). (x ≡ never) ⊎ Listed l x) (sym e) (least-is l never)

    among : (m : ℕ) → In f m → r ≤ sum_by low high m
    among m i =
        subst (λ (x : ℕ). x ≤ sum_by low high m) (sym e)
        (least-listed l never (sum_by low high m) (listed-map (sum_by low high) (rising 0 f) m ((listed-members f m).from i)))

    sums : (c : ℕ) (value : ℕ → ℕ) → SumTables c value low high → LeastSum c f value r
    sums c value t =
        record {
          none = λ no. ⊎_elim (λ z. z) (λ k. let m = found k in absurd (no m.mask m.below m.is)) some;
          below = λ m b i. let a = among m i in let v = t.below m b in omega arith;
          reached = λ m b i. let a = among m i in let v = t.below m b in ⊎_elim (λ z. absurd (omega arith)) found some;
          least = λ m x b i o. let a = among m i in let v = t.sum m x b o in omega arith;
        }
      where
        found : Listed l r → SumOfMember c f value r
        found k =
            let g = listed-of-map (sum_by low high) (rising 0 f) r k in
            let i = (listed-members f g.0).to g.1 in
            let b = member-small f g.0 words i in
            record {
              mask = g.0;
              set = spread 64 c g.0;
              below = b;
              is = i;
              of = set-of c g.0 t.word;
              sum = g.2 ∙ t.sum g.0 (spread 64 c g.0) b (set-of c g.0 t.word);
            }
