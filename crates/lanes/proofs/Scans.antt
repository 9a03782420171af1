-- A row's vertices are passed one after the other, and the parts of those passed are merged.
-- Assumes nothing.
use mathlib.Core.Path.{◌≡◌, sym, ap, ◌∙◌, subst}
use mathlib.Core.Bool.{Bool}
use mathlib.Core.List.{List}
use mathlib.Core.Logic.{◌⊎◌, ⊎_elim}
use Prim.Native.Nat.{ℕ, ◌+◌, ◌*◌, ◌<◌}
use native.Mathlib.Omega.{arith}
use lib.ListN.{length, get_or, take, drop}
use lib.Seq.{get_or-take, get_or-drop}
use Rattle.vertex_set.specs.Set.{Member, Within, Iff}
use Rattle.vertex_set.proofs.Cases.{same_or}
use Rattle.vertex_set.proofs.Decisions.{iff-trans}
use Rattle.successors.specs.Inner.{Without}
use Rattle.successors.proofs.Members.{Passed, passed-more, passed-all, left-within}
use Rattle.family_words.specs.Inner.Words.{At, PartWhere, Merged}
use Rattle.family_words.proofs.Families.{part-as}
use Rattle.lanes.specs.Inner.Lanes.{Lane, Over}
use Rattle.lanes.proofs.Over.{merged-same, over-same, over-one, over-more}

-- the words from v * 16 on are the part of v
pub part-lane : (w : List ℕ) (v : ℕ) (part : List ℕ) (b i : ℕ) → b < 16 → part ≡ take 16 (drop (v * 16) w) → Iff (At part b i) (Lane w b i v)
unfolding At Lane
part-lane w v part b i h q =
    let e : get_or part b 0 ≡ get_or w (v * 16 + b) 0 =
    ap (λ (l : List ℕ). get_or l b 0) q ∙ get_or-take 16 (drop (v * 16) w) b 0 h ∙ get_or-drop (v * 16) w b 0 in
    record { to = subst (λ (x : ℕ). Member x i) e; from = subst (λ (x : ℕ). Member x i) (sym e) }

pub record Scan (any : Bool) (w : List ℕ) (row left : ℕ) (out : List ℕ) : Type 0 where
  pub within : Within left row
  pub family : PartWhere (λ b i. Over any (Passed row left) (Lane w b i)) out

module _ (any : Bool) (w : List ℕ) (row : ℕ) where
  -- the first vertex alone has been passed
  pub scan-first : (v rest : ℕ) (out : List ℕ) → Member row v → Without row v rest → length out ≡ 16 → out ≡ take 16 (drop (v * 16) w)
      → Scan any w row rest out
  scan-first v rest out m o long e =
      record {
        within = record { each = λ i r. ((o.each i).to r).0 };
        family = record {
          words = long;
          each = λ b i hb hi.
              iff-trans (part-lane w v out b i hb e)
              (iff-trans (over-one any (Lane w b i) v) (over-same any (λ u. u ≡ v) (Passed row rest) (Lane w b i) passed));
        };
      }
    where
      passed : (u : ℕ) → Iff (u ≡ v) (Passed row rest u)
      passed u =
          record {
            to = λ q. (subst (Member row) (sym q) m, λ r. ((o.each u).to r).1 q);
            from = λ p. ⊎_elim (λ q. q) (λ q. absurd (p.1 ((o.each u).from (p.0, q)))) (same_or u v);
          }

  -- and one more
  pub scan-more : (left v rest : ℕ) (part out out' : List ℕ) → Member left v → Without left v rest → part ≡ take 16 (drop (v * 16) w)
      → Scan any w row left out → PartWhere (λ b i. Merged any (At out b i) (At part b i)) out' → Scan any w row rest out'
  scan-more left v rest part out out' m o e s l =
      record {
        within = left-within row left v rest s.within o;
        family = part-as out' l (λ b i hb hi.
            iff-trans (merged-same any _ _ _ _ (s.family.each b i hb hi) (part-lane w v part b i hb e))
            (iff-trans (over-more any (Passed row left) (Lane w b i) v)
            (over-same any (λ u. Passed row left u ⊎ (u ≡ v)) (Passed row rest) (Lane w b i) (passed-more row left v rest s.within m o))));
      }

  -- nothing is left
  pub scan-done : (left : ℕ) (out : List ℕ) → left ≡ 0 → Scan any w row left out → PartWhere (λ b i. Over any (Member row) (Lane w b i)) out
  scan-done left out e s =
      part-as out s.family (λ b i hb hi. over-same any (Passed row left) (Member row) (Lane w b i) (passed-all row left e))
