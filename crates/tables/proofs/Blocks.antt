-- Blocks of a table: how they are taken from it and put into it, and that each block follows from one with a bit fewer.
-- Assumes nothing.
use mathlib.Core.Path.{◌≡◌, refl, sym, ap, subst, ◌∙◌}
use Rattle.std.specs.Prelude.{None, Some}
use mathlib.Core.Bool.{Bool}
use mathlib.Core.List.{List}
use mathlib.Core.Logic.{◌⊎◌, inl, inr, ⊎_elim}
use Prim.Native.Nat.{ℕ, ◌+◌, ◌-◌, ◌*◌, ◌/◌, ◌%◌, ◌^◌, ◌≤◌, ◌<◌}
use native.Mathlib.Omega.{arith}
use lib.Count.{ones}
use lib.ListN.{length, get_or, take, drop, length-drop, get_or-eq_default}
use lib.Pow.{mod-mod-pow}
use lib.Seq.{length-take-le, get_or-take, get_or-drop}
use borrow.Rule.Slice.PartMut.{put_mid}
use Rattle.vertex_set.specs.Set.{Member, Within, Iff}
use Rattle.vertex_set.proofs.Cases.{same_or, less-or}
use Rattle.vertex_set.proofs.Decisions.{iff-trans}
use Rattle.vertex_set.proofs.Sets.{member_below}
use Rattle.vertex_set.proofs.Shifts.{in-low, in-high}
use Rattle.setup.specs.declared.Graph.{Graph}
use Rattle.setup.specs.Setup.{rows_at}
use Rattle.derivations.specs.Derivation.{Rule, Derivation}
use Rattle.derivations.specs.Both.{rule_of}
use Rattle.derivations.proofs.Admits.{admits-local, admits-some}
use Rattle.successors.specs.Inner.{Without, Successors, AllSuccessors}
use Rattle.successors.proofs.Members.{Passed, passed_none, passed-more, passed-all, left-within}
use Rattle.families.specs.Inner.Masks.{place_among, Picked}
use Rattle.families.proofs.Exact.{place-lt}
use Rattle.lanes.specs.Inner.Lanes.{Lane}
use Rattle.tables.specs.Inner.Steps.{Started, Closed, Quiet, Extended}
use Rattle.tables.specs.Inner.Table.{Table}
use Rattle.tables.specs.Inner.Blocks.{AtPlace, VertexAt, BlockOf, PutBlock, Block, TableBelow}
use Rattle.tables.proofs.Parts.{put-length, put-own, put_other}
use Rattle.tables.proofs.Extending.{same-derivable, derived-quiet, extended-from}

-- ---- the words of a block, vertex by vertex

part-long : (k at : ℕ) (w : List ℕ) → at + k ≤ length w → length (take k (drop at w)) ≡ k
part-long k at w h = length-take-le k (drop at w) (let d = length-drop at w in omega arith)

part-word : (k at j : ℕ) (w : List ℕ) → j < k → get_or (take k (drop at w)) j 0 ≡ get_or w (at + j) 0
part-word k at j w h = get_or-take k (drop at w) j 0 h ∙ get_or-drop at w j 0

-- the words of the first n vertices are taken
pub record TakenBelow (w : List ℕ) (b n : ℕ) (x : List ℕ) : Type 0 where
  pub place : n ≤ 64
  pub words : length x ≡ 1024
  pub each : (v j : ℕ) → v < n → j < 16 → get_or x (v * 16 + j) 0 ≡ get_or w (v * 256 + (b * 16 + j)) 0

module _ (w : List ℕ) (b : ℕ) where
  pub taken_none : (x : List ℕ) → length x ≡ 1024 → TakenBelow w b 0 x
  taken_none x e = record { place = omega arith; words = e; each = λ v j l h. absurd (omega arith) }

  pub taken_more : (n k l : ℕ) (x d : List ℕ) → length w ≡ 16384 → b < 16 → n < 64 → k ≡ 16 → l ≡ 16 → TakenBelow w b n x → d ≡ take l (drop (n * 256 + b * 16) w)
      → TakenBelow w b (n + 1) (put_mid (n * 16) k x d)
  taken_more n k l x d hw hb h hk hl t e =
      record {
        place = omega arith;
        words = put-length x d (n * 16) k fit long ∙ t.words;
        each = λ v j lv hj. ⊎_elim
            (λ q. subst (λ (u : ℕ). get_or (put_mid (n * 16) k x d) (u * 16 + j) 0 ≡ get_or w (u * 256 + (b * 16 + j)) 0) (sym q) (own j hj))
            (λ q. put_other x d (n * 16) k fit long (v * 16 + j) (inl (omega (arith, q))) ∙ t.each v j (omega (arith, q)) hj)
            (same_or v n);
      }
    where
      fit : n * 16 + k ≤ length x
      fit = let z = t.words in omega arith

      long : length d ≡ k
      long = ap length e ∙ part-long l (n * 256 + b * 16) w (omega arith) ∙ hl ∙ sym hk

      own : (j : ℕ) → j < 16 → get_or (put_mid (n * 16) k x d) (n * 16 + j) 0 ≡ get_or w (n * 256 + (b * 16 + j)) 0
      own j hj =
          let a : n * 256 + b * 16 + j ≡ n * 256 + (b * 16 + j) = omega arith in
          put-own x d (n * 16) k fit long j (omega arith) ∙ ap (λ (z : List ℕ). get_or z j 0) e ∙ part-word l (n * 256 + b * 16) j w (omega arith)
          ∙ ap (λ (z : ℕ). get_or w z 0) a

-- a vertex past the last has no words
past : (x w : List ℕ) (b v j : ℕ) → length x ≡ 1024 → length w ≡ 16384 → 64 ≤ v → get_or x (v * 16 + j) 0 ≡ get_or w (v * 256 + (b * 16 + j)) 0
past x w b v j hx hw h =
    get_or-eq_default x 0 {n = v * 16 + j} (omega arith) ∙ sym (get_or-eq_default w 0 {n = v * 256 + (b * 16 + j)} (omega arith))

pub taken-all : (w : List ℕ) (b n : ℕ) (x : List ℕ) → length w ≡ 16384 → 64 ≤ n → TakenBelow w b n x → BlockOf w b x
taken-all w b n x hw h t =
    record {
      words = t.words;
      each = λ v j hj. ⊎_elim (λ l. t.each v j (omega arith) hj) (past x w b v j t.words hw) (less-or v 64);
    }

-- the words of the first n vertices are put in
pub record PutBelow (x : List ℕ) (b : ℕ) (w₀ : List ℕ) (n : ℕ) (w : List ℕ) : Type 0 where
  pub place : n ≤ 64
  pub words : length w ≡ 16384
  pub own : (v j : ℕ) → v < n → j < 16 → get_or x (v * 16 + j) 0 ≡ get_or w (v * 256 + (b * 16 + j)) 0
  pub other : (q v j : ℕ) → q < 16 → (q ≡ b → ⊥) → j < 16 → get_or w (v * 256 + (q * 16 + j)) 0 ≡ get_or w₀ (v * 256 + (q * 16 + j)) 0

module _ (x : List ℕ) (b : ℕ) (w₀ : List ℕ) (hx : length x ≡ 1024) where
  pub put-none : length w₀ ≡ 16384 → PutBelow x b w₀ 0 w₀
  put-none e = record { place = omega arith; words = e; own = λ v j l h. absurd (omega arith); other = λ q v j hq n hj. refl }

  pub put-more : (n k l : ℕ) (w d : List ℕ) → b < 16 → n < 64 → k ≡ 16 → l ≡ 16 → PutBelow x b w₀ n w → d ≡ take l (drop (n * 16) x)
      → PutBelow x b w₀ (n + 1) (put_mid (n * 256 + b * 16) k w d)
  put-more n k l w d hb h hk hl t e =
      record {
        place = omega arith;
        words = put-length w d (n * 256 + b * 16) k fit long ∙ t.words;
        own = λ v j lv hj. ⊎_elim
            (λ q. subst (λ (u : ℕ). get_or x (u * 16 + j) 0 ≡ get_or (put_mid (n * 256 + b * 16) k w d) (u * 256 + (b * 16 + j)) 0) (sym q) (mine j hj))
            (λ q. t.own v j (omega (arith, q)) hj ∙ sym (put_other w d (n * 256 + b * 16) k fit long (v * 256 + (b * 16 + j)) (inl (omega (arith, q)))))
            (same_or v n);
        other = λ q v j hq o hj. put_other w d (n * 256 + b * 16) k fit long (v * 256 + (q * 16 + j)) (aside q v j hq o hj) ∙ t.other q v j hq o hj;
      }
    where
      fit : n * 256 + b * 16 + k ≤ length w
      fit = let z = t.words in omega arith

      long : length d ≡ k
      long = ap length e ∙ part-long l (n * 16) x (omega arith) ∙ hl ∙ sym hk

      mine : (j : ℕ) → j < 16 → get_or x (n * 16 + j) 0 ≡ get_or (put_mid (n * 256 + b * 16) k w d) (n * 256 + (b * 16 + j)) 0
      mine j hj =
          let a : n * 256 + b * 16 + j ≡ n * 256 + (b * 16 + j) = omega arith in
          sym (ap (λ (z : ℕ). get_or (put_mid (n * 256 + b * 16) k w d) z 0) (sym a) ∙ put-own w d (n * 256 + b * 16) k fit long j (omega arith)
          ∙ ap (λ (z : List ℕ). get_or z j 0) e ∙ part-word l (n * 16) j x (omega arith))

      aside : (q v j : ℕ) → q < 16 → (q ≡ b → ⊥) → j < 16
          → (v * 256 + (q * 16 + j) < n * 256 + b * 16) ⊎ (n * 256 + b * 16 + k ≤ v * 256 + (q * 16 + j))
      aside q v j hq o hj =
          ⊎_elim (λ l. inl (omega arith))
          (λ l. ⊎_elim (λ m. inr (omega arith)) (λ m. ⊎_elim (λ s. inl (omega arith)) (λ s. inr (omega (arith, o))) (less-or q b)) (less-or n v))
          (less-or v n)

  pub put_all : (n : ℕ) (w : List ℕ) → 64 ≤ n → PutBelow x b w₀ n w → PutBlock x b w₀ w
  put_all n w h t =
      record {
        words = t.words;
        own = record {
          words = hx;
          each = λ v j hj. ⊎_elim (λ l. t.own v j (omega arith) hj) (past x w b v j hx t.words) (less-or v 64);
        };
        other = t.other;
      }

-- ---- the chosen vertex at a bit

-- a chosen vertex has a smaller number among the chosen ones than those above it
place-less : (chosen u v : ℕ) → Member chosen u → u < v → place_among chosen u < place_among chosen v
unfolding place_among
place-less chosen u v m l =
    let p = place-lt (chosen % 2 ^ v) u ((in-low v u chosen l).from m) in
    let e : v ≡ v - u + u = omega arith in
    let f : chosen % 2 ^ v % 2 ^ u ≡ chosen % 2 ^ u = subst (λ (n : ℕ). chosen % 2 ^ n % 2 ^ u ≡ chosen % 2 ^ u) (sym e) (mod-mod-pow chosen (v - u) u) in
    subst (λ (n : ℕ). ones n < ones (chosen % 2 ^ v)) f p

place-one : (chosen k u v : ℕ) → AtPlace chosen k u → AtPlace chosen k v → u ≡ v
place-one chosen k u v p q =
    let e : place_among chosen u ≡ place_among chosen v = p.1 ∙ sym q.1 in
    ⊎_elim (λ l. let h = place-less chosen u v p.0 l in absurd (omega arith))
    (λ l. ⊎_elim (λ s. s) (λ s. let h = place-less chosen v u q.0 (omega (arith, s)) in absurd (omega arith)) (same_or u v))
    (less-or u v)

-- the vertices that have been passed are not at bit k
pub record Seeking (chosen k left : ℕ) : Type 0 where
  pub within : Within left chosen
  pub none : (v : ℕ) → Passed chosen left v → place_among chosen v ≡ k → ⊥

module _ (chosen k : ℕ) where
  pub seeking-none : Seeking chosen k chosen
  seeking-none = record { within = record { each = λ i m. m }; none = λ v p e. passed_none chosen v p }

  pub seeking-more : (left v rest : ℕ) → Member left v → Without left v rest → (place_among chosen v ≡ k → ⊥) → Seeking chosen k left → Seeking chosen k rest
  seeking-more left v rest m o n s =
      record {
        within = left-within chosen left v rest s.within o;
        none = λ u p e. ⊎_elim (λ q. s.none u q e) (λ q. n (subst (λ (x : ℕ). place_among chosen x ≡ k) q e))
            ((passed-more chosen left v rest s.within m o u).from p);
      }

  pub found : (left v : ℕ) → v < 64 → Member left v → place_among chosen v ≡ k → Seeking chosen k left → VertexAt chosen k (Some v)
  found left v h m e s =
      let at : AtPlace chosen k v = (s.within.each v m, e) in
      record {
        place = λ u q. let same : u ≡ v = cc in rw same h;
        each = λ u. record {
          to = λ p. ap Some (sym (place-one chosen k u v p at));
          from = λ q. let same : u ≡ v = cc in subst (AtPlace chosen k) (sym same) at;
        };
      }

  pub not_found : (left : ℕ) → left ≡ 0 → Seeking chosen k left → VertexAt chosen k None
  not_found left z s =
      record {
        place = λ u q. cc;
        each = λ u. record { to = λ p. absurd (s.none u ((passed-all chosen left z u).from p.0) p.1); from = λ q. cc };
      }

-- ---- a block from one with a bit fewer

-- a mask's bits: ten within the block, the others by the block's number
block-low : (b l k : ℕ) → l < 1024 → k < 10 → Iff (Member l k) (Member (b * 1024 + l) k)
block-low b l k h hk =
    let e : (b * 1024 + l) % 1024 ≡ l = omega arith in
    subst (λ (x : ℕ). Iff (Member x k) (Member (b * 1024 + l) k)) e (in-low 10 k (b * 1024 + l) hk)

block-high : (b l k : ℕ) → l < 1024 → Iff (Member b k) (Member (b * 1024 + l) (10 + k))
block-high b l k h =
    let e : (b * 1024 + l) / 1024 ≡ b = omega arith in
    subst (λ (x : ℕ). Iff (Member x k) (Member (b * 1024 + l) (10 + k))) e (in-high 10 k (b * 1024 + l))

module _ (b p t l : ℕ) (h : l < 1024) (o : Without b t p) where
  -- the mask of the smaller block lacks the bit 10 + t and has every other
  fewer : (k : ℕ) → Iff (Member (p * 1024 + l) k) (Member (b * 1024 + l) k × (k ≡ 10 + t → ⊥))
  fewer k = ⊎_elim low high (less-or k 10)
    where
      low : k < 10 → Iff (Member (p * 1024 + l) k) (Member (b * 1024 + l) k × (k ≡ 10 + t → ⊥))
      low hk =
          record {
            to = λ m. ((block-low b l k h hk).to ((block-low p l k h hk).from m), λ e. omega arith);
            from = λ m. (block-low p l k h hk).to ((block-low b l k h hk).from m.0);
          }

      high : 10 ≤ k → Iff (Member (p * 1024 + l) k) (Member (b * 1024 + l) k × (k ≡ 10 + t → ⊥))
      high hk =
          let e : 10 + (k - 10) ≡ k = omega arith in
          subst (λ (n : ℕ). Iff (Member (p * 1024 + l) n) (Member (b * 1024 + l) n × (n ≡ 10 + t → ⊥))) e
          (record {
            to = λ m. let r = (o.each (k - 10)).to ((block-high p l (k - 10) h).from m) in ((block-high b l (k - 10) h).to r.0, λ q. r.1 (omega arith));
            from = λ m. (block-high p l (k - 10) h).to ((o.each (k - 10)).from ((block-high b l (k - 10) h).from m.0, λ q. m.1 (omega arith)));
          })

  -- so its set lacks the chosen vertex at that bit
  pub picked_more : (chosen v : ℕ) → Member b t → Iff (Picked chosen (p * 1024 + l) v ⊎ AtPlace chosen (10 + t) v) (Picked chosen (b * 1024 + l) v)
  unfolding Picked
  picked_more chosen v m =
      record {
        to = ⊎_elim (λ q. (q.0, ((fewer (place_among chosen v)).to q.1).0))
            (λ q. (q.0, subst (Member (b * 1024 + l)) (sym q.1) ((block-high b l t h).to m)));
        from = λ q. ⊎_elim (λ e. inr (q.0, e)) (λ n. inl (q.0, (fewer (place_among chosen v)).from (q.1, n))) (same_or (place_among chosen v) (10 + t));
      }

-- ---- the blocks of a table

module _ (loss : Bool) (g : Graph) (chosen : ℕ) where
  -- the first block: lanes that are closed from their masks' sets
  pub block-first : (w e : List ℕ) → Started chosen w → Closed (rule_of loss g) w e → Block (rule_of loss g) chosen 0 e
  block-first w e s c =
      record {
        words = c.words;
        each = λ j i v hj hi. iff-trans (c.each j i v hj hi)
            (same-derivable loss g (Lane w j i) (Picked chosen (0 * 1024 + (j * 64 + i)))
            (λ u. let q : j * 64 + i ≡ 0 * 1024 + (j * 64 + i) = omega arith in
            subst (λ (m : ℕ). Iff (Lane w j i u) (Picked chosen m u)) q (s.each j i u hj hi)) v);
      }

  -- at its start only the successors of chosen vertices can be new: a vertex that needs none of a lane is not admitted by it
  pub start-quiet : (list w : List ℕ) (first : ℕ) → chosen < 2 ^ 64 → Successors g list → AllSuccessors list chosen first → Started chosen w → Quiet loss g first w
  unfolding Picked
  start-quiet list w first fits s a t =
      record {
        each = λ v l no b i hb hi m. absurd (admits-some loss (rows_at g v) (λ _. ⊥) (λ j f. f) (admits-local loss (rows_at g v) (Lane w b i) (λ _. ⊥)
            (λ c j r p.
            let k = ((t.each b i j hb hi).to p).0 in
            no ((a.each v).from (record { vertex = j; holds = k; edge = (s.each j v (member_below 64 chosen j fits k)).from (record { colour = c; member = r }) }))) m));
      }

  pub block-quiet : (b : ℕ) (x : List ℕ) → Block (rule_of loss g) chosen b x → Quiet loss g 0 x
  block-quiet b x k = derived-quiet loss g x (λ j i. Picked chosen (b * 1024 + (j * 64 + i))) k.each

  pub block-next : (b p t : ℕ) (x e : List ℕ) → Member b t → Without b t p → Block (rule_of loss g) chosen p x
      → Extended loss g (AtPlace chosen (10 + t)) x e → Block (rule_of loss g) chosen b e
  block-next b p t x e m o k w =
      record {
        words = w.words;
        each = λ j i v hj hi. iff-trans (extended-from loss g (AtPlace chosen (10 + t)) x e (λ c d. Picked chosen (p * 1024 + (c * 64 + d))) k.each w j i v hj hi)
            (same-derivable loss g (λ u. Picked chosen (p * 1024 + (j * 64 + i)) u ⊎ AtPlace chosen (10 + t) u) (Picked chosen (b * 1024 + (j * 64 + i)))
            (λ u. picked_more b p t (j * 64 + i) (omega arith) o chosen u m) v);
      }

module _ (r : Rule) (chosen : ℕ) where
  pub block-of-table : (n b : ℕ) (w x : List ℕ) → b < n → TableBelow r chosen n w → BlockOf w b x → Block r chosen b x
  unfolding Lane
  block-of-table n b w x h t o =
      record {
        words = o.words;
        each = λ j i v hj hi. subst (λ (y : ℕ). Iff (Member y i) (Derivation r (Picked chosen (b * 1024 + (j * 64 + i))) v)) (sym (o.each v j hj)) (t.each b j i v h hj hi);
      }

  pub below_none : (w : List ℕ) → length w ≡ 16384 → TableBelow r chosen 0 w
  below_none w e = record { words = e; each = λ b j i v l hj hi. absurd (omega arith) }

  pub below_more : (b : ℕ) (x w e : List ℕ) → b < 16 → TableBelow r chosen b w → Block r chosen b x → PutBlock x b w e → TableBelow r chosen (b + 1) e
  unfolding Lane
  below_more b x w e h t k p =
      record {
        words = p.words;
        each = λ q j i v l hj hi. ⊎_elim
            (λ s. subst (λ (n : ℕ). Iff (Member (get_or e (v * 256 + (n * 16 + j)) 0) i) (Derivation r (Picked chosen (n * 1024 + (j * 64 + i))) v)) (sym s)
            (subst (λ (y : ℕ). Iff (Member y i) (Derivation r (Picked chosen (b * 1024 + (j * 64 + i))) v)) (p.own.each v j hj) (k.each j i v hj hi)))
            (λ s. subst (λ (y : ℕ). Iff (Member y i) (Derivation r (Picked chosen (q * 1024 + (j * 64 + i))) v)) (sym (p.other q v j (omega arith) s hj))
            (t.each q j i v (omega (arith, s)) hj hi))
            (same_or q b);
      }

  pub below_all : (n : ℕ) (w : List ℕ) → 16 ≤ n → TableBelow r chosen n w → Table r chosen w
  below_all n w h t =
      record {
        each = λ v m hv hm.
            let b = m / 64 in
            let e : m / 64 / 16 * 16 + m / 64 % 16 ≡ m / 64 = omega arith in
            let f : m / 64 / 16 * 1024 + (m / 64 % 16 * 64 + m % 64) ≡ m = omega arith in
            subst (λ (k : ℕ). Iff (Member (get_or w (v * 256 + m / 64) 0) (m % 64)) (Derivation r (Picked chosen k) v)) f
            (subst (λ (k : ℕ). Iff (Member (get_or w (v * 256 + k) 0) (m % 64)) (Derivation r (Picked chosen (m / 64 / 16 * 1024 + (m / 64 % 16 * 64 + m % 64))) v)) e
            (t.each (m / 64 / 16) (m / 64 % 16) (m % 64) v (omega arith) (omega arith) (omega arith)));
      }

-- ---- block after block

-- The blocks below b are there; x is room for the next.
pub record Filling (r : Rule) (chosen : ℕ) (w x : List ℕ) (b : ℕ) : Type 0 where
  pub place : (0 < b) × (b ≤ 16)
  pub room : length x ≡ 1024
  pub table : TableBelow r chosen b w
