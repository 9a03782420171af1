-- The theorems of specs/Meaning.
-- Assumes nothing.
use mathlib.Core.Path.{◌≡◌, refl, sym, ap, ◌∙◌, subst}
use mathlib.Core.List.Memᴰ
use mathlib.Core.List.{List, [], ◌∷◌, map}
use mathlib.Core.Logic.{inl, inr, ⊎_elim}
use Prim.Native.Nat.{ℕ, ◌≤◌}
use native.Mathlib.Omega.{arith}
use lib.ListN.{length, take, drop}
use lib.Seq.{take-append_seam}
use Rattle.vertex_set.specs.Set.{Member}
use Rattle.vertex_set.specs.Order.{Listed}
use Rattle.questions.specs.Asks.{Asks}
use Rattle.questions.proofs.Asks.{asks-once}
use Rattle.derivations.proofs.Closures.{opens-more}
use Rattle.quick_yes.proofs.Agrees.{yes-derives, derives-yes}
use Rattle.sheet_format.specs.Read.{Reading}
use Rattle.sheet_format.specs.Rows.{EdgeRow, Doc, Valid, render}
use Rattle.sheet_format.specs.Read.{read_sheet, asks_sheet}
use Rattle.sheet_format.proofs.Meaning.{accepted-of-valid, rows-unique}
use Rattle.pool_format.specs.Call.{Pooled}
use Rattle.pool_format.specs.Rows.{Agree, remaining, recoloured, pooled, Fits}
use Rattle.pool_format.specs.Call.{asks22, asks23, asks24, PoolOutcome, with_buffer, pool_refusal, pools_text, PoolsRows, PoolCall}
use Rattle.pool_format.specs.Meaning.{AlwaysEnough, IsPooled, PooledText, ByName, KeepsOpening, KeepsOpeningSet, KeepsYes, Pooling, PoolDetermined}
use Rattle.pool_format.proofs.Colours.{uses-of}
use Rattle.pool_format.proofs.Recolouring.{known-first, known-second, pooled_colour, re-from, re-to, re-colour, colour-once, colour-new}
use Rattle.sheet_format.proofs.Lengths.{longest-sheet}
use Rattle.pool_format.proofs.PooledRows.{in_image, image-of, pooled-valid}
use Rattle.pool_format.proofs.Opening.{Carries, keeps-items, keeps-opening}

-- ---- what opens

module _ (d e : Doc) (v : Valid d) (w : Valid e) where
  -- the first sheet's rows stand as they are
  carries-first : Carries d (pooled d e)
  unfolding pooled
  carries-first =
      record {
        known = λ n k. known-first d.items (remaining d.items e.items) n k;
        colour = λ n c. c;
        forth = λ x m. (x, Memᴰ.append_left (map (recoloured d e) e.edges) m, refl, refl, refl);
        back = λ x y m k t c.
            ⊎_elim
            (λ h. (y, h, refl, t, c))
            (λ h. let z = image-of (recoloured d e) e.edges y h in
            absurd (colour-new d e v w x z.0 m z.1
            (sym t ∙ ap (λ (a : EdgeRow). a.to) z.2 ∙ re-to d e z.0)
            (sym c ∙ ap (λ (a : EdgeRow). a.colour) z.2 ∙ re-colour d e z.0)))
            (Memᴰ.append_cases d.edges k);
      }

  -- the second's under their new colours
  carries-second : Carries e (pooled d e)
  unfolding pooled
  carries-second =
      record {
        known = λ n k. known-second d.items e.items n k;
        colour = pooled_colour d e;
        forth = λ x m. (recoloured d e x, Memᴰ.append_right d.edges (in_image (recoloured d e) e.edges x m), re-from d e x, re-to d e x, re-colour d e x);
        back = λ x y m k t c.
            ⊎_elim
            (λ h. absurd (colour-new d e v w y x h m t c))
            (λ h. let z = image-of (recoloured d e) e.edges y h in
            let to : z.0.to ≡ x.to = sym (ap (λ (a : EdgeRow). a.to) z.2 ∙ re-to d e z.0) ∙ t in
            let same : pooled_colour d e x.to z.0.colour ≡ pooled_colour d e x.to x.colour =
            rw (← to) (sym (ap (λ (a : EdgeRow). a.colour) z.2 ∙ re-colour d e z.0)) ∙ c in (
              z.0,
              z.1,
              sym (ap (λ (a : EdgeRow). a.from) z.2 ∙ re-from d e z.0),
              to,
              colour-once d e v w x.to z.0.colour x.colour (rw (← to) (uses-of e.edges z.0 z.1)) (uses-of e.edges x m) same,
            ))
            (Memᴰ.append_cases d.edges k);
      }

-- ---- how long it is

pub always-enough : AlwaysEnough
always-enough a b t h =
    rw h.text (longest-sheet (pooled h.first h.second) (pooled-valid h.first h.second h.valid_first h.valid_second h.agree h.fits))

-- ---- the same of sets as numbers, and as the quick yes tells it

keeps-set : (s t : List ℕ) → KeepsOpening s t → KeepsOpeningSet s t
keeps-set s t k set x i j same named d =
    opens-more (read_sheet t).setup.graph (ByName s t (Member set)) (Member x) (λ v b. (named v).from b) j (k set i j same d)

keeps-yes : (s t : List ℕ) → KeepsOpening s t → KeepsYes s t
keeps-yes s t k set x i j same named a b q r e =
    derives-yes (read_sheet t).setup.graph j x b.opens b.held r
    (keeps-set s t k set x i j same named (yes-derives (read_sheet s).setup.graph i set a.opens a.held q e))

pub pooling : Pooling
pooling a b t h =
    let p = pooled h.first h.second in
    let v = pooled-valid h.first h.second h.valid_first h.valid_second h.agree h.fits in
    let one = carries-first h.first h.second h.valid_first h.valid_second in
    let two = carries-second h.first h.second h.valid_first h.valid_second in
    let opens = keeps-opening h.first p h.valid_first v one in
    let opens_too = keeps-opening h.second p h.valid_second v two in
    rw (h.is_first, h.is_second, h.text)
    (record {
      accepted = ap (λ (r : Reading). r.number) (accepted-of-valid p v);
      items_of_first = keeps-items h.first p h.valid_first v one;
      items_of_second = keeps-items h.second p h.valid_second v two;
      opens_as_first = opens;
      opens_as_second = opens_too;
      set_as_first = keeps-set (render h.first) (render p) opens;
      set_as_second = keeps-set (render h.second) (render p) opens_too;
      yes_as_first = keeps-yes (render h.first) (render p) opens;
      yes_as_second = keeps-yes (render h.second) (render p) opens_too;
    })

-- ---- one answer to every input

abbrev after-rows : Doc → Doc → List ℕ → PoolOutcome → Type 0
after-rows d e entry = Asks (pool_refusal 0 0 entry) (asks22 d e ∷ asks23 d e ∷ asks24 d e entry ∷ []) (λ p. p ≡ pools_text (render (pooled d e)) entry)

-- the rows of both texts are unique
rows-once : (a b entry : List ℕ) (o p : PoolOutcome) → PoolsRows a b entry o → PoolsRows a b entry p → o ≡ p
rows-once a b entry o p h k =
    asks-once (pool_refusal 0 0 entry) (λ x. x ≡ pools_text (render (pooled h.d h.e)) entry) (asks22 h.d h.e ∷ asks23 h.d h.e ∷ asks24 h.d h.e entry ∷ []) o p
    (λ e f. e ∙ sym f) h.told
    (subst (λ (x : Doc). after-rows x h.e entry p) (rows-unique k.d h.d k.valid h.valid (sym k.is ∙ h.is))
    (subst (λ (x : Doc). after-rows k.d x entry p) (rows-unique k.e h.e k.valid_second h.valid_second (sym k.is_second ∙ h.is_second)) k.told))

pub pool-determined : PoolDetermined
pool-determined a b r r' entry exit exit' =
    asks-once (pool_refusal 1 (read_sheet a).line entry) (Asks (pool_refusal 2 (read_sheet b).line entry) (asks_sheet b ∷ []) (PoolsRows a b entry)) (asks_sheet a ∷ []) o o'
    (asks-once (pool_refusal 2 (read_sheet b).line entry) (PoolsRows a b entry) (asks_sheet b ∷ []) o o' (rows-once a b entry o o'))
  where
    o : PoolOutcome
    o = with_buffer r exit

    o' : PoolOutcome
    o' = with_buffer r' exit'

-- ---- from the call to the pooled sheet

-- what a call comes to: a refusal of a sheet, one of both together, one for want of room, or the pooled sheet
pub data PoolComes (a b entry : List ℕ) (o : PoolOutcome) : Type 0 where
  of-first : ((read_sheet a).number ≡ 0 → ⊥) → o ≡ pool_refusal 1 (read_sheet a).line entry (read_sheet a).number → PoolComes a b entry o
  of-second : ((read_sheet b).number ≡ 0 → ⊥) → o ≡ pool_refusal 2 (read_sheet b).line entry (read_sheet b).number → PoolComes a b entry o
  of-both : (q : ℕ) → Listed (22 ∷ 23 ∷ []) q → o ≡ pool_refusal 0 0 entry q → PoolComes a b entry o
  of-short : (t : List ℕ) → IsPooled a b t → (length t ≤ length entry → ⊥) → o ≡ pool_refusal 0 0 entry 24 → PoolComes a b entry o
  of-text : (t : List ℕ) → IsPooled a b t → o ≡ pools_text t entry → PoolComes a b entry o

module _ (a b entry : List ℕ) (o : PoolOutcome) (h : PoolsRows a b entry o) where
  is-pooled : Agree h.d.items h.e.items → Fits (pooled h.d h.e) → IsPooled a b (render (pooled h.d h.e))
  is-pooled agree fits =
      record {
        first = h.d;
        second = h.e;
        valid_first = h.valid;
        valid_second = h.valid_second;
        is_first = h.is;
        is_second = h.is_second;
        agree = agree;
        fits = fits;
        text = refl;
      }

  rows-come : PoolComes a b entry o
  unfolding Asks
  rows-come =
      ⊎_elim (λ n. of-both 22 (inl refl) n.1)
      (λ x. ⊎_elim (λ n. of-both 23 (inr (inl refl)) n.1)
      (λ y. ⊎_elim (λ n. of-short (render (pooled h.d h.e)) (is-pooled x.0 y.0) n.0 n.1)
      (λ z. of-text (render (pooled h.d h.e)) (is-pooled x.0 y.0) z.1) y.1) x.1) h.told

pub pool-comes : (a b : List ℕ) (r : Pooled) (entry exit : List ℕ) → PoolCall a b r entry exit → PoolComes a b entry (with_buffer r exit)
unfolding Asks
pool-comes a b r entry exit x =
    ⊎_elim (λ n. of-first n.0 n.1) (λ y. ⊎_elim (λ n. of-second n.0 n.1) (λ z. rows-come a b entry (with_buffer r exit) z.1) y.1) x

pub pooled-text : PooledText
pooled-text a b r entry exit x z = by (pool-comes a b r entry exit x)
  where
    number : {p : PoolOutcome} → with_buffer r exit ≡ p → p.answer.number ≡ 0
    number e = sym (ap (λ (o : PoolOutcome). o.answer.number) e) ∙ z

    not-zero : (q : ℕ) → Listed (22 ∷ 23 ∷ []) q → q ≡ 0 → ⊥
    not-zero q (inl e) z = omega (arith, e, z)
    not-zero q (inr (inl e)) z = omega (arith, e, z)
    not-zero q (inr (inr h)) z = absurd h

    by : PoolComes a b entry (with_buffer r exit) → IsPooled a b (take r.size exit)
    by (of-first n e) = absurd (n (number e))
    by (of-second n e) = absurd (n (number e))
    by (of-both q l e) = absurd (not-zero q l (number e))
    by (of-short t h n e) = absurd (let k = number e in omega (arith, k))
    by (of-text t h e) = subst (IsPooled a b) (sym (ap (λ (o : PoolOutcome). take o.answer.size o.buffer) e ∙ take-append_seam t (drop (length t) entry))) h
