-- Bytes packed into a number: it fits a word, a loop from the end makes it, and it tells texts apart.
-- Assumes nothing.
use mathlib.Core.Path.{◌≡◌, refl, sym, ap, ap₂, ◌∙◌}
use mathlib.Core.List.{List, [], ◌∷◌, ◌++◌}
use mathlib.Core.Logic.{⊎_elim}
use Prim.Native.Nat.{ℕ, zero, suc, ◌+◌, ◌-◌, ◌*◌, ◌^◌, ◌≤◌, ◌<◌, min}
use native.Mathlib.Nat.{pow-suc, not-suc-le-zero, le_of_suc-le-suc}
use native.Mathlib.Omega.{arith}
use lib.ListN.{length, get_or, take, drop, take-append-drop, drop_of_length-le, length-drop}
use lib.Seq.{drop-cons, get_or-drop, take_all}
use Rattle.vertex_set.proofs.Cases.{less-or}
use Rattle.sheet_format.specs.Rows.{Each}
use Rattle.sheet_fields.specs.declared.Key.{Key}
use Rattle.sheet_fields.specs.Inner.Keys.{packed_bytes, key_of}

-- Every element is a byte.
abbrev pub Bytes : List ℕ → Type 0
Bytes s = (i : ℕ) → get_or s i 0 < 256

pub packed_lt : (k : ℕ) (s : List ℕ) → length s ≤ k → Bytes s → packed_bytes s < 256 ^ k
unfolding packed_bytes
packed_lt zero [] h b = omega arith
packed_lt zero (x ∷ s) h b = absurd (not-suc-le-zero h)
packed_lt (suc k) [] h b = let p = packed_lt k [] (omega arith) b in let q = pow-suc 256 k in omega arith
packed_lt (suc k) (x ∷ s) h b =
    let p = packed_lt k s (le_of_suc-le-suc h) (λ i. b (suc i)) in
    let q = pow-suc 256 k in
    omega (arith, b 0)

packed_step : (s : List ℕ) (i : ℕ) → i < length s → packed_bytes (drop i s) ≡ packed_bytes (drop (suc i) s) * 256 + get_or s i 0
unfolding packed_bytes
packed_step s i h = rw (drop-cons s i 0 h)

-- a turn of the loop from the end
pub packed-back : (s : List ℕ) (i : ℕ) → 0 < i → i ≤ length s → packed_bytes (drop (i - 1) s) ≡ packed_bytes (drop i s) * 256 + get_or s (i - 1) 0
packed-back s zero p h = absurd (not-suc-le-zero p)
packed-back s (suc j) p h = let e : suc j - 1 ≡ j = omega arith in rw e (packed_step s j h)

pub packed-fits : (s : List ℕ) (i : ℕ) → 0 < i → i ≤ length s → length s ≤ 8 → Bytes s → packed_bytes (drop i s) * 256 + get_or s (i - 1) 0 < 2 ^ 64
packed-fits s i p h l b =
    let e = packed-back s i p h in
    let d = length-drop (i - 1) s in
    let q = packed_lt 8 (drop (i - 1) s) (omega arith) (λ j. rw (get_or-drop (i - 1) s j 0) (b (i - 1 + j))) in
    omega arith

pub packed-end : (s : List ℕ) → 0 ≡ packed_bytes (drop (length s) s)
unfolding packed_bytes
packed-end s = rw (drop_of_length-le s {i = length s} (omega arith))

-- a name of at most eight bytes, or a longer one, cut behind the eighth
pub key-cut : (n a b : List ℕ) (m low high : ℕ) → m ≡ min (length n) 8 → a ≡ take m n → b ≡ drop m n → low ≡ packed_bytes a → high ≡ packed_bytes b
    → ◌≡◌ {A = Key} (record { low = low; high = high }) (key_of n)
unfolding key_of
key-cut n a b m low high e p q x y =
    let i = x ∙ ap packed_bytes (p ∙ cut-take n m e) in
    let j = y ∙ ap packed_bytes (q ∙ cut-drop n m e) in
    λ k. record { low = i k; high = j k }
  where
    cut-take : (n : List ℕ) (m : ℕ) → m ≡ min (length n) 8 → take m n ≡ take 8 n
    cut-take n m e = ⊎_elim (λ h. take_all m n (omega arith) ∙ sym (take_all 8 n (omega arith))) (λ h. ap (λ (k : ℕ). take k n) (let r : m ≡ 8 = omega arith in r)) (less-or (length n) 8)

    cut-drop : (n : List ℕ) (m : ℕ) → m ≡ min (length n) 8 → drop m n ≡ drop 8 n
    cut-drop n m e =
        ⊎_elim (λ h. drop_of_length-le n {i = m} (omega arith) ∙ sym (drop_of_length-le n {i = 8} (omega arith))) (λ h. ap (λ (k : ℕ). drop k n) (let r : m ≡ 8 = omega arith in r)) (less-or (length n) 8)

-- ---- different texts have different numbers

-- A byte that is not 0.
abbrev pub Small : ℕ → Type 0
Small x = (0 < x) × (x < 256)

pub packed-same : (a b : List ℕ) → Each Small a → Each Small b → packed_bytes a ≡ packed_bytes b → a ≡ b
unfolding packed_bytes
packed-same [] [] p q e = refl
packed-same [] (y ∷ b) p q e = absurd (let l = q.0.0 in omega arith)
packed-same (x ∷ a) [] p q e = absurd (let l = p.0.0 in omega arith)
packed-same (x ∷ a) (y ∷ b) p q e =
    let l = p.0.1 in
    let k = q.0.1 in
    let h : x ≡ y = omega arith in
    let t : packed_bytes a ≡ packed_bytes b = omega arith in
    ap₂ ◌∷◌ h (packed-same a b p.1 q.1 t)

each_take : (n : ℕ) (s : List ℕ) → Each Small s → Each Small (take n s)
each_take zero s h = tt
each_take (suc n) [] h = tt
each_take (suc n) (x ∷ s) h = (h.0, each_take n s h.1)

each-drop : (n : ℕ) (s : List ℕ) → Each Small s → Each Small (drop n s)
each-drop zero s h = h
each-drop (suc n) [] h = tt
each-drop (suc n) (x ∷ s) h = each-drop n s h.1

-- a key tells names apart
pub key-same : (a b : List ℕ) → Each Small a → Each Small b → ((key_of a).low ≡ (key_of b).low) × ((key_of a).high ≡ (key_of b).high) → a ≡ b
unfolding key_of
key-same a b p q e =
    sym (take-append-drop 8 a)
    ∙ ap₂ ◌++◌
    (packed-same (take 8 a) (take 8 b) (each_take 8 a p) (each_take 8 b q) e.0)
    (packed-same (drop 8 a) (drop 8 b) (each-drop 8 a p) (each-drop 8 b q) e.1)
    ∙ take-append-drop 8 b
