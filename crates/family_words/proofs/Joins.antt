-- A part is joined with another: either nothing is new and it stays as it is, or its words have less room to grow.
-- Assumes nothing.
use mathlib.Core.Path.{◌≡◌, sym, ap, ◌∙◌, subst}
use mathlib.Core.Bool.{true, not}
use mathlib.Core.List.{List, [], ◌∷◌, ◌++◌}
use mathlib.Core.Logic.{inl, inr, ⊎_elim}
use Prim.Native.Nat.{ℕ, zero, suc, ◌+◌, ◌-◌, ◌^◌, ◌≤◌, ◌<◌}
use native.Mathlib.Nat.{not-suc-le-zero, le_of_suc-le-suc}
use native.Mathlib.Omega.{arith}
use lib.Bits.{bit_and, bit_or}
use lib.Dec.{eqb}
use lib.ListN.{length, get_or, set}
use lib.Seq.{set-get_or}
use borrow.Author.Tests.{eqb-true, eqb-false, not-true, not-false}
use Rattle.vertex_set.specs.Set.{Within, Iff}
use Rattle.vertex_set.proofs.Cases.{same_or}
use Rattle.vertex_set.proofs.Sets.{in-or, within-test, within-le, same_set}
use Rattle.family_words.specs.Inner.Words.{merged_word, Merged, room, Joined}
use Rattle.family_words.proofs.Words.{Mapped, mapped-more}
use Rattle.family_words.proofs.Families.{merge-part}

-- ---- room

pub room-append : (a b : List ℕ) → room (a ++ b) ≡ room a + room b
unfolding room
room-append [] b = omega arith
room-append (x ∷ a) b = let e = room-append a b in omega arith

pub room-set : (l : List ℕ) (i x : ℕ) → i < length l → room (set l i x) + (2 ^ 64 - get_or l i 0) ≡ room l + (2 ^ 64 - x)
unfolding room
room-set [] i x h = absurd (not-suc-le-zero h)
room-set (y ∷ l) zero x h = omega arith
room-set (y ∷ l) (suc i) x h = let e = room-set l i x (le_of_suc-le-suc h) in omega arith

-- ---- one word

within-or : (a b : ℕ) → Within a (bit_or a b)
within-or a b = record { each = λ i m. (in-or a b i).from (inl m) }

within-or-right : (a b : ℕ) → Within b (bit_or a b)
within-or-right a b = record { each = λ i m. (in-or a b i).from (inr m) }

-- a set that lies within another adds nothing to it
or_same : (a b : ℕ) → Within b a → bit_or a b ≡ a
or_same a b w = same_set (bit_or a b) a (record { each = λ i m. ⊎_elim (λ p. p) (w.each i) ((in-or a b i).to m) }) (within-or a b)

or-grows : (a b : ℕ) → (Within b a → ⊥) → a < bit_or a b
or-grows a b n =
    let l : a ≤ bit_or a b = within-le a (bit_or a b) (within-or a b) in
    ⊎_elim (λ e. absurd (n (subst (Within b) (sym e) (within-or-right a b)))) (λ d. omega (arith, d)) (same_or a (bit_or a b))

or-none : (a b : ℕ) → bit_or a b ≡ 0 → (a ≡ 0) × (b ≡ 0)
or-none a b e =
    let l = within-le a (bit_or a b) (within-or a b) in
    let r = within-le b (bit_or a b) (within-or-right a b) in
    (omega arith, omega arith)

-- ---- all words

pub record Joining (d₀ s d : List ℕ) (n fresh : ℕ) : Type 0 where
  pub words : Mapped (λ b. bit_or (get_or d₀ b 0) (get_or s b 0)) d₀ d n
  pub same : fresh ≡ 0 → d ≡ d₀
  pub room-left : room d ≤ room d₀
  pub more : (fresh ≡ 0 → ⊥) → room d < room d₀

module _ (d₀ s : List ℕ) where
  module _ (d : List ℕ) (n fresh : ℕ) (j : Joining d₀ s d n fresh) (h : n < 16) (hd : get_or d n 0 < 2 ^ 64) (hs : get_or s n 0 < 2 ^ 64) where
    old : ℕ
    old = get_or d n 0

    gain : ℕ
    gain = get_or s n 0

    word : ℕ
    unfolding old gain
    word = bit_or old gain

    news : ℕ
    unfolding old gain
    news = bit_and gain ((2 ^ 64 - 1) - old)

    test : Iff (news ≡ 0) (Within gain old)
    unfolding old gain news
    test = within-test gain old hs hd

    written : Mapped (λ b. bit_or (get_or d₀ b 0) (get_or s b 0)) d₀ (set d n word) (n + 1)
    unfolding old gain word
    written = mapped-more _ d₀ d n _ j.words h (ap (λ (x : ℕ). bit_or x (get_or s n 0)) (j.words.left n (omega arith)))

    -- nothing new in this word
    stays : news ≡ 0 → set d n word ≡ d
    unfolding old gain word
    stays z = ap (set d n) (or_same old gain (test.to z)) ∙ set-get_or d n 0

    grows : (news ≡ 0 → ⊥) → room (set d n word) < room d
    unfolding old gain word
    grows z =
        let e = room-set d n word (let l = j.words.words in omega arith) in
        let g : old < word = or-grows old gain (λ w. z (test.from w)) in
        let k : old < 2 ^ 64 = hd in
        omega arith

    pub joining-more : Joining d₀ s (set d n (bit_or (get_or d n 0) (get_or s n 0))) (n + 1)
        (bit_or fresh (bit_and (get_or s n 0) ((2 ^ 64 - 1) - get_or d n 0)))
    unfolding old gain word news
    joining-more =
        record {
          words = written;
          same = λ z. let p = or-none fresh news z in stays p.1 ∙ j.same p.0;
          room-left = let r = j.room-left in
              ⊎_elim (λ z. let e = ap room (stays z) in omega arith) (λ z. let g = grows z in omega arith) (same_or news 0);
          more = λ f. let r = j.room-left in
              ⊎_elim
              (λ z. let e = ap room (stays z) in
              let m = j.more (λ q. f (ap (λ (x : ℕ). bit_or x news) q ∙ ap (bit_or 0) z)) in omega arith)
              (λ z. let g = grows z in omega arith)
              (same_or news 0);
        }

  pub joined : (d : List ℕ) (n fresh : ℕ) → Joining d₀ s d n fresh → 16 ≤ n → Joined d₀ s (not (eqb fresh 0)) d
  unfolding merged_word Merged
  joined d n fresh j h =
      record {
        family = merge-part true d₀ s d n j.words h;
        same = λ e. j.same (eqb-true _ _ (not-false _ e));
        more = λ e. j.more (eqb-false _ _ (not-true _ e));
      }
