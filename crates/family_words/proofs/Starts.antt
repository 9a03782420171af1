-- The masks that have the bit k: by a pattern in each word where k is below 6, else by whole words.
-- Assumes nothing.
use mathlib.Core.Path.{◌≡◌, refl, sym, ◌∙◌, subst}
use mathlib.Core.Bool.{Bool}
use mathlib.Core.List.{List, [], ◌∷◌}
use mathlib.Core.Logic.{⊎_elim}
use Prim.Native.Nat.{ℕ, ◌+◌, ◌-◌, ◌*◌, ◌/◌, ◌%◌, ◌^◌, ◌≤◌, ◌<◌}
use native.Mathlib.Omega.{arith}
use lib.Dec.{eqb}
use lib.ListN.{get_or}
use borrow.Author.Tests.{eqb-true}
use Rattle.vertex_set.specs.Set.{Member, Iff}
use Rattle.vertex_set.proofs.Cases.{same_or}
use Rattle.vertex_set.proofs.Decisions.{iff-trans}
use Rattle.vertex_set.proofs.Digits.{digit, digit_lt}
use Rattle.vertex_set.proofs.Sets.{none-in-zero}
use Rattle.vertex_set.proofs.Shifts.{in-low, in-high, all, all-at}
use Rattle.family_words.specs.Inner.Words.{PartWhere}
use Rattle.family_words.proofs.Words.{Mapped}
use Rattle.family_words.proofs.Families.{mapped-part, part-as, full-word}

-- the six patterns, and the test that each bit of each is right
unfoldable pub patterns : List ℕ
patterns =
    0xAAAA_AAAA_AAAA_AAAA ∷ 0xCCCC_CCCC_CCCC_CCCC ∷ 0xF0F0_F0F0_F0F0_F0F0 ∷ 0xFF00_FF00_FF00_FF00 ∷ 0xFFFF_0000_FFFF_0000 ∷ 0xFFFF_FFFF_0000_0000 ∷ []

right : ℕ → ℕ → Bool
right k i = eqb (digit (get_or patterns k 0) i) (digit i k)

in-pattern : (k i : ℕ) → k < 6 → i < 64 → Iff (Member (get_or patterns k 0) i) (Member i k)
unfolding patterns right Member
in-pattern k i hk hi =
    let e = eqb-true _ _ (all-at (right k) 64 (all-at (λ j. all (right j) 64) 6 refl k hk) i hi) in
    record { to = λ m. sym e ∙ m; from = λ m. e ∙ m }

-- the bits of a mask's number: six in the word, the others by the word's number
mask_low : (b i k : ℕ) → i < 64 → k < 6 → Iff (Member i k) (Member (b * 64 + i) k)
mask_low b i k hi hk =
    let e : (b * 64 + i) % 64 ≡ i = omega arith in
    subst (λ (x : ℕ). Iff (Member x k) (Member (b * 64 + i) k)) e (in-low 6 k (b * 64 + i) hk)

mask-high : (b i k : ℕ) → i < 64 → 6 ≤ k → Iff (Member b (k - 6)) (Member (b * 64 + i) k)
mask-high b i k hi hk =
    let e : (b * 64 + i) / 64 ≡ b = omega arith in
    let f : 6 + (k - 6) ≡ k = omega arith in
    subst (λ (j : ℕ). Iff (Member b (k - 6)) (Member (b * 64 + i) j)) f
    (subst (λ (x : ℕ). Iff (Member x (k - 6)) (Member (b * 64 + i) (6 + (k - 6)))) e (in-high 6 (k - 6) (b * 64 + i)))

-- a word of ones where b has the bit j, and else of zeros
in_block : (b j i : ℕ) → i < 64 → Iff (Member (b / 2 ^ j % 2 * (2 ^ 64 - 1)) i) (Member b j)
unfolding Member
in_block b j i h =
    let d = digit_lt b j in
    ⊎_elim
    (λ e. rw e (record { to = λ _. refl; from = λ _. full-word i h }))
    (λ n. let z : digit b j ≡ 0 = omega (arith, n) in rw z (record { to = λ m. absurd (none-in-zero i m); from = λ m. absurd (omega arith) }))
    (same_or (digit b j) 1)

pub start-low : (k : ℕ) (d : List ℕ) → k < 6 → PartWhere (λ b i. Member (get_or patterns k 0) i) d → PartWhere (λ b i. Member (b * 64 + i) k) d
start-low k d h l = part-as d l (λ b i hb hi. iff-trans (in-pattern k i h hi) (mask_low b i k hi h))

pub start-high : (k : ℕ) (d₀ d : List ℕ) (n : ℕ) → 6 ≤ k → Mapped (λ b. b / 2 ^ (k - 6) % 2 * (2 ^ 64 - 1)) d₀ d n → 16 ≤ n
    → PartWhere (λ b i. Member (b * 64 + i) k) d
start-high k d₀ d n h m l = mapped-part _ _ d₀ d n m l (λ b i hb hi. iff-trans (in_block b (k - 6) i hi) (mask-high b i k hi h))
