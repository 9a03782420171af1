-- What the tests on texts and rows decide.
-- Assumes nothing.
use mathlib.Core.Path.{◌≡◌, refl, sym, ap₂, ◌∙◌, subst}
use mathlib.Core.List.{List, [], ◌∷◌, ◌++◌, nil≢cons, cons≢nil, head-eq_of_cons-eq, tail-eq_of_cons-eq}
use mathlib.Core.Bool.{Bool, true, false, not, ◌&&◌, ◌||◌}
use mathlib.Core.Logic.{inl, inr, ⊎_elim}
use Prim.Native.Nat.{ℕ}
use lib.Dec.{eqb}
use Rattle.vertex_set.specs.Set.{Decides, Iff}
use Rattle.vertex_set.proofs.Cases.{false-true}
use Rattle.vertex_set.proofs.Decisions.{decide-yes, decide-no, decide_iff, decide-eqb, yes_of, and_parts, and_both, decide-not, decide-and, decide-or}
use Rattle.sheet_format.specs.Text.{same_text, is_empty, all}
use Rattle.sheet_format.specs.Rows.{ItemRow, EdgeRow, Each, Known, SameName, SameEdge}
use Rattle.sheet_format.specs.Questions.{is_known, same_edge, is_repeated}

-- ---- texts

pub text-decided : (s t : List ℕ) → Decides (s ≡ t) (same_text s t)
unfolding same_text
text-decided [] [] = decide-yes refl
text-decided [] (b ∷ t) = decide-no (λ e. nil≢cons e)
text-decided (a ∷ s) [] = decide-no (λ e. cons≢nil e)
text-decided (a ∷ s) (b ∷ t) =
    decide_iff (record { to = λ h. ap₂ ◌∷◌ h.0 h.1; from = λ e. (head-eq_of_cons-eq e, tail-eq_of_cons-eq e) })
    (decide-and (eqb a b) (same_text s t) (decide-eqb a b) (text-decided s t))

pub same_refl : (s : List ℕ) → same_text s s ≡ true
same_refl s = yes_of (same_text s s) (text-decided s s) refl

pub empty-decided : (s : List ℕ) → Decides (s ≡ []) (is_empty s)
unfolding is_empty
empty-decided [] = decide-yes refl
empty-decided (b ∷ s) = decide-no (λ e. cons≢nil e)

pub all-decided : (test : ℕ → Bool) (s : List ℕ) → Decides (Each (λ b. test b ≡ true) s) (all test s)
unfolding all
all-decided test [] = decide-yes tt
all-decided test (b ∷ s) = decide-and (test b) (all test s) (record { yes = λ e. e; no = λ e h. false-true (sym e ∙ h) }) (all-decided test s)

pub all_append : (test : ℕ → Bool) (s t : List ℕ) → all test s ≡ true → all test t ≡ true → all test (s ++ t) ≡ true
unfolding all
all_append test [] t p q = q
all_append test (b ∷ s) t p q = let h = and_parts (test b) (all test s) p in and_both (test b) (all test (s ++ t)) h.0 (all_append test s t h.1 q)

-- ---- rows

pub known-decided : (xs : List ItemRow) (n : List ℕ) → Decides (Known xs n) (is_known xs n)
unfolding is_known
known-decided [] n = decide-no (λ k. k)
known-decided (x ∷ xs) n = decide-or (same_text x.name n) (is_known xs n) (text-decided x.name n) (known-decided xs n)

pub edge-decided : (x y : EdgeRow) → Decides (SameEdge x y) (same_edge x y)
unfolding same_edge
edge-decided x y =
    decide_iff (record { to = λ h. (h.0.0, h.0.1, h.1); from = λ h. ((h.0, h.1), h.2) })
    (decide-and (same_text x.from y.from && same_text x.to y.to) (eqb x.colour y.colour)
    (decide-and (same_text x.from y.from) (same_text x.to y.to) (text-decided x.from y.from) (text-decided x.to y.to))
    (decide-eqb x.colour y.colour))

-- No item row has the name of y.
pub fresh-decided : (xs : List ItemRow) (y : ItemRow) → Decides (Each (λ x. SameName x y → ⊥) xs) (not (is_known xs y.name))
fresh-decided xs y = decide_iff (none xs) (decide-not (is_known xs y.name) (known-decided xs y.name))
  where
    none : (xs : List ItemRow) → Iff (Known xs y.name → ⊥) (Each (λ x. SameName x y → ⊥) xs)
    none [] = record { to = λ n. tt; from = λ n k. k }
    none (x ∷ xs) =
        record {
          to = λ n. (λ e. n (inl e), (none xs).to (λ k. n (inr k)));
          from = λ h. ⊎_elim h.0 ((none xs).from h.1);
        }

-- No edge row has from, to and colour of y.
pub single-decided : (es : List EdgeRow) (y : EdgeRow) → Decides (Each (λ x. SameEdge x y → ⊥) es) (not (is_repeated es y))
unfolding is_repeated
single-decided [] y = decide-yes tt
single-decided (x ∷ es) y =
    subst (Decides (Each (λ x. SameEdge x y → ⊥) (x ∷ es))) (sym (neither (same_edge x y) (is_repeated es y)))
    (decide-and (not (same_edge x y)) (not (is_repeated es y)) (decide-not (same_edge x y) (edge-decided x y)) (single-decided es y))
  where
    neither : (a b : Bool) → not (a || b) ≡ not a && not b
    neither true b = refl
    neither false b = refl
