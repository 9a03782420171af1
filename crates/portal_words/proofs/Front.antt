-- The first words say all of a setup: what stands behind them may be left out.
-- Assumes nothing.
use mathlib.Core.Path.{◌≡◌, refl, sym, ap, subst, ◌∙◌}
use mathlib.Core.List.{List, [], ◌∷◌, ◌++◌}
use Prim.Native.Nat.{ℕ, zero, suc, ◌+◌, ◌*◌, ◌≤◌, ◌<◌}
use native.Mathlib.Omega.{arith}
use lib.ListN.{length, take}
use lib.Seq.{length-take-le}
use Rattle.std.proofs.Common.{get_or-take}
use Rattle.std.specs.Array.{IsFirstChunk}
use Rattle.setup.specs.declared.Rows.{Rows}
use Rattle.setup.specs.declared.Graph.{Graph}
use Rattle.setup.specs.declared.Setup.{Setup}
use Rattle.setup.specs.Setup.{no_items}
use Rattle.portal_words.specs.Words.{tabulate, word_at, SaysSetup, kind_in, value_in, vertex_in, rows_in, graph_in, spelt, setup_in}
use Rattle.portal_words.proofs.Strict.{setup-spelt, setup-none}

tabulate-same : {A : Type 0} (f g : ℕ → A) (n : ℕ) → ((i : ℕ) → i < n → f i ≡ g i) → tabulate n f ≡ tabulate n g
unfolding tabulate
tabulate-same f g zero e = refl
tabulate-same {A = A} f g (suc n) e =
    ap (λ (r : List A). r ++ (f n ∷ [])) (tabulate-same f g n (λ i b. e i (omega arith))) ∙ ap (λ (x : A). tabulate n g ++ (x ∷ [])) (e n (omega arith))

abbrev the-rows : List ℕ → Rows
the-rows l = record { needs = l }

abbrev the-graph : List Rows → Graph
the-graph l = record { rows = l }

module _ (words : List ℕ) where
  word : (i : ℕ) → i < 1283 → word_at (take 1283 words) i ≡ word_at words i
  word i h = get_or-take 1283 words i 0 h

  rows : (at : ℕ) → at + 8 ≤ 1283 → rows_in (take 1283 words) at ≡ rows_in words at
  rows at h = ap the-rows (tabulate-same (λ c. word_at (take 1283 words) (at + c)) (λ c. word_at words (at + c)) 8 (λ c b. word (at + c) (omega arith)))

  graph : (at : ℕ) → at + 512 ≤ 1283 → graph_in (take 1283 words) at ≡ graph_in words at
  graph at h =
      ap the-graph (tabulate-same (λ v. rows_in (take 1283 words) (at + 8 * v)) (λ v. rows_in words (at + 8 * v)) 64 (λ v b. rows (at + 8 * v) (omega arith)))

  vertex : (v : ℕ) → v < 64 → vertex_in (take 1283 words) v ≡ vertex_in words v
  vertex v b =
      let w = word (1 + 4 * v) (omega arith) in
      let x = word (1 + 4 * v + 1) (omega arith) in
      let y = word (1 + 4 * v + 2) (omega arith) in
      let z = word (1 + 4 * v + 3) (omega arith) in
      λ k. record { kind = kind_in (w k); start = value_in (x k); loss = value_in (y k); rank = z k }

  front-spelt : spelt (take 1283 words) ≡ spelt words
  unfolding spelt
  front-spelt =
      let count = word 0 (omega arith) in
      let vertices = tabulate-same (vertex_in (take 1283 words)) (vertex_in words) 64 vertex in
      let g = graph 257 (omega arith) in
      let r = graph 769 (omega arith) in
      let h = word 1281 (omega arith) in
      let o = word 1282 (omega arith) in
      λ k. record { count = count k; vertices = vertices k; graph = g k; recovery = r k; held = record { 0 = h k }; opened = record { 0 = o k } }

  front-says : 1283 ≤ length words → SaysSetup words → SaysSetup (take 1283 words)
  front-says long s =
      let l = length-take-le 1283 words long in
      record { long = omega arith; kinds = λ v b. let e = word (1 + 4 * v) (omega arith) in let m = s.kinds v b in omega arith }

  says-front : 1283 ≤ length words → SaysSetup (take 1283 words) → SaysSetup words
  says-front long s = record { long = long; kinds = λ v b. let e = word (1 + 4 * v) (omega arith) in let m = s.kinds v b in omega arith }

  module _ (front : List ℕ) (c : IsFirstChunk words front 1283) where
    pub spelt-front : SaysSetup front → spelt front ≡ setup_in words
    spelt-front s =
        let t = subst SaysSetup c.same s in
        ap spelt c.same ∙ front-spelt ∙ sym (setup-spelt words (says-front c.enough t))

    pub none-front : (SaysSetup front → ⊥) → no_items ≡ setup_in words
    none-front n = sym (setup-none words (λ s. n (subst SaysSetup (sym c.same) (front-says c.enough s))))

  pub none-short : (r : Setup) → length words < 1283 → r ≡ no_items → r ≡ setup_in words
  none-short r h e = e ∙ sym (setup-none words (λ s. let l = s.long in omega arith))

-- what is answered to too few words
pub ruleset short_answers = (none-short)
