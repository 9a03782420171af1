-- Which words say a setup, by a test and word by word; and that they are the words of the setup that they say.
-- Assumes nothing.
use mathlib.Core.Path.{◌≡◌, refl, sym, ap, subst, ◌∙◌}
use mathlib.Core.List.{List, [], ◌∷◌, ◌++◌, append_assoc, append-nil}
use mathlib.Core.Logic.{⊎_elim}
use Prim.Native.Nat.{ℕ, zero, suc, ◌+◌, ◌*◌, ◌≤◌, ◌<◌}
use native.Mathlib.Omega.{arith}
use lib.Dec.{leb}
use lib.ListN.{length, take, drop, length-drop, get_or-replicate}
use lib.Seq.{take-add, drop-drop, get_or-drop}
use Rattle.vertex_set.specs.Set.{Decides}
use Rattle.vertex_set.proofs.Cases.{by_test, less-or, same_or}
use Rattle.vertex_set.proofs.Decisions.{decide_iff, decide-and, decide-leb, decide-yes, yes_of, no_of}
use Rattle.std.specs.Prelude.{None, Some}
use Rattle.std.specs.Prelude.{Option}
use Rattle.setup.specs.declared.Vertex.{Vertex}
use Rattle.setup.specs.declared.Setup.{Setup}
use Rattle.setup.specs.Setup.{unused_vertex, vertex_at, no_items}
use Rattle.setup.proofs.Graphs.{empty-shaped}
use Rattle.formed.specs.WellFormed.{InRange, WellFormed}
use Rattle.portal_words.specs.Words.{tabulate, setup_words, held_place, opened_place, word_at, SaysSetup, kinds_said, says_setup, kind_in, value_in, vertex_in, rows_in, spelt, setup_in, kind_word, value_word, vertex_words, flat, needs_of, words_of, Strict}
use Rattle.portal_words.proofs.Filling.{kind-credential, kind-account, value-blank, value-given}
use Rattle.portal_words.proofs.Saying.{tabulate-front, Said, Sayable, written-says, spelt_back}

-- ---- the test

-- The kinds of the first n places are 0 or 1.
pub record KindsTo (words : List ℕ) (n : ℕ) : Type 0 where
  pub each : (v : ℕ) → v < n → word_at words (1 + 4 * v) ≤ 1

module _ (words : List ℕ) where
  pub kinds-none : KindsTo words 0
  kinds-none = record { each = λ v h. absurd (let b = h in omega arith) }

  pub kinds-more : (n k : ℕ) → k ≡ n + 1 → word_at words (1 + 4 * n) ≤ 1 → KindsTo words n → KindsTo words k
  kinds-more n k e h s =
      record { each = λ v b. ⊎_elim (λ l. s.each v l) (λ l. let d : v ≡ n = omega (arith, b, l, e) in rw d h) (less-or v n) }

  pub says-no : (v : ℕ) → v < 64 → 1 < word_at words (1 + 4 * v) → SaysSetup words → ⊥
  says-no v h l s = let k = s.kinds v h in omega arith

  pub says-yes : setup_words ≤ length words → KindsTo words 64 → SaysSetup words
  says-yes l k = record { long = l; kinds = k.each }

  kinds-decided : (n : ℕ) → Decides (KindsTo words n) (kinds_said n words)
  unfolding kinds_said
  kinds-decided zero = decide-yes kinds-none
  kinds-decided (suc n) =
      decide_iff
      (record {
        to = λ p. kinds-more n (suc n) (omega arith) p.0 p.1;
        from = λ s. (s.each n (omega arith), record { each = λ v b. s.each v (let d = b in omega arith) });
      })
      (decide-and (leb (word_at words (1 + 4 * n)) 1) (kinds_said n words) (decide-leb _ _) (kinds-decided n))

  says-decided : Decides (SaysSetup words) (says_setup words)
  unfolding says_setup
  says-decided =
      decide_iff (record { to = λ p. says-yes p.0 p.1; from = λ s. (s.long, record { each = s.kinds }) })
      (decide-and (leb setup_words (length words)) (kinds_said 64 words) (decide-leb _ _) (kinds-decided 64))

  pub setup-spelt : SaysSetup words → setup_in words ≡ spelt words
  unfolding setup_in
  setup-spelt s = rw (yes_of (says_setup words) says-decided s)

  pub setup-none : (SaysSetup words → ⊥) → setup_in words ≡ no_items
  unfolding setup_in
  setup-none n = rw (no_of (says_setup words) says-decided n)

-- ---- the words of what is spelt are the words

kind-word : (n : ℕ) → n ≤ 1 → kind_word (kind_in n) ≡ n
kind-word n h =
    ⊎_elim (λ e. ap kind_word (sym (kind-credential n e)) ∙ sym e) (λ d. ap kind_word (sym (kind-account n d)) ∙ (omega arith)) (same_or n 0)

value-word : (n : ℕ) → value_word (value_in n) ≡ n
value-word n = ⊎_elim (λ e. ap value_word (sym (value-blank n e)) ∙ sym e) (λ d. ap value_word (sym (value-given n d))) (same_or n _)

-- k words from `at` on
part : List ℕ → ℕ → ℕ → List ℕ
part words at k = take k (drop at words)

part-add : (words : List ℕ) (at j k : ℕ) → part words at (j + k) ≡ part words at j ++ part words (at + j) k
unfolding part
part-add words at j k = take-add j k (drop at words) ∙ ap (λ (l : List ℕ). take j (drop at words) ++ take k l) (drop-drop j at words)

part-words : (words : List ℕ) (at k : ℕ) → at + k ≤ length words → tabulate k (λ j. word_at words (at + j)) ≡ part words at k
unfolding part
part-words words at k h =
    let l = length-drop at words in tabulate-front (λ j. word_at words (at + j)) (drop at words) 0 k (omega arith) (λ i b. sym (get_or-drop at words i 0))

flat-snoc : {A : Type 0} (f : A → List ℕ) (xs : List A) (x : A) → flat f (xs ++ (x ∷ [])) ≡ flat f xs ++ f x
unfolding flat
flat-snoc f [] x = append-nil (f x)
flat-snoc f (y ∷ xs) x = ap (λ (l : List ℕ). f y ++ l) (flat-snoc f xs x) ∙ sym (append_assoc (f y) (flat f xs) (f x))

-- of n elements, each by k words
flat-part : {A : Type 0} (f : A → List ℕ) (g : ℕ → A) (words : List ℕ) (at k n : ℕ) → ((v : ℕ) → v < n → f (g v) ≡ part words (at + k * v) k)
    → flat f (tabulate n g) ≡ part words at (k * n)
unfolding flat tabulate part
flat-part f g words at k zero e = let z : 0 ≡ k * 0 = omega arith in ap (part words at) z
flat-part f g words at k (suc n) e =
    flat-snoc f (tabulate n g) (g n) ∙ ap (λ (l : List ℕ). l ++ f (g n)) (flat-part f g words at k n (λ v h. e v (omega arith)))
    ∙ ap (λ (l : List ℕ). part words at (k * n) ++ l) (e n (omega arith)) ∙ sym (part-add words at (k * n) k)
    ∙ (let z : k * n + k ≡ k * suc n = omega arith in ap (part words at) z)

module _ (words : List ℕ) (s : SaysSetup words) where
  vertex-part : (v : ℕ) → v < 64 → vertex_words (vertex_in words v) ≡ part words (1 + 4 * v) 4
  unfolding tabulate
  vertex-part v h =
      let long = s.long in
      let same : 1 + 4 * v ≡ 1 + 4 * v + 0 = omega arith in
      (λ i. (kind-word (word_at words (1 + 4 * v)) (s.kinds v h) ∙ ap (word_at words) same) i
      ∷ value-word (word_at words (1 + 4 * v + 1)) i ∷ value-word (word_at words (1 + 4 * v + 2)) i ∷ word_at words (1 + 4 * v + 3) ∷ [])
      ∙ part-words words (1 + 4 * v) 4 (omega arith)

  graph-part : (at : ℕ) → at + 512 ≤ length words → flat needs_of (tabulate 64 (λ v. rows_in words (at + 8 * v))) ≡ part words at 512
  graph-part at h = flat-part needs_of (λ v. rows_in words (at + 8 * v)) words at 8 64 (λ v b. part-words words (at + 8 * v) 8 (omega arith))

  -- the count, the places, both graphs and the two sets
  parts : take setup_words words ≡ part words 0 1 ++ (part words 1 256 ++ (part words 257 512 ++ (part words 769 512 ++ part words 1281 2)))
  unfolding part
  parts =
      part-add words 0 1 1282 ∙ ap (λ (l : List ℕ). part words 0 1 ++ l) (part-add words 1 256 1026
      ∙ ap (λ (l : List ℕ). part words 1 256 ++ l) (part-add words 257 512 514 ∙ ap (λ (l : List ℕ). part words 257 512 ++ l) (part-add words 769 512 2)))

  pub words_are : take setup_words words ≡ words_of (setup_in words)
  unfolding words_of spelt tabulate
  words_are =
      let long = s.long in
      parts
      ∙ sym (λ i. part-words words 0 1 (omega arith) i ++ (flat-part vertex_words (vertex_in words) words 1 4 64 vertex-part i
      ++ (graph-part 257 (omega arith) i ++ (graph-part 769 (omega arith) i ++ part-words words 1281 2 (omega arith) i))))
      ∙ ap words_of (sym (setup-spelt words s))

-- ---- a setup is what its words say

said : (x : Option ℕ) → InRange x → Said x
said None h = tt
said (Some n) h = omega arith

well-formed-said : (s : Setup) → WellFormed s → Sayable s
well-formed-said s w = record { shaped = w.shaped; start = λ v b. (both v b).0; loss = λ v b. (both v b).1 }
  where
    both : (v : ℕ) → v < 64 → Said (vertex_at s v).start × Said (vertex_at s v).loss
    both v b =
        ⊎_elim
        (λ l. (said (vertex_at s v).start (w.used v l).start, said (vertex_at s v).loss (w.used v l).loss))
        (λ l. subst (λ (x : Vertex). Said x.start × Said x.loss) (sym (w.unused v b l)) (tt, tt))
        (less-or v s.count)

empty-said : Sayable no_items
empty-said =
    record {
      shaped = record { places = refl; graph = empty-shaped; recovery = empty-shaped };
      start = λ v b. subst (λ (x : Vertex). Said x.start) (sym (get_or-replicate 64 v unused_vertex unused_vertex b)) tt;
      loss = λ v b. subst (λ (x : Vertex). Said x.loss) (sym (get_or-replicate 64 v unused_vertex unused_vertex b)) tt;
    }

says_back : (s : Setup) → Sayable s → (rest : List ℕ) → setup_in (words_of s ++ rest) ≡ s
says_back s h rest = setup-spelt (words_of s ++ rest) (written-says s h.shaped rest) ∙ spelt_back s h rest

pub well-formed-says : (s : Setup) → WellFormed s → (rest : List ℕ) → SaysSetup (words_of s ++ rest)
well-formed-says s w = written-says s w.shaped

pub empty-says : (rest : List ℕ) → SaysSetup (words_of no_items ++ rest)
empty-says = written-says no_items empty-said.shaped

pub well-formed-back : (s : Setup) → WellFormed s → (rest : List ℕ) → setup_in (words_of s ++ rest) ≡ s
well-formed-back s w = says_back s (well-formed-said s w)

pub empty_back : (rest : List ℕ) → setup_in (words_of no_items ++ rest) ≡ no_items
empty_back = says_back no_items empty-said

-- ---- a setup that passes question 12 is said

pub none-malformed : WellFormed no_items → ⊥
none-malformed w = let s = w.some in omega arith

pub formed-says : (words : List ℕ) → WellFormed (setup_in words) → SaysSetup words
formed-says words w =
    by_test (says_setup words) (says-decided words).yes (λ e. absurd (none-malformed (subst WellFormed (setup-none words ((says-decided words).no e)) w)))

module _ (words : List ℕ) (s : SaysSetup words) where
  pub held_word : (setup_in words).held.0 ≡ word_at words held_place
  unfolding spelt
  held_word = ap (λ (x : Setup). x.held.0) (setup-spelt words s)

  pub opened-word : (setup_in words).opened.0 ≡ word_at words opened_place
  unfolding spelt
  opened-word = ap (λ (x : Setup). x.opened.0) (setup-spelt words s)

pub strict : Strict
strict = record { says = words_are; none = setup-none; back = well-formed-back }
