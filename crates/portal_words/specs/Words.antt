-- A setup as plain numbers: the count; then of each of 64 places kind, start, loss and rank; then of each place eight rows, one a colour; then
-- the same rows of recovery edges; then the held set, and what it opens.
use Rattle.std.specs.Prelude.{◌≡◌, List, [], ◌∷◌, ◌++◌, Bool, true, cond, ◌&&◌, ℕ, zero, suc, ◌+◌, ◌*◌, ◌≤◌, ◌<◌, eqb, leb, length, get_or, take}
use Rattle.setup.specs.declared.Kind.{Kind}
use Rattle.setup.specs.declared.Kind.TheVariants.{Credential, Account}
use Rattle.std.specs.Prelude.{Option, None, Some}
use Rattle.setup.specs.declared.Vertex.{Vertex}
use Rattle.setup.specs.declared.Rows.{Rows}
use Rattle.setup.specs.declared.Graph.{Graph}
use Rattle.setup.specs.declared.Setup.{Setup}
use Rattle.setup.specs.Setup.{no_items}
use Rattle.formed.specs.WellFormed.{WellFormed}

-- f of 0, 1 and so on, n in all.
unfoldable pub tabulate : {A : Type 0} → ℕ → (ℕ → A) → List A
tabulate zero f = []
tabulate (suc n) f = tabulate n f ++ (f n ∷ [])

-- How many words say a setup: 1 + 256 + 512 + 512 + 2.
abbrev pub setup_words : ℕ
setup_words = 1283

-- Where the held set stands, and what it opens.
abbrev pub held_place : ℕ
held_place = 1281

abbrev pub opened_place : ℕ
opened_place = 1282

-- The number that stands for a blank: 2^64 - 1.
abbrev pub blank : ℕ
blank = 18446744073709551615

-- ---- which words say a setup

-- The word at place i.
abbrev pub word_at : List ℕ → ℕ → ℕ
word_at words i = get_or words i 0

-- Words say a setup where there are enough of them, and the kind of each of the 64 places is 0 or 1. Words behind the last one say nothing.
pub record SaysSetup (words : List ℕ) : Type 0 where
  pub long : setup_words ≤ length words
  pub kinds : (v : ℕ) → v < 64 → word_at words (1 + 4 * v) ≤ 1

-- The same as a test, first of the kinds of n places.
unfoldable pub kinds_said : ℕ → List ℕ → Bool
kinds_said zero words = true
kinds_said (suc n) words = leb (word_at words (1 + 4 * n)) 1 && kinds_said n words

-- Do the words say a setup?
unfoldable pub says_setup : List ℕ → Bool
says_setup words = leb setup_words (length words) && kinds_said 64 words

-- ---- from words to a setup

-- The kind that a word says: a credential for 0, else an account.
unfoldable pub kind_in : ℕ → Kind
kind_in n = cond (eqb n 0) Credential Account

-- The value that a word says: a blank for 2^64 - 1, else the number itself.
unfoldable pub value_in : ℕ → Option ℕ
value_in n = cond (eqb n blank) None (Some n)

-- The vertex v that the words say, by four of them.
abbrev pub vertex_in : List ℕ → ℕ → Vertex
vertex_in words v =
    record {
      kind = kind_in (word_at words (1 + 4 * v));
      start = value_in (word_at words (1 + 4 * v + 1));
      loss = value_in (word_at words (1 + 4 * v + 2));
      rank = word_at words (1 + 4 * v + 3);
    }

-- The eight rows that the words from place `at` on say, one a colour.
abbrev pub rows_in : List ℕ → ℕ → Rows
rows_in words at = record { needs = tabulate 8 (λ c. word_at words (at + c)) }

-- The graph that the words from place `at` on say, eight rows for each of 64 places.
abbrev pub graph_in : List ℕ → ℕ → Graph
graph_in words at = record { rows = tabulate 64 (λ v. rows_in words (at + 8 * v)) }

-- What the words say, place by place.
unfoldable pub spelt : List ℕ → Setup
spelt words =
    record {
      count = word_at words 0;
      vertices = tabulate 64 (vertex_in words);
      graph = graph_in words 257;
      recovery = graph_in words 769;
      held = record { 0 = word_at words held_place };
      opened = record { 0 = word_at words opened_place };
    }

-- The setup that the words say. Words that say none stand for the setup of 0 items, as a refused sheet does: question 12 refuses it.
unfoldable pub setup_in : List ℕ → Setup
setup_in words = cond (says_setup words) (spelt words) no_items

-- ---- from a setup to words

-- The word that says a kind: 0 for a credential, 1 for an account.
abbrev pub kind_word : Kind → ℕ
kind_word Credential = 0
kind_word Account = 1

-- The word that says a value: 2^64 - 1 for a blank, else the number itself.
abbrev pub value_word : Option ℕ → ℕ
value_word None = blank
value_word (Some n) = n

-- The four words that say a vertex: kind, start, loss and rank.
abbrev pub vertex_words : Vertex → List ℕ
vertex_words x = kind_word x.kind ∷ value_word x.start ∷ value_word x.loss ∷ x.rank ∷ []

-- The words of each element, one after the other.
unfoldable pub flat : {A : Type 0} → (A → List ℕ) → List A → List ℕ
flat f [] = []
flat f (x ∷ xs) = f x ++ flat f xs

-- The words that say the vertices, place by place.
abbrev pub vertices_words : List Vertex → List ℕ
vertices_words xs = flat vertex_words xs

-- The words that say the rows of one place, one a colour.
abbrev pub needs_of : Rows → List ℕ
needs_of r = r.needs

-- The words that say a graph, place by place.
abbrev pub graph_words : List Rows → List ℕ
graph_words rs = flat needs_of rs

-- The words that say the setup.
unfoldable pub words_of : Setup → List ℕ
words_of s =
    s.count ∷ (vertices_words s.vertices ++ (graph_words s.graph.rows ++ (graph_words s.recovery.rows ++ (s.held.0 ∷ s.opened.0 ∷ []))))

-- ---- theorems

-- No word is lost and none is made up, either way.
pub record Strict : Type 0 where
  -- words that say a setup are the words of the setup that they say
  pub says : (words : List ℕ) → SaysSetup words → take setup_words words ≡ words_of (setup_in words)
  -- other words stand for the setup of 0 items, which question 12 refuses
  pub none : (words : List ℕ) → (SaysSetup words → ⊥) → setup_in words ≡ no_items
  -- a setup that passes question 12 is what its words say, whatever stands behind them
  pub back : (s : Setup) → WellFormed s → (rest : List ℕ) → setup_in (words_of s ++ rest) ≡ s
