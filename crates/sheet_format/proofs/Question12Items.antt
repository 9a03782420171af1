-- The numbers and the vertices of item rows.
-- Assumes nothing.
use mathlib.Core.Path.{◌≡◌, refl, sym, ◌∙◌}
use mathlib.Core.List.{List, [], ◌∷◌, ◌++◌, map}
use mathlib.Core.Logic.{⊎_elim}
use Prim.Native.Nat.{ℕ, zero, suc, ◌-◌, ◌≤◌, ◌<◌}
use native.Mathlib.Omega.{arith}
use lib.ListN.{length, get_or, replicate, length-append, length-map, length-replicate, get_or-replicate, get_or-eq_default}
use Rattle.vertex_set.proofs.Cases.{by_test, less-or, false-true}
use Rattle.setup.specs.declared.Vertex.{Vertex}
use Rattle.setup.specs.Setup.{unused_vertex, total}
use Rattle.sheet_format.specs.Text.{same_text}
use Rattle.vertex_set.proofs.Decisions.{yes_of}
use Rattle.sheet_format.proofs.Tests.{text-decided}
use Rattle.sheet_format.specs.Rows.{ItemRow, Each, Known, number_in, vertex_of, vertices_of}

-- ---- names

-- the number of a name is that of an item
pub known-number : (xs : List ItemRow) (n : List ℕ) → Known xs n → number_in xs n < length xs
unfolding number_in
known-number [] n k = absurd k
known-number (x ∷ xs) n k =
    by_test (same_text x.name n)
    (λ t. rw t (omega arith))
    (λ t. rw t (⊎_elim
    (λ e. absurd (false-true (sym t ∙ yes_of (same_text x.name n) (text-decided x.name n) e)))
    (λ h. let l = known-number xs n h in omega arith)
    k))

-- ---- vertices

pub vertices-length : (xs : List ItemRow) → length xs ≤ 64 → length (vertices_of xs) ≡ 64
unfolding vertices_of
vertices-length xs l =
    rw (length-append (map vertex_of xs) (replicate (64 - length xs) unused_vertex), length-map xs vertex_of, length-replicate (64 - length xs) unused_vertex) (omega arith)

unused-many : (n v : ℕ) → get_or (replicate n unused_vertex) v unused_vertex ≡ unused_vertex
unused-many n v =
    ⊎_elim
    (λ l. get_or-replicate n v unused_vertex unused_vertex l)
    (λ l. get_or-eq_default (replicate n unused_vertex) unused_vertex (let k = length-replicate n unused_vertex in omega arith))
    (less-or v n)

-- a place behind the items is not in use
behind : (xs : List ItemRow) (n v : ℕ) → length xs ≤ v → get_or (map vertex_of xs ++ replicate n unused_vertex) v unused_vertex ≡ unused_vertex
behind [] n v l = unused-many n v
behind (x ∷ xs) n zero l = absurd (omega arith)
behind (x ∷ xs) n (suc v) l = behind xs n v (omega arith)

pub vertex-unused : (xs : List ItemRow) (v : ℕ) → length xs ≤ v → get_or (vertices_of xs) v unused_vertex ≡ unused_vertex
unfolding vertices_of
vertex-unused xs v l = behind xs (64 - length xs) v l

-- the place of an item has its vertex
pub vertex-used : (P : Vertex → Type 0) (xs : List ItemRow) (v : ℕ) → v < length xs → Each (λ x. P (vertex_of x)) xs → P (get_or (vertices_of xs) v unused_vertex)
unfolding vertices_of
vertex-used P xs v l h = inside xs v (64 - length xs) l h
  where
    inside : (xs : List ItemRow) (v n : ℕ) → v < length xs → Each (λ x. P (vertex_of x)) xs → P (get_or (map vertex_of xs ++ replicate n unused_vertex) v unused_vertex)
    inside [] v n l h = absurd (omega arith)
    inside (x ∷ xs) zero n l h = h.0
    inside (x ∷ xs) (suc v) n l h = inside xs v n (omega arith) h.1

-- what a place not in use adds nothing to is added up over the items
pub vertices-total : (h : Vertex → ℕ) (xs : List ItemRow) → h unused_vertex ≡ 0 → total h (vertices_of xs) ≡ total (λ x. h (vertex_of x)) xs
unfolding vertices_of
vertices-total h xs z = go xs (64 - length xs)
  where
    none : (n : ℕ) → total h (replicate n unused_vertex) ≡ 0
    none zero = refl
    none (suc n) = let e = none n in omega arith

    go : (xs : List ItemRow) (n : ℕ) → total h (map vertex_of xs ++ replicate n unused_vertex) ≡ total (λ x. h (vertex_of x)) xs
    go [] n = none n
    go (x ∷ xs) n = let e = go xs n in omega arith
