-- What every well-formed setup has: rows that are words, and no vertex behind its count.
-- Assumes nothing.
use mathlib.Core.Path.{◌≡◌}
use mathlib.Core.Logic.{⊎_elim}
use Prim.Native.Nat.{ℕ, ◌^◌, ◌≤◌, ◌<◌}
use native.Mathlib.Omega.{arith}
use lib.ListN.{get_or-eq_default}
use Rattle.vertex_set.proofs.Cases.{less-or}
use Rattle.vertex_set.proofs.Sets.{bounded-by-members}
use Rattle.setup.specs.declared.Setup.{Setup}
use Rattle.setup.specs.Setup.{unused_vertex, vertex_at, row}
use Rattle.formed.specs.WellFormed.{WellFormed}

module _ (s : Setup) (w : WellFormed s) where
  -- a row's vertices are the setup's, so that it is a word
  pub row_word : (v c : ℕ) → row s.graph v c < 2 ^ 64
  row_word v c = bounded-by-members 64 (row s.graph v c) (λ f m. let a = (w.ends f v c m).0 in let b = w.most in omega arith)

  -- what is not in use, one of the 64 places or none, reads as a place not in use
  pub not-in-use : (v : ℕ) → s.count ≤ v → vertex_at s v ≡ unused_vertex
  not-in-use v l =
      ⊎_elim (λ k. w.unused v k l) (λ k. let p = w.shaped.places in get_or-eq_default s.vertices unused_vertex (omega arith)) (less-or v 64)
