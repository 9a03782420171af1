-- The pigeonhole principle for numbers: if the elements of a list, none of which stands there twice, go one to one into another list, that
-- list is at least as long.
-- Assumes nothing.
use mathlib.Core.Path.{◌≡◌, sym, subst}
use mathlib.Core.List.{List, map}
use Prim.Native.Nat.{ℕ, ◌≤◌}
use native.Mathlib.Omega.{arith}
use lib.ListN.{length, length-map}
use Rattle.vertex_set.specs.Order.{Listed, Once}
use Rattle.vertex_set.proofs.Lists.{once-le, once-map}
use Rattle.vertex_set.proofs.Sorted.{listed-of-map}

-- f takes no two elements of the list to the same number.
abbrev pub OneToOne : (ℕ → ℕ) → List ℕ → Type 0
OneToOne f l = (a b : ℕ) → Listed l a → Listed l b → f a ≡ f b → a ≡ b

pub pigeons : (f : ℕ → ℕ) (l k : List ℕ) → Once l → OneToOne f l → ((x : ℕ) → Listed l x → Listed k (f x)) → length l ≤ length k
pigeons f l k o one into =
    let h = once-le (map f l) k (once-map f l one o) (λ y m. let r = listed-of-map f l y m in subst (Listed k) (sym r.2) (into r.0 r.1)) in
    let e = length-map l f in
    omega arith
