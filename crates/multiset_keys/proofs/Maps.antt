-- What an array's `map` gives at each place, where the closure stays as it is.
-- Assumes nothing.
use mathlib.Core.Path.{◌≡◌, subst}
use mathlib.Core.List.{List}
use Prim.Native.Nat.{ℕ, zero, suc, ◌+◌, ◌<◌}
use native.Mathlib.Omega.{arith}
use lib.ListN.{get_or}
use denote.Param.Members.{Mut, Called}
use Rattle.std.specs.Array.{MapsFrom}

module _ {F A B : Type 0} (g : Mut F (A × Unit {0}) B) (P : A → B → Type 0) (f : F)
    (call : (x : A) (y : B) (q : F) → Called g f (x, tt) y q → (q ≡ f) × P x y) (xs : List A) (ys : List B) where
  pub mapped : (i n : ℕ) → MapsFrom g f xs ys i n → (j k : ℕ) → j < n → k ≡ i + j → (d : A) (e : B) → P (get_or xs k d) (get_or ys k e)
  mapped i zero m j k l s d e = absurd (omega arith)
  mapped i (suc n) m zero k l s d e =
      let at : k ≡ i = omega arith in
      let c = call m.1 m.2 m.0 m.5 in
      rw (at, m.3.1 d, m.4.1 e) c.1
  mapped i (suc n) m (suc j) k l s d e =
      let c = call m.1 m.2 m.0 m.5 in
      mapped (i + 1) n (subst (λ (q : F). MapsFrom g q xs ys (i + 1) n) c.0 m.6) j k (omega arith) (omega arith) d e
