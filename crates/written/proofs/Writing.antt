-- A list written part by part into another.
-- Assumes nothing.
use mathlib.Core.Path.{◌≡◌, refl, sym, ap, ◌∙◌}
use mathlib.Core.List.{List, [], ◌∷◌, ◌++◌}
use Prim.Native.Nat.{ℕ, suc, ◌+◌, ◌≤◌}
use native.Mathlib.Nat.{zero-add}
use native.Mathlib.Omega.{arith}
use lib.ListN.{length, drop, set, length-append}
use lib.Seq.{sets, sets-eq, length-sets}
use Rattle.written.specs.Inner.{Wrote}

-- ---- one write

pub wrote_none : (entry : List ℕ) (at : ℕ) → Wrote entry at [] entry at
wrote_none entry at = record { exit = refl; next = omega arith }

pub wrote_one : (out : List ℕ) (next x : ℕ) → Wrote out next (x ∷ []) (set out next x) (next + 1)
wrote_one out next x = record { exit = refl; next = refl }

pub wrote-length : (entry : List ℕ) (at : ℕ) (xs exit : List ℕ) (r : ℕ) → Wrote entry at xs exit r → length exit ≡ length entry
wrote-length entry at xs exit r w = ap length w.exit ∙ length-sets entry at xs

pub wrote-inside : (entry : List ℕ) (at : ℕ) (xs exit : List ℕ) (r : ℕ) → Wrote entry at xs exit r → at + length xs ≤ length entry → r ≤ length exit
wrote-inside entry at xs exit r w h = let l = wrote-length entry at xs exit r w in let n = w.next in omega arith

-- what is written to the front of a list
pub wrote-front : (entry xs exit : List ℕ) (r : ℕ) → length xs ≤ length entry → Wrote entry 0 xs exit r → exit ≡ xs ++ drop (length xs) entry
wrote-front entry xs exit r h w = w.exit ∙ (sets-eq xs entry 0 (omega arith) ∙ ap (λ (n : ℕ). xs ++ drop n entry) (zero-add (length xs)))

-- ---- what is still to be written

-- Of the list `all`, which goes to `at` and behind, `rest` is still to be written, from `next` on.
pub record Writing (entry : List ℕ) (at : ℕ) (all rest out : List ℕ) (next : ℕ) : Type 0 where
  pub long : length out ≡ length entry
  pub count : next + length rest ≡ at + length all
  pub value : sets out next rest ≡ sets entry at all

pub writing-none : (entry : List ℕ) (at : ℕ) (all : List ℕ) → Writing entry at all all entry at
writing-none entry at all = record { long = refl; count = refl; value = refl }

sets-append : (l : List ℕ) (i : ℕ) (xs ys : List ℕ) → sets l i (xs ++ ys) ≡ sets (sets l i xs) (i + length xs) ys
sets-append l i [] ys = let e : i + 0 ≡ i = omega arith in rw e
sets-append l i (x ∷ xs) ys =
    let e : i + suc (length xs) ≡ suc i + length xs = omega arith in
    rw e (sets-append (set l i x) (suc i) xs ys)

pub writing-part : (entry : List ℕ) (at : ℕ) (all xs ys out : List ℕ) (next : ℕ) (after : List ℕ) (r : ℕ) → Writing entry at all (xs ++ ys) out next
    → Wrote out next xs after r → Writing entry at all ys after r
writing-part entry at all xs ys out next after r w p =
    let a = length-append xs ys in
    rw (p.exit, p.next)
    (record {
      long = length-sets out next xs ∙ w.long;
      count = omega (arith, w.count);
      value = sym (sets-append out next xs ys) ∙ w.value;
    })

-- there is room for the next part
pub writing-room : (entry : List ℕ) (at : ℕ) (all xs ys out : List ℕ) (next : ℕ) → Writing entry at all (xs ++ ys) out next → at + length all ≤ length entry
    → next + length xs ≤ length out
writing-room entry at all xs ys out next w room = omega (arith, length-append xs ys, w.long, w.count)

pub writing-end : (entry : List ℕ) (at : ℕ) (all rest out : List ℕ) (next : ℕ) → rest ≡ [] → Writing entry at all rest out next → Wrote entry at all out next
writing-end entry at all rest out next e w =
    let v = rw e at w in
    record { exit = v.value; next = omega (arith, v.count) }

-- ---- two writes, one after the other

module _ (entry : List ℕ) (at : ℕ) (xs out : List ℕ) (next : ℕ) (w : Wrote entry at xs out next) where
  pub wrote_then : (ys after : List ℕ) (r : ℕ) → Wrote out next ys after r → Wrote entry at (xs ++ ys) after r
  wrote_then ys after r v =
      let p = writing-part entry at (xs ++ ys) xs ys entry at out next (writing-none entry at (xs ++ ys)) w in
      record { exit = v.exit ∙ p.value; next = v.next ∙ p.count }

  -- there is room for the second
  pub room-then : (ys : List ℕ) → at + length (xs ++ ys) ≤ length entry → next + length ys ≤ length out
  room-then ys h =
      let l = length-append xs ys in
      let o = wrote-length entry at xs out next w in
      omega (arith, w.next)
