-- Filling an array place by place, and what the tests on a word say.
-- Assumes nothing.
use mathlib.Core.Path.{◌≡◌, refl, sym, ap, ◌∙◌}
use mathlib.Core.List.{List, [], ◌∷◌, ◌++◌}
use Prim.Native.Nat.{ℕ, ◌+◌, ◌<◌}
use native.Mathlib.Numerals.{add-one}
use native.Mathlib.Omega.{arith}
use lib.ListN.{length, take, set, length-set}
use lib.Seq.{take_all, take-suc-set}
use borrow.Author.Tests.{eq-eqb, ne_eqb}
use Rattle.setup.specs.declared.Kind.TheVariants.{Credential, Account}
use Rattle.std.specs.Prelude.{None, Some}
use Rattle.portal_words.specs.Words.{tabulate, blank, kind_in, value_in}

-- The first i places of n have f of their number.
pub record Filled {A : Type 0} (f : ℕ → A) (n i : ℕ) (l : List A) : Type 0 where
  pub long : length l ≡ n
  pub front : take i l ≡ tabulate i f

module _ {A : Type 0} (f : ℕ → A) (n : ℕ) (l : List A) where
  pub filled_none : length l ≡ n → Filled f n 0 l
  unfolding tabulate
  filled_none e = record { long = e; front = refl }

  pub filled_more : (i : ℕ) (x : A) → i < n → x ≡ f i → Filled f n i l → Filled f n (i + 1) (set l i x)
  unfolding tabulate
  filled_more i x h e w =
      let long = w.long in
      rw (add-one i)
      (record {
        long = length-set l i x ∙ w.long;
        front = take-suc-set l i x (omega arith) ∙ ap (λ (r : List A). r ++ (x ∷ [])) w.front ∙ ap (λ (y : A). tabulate i f ++ (y ∷ [])) e;
      })

  pub filled-all : Filled f n n l → l ≡ tabulate n f
  filled-all w = let long = w.long in sym (take_all n l (omega arith)) ∙ w.front

pub kind-credential : (n : ℕ) → n ≡ 0 → Credential ≡ kind_in n
unfolding kind_in
kind-credential n e = rw (eq-eqb n 0 e)

pub kind-account : (n : ℕ) → (n ≡ 0 → ⊥) → Account ≡ kind_in n
unfolding kind_in
kind-account n e = rw (ne_eqb n 0 e)

pub value-blank : (n : ℕ) → n ≡ blank → None ≡ value_in n
unfolding value_in
value-blank n e = rw (eq-eqb n blank e)

pub value-given : (n : ℕ) → (n ≡ blank → ⊥) → Some n ≡ value_in n
unfolding value_in
value-given n e = rw (ne_eqb n blank e)
