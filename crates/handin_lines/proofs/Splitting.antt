-- The parts of a text: the one at a place, and those behind it. The fields of a line and the names of a set are such parts.
-- Assumes nothing.
use mathlib.Core.Path.{◌≡◌, refl, sym, ap, subst, ◌∙◌}
use mathlib.Core.List.{List, [], ◌∷◌}
use Prim.Native.Nat.{ℕ, suc, ◌+◌, ◌-◌, ◌≤◌, ◌<◌}
use native.Mathlib.Omega.{arith}
use lib.ListN.{length, get_or, take, drop, length-drop}
use lib.Seq.{drop-drop}
use lib.Dec.{eqb, leb, leb-suc-suc}
use borrow.Author.Tests.{le-leb, lt-leb, leb-true, leb-false}
use Rattle.vertex_set.proofs.Cases.{by_test}
use Rattle.sheet_fields.proofs.Slices.{rest_part}
use Rattle.sheet_format.specs.Text.{grow, fields_of}
use Rattle.sheet_fields.specs.Inner.Parts.{until}
use Rattle.handin_format.specs.Sets.{parts_of}
use Rattle.std.specs.Prelude.{◌⊎◌, slice_range}
use mathlib.Core.Logic.{inl, inr}
use Rattle.std.specs.List.{slice_split, onto_first}
use Rattle.std.proofs.lemmas.List.{at_drop_more, at_drop_all}
use Rattle.handin_lines.specs.Inner.Splitting.{split_on, split_from}

split-cons : (b : ℕ) (s : List ℕ) → split_on b s ≡ take (until b s) s ∷ split_from b (suc (until b s)) s
unfolding split_on split_from grow until
split-cons b [] = refl
split-cons b (a ∷ s) =
    by_test (eqb a b)
    (λ e. rw (e, le-leb 1 (suc (length s)) (omega arith)))
    (λ e. rw (e, split-cons b s, leb-suc-suc (suc (until b s)) (length s)))

-- the part from `at` up to the next b at e, and those behind it
pub split_at : (b : ℕ) (l : List ℕ) (at e : ℕ) → at ≤ length l → e ≡ at + until b (drop at l) → split_from b at l ≡ take (e - at) (drop at l) ∷ split_from b (e + 1) l
unfolding split_from
split_at b l at e h q =
    let d = length-drop at l in
    let u : until b (drop at l) ≡ e - at = omega arith in
    let v : at + suc (e - at) ≡ e + 1 = omega arith in
    let i : leb (suc (e - at)) (length (drop at l)) ≡ leb (e + 1) (length l) = by_test (leb (e + 1) (length l))
    (λ y. rw y (le-leb (suc (e - at)) (length (drop at l)) (omega (arith, leb-true (e + 1) (length l) y))))
    (λ y. rw y (lt-leb (suc (e - at)) (length (drop at l)) (omega (arith, leb-false (e + 1) (length l) y)))) in
    rw (le-leb at (length l) h) (split-cons b (drop at l) ∙ rw (u, i, drop-drop (suc (e - at)) at l, v))

pub split-over : (b : ℕ) (l : List ℕ) (at : ℕ) → length l < at → split_from b at l ≡ []
unfolding split_from
split-over b l at h = rw (lt-leb at (length l) h)

split-first : (b : ℕ) (l : List ℕ) → split_from b 0 l ≡ split_on b l
unfolding split_from
split-first b l = rw (le-leb 0 (length l) (omega arith))

fields-on : (l : List ℕ) → fields_of l ≡ split_on 32 l
unfolding fields_of split_on
fields-on [] = refl
fields-on (a ∷ l) = rw (fields-on l)

pub fields_split : (l : List ℕ) → fields_of l ≡ split_from 32 0 l
fields_split l = fields-on l ∙ sym (split-first 32 l)

-- ---- what `split` gives

grow-is : (b : ℕ) (ps : List (List ℕ)) → onto_first b ps ≡ grow b ps
unfolding grow
grow-is b [] = refl
grow-is b (p ∷ ps) = refl

pub parts-split : (l : List ℕ) → slice_split (λ b. eqb b 43) l ≡ parts_of l
unfolding parts_of
parts-split [] = refl
parts-split (a ∷ l) = rw (parts-split l, grow-is a (parts_of l))

split-is : (b : ℕ) (l : List ℕ) → slice_split (λ a. eqb a b) l ≡ split_on b l
unfolding split_on
split-is b [] = refl
split-is b (a ∷ l) = rw (split-is b l, grow-is a (split_on b l))

pub fields_are : (l : List ℕ) → slice_split (λ b. eqb b 32) l ≡ fields_of l
fields_are l = split-is 32 l ∙ sym (fields-on l)

-- the fields behind a place in the line, and behind its end
pub fields_behind : (l : List ℕ) (at : ℕ) → at ≤ length l → slice_split (λ b. eqb b 32) (drop at l) ≡ split_from 32 at l
unfolding split_from
fields_behind l at h = split-is 32 (drop at l) ∙ rw (le-leb at (length l) h)

-- the part of this turn, and those behind it
pub next_part : (all : List (List ℕ)) (n : ℕ) (x : List ℕ) → (n < length all) × (x ≡ get_or all n x) → drop n all ≡ x ∷ drop (n + 1) all
next_part all n x h = at_drop_more (λ (ps : List (List ℕ)). ps) all n x h.0 ∙ ap (λ (y : List ℕ). y ∷ drop (n + 1) all) (sym h.1)

-- no part is left
pub no_part : (all : List (List ℕ)) (n : ℕ) → n ≡ length all → drop n all ≡ []
no_part all n h = at_drop_all (λ (ps : List (List ℕ)). ps) all n (omega (arith, h))

-- the same of the fields behind a place in the line
pub next_field : (l : List ℕ) (at : ℕ) (rest : List ℕ) (n : ℕ) (x : List ℕ) → rest ≡ drop at l → at ≤ length l
    → (n < length (slice_split (λ b. eqb b 32) rest)) × (x ≡ get_or (slice_split (λ b. eqb b 32) rest) n x) → drop n (split_from 32 at l) ≡ x ∷ drop (n + 1) (split_from 32 at l)
next_field l at rest n x r h t =
    subst (λ (all : List (List ℕ)). drop n all ≡ x ∷ drop (n + 1) all) (ap (slice_split (λ b. eqb b 32)) r ∙ fields_behind l at h) (next_part (slice_split (λ b. eqb b 32) rest) n x t)

pub no_field : (l : List ℕ) (at : ℕ) (rest : List ℕ) (n : ℕ) → rest ≡ drop at l → at ≤ length l → n ≡ length (slice_split (λ b. eqb b 32) rest) → drop n (split_from 32 at l) ≡ []
no_field l at rest n r h t = no_part (split_from 32 at l) n (t ∙ ap length (ap (slice_split (λ b. eqb b 32)) r ∙ fields_behind l at h))

-- what stands behind a place in the line, as `get` gives it
pub rest-is : (l : List ℕ) (at : ℕ) (rest : List ℕ) → rest ≡ slice_range l at (length l) → rest ≡ drop at l
rest-is l at rest e = e ∙ rest_part l at

pub behind : (n at : ℕ) → (n < at) ⊎ (n < n) → n < at
behind n at (inl h) = h
behind n at (inr h) = absurd (omega arith)

-- ---- there are few parts

grow-many : (b : ℕ) (ps : List (List ℕ)) → length (grow b ps) ≤ length ps + 1
unfolding grow
grow-many b [] = omega arith
grow-many b (p ∷ ps) = omega arith

on-many : (b : ℕ) (s : List ℕ) → length (split_on b s) ≤ length s + 1
unfolding split_on
on-many b [] = omega arith
on-many b (a ∷ s) =
    let i = on-many b s in
    let g = grow-many a (split_on b s) in
    by_test (eqb a b) (λ e. rw e (omega arith)) (λ e. rw e (omega arith))

pub split-many : (b at : ℕ) (l : List ℕ) → length (split_from b at l) ≤ length l + 1
unfolding split_from
split-many b at l =
    let m = on-many b (drop at l) in
    let d = length-drop at l in
    by_test (leb at (length l)) (λ e. rw e (omega arith)) (λ e. rw e (omega arith))
