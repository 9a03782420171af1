-- Step after step, as long as there is room.
-- Assumes nothing.
use mathlib.Core.Path.{◌≡◌, refl, ◌∙◌}
use mathlib.Core.List.{List}
use Prim.Native.Nat.{ℕ, zero, suc, ◌+◌, ◌≤◌, ◌<◌}
use native.Mathlib.Nat.{zero-add, add-zero}
use native.Mathlib.Omega.{arith}
use lib.ListN.{length}
use Rattle.setup.specs.declared.Setup.{Setup}
use Rattle.setup.specs.Calls.{written}
use Rattle.sheet_format.specs.Names.{name_of}
use Rattle.report_facts.specs.declared.Facts.{Facts}
use Rattle.report_facts.specs.Texts.{slot_list}
use Rattle.report_facts.specs.Inner.Parts.{Part}
use Rattle.report_facts.proofs.Parts.{part_none, part_then, part_length}
use Rattle.report_writer.specs.declared.steps.Cursor.{Cursor}
use Rattle.report_writer.specs.declared.steps.Cursor.TheVariants as cursor
use Rattle.report_writer.specs.declared.steps.Step.{Step}
use Rattle.report_writer.specs.Rest.{rest_of}
use Rattle.report_writer.specs.Inner.Steps.{KnownAt, CanStep, steps_left, loaded_from, loaded_before, ListsLoaded, StepTaken}

-- ---- lists that are loaded, and more of them

loaded_on : (s : Setup) (k m n : ℕ) (list : List ℕ) → loaded_from s (k + m) n (loaded_from s k m list) ≡ loaded_from s k (m + n) list
loaded_on s k zero n list = rw (zero-add n, add-zero k) refl
loaded_on s k (suc m) n list =
    let e : k + suc m ≡ suc k + m = omega arith in
    let q : suc m + n ≡ suc (m + n) = omega arith in
    rw (e, q) (loaded_on s (suc k) m n (written (slot_list s k) list))

lists-then : (s : Setup) (count : ℕ) (b c d : Cursor) (list list' list'' : List ℕ) → ListsLoaded s count b c list list' → ListsLoaded s count c d list' list''
    → ListsLoaded s count b d list list''
lists-then s count b c d list list' list'' x y =
    let e = x.between in
    let g = y.between in
    record {
      many = x.many + y.many;
      between = omega arith;
      list = y.list ∙ rw (e, x.list) (loaded_on s (loaded_before count b) x.many y.many list);
    }

-- Steps were taken from the place c₀ to the place c.
pub record Filling (sheet : List ℕ) (f : Facts) (opening lockout list₀ : List ℕ) (c₀ : Cursor) (out₀ : List ℕ) (at₀ : ℕ) (list out : List ℕ) (c : Cursor) (at : ℕ) : Type 0 where
  pub part : (s : Setup) → KnownAt sheet s f opening lockout list₀ c₀ → Part out₀ at₀ (rest_of (name_of sheet) s c₀) (rest_of (name_of sheet) s c) out at
  pub here : (s : Setup) → KnownAt sheet s f opening lockout list₀ c₀ → KnownAt sheet s f opening lockout list c
  pub lists : (s : Setup) → KnownAt sheet s f opening lockout list₀ c₀ → ListsLoaded s f.count c₀ c list₀ list
  pub going : CanStep sheet f opening lockout list c
  pub inside : at ≤ length out
  pub less : steps_left f.count c ≤ steps_left f.count c₀
  pub long : length out ≡ length out₀
  pub long_list : length list ≡ length list₀

module _ (sheet : List ℕ) (f : Facts) (opening lockout list₀ : List ℕ) (c₀ : Cursor) (out₀ : List ℕ) (at₀ : ℕ) where
  pub filling-none : CanStep sheet f opening lockout list₀ c₀ → at₀ ≤ length out₀ → Filling sheet f opening lockout list₀ c₀ out₀ at₀ list₀ out₀ c₀ at₀
  filling-none g h =
      record {
        part = λ s a. part_none out₀ at₀ _ h;
        here = λ s a. a;
        lists = λ s a. record { many = 0; between = omega arith; list = refl };
        going = g;
        inside = h;
        less = omega arith;
        long = refl;
        long_list = refl;
      }

  pub filling-more : (list out : List ℕ) (c : Cursor) (at : ℕ) (list' exit : List ℕ) (r : Step) → Filling sheet f opening lockout list₀ c₀ out₀ at₀ list out c at
      → length list' ≡ length list → 0 < steps_left f.count c → StepTaken sheet f opening lockout list c out at list' exit r
      → Filling sheet f opening lockout list₀ c₀ out₀ at₀ list' exit r.cursor r.at
  filling-more list out c at list' exit r w k z v =
      let p = v.part w.going.setup w.going.here in
      let l = v.less z in
      let m = w.less in
      record {
        part = λ s a. part_then out₀ at₀ _ _ out at (w.part s a) _ exit r.at (v.part s (w.here s a));
        here = λ s a. v.here s (w.here s a);
        lists = λ s a. lists-then s f.count c₀ c r.cursor list₀ list list' (w.lists s a) (v.lists s (w.here s a));
        going = record { setup = w.going.setup; here = v.here w.going.setup w.going.here };
        inside = p.inside;
        less = omega arith;
        long = part_length out at _ _ exit r.at p ∙ w.long;
        long_list = k ∙ w.long_list;
      }

-- what a step leaves
pub went-going : (sheet : List ℕ) (f : Facts) (opening lockout list : List ℕ) (c : Cursor) (entry : List ℕ) (at : ℕ) (list' exit : List ℕ) (r : Step)
    → CanStep sheet f opening lockout list c → StepTaken sheet f opening lockout list c entry at list' exit r → CanStep sheet f opening lockout list' r.cursor
went-going sheet f opening lockout list c entry at list' exit r g w = record { setup = g.setup; here = w.here g.setup g.here }

pub went-inside : (sheet : List ℕ) (f : Facts) (opening lockout list : List ℕ) (c : Cursor) (entry : List ℕ) (at : ℕ) (list' exit : List ℕ) (r : Step)
    → CanStep sheet f opening lockout list c → StepTaken sheet f opening lockout list c entry at list' exit r → r.at ≤ length exit
went-inside sheet f opening lockout list c entry at list' exit r g w = (w.part g.setup g.here).inside

-- a step, and those behind it
pub went-filling : (sheet : List ℕ) (f : Facts) (opening lockout list : List ℕ) (c : Cursor) (entry : List ℕ) (at : ℕ) (list₀ out₀ : List ℕ) (first : Step) (list' out : List ℕ) (d : Cursor) (next : ℕ)
    → StepTaken sheet f opening lockout list c entry at list₀ out₀ first → Filling sheet f opening lockout list₀ first.cursor out₀ first.at list' out d next
    → StepTaken sheet f opening lockout list c entry at list' out (record { cursor = d; at = next })
went-filling sheet f opening lockout list c entry at list₀ out₀ first list' out d next w v =
    record {
      part = λ s a. part_then entry at _ _ out₀ first.at (w.part s a) _ out next (v.part s (w.here s a));
      here = λ s a. v.here s (w.here s a);
      lists = λ s a. lists-then s f.count c first.cursor d list list₀ list' (w.lists s a) (v.lists s (w.here s a));
      less = λ z. let l = w.less z in let m = v.less in omega arith;
    }

-- where something is left, steps are
pub left-some : (n : ℕ) (c : Cursor) → (c ≡ cursor.End → ⊥) → 0 < steps_left n c
left-some n cursor.Start h = omega arith
left-some n (cursor.Lists k i m) h = omega arith
left-some n (cursor.Scores v) h = omega arith
left-some n (cursor.Pairs v) h = omega arith
left-some n (cursor.Refused q l) h = omega arith
left-some n cursor.End h = absurd (h refl)
