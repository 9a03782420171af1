-- The loops over the eight colours of a vertex.
-- Assumes nothing.
use mathlib.Core.Path.{◌≡◌}
use mathlib.Core.Bool.{Bool, true, false}
use mathlib.Core.Logic.{◌⊎◌, ⊎_elim}
use Prim.Native.Nat.{ℕ, ◌<◌}
use native.Mathlib.Omega.{arith}
use lib.Dec.{ltb}
use borrow.Author.Tests.{ltb-true, ltb-false}
use lib.ListN.{length}
use Rattle.vertex_set.specs.Set.{Member, Meets, Decides}
use Rattle.setup.specs.declared.Rows.{Rows}
use Rattle.setup.proofs.Graphs.{colour-below}
use Rattle.derivations.specs.Inner.Admits.{SomeComplete, AllBroken}
use Rattle.closures.specs.Inner.{LowestColour, ColourFound}
use Rattle.std.specs.Bool.{MatchBool}
use Rattle.std.specs.List.{HoldsAt, AllWithin}
use Rattle.std.specs.Prelude.{Option, None, Some}
use Rattle.std.specs.Option.{is_some}
use Rattle.vertex_set.proofs.Decisions.{decide-yes, decide-no}

-- ---- the lowest complete colour

-- a complete colour is there exactly where the lowest is below 8
pub some-complete : (rows : Rows) (s r : ℕ) → LowestColour rows (Member s) r → Decides (SomeComplete rows (Member s)) (ltb r 8)
some-complete rows s r l =
    record {
      yes = λ e. record { colour = r; complete = l.complete (ltb-true r 8 e) };
      no = λ e h.
          let p = ltb-false r 8 e in
          let q = l.lower h.colour h.complete in
          let a = q.0 in
          let b = q.1 in
          omega arith;
    }

-- a complete colour is there exactly where one was found
pub found-decides : (rows : Rows) (s : ℕ) (r : Option ℕ) → ColourFound rows (Member s) r → Decides (SomeComplete rows (Member s)) (is_some r)
found-decides rows s None n = decide-no n
found-decides rows s (Some c) f = decide-yes (record { colour = c; complete = f.1.complete f.0 })

-- ---- every colour broken

-- Some row is a colour, and the answer tells whether each colour has a lost vertex.
pub broken-all : (rows : Rows) (s : ℕ) (r : Bool) → (k : ℕ) × (k < length rows.needs) × HoldsAt (λ x. x ≡ 0 → ⊥) rows.needs k
    → MatchBool r (AllWithin (λ x. (x ≡ 0) ⊎ Meets x s) rows.needs 0 (length rows.needs))
    ((k : ℕ) × (k < length rows.needs) × HoldsAt (λ x. (x ≡ 0 → ⊥) × (Meets x s → ⊥)) rows.needs k)
    → Decides (AllBroken rows (Member s)) r
broken-all rows s true some all =
    decide-yes (record {
      colour = some.0;
      coloured = some.2 0;
      every = λ c d.
          let m = ⊎_elim (λ e. absurd (d e)) (λ m. m) (all c 0 (omega arith) (colour-below rows (length rows.needs) c (omega arith) d)) in
          record { vertex = m.vertex; member = m.left; gone = m.right };
    })
broken-all rows s false some one =
    decide-no (λ a. let p = one.2 0 in let l = a.every one.0 p.0 in p.1 (record { vertex = l.vertex; left = l.member; right = l.gone }))

-- what one step of a closure asks of a vertex
pub ruleset colour_answers = (found-decides)
