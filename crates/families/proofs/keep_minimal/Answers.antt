use mathlib.Core.Path.{◌≡◌, subst, ◌∙◌}
use mathlib.Core.List.{List}
use Prim.Native.Nat.{ℕ, ◌-◌}
use native.Mathlib.Omega.{arith}
use borrow.Author.Rules.{rules}
use lib.ListN.{take}
use lib.Seq.{take_all}
use Rattle.families.specs.Inner.Steps.{LeastWord}
use Rattle.families.proofs.Families.{minimal-members, kept_more}
use Rattle.families.proofs.keep_minimal.Goals as goal

pub loop-b-preserved : goal.loop-b-preserved
loop-b-preserved c =
    let whole : c.unwrap.result.now ≡ c.loop-b.f = (let e : c.unwrap.result.now ≡ take 256 c.loop-b.f = search rules in e ∙ take_all 256 c.loop-b.f (search rules)) in (
      search rules,
      kept_more _ c.loop-b.f c.loop-b.b c.least_word.result (λ z. omega (arith, z, c.loop-b-test.true)) (search rules) c.loop-b.invariant.1
          (subst (λ (f : List ℕ). LeastWord f (c.loop-b.b - 1) c.least_word.result) whole c.least_word.ensures),
    )

pub returns : goal.returns
returns c = minimal-members _ c.loop-b.f (λ k h. c.loop-b.invariant.1.done k (omega arith) h)
