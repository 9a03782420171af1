-- The question about what is held, and what it opens.
-- Assumes nothing.
use mathlib.Core.Path.{◌≡◌, sym, subst}
use Prim.Native.Nat.{ℕ, ◌^◌, ◌<◌}
use lib.Dec.{eqb}
use Rattle.vertex_set.specs.Set.{Member, Within, Decides, Below}
use Rattle.vertex_set.proofs.Sets.{none-in-zero, member_below}
use Rattle.vertex_set.proofs.Decisions.{decide_iff, decide-eqb}
use Rattle.setup.specs.declared.Graph.{Graph}
use Rattle.derivations.specs.Access.{access, AccessFrom}
use Rattle.derivations.specs.Passes.{Passes}
use Rattle.derivations.proofs.Graphs.{access-lawful}
use Rattle.derivations.proofs.Passes.{passes-closure}
use Rattle.derivations.proofs.Closures.{closure-unique, none-opens}
use Rattle.formed.specs.Inner.Parts.{HoldingFits}

-- Where the right vertices are held and t is what they open, the test for t decides.
by-opened : (count : ℕ) (graph : Graph) (held opened t : ℕ) → ((v : ℕ) → Member held v → v < count) → AccessFrom graph held t
    → Decides (HoldingFits count graph held opened) (eqb t opened)
by-opened count graph held opened t h a =
    decide_iff (record {
      to = λ e. record { holds = h; opens = subst (λ (x : ℕ). AccessFrom graph held x) e a };
      from = λ f. closure-unique (access graph) held t opened a f.opens;
    })
    (decide-eqb t opened)

-- nothing is held
pub holding-none : (count : ℕ) (graph : Graph) (held opened : ℕ) → held ≡ 0 → Decides (HoldingFits count graph held opened) (eqb opened 0)
holding-none count graph held opened z =
    decide_iff (record {
      to = λ e. record {
        holds = λ v m. absurd (none-in-zero v (subst (λ (x : ℕ). Member x v) z m));
        opens = subst (λ (x : ℕ). AccessFrom graph x opened) (sym z) (subst (λ (x : ℕ). AccessFrom graph 0 x) (sym e) (none-opens graph));
      };
      from = λ f. closure-unique (access graph) 0 opened 0 (subst (λ (x : ℕ). AccessFrom graph x opened) z f.opens) (none-opens graph);
    })
    (decide-eqb opened 0)

-- vertices of the setup are held, and passes have led to what they open
pub holding-some : (count : ℕ) (graph : Graph) (held opened all n t : ℕ) → Below count all → Within held all → Passes (access graph) n held t
    → Decides (HoldingFits count graph held opened) (eqb t opened)
holding-some count graph held opened all n t b w p =
    by-opened count graph held opened t (λ v m. ((b.each v).to (w.each v m)).0) (passes-closure (access graph) (access-lawful graph) n held t p)

-- some other vertex is held
pub holding-outside : (count : ℕ) (graph : Graph) (held opened all : ℕ) → held < 2 ^ 64 → Below count all → (Within held all → ⊥) → HoldingFits count graph held opened → ⊥
holding-outside count graph held opened all k b n h = n (record { each = λ v m. (b.each v).from (h.holds v m, member_below 64 held v k m) })
