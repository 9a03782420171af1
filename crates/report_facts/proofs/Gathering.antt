-- Sets of the vertices that have a property, gathered from the lowest vertex on.
-- Assumes nothing.
use mathlib.Core.Path.{◌≡◌, refl, sym, ◌∙◌}
use mathlib.Core.Bool.{Bool, true, false, ◌&&◌}
use mathlib.Core.List.{List}
use Prim.Native.Nat.{ℕ, ◌+◌, ◌≤◌, ◌<◌}
use native.Mathlib.Omega.{arith}
use lib.ListN.{length, get_or, set, length-set}
use Rattle.vertex_set.specs.Set.{Member, Decides}
use Rattle.vertex_set.specs.Inner.{TakenBelow}
use Rattle.vertex_set.proofs.Decisions.{yes_of, no_of, decide_iff, decide-and}
use Rattle.scores.specs.Kinds.{SecurityScore}
use Rattle.scores.specs.Inner.Lists.{security_at}
use Rattle.vertex_set.proofs.Filling.{fill_more}
use Rattle.report_facts.specs.Inner.Sets.{PlacesBy, OutOfRank}
use Rattle.setup.specs.declared.Setup.{Setup}
use Rattle.setup.specs.Setup.{vertex_at}

-- two tests that tell the same answer the same
same-test : {P : Type 0} (b t : Bool) → Decides P b → Decides P t → b ≡ t
same-test true t d e = sym (yes_of t e (d.yes refl))
same-test false t d e = sym (no_of t e (d.no refl))

-- the set of the vertices that pass a test of the property
pub places-are : (R : ℕ → Bool → Type 0) (r : ℕ) (P : ℕ → Type 0) (test : ℕ → Bool) → PlacesBy R 64 r → ((v : ℕ) → Decides (P v) (test v))
    → ((v : ℕ) (b : Bool) → v < 64 → R v b → Decides (P v) b) → TakenBelow P 64 r
places-are R r P test w d e =
    let t = w.each test (λ v b l q. same-test b (test v) (e v b l q) (d v)) in
    record {
      each = λ i. record {
        to = λ m. let h = (t.each i).to m in (h.0, (d i).yes h.1);
        from = λ h. (t.each i).from (h.0, yes_of (test i) (d i) h.1);
      };
    }

-- the parts of being out of rank, each told by a test
pub out-of-rank : (accounts : ℕ) (s : Setup) (scores : List SecurityScore) (v w : ℕ) (a b c : Bool) → Decides (Member accounts w) a
    → Decides ((vertex_at s w).rank < (vertex_at s v).rank) b → Decides (security_at scores v ≤ security_at scores w) c
    → Decides (OutOfRank accounts s scores v w) (a && (b && c))
out-of-rank accounts s scores v w a b c d e f =
    decide_iff
    (record {
      to = λ h. record { account = h.0; rank = h.1.0; score = h.1.1 };
      from = λ o. (o.account, (o.rank, o.score));
    })
    (decide-and a (b && c) d (decide-and b c e f))

-- ---- a list filled from the front

-- out has 64 places, and at each place below n what the property wants there
pub record EachBelow (P : ℕ → ℕ → Type 0) (n : ℕ) (out : List ℕ) : Type 0 where
  pub long : length out ≡ 64
  pub each : (v : ℕ) → v < n → P v (get_or out v 0)

pub each_none : (P : ℕ → ℕ → Type 0) (out : List ℕ) → length out ≡ 64 → EachBelow P 0 out
each_none P out e = record { long = e; each = λ v l. absurd (omega arith) }

pub each_more : (P : ℕ → ℕ → Type 0) (n x : ℕ) (out : List ℕ) → n < 64 → EachBelow P n out → P n x → EachBelow P (n + 1) (set out n x)
each_more P n x out l b p =
    record {
      long = length-set out n x ∙ b.long;
      each = fill_more 0 P out n x (let w = b.long in omega arith) b.each p;
    }
