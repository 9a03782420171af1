-- Numbers as scores.
-- Assumes nothing.
use mathlib.Core.Path.{sym, subst}
use mathlib.Core.Bool.{Bool}
use mathlib.Core.List.{List}
use Prim.Native.Nat.{ℕ}
use lib.ListN.{get_or}
use Rattle.setup.specs.declared.Graph.{Graph}
use Rattle.setup.specs.declared.Setup.{Setup}
use Rattle.bases.specs.Score.{Score}
use Rattle.report_scores.specs.Inner.Scores.{Scored, Numbers}

-- Scores with the numbers of a list are those of the list.
pub scored-as : (loss : Bool) (s : Setup) (g : Graph) (w numbers : List ℕ) (score : ℕ → ℕ) → Scored loss s g w (λ (v : ℕ). get_or numbers v 0)
    → Numbers numbers score → Scored loss s g w score
scored-as loss s g w numbers score h n =
    record { table = h.table; each = λ v l. subst (Score loss s g v) (sym (n.each v l)) (h.each v l) }
