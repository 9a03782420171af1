use mathlib.Core.Path.{refl, sym, ◌∙◌}
use Rattle.vertex_set.proofs.Cases.{false-true}
use Rattle.living.proofs.Named.mark.Goals as goal

pub returns-then-rec : goal.returns-then-rec
returns-then-rec c = record { marked = λ e. c.with.ensures; unmarked = λ e. absurd (false-true (sym e ∙ c.if-rec.true)) }

pub returns : goal.returns
returns c = record { marked = λ e. absurd (false-true (sym c.if-rec.false ∙ e)); unmarked = λ e. refl }
