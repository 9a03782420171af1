use Rattle.std.proofs.Common.{◌≡◌, Bool, ◌<◌, ◌≤◌, false, rules, sym, subst, ◌∙◌}
use Rattle.vertex_set.specs.Set.{Decides}
use Rattle.vertex_set.proofs.Cases.{false-true}
use Rattle.vertex_set.proofs.Decisions.{decide-no}
use Rattle.formed.specs.WellFormed.{WellFormed}
use Rattle.setup.specs.declared.Setup.{Setup}
use Rattle.formed.proofs.Whole.{whole-yes, graphs-of, vertices-of}
use Rattle.formed.proofs.well_formed.Goals as goal
use Rattle.formed.proofs.well_formed.Goals.{then-contains, else-contains, then-graphs_fit, else-graphs_fit}

pub returns-then-vertices_fit : goal.returns-then-vertices_fit
returns-then-vertices_fit c =
    elim c.if-graphs_fit.branch [
      | then-graphs_fit w ↦ elim c.if-contains.branch [
        | then-contains u ↦
            let l : 0 < c.args.s.count = search rules in
            let m : c.args.s.count ≤ 64 = search rules in
            whole-yes c.args.s (search rules) (search rules) (search rules) l m c.holding_fits.result
            (u.graphs_fit.ensures.yes (sym u.value-is ∙ w.if-graphs_fit.true))
            (w.vertices_fit.ensures.yes (sym w.value-is ∙ c.if-vertices_fit.true)) c.holding_fits.ensures
        | else-contains u ↦ absurd (false-true (sym u.if-contains.false ∙ sym u.value-is ∙ w.if-graphs_fit.true))
      ]
      | else-graphs_fit w ↦ absurd (false-true (sym w.if-graphs_fit.false ∙ sym w.value-is ∙ c.if-vertices_fit.true))
    ]

not-formed : (s : Setup) (t : Bool) → t ≡ false → (WellFormed s → ⊥) → Decides (WellFormed s) t
not-formed s t e n = subst (Decides (WellFormed s)) (sym e) (decide-no n)

pub returns-else-vertices_fit : goal.returns-else-vertices_fit
returns-else-vertices_fit c =
    not-formed _ _ c.if-vertices_fit.false (elim c.if-graphs_fit.branch [
      | then-graphs_fit w ↦ λ h. w.vertices_fit.ensures.no (sym w.value-is ∙ c.if-vertices_fit.false) (vertices-of _ h)
      | else-graphs_fit w ↦ elim c.if-contains.branch [
        | then-contains u ↦ λ h. u.graphs_fit.ensures.no (sym u.value-is ∙ w.if-graphs_fit.false) (graphs-of _ h)
        | else-contains u ↦ λ h. let l = h.some in let m = h.most in search rules
      ]
    ])
