-- The executable definitions are the declared ones.
-- Assumes nothing.
use mathlib.Core.Path.{◌≡◌, refl}
use mathlib.Core.Bool.{Bool}
use mathlib.Core.List.{[]}
use Prim.Native.Nat.{ℕ, ◌-◌}
use lib.ListN.{length}
use Rattle.setup.specs.declared.Graph.{Graph}
use Rattle.setup.specs.declared.Setup.{Setup}
use Rattle.formed.specs.WellFormed.{WellFormed}
use Rattle.bases.specs.Score.{Score}
use Rattle.bases.specs.Marks.{Repeated, Shut, Loose, Right, tally}
use Rattle.reference.specs.Bases.{target_sets_of, base_of, score_of, marks_from, counts_of, marks_of}
use Rattle.reference.specs.Graphs.{GraphOf}
use Rattle.reference.specs.Meaning.{Meaning}
use Rattle.reference.proofs.Closures.{closure-of, passes_of_lem, decide-derives}
use Rattle.reference.proofs.Ways.{way-of, no_way}
use Rattle.reference.proofs.Bases.{base-of}
use Rattle.reference.proofs.Scores.{score-of}
use Rattle.reference.proofs.Marks.{counts_of_lem}
use Rattle.reference.proofs.Unique.{score-unique}

pub meaning : (s : Setup) (g : Graph) → WellFormed s → GraphOf s g → Meaning s g
unfolding marks_of counts_of
meaning s g wf h =
    record {
      closure = λ loss. closure-of loss s g wf h;
      passes = λ loss. passes_of_lem loss s g wf h;
      derives = λ loss. decide-derives loss s g wf h;
      way = way-of s g wf h;
      shut = no_way s g wf h;
      base = λ loss target. base-of loss s g target wf h;
      score = λ loss target. score-of loss s wf g target h;
      counts = λ loss target handed.
          let base = base_of loss s g target in
          let marks = marks_from (target_sets_of loss s g target) base [] handed in (
            tally Right marks,
            tally Repeated marks,
            tally Shut marks,
            tally Loose marks,
            length base - tally Right marks,
            refl,
            counts_of_lem loss s g target wf h handed (tally Right marks) (tally Repeated marks) (tally Shut marks) (tally Loose marks) (length base - tally Right marks) refl,
          );
    }

-- the score is the computed one
module _ (loss : Bool) (s : Setup) (g : Graph) (target : ℕ) (wf : WellFormed s) (h : GraphOf s g) where
  pub score-is : (r : ℕ) → Score loss s g target r → r ≡ score_of loss s g target
  score-is r q = score-unique loss s g target r (score_of loss s g target) q (score-of loss s wf g target h)
