-- The drawing that calls have left is what is saved; what is held is not.
-- Assumes nothing.
use mathlib.Core.Path.{◌≡◌, sym, ap, subst}
use mathlib.Core.List.{List, [], ◌∷◌}
use mathlib.Core.Logic.{◌⊎◌, inl, inr, ⊎_elim}
use Prim.Native.Nat.{ℕ, ◌≤◌}
use native.Mathlib.Omega.{arith}
use Rattle.vertex_set.proofs.Sets.{none-in-zero}
use Rattle.setup.specs.declared.Setup.{Setup}
use Rattle.derivations.proofs.Closures.{none-opens}
use Rattle.questions.specs.Asks.{Asks}
use Rattle.questions.specs.Contract.{Outcome}
use Rattle.questions.specs.Told.{Told}
use Rattle.questions.proofs.Contract.{answers_of}
use Rattle.living.specs.Calls.{Drawing, Redrawn, drawing_of}
use Rattle.sheet_format.specs.Read.{Reading}
use Rattle.sheet_format.specs.Read.{read_sheet}
use Rattle.sheet_format.proofs.Question12.{accepted-formed}
use Rattle.save_format.specs.Rows.{unheld}
use Rattle.save_format.specs.Call.{save_call}
use Rattle.save_format.proofs.Meaning.{saved-text}
use Rattle.formed.specs.WellFormed.{WellFormed}
use Rattle.histories.specs.Histories.{left_by}
use Rattle.histories.specs.Drawings.{let_go, DrawingSaved}
use Rattle.histories.proofs.Runs.{still_formed, opened-always}

-- a setup with nothing held has the drawing with nothing held
unheld-drawn : (fresh : Setup) (d : Drawing) (s : Setup) → Redrawn fresh d s → Redrawn fresh (let_go d) (unheld s)
unheld-drawn fresh d s r =
    record {
      count = r.count;
      vertices = r.vertices;
      shaped = record { places = r.shaped.places; graph = r.shaped.graph; recovery = r.shaped.recovery };
      edges = r.edges;
      marks = r.marks;
      held = λ v. record { to = λ m. none-in-zero v m; from = λ m. absurd m };
      opened = none-opens s.graph;
    }

-- with a yes to each question the number is 0 or 15
saved-or-short : (sheet : List ℕ) (s : Setup) (number size : ℕ) (entry exit : List ℕ) → (read_sheet sheet).number ≡ 0 → WellFormed s
    → s.count ≤ (read_sheet sheet).setup.count → Told (save_call sheet s entry) number (size ∷ []) (exit ∷ []) → (number ≡ 0) ⊎ (number ≡ 15)
unfolding Asks
saved-or-short sheet s number size entry exit z w l t =
    let a = answers_of (save_call sheet s entry) _ t.call (z, (w, (l, tt))) in
    ⊎_elim (λ h. inr (ap (λ (o : Outcome). o.reply.number) h.1)) (λ h. inl (ap (λ (o : Outcome). o.reply.number) h.1)) a.told

pub drawing-saved : DrawingSaved
drawing-saved sheet z calls numbers s ran number size entry exit t =
    let fresh = (read_sheet sheet).setup in
    let left = opened-always sheet calls numbers s ran in
    let formed = still_formed calls numbers fresh s (accepted-formed sheet z) ran in
    let count = left.count in
    record {
      saves = saved-or-short sheet s number size entry exit z formed (omega arith) t;
      reads = λ n. (saved-text sheet s number size entry exit t n).reads;
      redrawn = λ n.
          subst (Redrawn fresh (let_go (left_by calls numbers (drawing_of fresh)))) (sym (ap (λ (x : Reading). x.setup) (saved-text sheet s number size entry exit t n).reads))
          (unheld-drawn fresh (left_by calls numbers (drawing_of fresh)) s left);
    }
