-- Wrong lists of cut sets that the contract excludes, each at an example.
-- Assumes nothing.
use mathlib.Core.Path.{◌≡◌, refl, ap}
use mathlib.Core.List.{List, [], ◌∷◌, head-eq_of_cons-eq}
use Prim.Native.Nat.{ℕ, ◌≤◌, ◌<◌}
use native.Mathlib.Omega.{arith}
use lib.ListN.{length, get_or}
use Rattle.questions.specs.Contract.{Reply, Outcome, gives, refuses, ends, Fulfils}
use Rattle.questions.proofs.Contract.{only-answer, only-given}
use Rattle.cut_sets.specs.Cuts.{CutList}
use Rattle.cut_sets.specs.Answers.{AreCuts, cuts_call}
use Rattle.cut_sets.proofs.Theorems.{duality-holds}
use Rattle.cut_sets.proofs.Calls.{one-cuts}
use Rattle.worked_examples.specs.Sheets.{Sheet, ReadsSheet, Yields, bench, order, ring, pwd_backup, pwd_manager, closed, only, spare, pw, acc, relay, note, vault, shop}
use Rattle.worked_examples.specs.Table.{set_of}
use Rattle.worked_examples.proofs.Reading.{reads-well, read-bench, read-ring, read-closed, read-spare, read-relay}
use Rattle.worked_examples.proofs.Table.{held}
use Rattle.worked_examples.proofs.CutSets.{all-cut}

module _ (x : Sheet) (target first : ℕ) (cuts : List ℕ) (r : ReadsSheet x) (l : target < x.setup.count) (h : Yields x (λ s. CutList s target (first ∷ cuts))) where
  are-cuts : AreCuts x.setup target (first ∷ cuts)
  are-cuts =
      let c = held x (λ s. CutList s target (first ∷ cuts)) r h in
      record { list = c; duality = duality-holds x.setup target (first ∷ cuts) (reads-well x r) c }

  -- with number 0, the values are the list's length, and the first place has its first set
  is-first : (values list after : List ℕ) → Fulfils (cuts_call x.setup target list) (ends (gives values) (after ∷ [])) → (values ≡ length (first ∷ cuts) ∷ []) × (get_or after 0 0 ≡ first)
  is-first values list after c =
      let e = only-answer (cuts_call x.setup target list) (one-cuts x.setup target list) (first ∷ cuts) are-cuts _ c refl refl in
      (ap (λ (o : Outcome). o.reply.values) e, ap (λ (o : Outcome). get_or (get_or o.lent 0 []) 0 0) e)

  -- with room the number is 0
  is-given : (reply : Reply) (list after : List ℕ) → Fulfils (cuts_call x.setup target list) (ends reply (after ∷ [])) → length (first ∷ cuts) ≤ length list → reply.number ≡ 0
  is-given reply list after c k =
      ap (λ (o : Outcome). o.reply.number)
      (only-given (cuts_call x.setup target list) (one-cuts x.setup target list) (first ∷ cuts) are-cuts _ c (reads-well x r, (l, tt)) (k, tt))

-- An always empty list: order has two smallest cut sets.
pub no-empty-list : (list after : List ℕ) → Fulfils (cuts_call bench.setup order list) (ends (gives (0 ∷ [])) (after ∷ [])) → ⊥
no-empty-list list after c =
    let e = head-eq_of_cons-eq (is-first bench order _ _ read-bench (omega arith) all-cut.0 (0 ∷ []) list after c).0 in
    omega arith

-- No set where nothing opens the target: there is one, the empty set.
pub no-missing-empty-set : (list after : List ℕ) → Fulfils (cuts_call closed.setup only list) (ends (gives (0 ∷ [])) (after ∷ [])) → ⊥
no-missing-empty-set list after c =
    let e = head-eq_of_cons-eq (is-first closed only _ _ read-closed (omega arith) all-cut.1.1.1.1.1.1.1.1.0 (0 ∷ []) list after c).0 in
    omega arith

-- Only the cut sets of the fewest items: the shop has one of two items besides that of one.
pub no-fewest-alone : (list after : List ℕ) → Fulfils (cuts_call relay.setup shop list) (ends (gives (1 ∷ [])) (after ∷ [])) → ⊥
no-fewest-alone list after c =
    let e = head-eq_of_cons-eq (is-first relay shop _ _ read-relay (omega arith) all-cut.1.1.1.1.1.0 (1 ∷ []) list after c).0 in
    omega arith

-- The vault taken out of the drawing: without it the shop is shut, but as a starting item it is opened again by the note.
pub no-item-deleted : (values list after : List ℕ) → get_or after 0 0 ≡ set_of (vault ∷ []) → Fulfils (cuts_call relay.setup shop list) (ends (gives values) (after ∷ [])) → ⊥
no-item-deleted values list after z c =
    let e = (is-first relay shop _ _ read-relay (omega arith) all-cut.1.1.1.1.1.0 values list after c).1 in
    omega arith

-- The lockout list of the shop: note, vault and card, each alone. Whoever begins without the note may begin with the vault.
pub no-lockout-list : (values list after : List ℕ) → get_or after 0 0 ≡ set_of (note ∷ []) → Fulfils (cuts_call relay.setup shop list) (ends (gives values) (after ∷ [])) → ⊥
no-lockout-list values list after z c =
    let e = (is-first relay shop _ _ read-relay (omega arith) all-cut.1.1.1.1.1.0 values list after c).1 in
    omega arith

-- Complemented and not turned round: the sets that do not open the target, of which the empty one is the smallest, whatever the target.
pub no-complement-alone : (values list after : List ℕ) → get_or after 0 0 ≡ set_of [] → Fulfils (cuts_call bench.setup order list) (ends (gives values) (after ∷ [])) → ⊥
no-complement-alone values list after z c =
    let e = (is-first bench order _ _ read-bench (omega arith) all-cut.0 values list after c).1 in
    omega arith

-- The target left out where it is a starting item: pwd_manager alone does not shut pwd_backup, which is one.
pub no-target-left-out : (values list after : List ℕ) → get_or after 0 0 ≡ set_of (pwd_manager ∷ []) → Fulfils (cuts_call ring.setup pwd_backup list) (ends (gives values) (after ∷ [])) → ⊥
no-target-left-out values list after z c =
    let e = (is-first ring pwd_backup _ _ read-ring (omega arith) all-cut.1.1.1.1.0 values list after c).1 in
    omega arith

-- Recovery left out: without the recovery edge from key, pw alone would be a cut set.
pub no-recovery-left-out : (values list after : List ℕ) → get_or after 0 0 ≡ set_of (pw ∷ []) → Fulfils (cuts_call spare.setup acc list) (ends (gives values) (after ∷ [])) → ⊥
no-recovery-left-out values list after z c =
    let e = (is-first spare acc _ _ read-spare (omega arith) all-cut.1.1.1.1.1.1.1.1.1.1.0 values list after c).1 in
    omega arith

-- 15 at equality: two places are enough for order's two cut sets.
pub no-refusal-at-equality : (list after : List ℕ) → length list ≡ 2 → Fulfils (cuts_call bench.setup order list) (ends (refuses 15) (after ∷ [])) → ⊥
no-refusal-at-equality list after n c =
    let z : ◌≡◌ {A = ℕ} 15 0 = is-given bench order _ _ read-bench (omega arith) all-cut.0 (refuses 15) list after c (omega arith) in
    omega arith
