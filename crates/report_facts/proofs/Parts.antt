-- Writing a text part by part.
-- Assumes nothing.
use mathlib.Core.Path.{◌≡◌, refl, sym, ◌∙◌}
use mathlib.Core.List.{List, [], ◌++◌, append_assoc}
use Prim.Native.Nat.{ℕ, ◌≤◌}
use native.Mathlib.Omega.{arith}
use lib.ListN.{length}
use Rattle.written.specs.Inner.{Wrote}
use Rattle.written.proofs.Writing.{wrote_none, wrote-length, wrote_then}
use Rattle.written.proofs.Rows.{row_written, row_wrote}
use Rattle.report_facts.specs.Inner.Parts.{Part}

pub part_none : (entry : List ℕ) (at : ℕ) (text : List ℕ) → at ≤ length entry → Part entry at text text entry at
part_none entry at text h = record { part = []; split = refl; wrote = row_written entry at [] entry at (wrote_none entry at) (omega arith); inside = h }

pub part-one : (entry : List ℕ) (at : ℕ) (before xs after exit : List ℕ) (r : ℕ) → before ≡ xs ++ after → Wrote entry at xs exit r → r ≤ length exit
    → Part entry at before after exit r
part-one entry at before xs after exit r e w h =
    let l = wrote-length entry at xs exit r w in
    record { part = xs; split = e; wrote = row_written entry at xs exit r w (omega (arith, w.next)); inside = h }

module _ (entry : List ℕ) (at : ℕ) (before after exit : List ℕ) (r : ℕ) (p : Part entry at before after exit r) where
  pub part_length : length exit ≡ length entry
  part_length = p.wrote.others.2

  -- then another part
  pub part_then : (left : List ℕ) (last : List ℕ) (q : ℕ) → Part exit r after left last q → Part entry at before left last q
  part_then left last q n =
      part-one entry at before (p.part ++ n.part) left last q
      (p.split ∙ rw n.split (sym (append_assoc p.part n.part left)))
      (wrote_then entry at p.part exit r (row_wrote entry at p.part exit r p.wrote) n.part last q (row_wrote exit r n.part last q n.wrote))
      n.inside
