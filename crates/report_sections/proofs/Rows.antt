-- Writing the rows of a list, one after the other.
-- Assumes nothing.
use mathlib.Core.Path.{◌≡◌, refl}
use mathlib.Core.Bool.{Bool}
use mathlib.Core.List.{List, ◌++◌}
use mathlib.Core.Logic.{⊎_elim}
use Prim.Native.Nat.{ℕ, suc, ◌+◌, ◌^◌, ◌≤◌, ◌<◌}
use native.Mathlib.Numerals.{add-one}
use native.Mathlib.Omega.{arith}
use lib.ListN.{length, get_or, take, length-take}
use lib.Seq.{drop-cons, get_or-take}
use Rattle.vertex_set.specs.Order.{sum_over}
use Rattle.vertex_set.proofs.Cases.{less-or}
use Rattle.written.specs.Rows.{RowWritten}
use Rattle.written.proofs.Writing.{wrote-inside}
use Rattle.written.proofs.Rows.{row_wrote}
use Rattle.report_text.specs.Inner.{longest_row}
use Rattle.report_text.specs.Rows.{texts_of, set_row}
use Rattle.sheet_format.specs.Names.{name_of}
use Rattle.report_text.proofs.Lengths.{set-row-length}
use Rattle.report_facts.specs.Inner.Parts.{Part}
use Rattle.report_facts.proofs.Parts.{part_none, part-one, part_then, part_length}
use Rattle.report_sections.specs.Inner.Lists.{RowsReady, row_of_set, set_rows_from, RowsPut}

module _ (sheet from to values list : List ℕ) (loss : Bool) (target i n row : ℕ) (h : RowsReady sheet from to values list target i n) (l : row < n) where
  abbrev sum : ℕ
  sum = sum_over (λ (v : ℕ). get_or values v 0) (get_or list row 0)

  row-length : get_or list row 0 < 2 ^ 64 → length (set_row (name_of sheet) loss target (get_or list row 0) sum) ≤ longest_row
  row-length b =
      let q = h.sets row l in
      set-row-length (name_of sheet) loss target (get_or list row 0) sum b q.few (h.sums row l) h.short q.short

  -- where the longest row has room, so has this one
  pub row_fits : (x out at : ℕ) → x ≡ sum → get_or list row 0 < 2 ^ 64 → at + longest_row ≤ out → at + length (set_row (name_of sheet) loss target (get_or list row 0) x) ≤ out
  row_fits x out at e b room = let r = row-length b in rw e (omega arith)

-- The rows from i up to `row` stand.
pub record RowsWriting (name : ℕ → List ℕ) (loss : Bool) (target : ℕ) (values list : List ℕ) (i n : ℕ) (entry : List ℕ) (at : ℕ) (out : List ℕ) (row next : ℕ) : Type 0 where
  pub part : Part entry at (set_rows_from name loss target values list n i) (set_rows_from name loss target values list n row) out next
  pub from : i ≤ row
  pub most : row ≤ n
  pub still : row ≡ i → next ≡ at

module _ (name : ℕ → List ℕ) (loss : Bool) (target : ℕ) (values list : List ℕ) (i n : ℕ) (entry : List ℕ) (at : ℕ) where
  pub rows_none : i ≤ n → at ≤ length entry → RowsWriting name loss target values list i n entry at entry i at
  rows_none h room = record { part = part_none entry at _ room; from = omega arith; most = h; still = λ e. refl }

  rows-cons : (row : ℕ) → row < n → n ≤ length list
      → set_rows_from name loss target values list n row ≡ row_of_set name loss target values (get_or list row 0) ++ set_rows_from name loss target values list n (suc row)
  unfolding set_rows_from texts_of
  rows-cons row h l =
      let e = length-take n list in
      rw (drop-cons (take n list) row 0 (omega (arith, e)), get_or-take n list row 0 h) refl

  module _ (out : List ℕ) (row next : ℕ) (w : RowsWriting name loss target values list i n entry at out row next) where
    pub rows_more : row < n → n ≤ length list → (sum : ℕ) (after : List ℕ) (r : ℕ) → sum ≡ sum_over (λ (v : ℕ). get_or values v 0) (get_or list row 0)
        → next + length (set_row name loss target (get_or list row 0) sum) ≤ length out → RowWritten out next (set_row name loss target (get_or list row 0) sum) after r
        → RowsWriting name loss target values list i n entry at after (row + 1) r
    unfolding row_of_set
    rows_more h l sum after r e room v =
        let f = w.from in
        let q = row_wrote out next _ after r v in
        rw (add-one row)
        (record {
          part = part_then entry at _ _ out next w.part _ after r
              (part-one out next _ (set_row name loss target (get_or list row 0) sum) _ after r (rw e (rows-cons row h l)) q (wrote-inside out next _ after r q room));
          from = omega arith;
          most = h;
          still = λ k. absurd (omega arith);
        })

    -- no row more, or no room for one
    pub rows_end : n ≤ row → RowsPut name loss target values list i n entry at out row next
    rows_end h = record { part = w.part; most = w.most; more = λ l room. omega arith }

    pub rows-full : row < n → length out < next + longest_row → RowsPut name loss target values list i n entry at out row next
    rows-full l full =
        let e = part_length entry at _ _ out next w.part in
        record {
          part = w.part;
          most = w.most;
          more = λ k room. ⊎_elim (λ f. f) (λ f. let g = w.from in let s = w.still (omega arith) in omega arith) (less-or i row);
        }
