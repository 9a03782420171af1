-- The names of the items of a sheet, line by line.
-- Assumes nothing.
use mathlib.Core.Path.{◌≡◌, sym, ap, ◌∙◌, subst}
use mathlib.Core.Bool.{true}
use mathlib.Core.List.{List, [], ◌∷◌, head-eq_of_cons-eq, tail-eq_of_cons-eq}
use mathlib.Core.Logic.{⊎_elim}
use Prim.Native.Nat.{ℕ, suc, ◌+◌, ◌-◌, ◌≤◌, ◌<◌}
use native.Mathlib.Nat.{not-suc-le-zero}
use native.Mathlib.Numerals.{add-one}
use native.Mathlib.Omega.{arith}
use lib.ListN.{length, get_or, set, take, drop, length-set, length-drop, length-take}
use lib.Seq.{drop-cons, take-take, get_or-set_same, get_or-set_other}
use Rattle.vertex_set.proofs.Cases.{less-or, same_or}
use Rattle.sheet_format.specs.Text.{lines_of, fields_of}
use Rattle.sheet_format.specs.Names.{has_item, name_of}
use Rattle.sheet_fields.specs.Inner.Parts.{until}
use Rattle.sheet_fields.proofs.Cutting.{until-le, first_field}
use Rattle.sheet_fields.proofs.Lines.{line_at, lines-over}
use Rattle.report_rows.specs.Inner.Writing.{NamePlace}

-- ---- the names so far

-- `at` is where the line of item v begins, and the names of the items above have their places.
pub record NamesSoFar (sheet from to : List ℕ) (v at : ℕ) : Type 0 where
  pub long_from : length from ≡ 64
  pub long_to : length to ≡ 64
  pub each : (u : ℕ) → u < v → NamePlace sheet from to u
  pub lines : drop (suc v) (lines_of sheet) ≡ lines_of (drop at sheet)

-- a place that is not stored to
place_kept : (sheet from to : List ℕ) (v a e u : ℕ) → (u ≡ v → ⊥) → NamePlace sheet from to u → NamePlace sheet (set from v a) (set to v e) u
place_kept sheet from to v a e u n p =
    let lf = length-set from v a in
    let lt = length-set to v e in
    let hf = p.has_from in
    let ht = p.has_to in
    let x : get_or (set from v a) u 0 ≡ get_or from u 0 = get_or-set_other from v u a 0 n in
    let y : get_or (set to v e) u 0 ≡ get_or to u 0 = get_or-set_other to v u e 0 n in
    record {
      has_from = omega arith;
      has_to = omega arith;
      order = rw (x, y) p.order;
      inside = rw y p.inside;
      is = rw (x, y) p.is;
    }

place-new : (sheet from to : List ℕ) (v a e : ℕ) → v < length from → v < length to → a ≤ e → e ≤ length sheet
    → take (e - a) (drop a sheet) ≡ name_of sheet v → NamePlace sheet (set from v a) (set to v e) v
place-new sheet from to v a e hf ht o i q =
    let lf = length-set from v a in
    let lt = length-set to v e in
    let x : get_or (set from v a) v 0 ≡ a = get_or-set_same from v a 0 hf in
    let y : get_or (set to v e) v 0 ≡ e = get_or-set_same to v e 0 ht in
    record { has_from = omega arith; has_to = omega arith; order = rw (x, y) o; inside = rw y i; is = rw (x, y) q }

-- the first lines
pub names-none : (sheet from to : List ℕ) (e : ℕ) → length from ≡ 64 → length to ≡ 64 → 0 < length (lines_of sheet) → e ≡ 0 + until 10 (drop 0 sheet)
    → NamesSoFar sheet from to 0 (e + 1)
names-none sheet from to e lf lt h q =
    record { long_from = lf; long_to = lt; each = λ u l. absurd (not-suc-le-zero l); lines = first }
  where
    some : 0 < length sheet
    some = ⊎_elim (λ z. z) (λ z. absurd (let k = ap length (lines-over sheet 0 z) in omega arith)) (less-or 0 (length sheet))

    first : drop 1 (lines_of sheet) ≡ lines_of (drop (e + 1) sheet)
    first = ap (drop 1) (line_at sheet 0 e some q)

module _ (sheet from to : List ℕ) (v at : ℕ) (n : NamesSoFar sheet from to v at) (h : suc v < length (lines_of sheet)) where
  pub line-starts : at < length sheet
  line-starts =
      ⊎_elim (λ z. z)
      (λ z. absurd (let k = ap length (n.lines ∙ lines-over sheet at z) in let d = length-drop (suc v) (lines_of sheet) in omega arith))
      (less-or at (length sheet))

  pub line-stops : (stop : ℕ) → stop ≡ at + until 10 (drop at sheet) → (at ≤ stop) × (stop ≤ length sheet)
  line-stops stop e = let l = line-starts in let u = until-le 10 (drop at sheet) in let d = length-drop at sheet in (omega arith, omega arith)

  line-is : (stop : ℕ) → stop ≡ at + until 10 (drop at sheet) → get_or (lines_of sheet) (suc v) [] ∷ drop (suc (suc v)) (lines_of sheet) ≡ take (stop - at) (drop at sheet) ∷ lines_of (drop (stop + 1) sheet)
  line-is stop e = sym (drop-cons (lines_of sheet) (suc v) [] h) ∙ n.lines ∙ line_at sheet at stop line-starts e

  pub names_more : (stop k : ℕ) → v < 64 → has_item sheet v ≡ true → stop ≡ at + until 10 (drop at sheet) → k ≡ 0 + until 32 (drop 0 (take (stop - at) (drop at sheet)))
      → NamesSoFar sheet (set from v at) (set to v (at + k)) (v + 1) (stop + 1)
  unfolding name_of
  names_more stop k small there e q =
      let s = line-starts in
      let b = line-stops stop e in
      let lo = b.0 in
      let hi = b.1 in
      let d = length-drop at sheet in
      let t = length-take (stop - at) (drop at sheet) in
      let u = until-le 32 line in
      let i = line-is stop e in
      let same : get_or (lines_of sheet) (suc v) [] ≡ line = head-eq_of_cons-eq i in
      let up : at + k - at ≡ until 32 line = omega arith in
      let is : take (at + k - at) (drop at sheet) ≡ name_of sheet v =
      rw (there, up) (sym (take-take (until 32 line) (stop - at) (drop at sheet) (omega arith)) ∙ sym (first_field line) ∙ ap (λ (l : List ℕ). get_or (fields_of l) 0 []) (sym same)) in
      record {
        long_from = length-set from v at ∙ n.long_from;
        long_to = length-set to v (at + k) ∙ n.long_to;
        each = λ w l. ⊎_elim
            (λ x. subst (NamePlace sheet (set from v at) (set to v (at + k))) (sym x)
            (place-new sheet from to v at (at + k) (let a = n.long_from in omega arith) (let a = n.long_to in omega arith) (omega arith) (omega arith) is))
            (λ x. place_kept sheet from to v at (at + k) w x (n.each w (omega (arith, x))))
            (same_or w v);
        lines = rw (add-one v) (tail-eq_of_cons-eq i);
      }
    where
      line : List ℕ
      line = take (stop - at) (drop at sheet)
