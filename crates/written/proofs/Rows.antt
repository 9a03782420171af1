-- What is promised of a row, and `Wrote`: where there is room, each follows from the other.
-- Assumes nothing.
use mathlib.Core.Path.{◌≡◌, refl, sym, ap, ◌∙◌}
use mathlib.Core.List.{List, [], ◌∷◌, ◌++◌, append_assoc}
use Prim.Native.Nat.{ℕ, ◌+◌, ◌≤◌}
use native.Mathlib.Omega.{arith}
use lib.ListN.{length, take, drop, length-append, length-take, length-drop, take-append-drop}
use lib.Seq.{sets-eq, paste-zero, length-take-le, take-append_seam, take_at, drop_at, drop-drop}
use Rattle.written.specs.Inner.{Wrote}
use Rattle.written.specs.Rows.{RowWritten}
use Rattle.written.proofs.Writing.{wrote-length}

pub row_written : (entry : List ℕ) (at : ℕ) (row exit : List ℕ) (r : ℕ) → Wrote entry at row exit r → at + length row ≤ length entry
    → RowWritten entry at row exit r
row_written entry at row exit r w room =
    let front = length-take-le at entry (omega arith) in
    let both : length (take at entry ++ row) ≡ at + length row = omega (arith, length-append (take at entry) row) in
    let behind : List ℕ = drop (at + length row) entry in
    let e : exit ≡ take at entry ++ row ++ behind = w.exit ∙ sets-eq row entry at room in
    let f : exit ≡ take at entry ++ (row ++ behind) = e ∙ append_assoc (take at entry) row behind in
    record {
      stands = ap (λ l. take (length row) (drop at l)) f ∙ ap (take (length row)) (drop_at (take at entry) (row ++ behind) at front) ∙ take-append_seam row behind;
      many = w.next;
      others = (
        ap (take at) f ∙ take_at (take at entry) (row ++ behind) at front,
        ap (drop (at + length row)) e ∙ drop_at (take at entry ++ row) behind (at + length row) both,
        wrote-length entry at row exit r w,
      );
    }

-- the bytes in front of a row, the row, and those behind it
in_parts : (entry : List ℕ) (at : ℕ) (row exit : List ℕ) (r : ℕ) → RowWritten entry at row exit r → exit ≡ take at entry ++ row ++ drop (at + length row) entry
in_parts entry at row exit r w =
    let rest : drop at exit ≡ row ++ drop (at + length row) entry =
    sym (take-append-drop (length row) (drop at exit)) ∙ rw (w.stands, drop-drop (length row) at exit, w.others.1) refl in
    sym (take-append-drop at exit) ∙ rw (w.others.0, rest) (sym (append_assoc (take at entry) row (drop (at + length row) entry)))

pub row_wrote : (entry : List ℕ) (at : ℕ) (row exit : List ℕ) (r : ℕ) → RowWritten entry at row exit r → Wrote entry at row exit r
row_wrote entry at [] exit r w = record { exit = in_parts entry at [] exit r w ∙ sym (paste-zero entry at []); next = w.many }
row_wrote entry at (x ∷ xs) exit r w =
    let l = ap length w.stands in
    let room : at + length (x ∷ xs) ≤ length entry = omega (arith, length-take (length (x ∷ xs)) (drop at exit), length-drop at exit, w.others.2) in
    record { exit = in_parts entry at (x ∷ xs) exit r w ∙ sym (sets-eq (x ∷ xs) entry at room); next = w.many }

-- what is promised leaves nothing open
pub row-determined : (entry : List ℕ) (at : ℕ) (row exit : List ℕ) (r : ℕ) (exit' : List ℕ) (r' : ℕ) → RowWritten entry at row exit r → RowWritten entry at row exit' r'
    → (exit ≡ exit') × (r ≡ r')
row-determined entry at row exit r exit' r' w v =
    ((row_wrote entry at row exit r w).exit ∙ sym (row_wrote entry at row exit' r' v).exit, w.many ∙ sym v.many)
