-- The lines of a text, from a place on.
-- Assumes nothing.
use mathlib.Core.Path.{◌≡◌, ◌∙◌}
use mathlib.Core.List.{List, [], ◌∷◌}
use Prim.Native.Nat.{ℕ, suc, ◌+◌, ◌-◌, ◌≤◌, ◌<◌}
use native.Mathlib.Nat.{not-suc-le-zero}
use native.Mathlib.Omega.{arith}
use lib.ListN.{length, take, drop, length-drop, drop_of_length-le}
use lib.Seq.{drop-drop}
use lib.Dec.{eqb}
use Rattle.vertex_set.proofs.Cases.{by_test}
use Rattle.sheet_format.specs.Text.{grow, lines_of}
use Rattle.sheet_fields.specs.Inner.Parts.{until}

pub lines_cons : (s : List ℕ) → 0 < length s → lines_of s ≡ take (until 10 s) s ∷ lines_of (drop (suc (until 10 s)) s)
unfolding lines_of grow until
lines_cons [] h = absurd (not-suc-le-zero h)
lines_cons (a ∷ []) h = by_test (eqb a 10) (λ e. rw e) (λ e. rw e)
lines_cons (a ∷ b ∷ s) h = by_test (eqb a 10) (λ e. rw e) (λ e. rw (e, lines_cons (b ∷ s) (omega arith)))

-- the line from `at` up to the next LF at e, and those behind it
pub line_at : (s : List ℕ) (at e : ℕ) → at < length s → e ≡ at + until 10 (drop at s) → lines_of (drop at s) ≡ take (e - at) (drop at s) ∷ lines_of (drop (e + 1) s)
line_at s at e h q =
    let d = length-drop at s in
    let u : until 10 (drop at s) ≡ e - at = omega arith in
    let v : at + suc (until 10 (drop at s)) ≡ e + 1 = omega arith in
    lines_cons (drop at s) (omega arith) ∙ rw (drop-drop (suc (until 10 (drop at s))) at s, v, u)

pub lines-over : (s : List ℕ) (at : ℕ) → length s ≤ at → lines_of (drop at s) ≡ []
unfolding lines_of
lines-over s at h = rw (drop_of_length-le s h)
