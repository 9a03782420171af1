-- A text that is handed out: it was written to a buffer of its own, and goes to the start of another.
-- Assumes nothing.
use mathlib.Core.Path.{◌≡◌, ap, ◌∙◌}
use mathlib.Core.List.{List}
use mathlib.Core.Logic.{inr}
use Prim.Native.Nat.{ℕ, ◌≤◌}
use native.Mathlib.Nat.{zero-add}
use native.Mathlib.Omega.{arith}
use lib.ListN.{length, take, drop}
use lib.Seq.{take-append_seam}
use Rattle.std.specs.Prelude.{Some}
use Rattle.written.specs.Inner.{Wrote}
use Rattle.written.proofs.Writing.{wrote-front}
use Rattle.writing.specs.Inner.HandOut.{HandsOut}

pub handed-whole : (text entry exit : List ℕ) (n : ℕ) → length text ≤ length entry → Wrote entry 0 text exit n → HandsOut text (Some n) entry exit
handed-whole text entry exit n h w = inr (h, ap Some (w.next ∙ zero-add (length text)), wrote-front entry text exit n h w)

-- what stands in a buffer of its own
pub text-there : (zeros text out : List ℕ) (n : ℕ) → length text ≤ length zeros → Wrote zeros 0 text out n → take n out ≡ text
text-there zeros text out n h w =
    let e : n ≡ length text = let k = w.next in omega arith in
    ap (λ (i : ℕ). take i out) e ∙ ap (take (length text)) (wrote-front zeros text out n h w) ∙ take-append_seam text (drop (length text) zeros)
