-- That the bytes of one call stand behind those of the calls before it.
-- Assumes nothing.
use Rattle.std.proofs.Common.{◌≡◌, ℕ, ◌+◌, ◌≤◌, List, ◌++◌, length, take, drop, sym, ap, ◌∙◌, subst, take-append-drop}
use Rattle.std.proofs.Math.Seq.{take-append-add, take-append-le, length-take-le}
use borrow.Rule.Slice.PartMut.{put_mid, post_of}

-- some bytes, and then some more
pub take-on : (a b : ℕ) (xs : List ℕ) → a ≤ length xs → take a xs ++ take b (drop a xs) ≡ take (a + b) xs
take-on a b xs h =
    let e = sym (take-append-add (take a xs) (drop a xs) b) ∙ ap (take (length (take a xs) + b)) (take-append-drop a xs) in
    subst (λ n. take a xs ++ take b (drop a xs) ≡ take (n + b) xs) (length-take-le a xs h) e

-- the same where the rest of a buffer was written
pub read-on : (a k b : ℕ) (xs ys : List ℕ) → a ≤ length xs → b ≤ length ys → take a xs ++ take b ys ≡ take (a + b) (put_mid a k xs ys)
read-on a k b xs ys h m =
    let e = sym (take-append-add (take a xs) (ys ++ post_of a k xs) b) in
    subst (λ n. take a xs ++ take b ys ≡ take (n + b) (put_mid a k xs ys)) (length-take-le a xs h)
    (ap (λ (l : List ℕ). take a xs ++ l) (sym (take-append-le b ys (post_of a k xs) m)) ∙ e)
