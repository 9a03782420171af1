-- What the definitions say is settled by them: one base, one score, one result of marking.
-- Assumes nothing.
use mathlib.Core.Path.{◌≡◌, refl, sym, ap, ◌∙◌}
use mathlib.Core.Bool.{Bool}
use mathlib.Core.List.{List, [], ◌∷◌}
use mathlib.Core.Logic.{⊎_elim}
use Prim.Native.Nat.{ℕ, ◌≤◌, ◌<◌}
use native.Mathlib.Omega.{arith}
use lib.ListN.{length}
use Rattle.vertex_set.proofs.Cases.{less-or}
use Rattle.vertex_set.proofs.Lists.{exactly-unique}
use Rattle.setup.specs.declared.Graph.{Graph}
use Rattle.setup.specs.declared.Setup.{Setup}
use Rattle.bases.specs.Base.{MinimalSet, Base}
use Rattle.scores.specs.Never.{never}
use Rattle.bases.specs.Score.{Score}
use Rattle.bases.specs.Marks.{Mark, Repeated, Shut, Loose, Right, CountsAs, MarkedAs, tally, Counts}

module _ (loss : Bool) (s : Setup) (g : Graph) (target : ℕ) where
  pub base-unique : (l k : List ℕ) → Base loss s g target l → Base loss s g target k → l ≡ k
  base-unique l k a b =
      exactly-unique (MinimalSet loss s g target) l k a b

  -- no score is above another
  score-le : (r q : ℕ) → Score loss s g target r → Score loss s g target q → q < never → r ≤ q
  score-le r q a b l =
      let w = b.reached l in
      let e = w.2 in
      let k = a.least w.0 w.1 in
      omega arith

  pub score-unique : (r q : ℕ) → Score loss s g target r → Score loss s g target q → r ≡ q
  score-unique r q a b =
      ⊎_elim
      (λ k. let l = score-le r q a b k in let m = score-le q r b a (omega arith) in omega arith)
      (λ k. ⊎_elim
      (λ j. absurd (let l = score-le q r b a j in omega arith))
      (λ j. a.none (λ x t. absurd (let l = a.some x t in omega arith)) ∙ sym (b.none (λ x t. absurd (let l = b.some x t in omega arith))))
      (less-or r never))
      (less-or q never)

  mark-unique : (earlier : List ℕ) (x : ℕ) (m n : Mark) → CountsAs loss s g target earlier x m → CountsAs loss s g target earlier x n → m ≡ n
  mark-unique earlier x Repeated Repeated a b = refl
  mark-unique earlier x Repeated Shut a b = absurd (b.0 a)
  mark-unique earlier x Repeated Loose a b = absurd (b.0 a)
  mark-unique earlier x Repeated Right a b = absurd (b.0 a)
  mark-unique earlier x Shut Repeated a b = absurd (a.0 b)
  mark-unique earlier x Shut Shut a b = refl
  mark-unique earlier x Shut Loose a b = absurd (a.1 b.1)
  mark-unique earlier x Shut Right a b = absurd (a.1 b.1.is)
  mark-unique earlier x Loose Repeated a b = absurd (a.0 b)
  mark-unique earlier x Loose Shut a b = absurd (b.1 a.1)
  mark-unique earlier x Loose Loose a b = refl
  mark-unique earlier x Loose Right a b = absurd (b.1.minimal a.2.subset a.2.proper a.2.derives)
  mark-unique earlier x Right Repeated a b = absurd (a.0 b)
  mark-unique earlier x Right Shut a b = absurd (b.1 a.1.is)
  mark-unique earlier x Right Loose a b = absurd (a.1.minimal b.2.subset b.2.proper b.2.derives)
  mark-unique earlier x Right Right a b = refl

  pub marks-unique : (earlier handed : List ℕ) (ms ns : List Mark) → MarkedAs loss s g target earlier handed ms → MarkedAs loss s g target earlier handed ns → ms ≡ ns
  marks-unique earlier [] [] [] a b = refl
  marks-unique earlier [] [] (n ∷ ns) a b = absurd b
  marks-unique earlier [] (m ∷ ms) [] a b = absurd a
  marks-unique earlier [] (m ∷ ms) (n ∷ ns) a b = absurd b
  marks-unique earlier (x ∷ handed) [] [] a b = refl
  marks-unique earlier (x ∷ handed) [] (n ∷ ns) a b = absurd a
  marks-unique earlier (x ∷ handed) (m ∷ ms) [] a b = absurd b
  marks-unique earlier (x ∷ handed) (m ∷ ms) (n ∷ ns) a b =
      rw (mark-unique earlier x m n a.0 b.0, marks-unique (x ∷ earlier) handed ms ns a.1 b.1)

  pub counts-unique : (handed : List ℕ) (right repeated shut loose missing right' repeated' shut' loose' missing' : ℕ)
      → Counts loss s g target handed right repeated shut loose missing → Counts loss s g target handed right' repeated' shut' loose' missing'
      → (right ≡ right') × (repeated ≡ repeated') × (shut ≡ shut') × (loose ≡ loose') × (missing ≡ missing')
  counts-unique handed right repeated shut loose missing right' repeated' shut' loose' missing' a b =
      let e = marks-unique [] handed a.marks b.marks a.marked b.marked in
      let f = base-unique a.base b.base a.is_base b.is_base in
      let same : (m : Mark) → tally m a.marks ≡ tally m b.marks = λ m. ap (tally m) e in
      let r = a.is_right ∙ same Right ∙ sym b.is_right in
      let n = ap length f in
      let p = a.is_missing in
      let q = b.is_missing in (
        r,
        a.is_repeated ∙ same Repeated ∙ sym b.is_repeated,
        a.is_shut ∙ same Shut ∙ sym b.is_shut,
        a.is_loose ∙ same Loose ∙ sym b.is_loose,
        omega arith,
      )
