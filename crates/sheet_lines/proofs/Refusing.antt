-- What `map_err` makes of a result, where it is known what its closure makes of an error.
-- Assumes nothing.
use mathlib.Core.Path.{◌≡◌, refl, sym, ap, ◌∙◌}
use Rattle.std.specs.Prelude.{Result, Ok, Err, MatchResult, IsErrAnd}
use Rattle.std.proofs.lemmas.Result.{err_from_is_err_and}

pub mapped-no : {T E D : Type 0} (r : Result T E) (m : Result T D) (P Q : E → D → Type 0) → ((e : E) (d : D) → P e d → Q e d)
    → MatchResult r (λ x. m ≡ Ok x) (λ e. IsErrAnd m (P e)) → (d : D) → m ≡ Err d → (e : E) × (r ≡ Err e) × Q e d
mapped-no (Ok x) m P Q s h d i = absurd (let k : Ok x ≡ Err d = sym h ∙ i in cc)
mapped-no (Err e) m P Q s h d i =
    let p = err_from_is_err_and m h in
    let k : Err p.0 ≡ Err d = sym p.1 ∙ i in
    let q : p.0 ≡ d = cc in
    (e, refl, s e d (rw q at p.2))

pub mapped-yes : {T E D : Type 0} (r : Result T E) (m : Result T D) (P : E → D → Type 0) → MatchResult r (λ x. m ≡ Ok x) (λ e. IsErrAnd m (P e)) → (x : T) → m ≡ Ok x → r ≡ Ok x
mapped-yes (Ok y) m P h x i = let k : Ok y ≡ Ok x = sym h ∙ i in ap Ok (let q : y ≡ x = cc in q)
mapped-yes (Err e) m P h x i = let p = err_from_is_err_and m h in absurd (let k : Err p.0 ≡ Ok x = sym p.1 ∙ i in cc)
