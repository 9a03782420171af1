use Rattle.std.proofs.Common.{◌≡◌, ◌<◌, ◌≤◌, ◌^◌, ℕ, suc, ◌*◌, List, [], ◌∷◌, length, Fits, w64, arith, rules, refl, sym, ◌∙◌}
use Rattle.std.specs.Prelude.{sum_by}
use Rattle.std.proofs.lemmas.List.Recursion.{is_sum_by}
use lib.Count.{ones, ones-le}
use lib.ListN.{get_or}
use Rattle.setup.specs.Setup.{total}
use Rattle.formed.proofs.row_sizes.Goals as goal

few-ones : (xs : List ℕ) → ((i : ℕ) → Fits w64 (get_or xs i 0)) → total ones xs ≤ 64 * length xs
few-ones [] f = omega arith
few-ones (x ∷ xs) f = let o = ones-le 64 x (f 0).fits in let r = few-ones xs (λ i. f (suc i)) in omega arith

pub sum-requires-clause-fits : goal.sum-requires-clause-fits
sum-requires-clause-fits c =
    let needs = c.args.rows.needs in
    let long : length needs ≡ 8 = search rules in
    let same = is_sum_by (total ones) ones refl (λ _ _. refl) needs in
    let few : sum_by ones needs < 2 ^ 32 = let f = few-ones needs (search rules) in omega arith in
    search rules

pub returns : goal.returns
returns c =
    let needs = c.args.rows.needs in
    let long : length needs ≡ 8 = search rules in
    let same = is_sum_by (total ones) ones refl (λ _ _. refl) needs in
    let e : c.sum.result ≡ sum_by ones needs = search rules in
    (e ∙ sym same, let f = few-ones needs (search rules) in omega arith)
