-- Wrong forecasts that the contract excludes, each at an example.
-- Assumes nothing.
use mathlib.Core.Path.{◌≡◌, refl, ap, ◌∙◌}
use mathlib.Core.List.{[], ◌∷◌, head-eq_of_cons-eq}
use Prim.Native.Nat.{ℕ}
use native.Mathlib.Omega.{arith}
use Rattle.setup.specs.declared.Setup.{Setup}
use Rattle.forecasts.specs.Forecast.{Forecast}
use Rattle.questions.specs.Contract.{Outcome}
use Rattle.questions.proofs.Contract.{answer-of}
use Rattle.forecasts.specs.Answers.{forecast_call}
use Rattle.forecasts.proofs.Unique.{forecast-unique}
use Rattle.worked_examples.specs.Sheets.{bench, ordpw, mailpw, token, mail, order, ring, pwd_backup, pwd_manager, device, seed, spare, pw, key, acc}
use Rattle.worked_examples.specs.Table.{set_of}
use Rattle.worked_examples.proofs.Reading.{read-bench, read-ring, read-spare}
use Rattle.worked_examples.proofs.Table.{held}
use Rattle.worked_examples.proofs.Settled.{Gives}
use Rattle.worked_examples.proofs.Forecasts.{all-foretell}

-- an answer that meets the contract is the forecast
settled : (s : Setup) (target counted n m : ℕ) → Forecast s target counted n → Gives (forecast_call s target) (m ∷ []) → m ≡ n
settled s target counted n m f c =
    let a = answer-of (forecast_call s target) refl _ refl c in
    head-eq_of_cons-eq (ap (λ (o : Outcome). o.reply.values) a.3) ∙ forecast-unique s target a.1.counted counted a.0 n a.1.is f

order_is : (m : ℕ) → Gives (forecast_call bench.setup order) (m ∷ []) → m ≡ 3
order_is m =
    settled bench.setup order (set_of (ordpw ∷ mailpw ∷ token ∷ [])) 3 m
    (held bench (λ (s : Setup). Forecast s order (set_of (ordpw ∷ mailpw ∷ token ∷ [])) 3) read-bench all-foretell.0)

mail-is : (m : ℕ) → Gives (forecast_call bench.setup mail) (m ∷ []) → m ≡ 1
mail-is m =
    settled bench.setup mail (set_of (mailpw ∷ [])) 1 m
    (held bench (λ (s : Setup). Forecast s mail (set_of (mailpw ∷ [])) 1) read-bench all-foretell.1.0)

backup-is : (m : ℕ) → Gives (forecast_call ring.setup pwd_backup) (m ∷ []) → m ≡ 6
backup-is m =
    settled ring.setup pwd_backup (set_of (pwd_backup ∷ pwd_manager ∷ device ∷ seed ∷ [])) 6 m
    (held ring (λ (s : Setup). Forecast s pwd_backup (set_of (pwd_backup ∷ pwd_manager ∷ device ∷ seed ∷ [])) 6) read-ring all-foretell.1.1.0)

acc-is : (m : ℕ) → Gives (forecast_call spare.setup acc) (m ∷ []) → m ≡ 2
acc-is m =
    settled spare.setup acc (set_of (pw ∷ key ∷ [])) 2 m
    (held spare (λ (s : Setup). Forecast s acc (set_of (pw ∷ key ∷ [])) 2) read-spare all-foretell.1.1.1.1.1.1.1.0)

-- All items that reach order counted, starting ones or not: they are 5, mail and order itself among them, and 2 of 5 are chosen in 10 ways.
pub no-others-counted : Gives (forecast_call bench.setup order) (10 ∷ []) → ⊥
no-others-counted c = let e = order_is 10 c in omega arith

-- What order needs directly, alone: of these, ordpw and token are starting items, and 1 of 2 is chosen in 2 ways.
pub no-direct-needs-alone : Gives (forecast_call bench.setup order) (2 ∷ []) → ⊥
no-direct-needs-alone c = let e = order_is 2 c in omega arith

-- Recovery edges left out: without the edge from key, pw alone reaches acc, and of one item there is 1 choice.
pub no-edge-left-out : Gives (forecast_call spare.setup acc) (1 ∷ []) → ⊥
no-edge-left-out c = let e = acc-is 1 c in omega arith

-- The length of the list itself: pwd_backup has two opening sets, itself alone and pwd_manager alone.
pub no-list-length : Gives (forecast_call ring.setup pwd_backup) (2 ∷ []) → ⊥
no-list-length c = let e = backup-is 2 c in omega arith

-- Forward reach: nothing that order leads to is a starting item, and of no items there is 1 choice.
pub no-forward-reach : Gives (forecast_call bench.setup order) (1 ∷ []) → ⊥
no-forward-reach c = let e = order_is 1 c in omega arith

-- Always 3,432, which is enough for every list.
pub no-constant : Gives (forecast_call bench.setup order) (3432 ∷ []) → ⊥
no-constant c = let e = order_is 3432 c in omega arith

-- All starting items, whether they reach mail or not: 1 of 3 is chosen in 3 ways.
pub no-all-starting : Gives (forecast_call bench.setup mail) (3 ∷ []) → ⊥
no-all-starting c = let e = mail-is 3 c in omega arith

-- The target, a starting item itself, left out: 1 of the other 3 is chosen in 3 ways.
pub no-target-left-out : Gives (forecast_call ring.setup pwd_backup) (3 ∷ []) → ⊥
no-target-left-out c = let e = backup-is 3 c in omega arith
