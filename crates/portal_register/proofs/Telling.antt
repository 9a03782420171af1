-- A line that was read, told in numbers.
-- Assumes nothing.
use mathlib.Core.Path.{◌≡◌, ap, ◌∙◌}
use mathlib.Core.List.{List}
use mathlib.Core.Logic.{inl, inr, ⊎_elim}
use Prim.Native.Nat.{ℕ}
use Rattle.questions.specs.Asks.{Asks}
use Rattle.handin_format.specs.Calls.{LineAnswer}
use Rattle.handin_format.specs.Calls.{with_sets, ReadLineCall}
use Rattle.portal_register.specs.declared.ReadLineResult.{ReadLineResult}
use Rattle.portal_register.specs.Lines.{in_numbers, told_in_numbers, TellLineCall}

pub line-told : (sheet line : List ℕ) (a : LineAnswer) (r : ReadLineResult) (entry exit : List ℕ) → ReadLineCall sheet line a entry exit → r ≡ in_numbers a
    → TellLineCall sheet line r entry exit
unfolding Asks
line-told sheet line a r entry exit h e =
    let same : record { answer = r; sets = exit } ≡ told_in_numbers (with_sets a exit) = ap (λ (x : ReadLineResult). record { answer = x; sets = exit }) e in
    ⊎_elim
    (λ n. inl (n.0, same ∙ ap told_in_numbers n.1))
    (λ y. inr (y.0, record { outcome = with_sets a exit; reads = y.1; told = same }))
    h
