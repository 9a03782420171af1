-- A call's outcome as C gets it: a struct of plain numbers, the first of which is the call's number, and the lent lists.
use Rattle.std.specs.Prelude.{◌≡◌, List, ◌++◌, ◌⊎◌, ℕ, length, replicate}
use Rattle.vertex_set.specs.Order.{Listed}
use Rattle.questions.specs.Contract.{ends, Contract, Fulfils, numbers}

-- The struct and the lent lists are those of an outcome that fulfils the contract: the number, the values in the fields behind it, and 0 in every
-- field that no value is for.
pub record Told (c : Contract) (number : ℕ) (fields : List ℕ) (lent : List (List ℕ)) : Type 0 where
  pub values : List ℕ
  pub call : Fulfils c (ends (record { number = number; values = values }) lent)
  pub unused : ℕ
  pub told : fields ≡ values ++ replicate unused 0

-- A refusal as C gets it: one of the call's numbers, and not 0; every field is 0, and every lent place is kept.
pub record ToldNo (c : Contract) (number : ℕ) (fields : List ℕ) (lent : List (List ℕ)) : Type 0 where
  pub listed : Listed (numbers c) number
  pub some : number ≡ 0 → ⊥
  pub zeros : fields ≡ replicate (length fields) 0
  pub kept : lent ≡ c.lent

-- Demand 1 of what C is told: the number 0, or a refusal; and no other struct with as many fields, and no other end of a lent list, tells of this call.
pub record SettledTold (c : Contract) (number : ℕ) (fields : List ℕ) (lent : List (List ℕ)) : Type 0 where
  pub outcome : (number ≡ 0) ⊎ ToldNo c number fields lent
  pub only : (n : ℕ) (f : List ℕ) (l : List (List ℕ)) → length f ≡ length fields → Told c n f l → (n ≡ number) × (f ≡ fields) × (l ≡ lent)
