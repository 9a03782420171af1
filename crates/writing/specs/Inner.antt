-- Inner: what a pen writes, and what the functions that write bytes write.
pub mod HandOut
use Rattle.std.specs.Prelude.{◌≡◌, List, [], ◌∷◌, ◌++◌, ℕ, ◌+◌, ◌/◌, ◌%◌, ◌≤◌, length}
use Rattle.std.specs.Borrow.{MutBor}
use Rattle.written.specs.Inner.{Wrote}
use Rattle.writing.specs.declared.Pen.{Pen}

-- A field and the byte behind it.
abbrev pub ended : List ℕ → ℕ → List ℕ
ended f e = f ++ (e ∷ [])

-- The last two digits of a number.
abbrev pub last_two : ℕ → List ℕ
last_two n = (48 + n / 10 % 10) ∷ (48 + n % 10) ∷ []

-- The pen writes into the lent buffer, whose bytes are still as they were, and is at its start.
pub record AtStart (out : MutBor (List ℕ)) (p : Pen) : Type 0 where
  pub same : p.out.ghost_name ≡ out.ghost_name
  pub bytes : p.out.now ≡ out.now
  pub start : p.at ≡ 0

-- The bytes xs have room from the pen's place on.
abbrev pub RoomFor : Pen → List ℕ → Type 0
RoomFor p xs = p.at + length xs ≤ length p.out.now

-- The pen writes into the same buffer as before.
abbrev pub SameBuffer : Pen → Pen → Type 0
SameBuffer before after = after.out.ghost_name ≡ before.out.ghost_name

-- From the pen's place on stand the bytes xs, every other byte is as before, and its place is behind them. (That the buffer keeps its length
-- follows, and saves the callers saying so.)
pub record Penned (before : Pen) (xs : List ℕ) (after : Pen) : Type 0 where
  pub same : SameBuffer before after
  pub long : length after.out.now ≡ length before.out.now
  pub wrote : Wrote before.out.now before.at xs after.out.now after.at
