-- The score of an account that no set opens (document 01, "Scores and findings").
use Rattle.std.specs.Prelude.{ℕ, ◌^◌}

-- "Never": a number above every sum.
abbrev pub never : ℕ
never = 2 ^ 62
