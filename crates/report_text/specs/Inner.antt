-- What the report's writers ask of its rows. Nothing of this has to be believed: no contract of an offered call cites it.
use Rattle.std.specs.Prelude.{ℕ}

-- The most bytes of a row.
abbrev pub longest_row : ℕ
longest_row = 275
