-- Inner: the room that the program has for a refusal's line.
use Rattle.std.specs.Prelude.{ℕ}

-- No such line has more bytes.
abbrev pub line_bytes : ℕ
line_bytes = 77
