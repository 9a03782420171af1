-- The sheet's bounds (document 01, and of the largest value document 02, point 5): each number stands here, and in no other definition that must be
-- believed. That a set is 64 bits wide, a setup has 64 places and a place eight rows is no bound but the shape of a setup: such lengths stay numbers.
use Rattle.std.specs.Prelude.{ℕ}

-- The most items.
abbrev pub most_items : ℕ
most_items = 64

-- The most bytes of a name.
abbrev pub most_name : ℕ
most_name = 16

-- The largest start or loss value.
abbrev pub largest : ℕ
largest = 4000000000

-- The highest rank.
abbrev pub highest : ℕ
highest = 9

-- The highest colour.
abbrev pub highest_colour : ℕ
highest_colour = 7

-- The most edges.
abbrev pub most_edges : ℕ
most_edges = 256

-- The most starting items, and the most losable ones.
abbrev pub most_chosen : ℕ
most_chosen = 14

-- The most bytes of a sheet.
abbrev pub most_bytes : ℕ
most_bytes = 16384
