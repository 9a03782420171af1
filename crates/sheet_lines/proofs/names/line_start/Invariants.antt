use mathlib.Core.Path.{◌≡◌}
use Prim.Native.Nat.{◌+◌, ◌-◌, ◌≤◌}
use lib.ListN.{length, drop}
use Rattle.sheet_format.specs.Text.{lines_of}
use Rattle.sheet_format.specs.Names.{line_start}
use Rattle.sheet_lines.proofs.names.line_start.Given as goal

-- Line k begins where the line that many lines on of the text from `at` does.
abbrev pub invariant-loop-line : goal.invariant-loop-line
invariant-loop-line l = (l.at ≤ length l.s + 1) × (line_start (lines_of l.s) l.k ≡ l.at + line_start (lines_of (drop l.at l.s)) (l.k - l._line))
