-- `pool::put_refusal` meets its contract: the line has four fields.
use borrow.Author.Rules.{rules}
use mathlib.Core.List.{List, ◌++◌}
use mathlib.Core.Path.{◌≡◌, refl}
use Prim.Native.Nat.{ℕ, ◌^◌, ◌<◌, ◌≤◌}
use native.Mathlib.Omega.{arith}
use lib.ListN.{length, length-append}
use Rattle.sheet_format.specs.Text.{bytes_of}
use Rattle.sheet_format.specs.Fields.{decimal}
use Rattle.writing.specs.Inner.{ended}
use Rattle.writing.proofs.Pens.{penned_then, room_then, start_room, start_wrote}
use Rattle.pool.specs.Printed.{refusal_line}
use Rattle.pool.proofs.Telling.{number_short, line-written}
use Rattle.pool.proofs.put_refusal.Goals as goal

-- The line's beginnings, field by field.
abbrev one : List ℕ
one = ended (bytes_of "pool: refused") 32

abbrev two : ℕ → List ℕ
two sheet = one ++ ended (decimal sheet) 32

abbrev three : ℕ → ℕ → List ℕ
three sheet number = two sheet ++ ended (decimal number) 32

abbrev four : ℕ → ℕ → ℕ → List ℕ
four sheet number line = three sheet number ++ ended (decimal line) 10

lengths : (sheet number line : ℕ) → sheet < 2 ^ 64 → number < 2 ^ 64 → line < 2 ^ 64
    → (length one ≡ 14) × (length (two sheet) ≤ 35) × (length (three sheet number) ≤ 56) × (length (four sheet number line) ≤ 77)
lengths sheet number line s n l =
    let o : length one ≡ 14 = refl in
    let a = number_short sheet 32 s in
    let b = number_short number 32 n in
    let c = number_short line 10 l in
    let x = length-append one (ended (decimal sheet) 32) in
    let y = length-append (two sheet) (ended (decimal number) 32) in
    let z = length-append (three sheet number) (ended (decimal line) 10) in
    (o, omega arith, omega arith, omega arith)

pub put_field-requires : goal.put_field-requires
put_field-requires c =
    let l = lengths _ _ _ c.ranges.sheet.fits c.ranges.number.fits c.ranges.line.fits in
    start_room _ _ c.new-pen.ensures one (omega (arith, l.0, c.requires))

pub put_number-requires : goal.put_number-requires
put_number-requires c =
    let l = lengths _ _ _ c.ranges.sheet.fits c.ranges.number.fits c.ranges.line.fits in
    room_then _ _ _ c.put_field.ensures (ended (decimal c.args.sheet) 32) (start_room _ _ c.new-pen.ensures (two c.args.sheet) (omega (arith, l.1, c.requires)))

pub put_number-requires-2 : goal.put_number-requires-2
put_number-requires-2 c =
    let l = lengths _ _ _ c.ranges.sheet.fits c.ranges.number.fits c.ranges.line.fits in
    let w = penned_then _ _ _ c.put_field.ensures _ _ c.put_number.ensures in
    room_then _ _ _ w (ended (decimal c.args.number) 32) (start_room _ _ c.new-pen.ensures (three c.args.sheet c.args.number) (omega (arith, l.2, c.requires)))

pub put_number-requires-3 : goal.put_number-requires-3
put_number-requires-3 c =
    let l = lengths _ _ _ c.ranges.sheet.fits c.ranges.number.fits c.ranges.line.fits in
    let w = penned_then _ _ _ c.put_field.ensures _ _ c.put_number.ensures in
    let v = penned_then _ _ _ w _ _ c.put_number-2.ensures in
    room_then _ _ _ v (ended (decimal c.args.line) 10) (start_room _ _ c.new-pen.ensures (four c.args.sheet c.args.number c.args.line) (omega (arith, l.3, c.requires)))

pub returns : goal.returns
unfolding refusal_line
returns c =
    let l = lengths _ _ _ c.ranges.sheet.fits c.ranges.number.fits c.ranges.line.fits in
    let w = penned_then _ _ _ c.put_field.ensures _ _ c.put_number.ensures in
    let v = penned_then _ _ _ w _ _ c.put_number-2.ensures in
    let u = penned_then _ _ _ v _ _ c.put_number-3.ensures in
    let room : length (four c.args.sheet c.args.number c.args.line) ≤ length c.args.out.now = omega (arith, l.3, c.requires) in
    let row = line-written (bytes_of "pool: refused") (decimal c.args.sheet) (decimal c.args.number) (decimal c.args.line) c.args.out.now _ _ (start_wrote _ _ c.new-pen.ensures _ _ u) room in
    search (rules, row)
