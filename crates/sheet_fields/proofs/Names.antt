-- The form of a name: its bytes are small.
-- Assumes nothing.
use mathlib.Core.Path.{◌≡◌}
use mathlib.Core.List.{List}
use mathlib.Core.Bool.{true, ◌&&◌, ◌||◌}
use mathlib.Core.Logic.{⊎_elim}
use Prim.Native.Nat.{ℕ}
use native.Mathlib.Omega.{arith}
use lib.ListN.{length}
use lib.Dec.{eqb, leb}
use borrow.Author.Tests.{eqb-true, leb-true}
use Rattle.sheet_format.specs.Text.{all}
use Rattle.sheet_format.specs.Fields.{is_digit, is_name_byte, is_name}
use Rattle.sheet_format.specs.Rows.{Each}
use Rattle.vertex_set.proofs.Decisions.{and_parts, or_parts}
use Rattle.sheet_format.proofs.Tests.{all-decided}
use Rattle.sheet_format.proofs.Lists.{each_map}
use Rattle.sheet_fields.proofs.Packing.{Small}

pub name-all : (f : List ℕ) → is_name f ≡ true → all is_name_byte f ≡ true
unfolding is_name
name-all f h = (and_parts (leb 1 (length f) && leb (length f) 16) (all is_name_byte f) h).1

byte_small : (b : ℕ) → is_name_byte b ≡ true → Small b
unfolding is_name_byte is_digit
byte_small b h =
    ⊎_elim
    (λ e. ⊎_elim
    (λ l. let p = leb-true 97 b (and_parts (leb 97 b) (leb b 122) l).0 in let q = leb-true b 122 (and_parts (leb 97 b) (leb b 122) l).1 in (omega arith, omega arith))
    (λ d. let p = leb-true 48 b (and_parts (leb 48 b) (leb b 57) d).0 in let q = leb-true b 57 (and_parts (leb 48 b) (leb b 57) d).1 in (omega arith, omega arith))
    (or_parts (leb 97 b && leb b 122) (leb 48 b && leb b 57) e))
    (λ u. let p = eqb-true b 95 u in (omega arith, omega arith))
    (or_parts (leb 97 b && leb b 122 || (leb 48 b && leb b 57)) (eqb b 95) h)

pub name-small : (f : List ℕ) → is_name f ≡ true → Each Small f
name-small f h = each_map (λ b. is_name_byte b ≡ true) Small byte_small f ((all-decided is_name_byte f).yes (name-all f h))
