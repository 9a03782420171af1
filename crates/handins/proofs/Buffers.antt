-- The names of a set, in a buffer of their own.
-- Assumes nothing.
use mathlib.Core.Path.{◌≡◌}
use mathlib.Core.List.{List, [], ◌∷◌, map}
use Prim.Native.Nat.{ℕ, zero, suc, ◌^◌, ◌≤◌, ◌<◌}
use native.Mathlib.Omega.{arith}
use lib.Count.{ones-le}
use lib.ListN.{length, get_or}
use Rattle.vertex_set.specs.Set.{Member}
use Rattle.vertex_set.proofs.Places.{places, length-places, listed-places}
use Rattle.sheet_format.specs.Read.{Reading}
use Rattle.sheet_format.specs.Rows.{ItemRow, Doc, Each, ValidItem, Valid, render}
use Rattle.sheet_format.specs.Read.{read_sheet}
use Rattle.sheet_format.specs.Names.{name_of}
use Rattle.sheet_format.proofs.Fields.{name-length}
use Rattle.sheet_lines.proofs.Accepted.{accepts-of, lines-there, count_of, rows-of-text}
use Rattle.sheet.proofs.Names.{item-there, names-of-rows}
use Rattle.report_text.specs.Rows.{set_text}
use Rattle.report_text.proofs.Items.{set-text}
use Rattle.report_text.proofs.Lengths.{joined_length}
use Rattle.report_facts.specs.declared.names.Names.{Names}
use Rattle.report_facts.specs.Inner.Places.{NamesPlaced}
use Rattle.handins.specs.Inner.{CanName}

-- ---- the names of a set

each-short : (xs : List ItemRow) (i : ℕ) → Each ValidItem xs → i < length xs → length (get_or (map (λ (x : ItemRow). x.name) xs) i []) ≤ 16
each-short [] i v h = omega arith
each-short (x ∷ xs) zero v h = name-length x.name v.0.name
each-short (x ∷ xs) (suc i) v h = each-short xs i v.1 (omega arith)

name-short : (sheet : List ℕ) (d : Doc) → Valid d → sheet ≡ render d → (i : ℕ) → i < length d.items → length (name_of sheet i) ≤ 16
name-short sheet d v t i h = rw (t, names-of-rows d v i h) (each-short d.items i v.items h)

names-short : (name : ℕ → List ℕ) (x : ℕ) → x < 2 ^ 64 → ((v : ℕ) → Member x v → length (name v) ≤ 16) → length (set_text name x) ≤ 1087
names-short name x b h =
    let l = joined_length name (places 64 x) (λ v m. h v ((listed-places 64 x v).to m).0) in
    let n = length-places 64 x b in
    let o = ones-le 64 x b in
    rw (set-text name x) (omega arith)

-- an accepted sheet has names for the items of a set that is inside
pub can-name : (sheet : List ℕ) (r : Reading) → r ≡ read_sheet sheet → r.number ≡ 0 → (x : ℕ) → x < 2 ^ 64 → ((v : ℕ) → Member x v → v < r.setup.count)
    → CanName sheet r.setup.count x
can-name sheet r is z x b inside =
    let a = accepts-of sheet r is z in
    let l = lines-there sheet r.setup a in
    let m = l.lines in
    let d = rows-of-text sheet r.setup a in
    let c = count_of sheet r.setup d.doc a d.valid d.text in
    record {
      items = record { few = l.few; lines = omega arith; items = λ i h. item-there sheet i r is z h };
      inside = inside;
      short = names-short (name_of sheet) x b (λ v m. name-short sheet d.doc d.valid d.text v (let i = inside v m in omega arith));
    }
