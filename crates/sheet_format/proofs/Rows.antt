-- Rows as lines: a valid row's line has its fields, and the questions 4 and 5 of it are yeses; a line with those yeses is its row's line.
-- Assumes nothing.
use mathlib.Core.Path.{◌≡◌, refl, sym, ap, ◌∙◌}
use mathlib.Core.List.{List, [], ◌∷◌, ◌++◌}
use mathlib.Core.Bool.{Bool, true, false, cond, not, ◌&&◌}
use Prim.Native.Nat.{ℕ, ◌≤◌}
use native.Mathlib.Omega.{arith}
use lib.ListN.{length, drop_of_length-le}
use lib.Seq.{drop-cons}
use lib.Dec.{eqb}
use borrow.Author.Tests.{eqb-true, eqb-false, eq-eqb}
use Rattle.setup.specs.Bounds.{highest}
use Rattle.vertex_set.proofs.Cases.{by_test, false-true}
use Rattle.sheet_format.specs.Text.{is_empty, all, fields_of}
use Rattle.sheet_format.specs.Fields.{is_name, is_number_to, number_of, decimal, is_kind, is_value}
use Rattle.sheet_format.specs.Rows.{ItemRow, EdgeRow, Each, ValidItem, item_fields, edge_fields}
use Rattle.sheet_format.specs.Questions.{is_text_byte, field, none_empty, question4, question5_item, question5_edge, item_of, edge_of}
use Rattle.sheet_format.proofs.Lists.{each_append, each_map}
use Rattle.vertex_set.proofs.Decisions.{and_parts, and_both, yes_of}
use Rattle.sheet_format.proofs.Tests.{all-decided}
use Rattle.sheet_format.proofs.Numbers.{value-decimal, number-to, to_number}
use Rattle.sheet_format.proofs.Lines.{Without, spaced, fields-spaced, spaced-fields}
use Rattle.sheet_format.proofs.Fields.{Plain, visible_without, visible-text, name-plain, decimal-plain, kind-yes, kind-written, kind-read, kind-plain, value-yes, value_written, value_read, value-plain}

-- ---- fields that can be written, as a line

-- P holds of each byte of the line if it does of the space, and of each byte of each field.
spaced-each : (P : ℕ → Type 0) (fs : List (List ℕ)) → P 32 → Each (Each P) fs → Each P (spaced fs)
spaced-each P [] s h = tt
spaced-each P (f ∷ []) s h = h.0
spaced-each P (f ∷ g ∷ fs) s h = each_append P f (32 ∷ spaced (g ∷ fs)) h.0 (s, spaced-each P (g ∷ fs) s h.1)

pub plain-line : (fs : List (List ℕ)) → Each Plain fs → Without 10 (spaced fs)
plain-line fs h =
    spaced-each (λ b. eqb b 10 ≡ false) fs refl (each_map Plain (Without 10) (λ f p. visible_without 10 f (omega arith) p.bytes) fs h)

pub plain-bytes : (fs : List (List ℕ)) → Each Plain fs → all is_text_byte (spaced fs) ≡ true
unfolding is_text_byte
plain-bytes fs h =
    yes_of (all is_text_byte (spaced fs)) (all-decided is_text_byte (spaced fs))
    (spaced-each (λ b. is_text_byte b ≡ true) fs refl (each_map Plain (Each (λ b. is_text_byte b ≡ true)) (λ f p. visible-text f p.bytes) fs h))

pub plain-fields : (f : List ℕ) (fs : List (List ℕ)) → Each Plain (f ∷ fs) → fields_of (spaced (f ∷ fs)) ≡ f ∷ fs
plain-fields f fs h = fields-spaced f fs (each_map Plain (Without 32) (λ g p. visible_without 32 g (omega arith) p.bytes) (f ∷ fs) h)

empty-append : (s t : List ℕ) → is_empty s ≡ false → is_empty (s ++ t) ≡ false
unfolding is_empty
empty-append [] t e = absurd (false-true (sym e))
empty-append (b ∷ s) t e = refl

pub plain-some : (f g : List ℕ) (fs : List (List ℕ)) → Plain f → is_empty (spaced (f ∷ g ∷ fs)) ≡ false
plain-some f g fs p = empty-append f (32 ∷ spaced (g ∷ fs)) p.some

plain-none : (fs : List (List ℕ)) → Each Plain fs → none_empty fs ≡ true
unfolding none_empty
plain-none [] h = refl
plain-none (f ∷ fs) h = and_both (not (is_empty f)) (none_empty fs) (ap not h.0.some) (plain-none fs h.1)

-- Question 4 of as many fields as it asks for.
pub plain-yes4 : (n : ℕ) (fs : List (List ℕ)) → length fs ≡ n → Each Plain fs → question4 n fs ≡ true
unfolding question4
plain-yes4 n fs l h = and_both (eqb (length fs) n) (none_empty fs) (eq-eqb (length fs) n l) (plain-none fs h)

pub count_of : (n : ℕ) (fs : List (List ℕ)) → question4 n fs ≡ true → length fs ≡ n
unfolding question4
count_of n fs e = eqb-true (length fs) n (and_parts (eqb (length fs) n) (none_empty fs) e).0

-- ---- item rows

abbrev pub item_line : ItemRow → List ℕ
item_line x = spaced (item_fields x)

pub item-plain : (x : ItemRow) → ValidItem x → Each Plain (item_fields x)
item-plain x v =
    let r = v.rank in (
      name-plain x.name v.name,
      (kind-plain x.kind, (value-plain x.start v.start, (value-plain x.loss v.loss, (decimal-plain x.rank (omega arith), tt)))),
    )

pub item-written : (x : ItemRow) → ValidItem x → item_of (item_fields x) ≡ x
unfolding item_of
item-written x v =
    let r = v.rank in
    λ i. record {
      name = x.name;
      kind = kind-written x.kind i;
      start = value_written x.start v.start i;
      loss = value_written x.loss v.loss i;
      rank = value-decimal x.rank (omega arith) i;
    }

pub item-yes5 : (x : ItemRow) → ValidItem x → question5_item (item_fields x) ≡ true
unfolding question5_item
item-yes5 x v =
    rw (v.name, kind-yes x.kind, value-yes x.start v.start, value-yes x.loss v.loss, number-to 9 x.rank (omega arith) v.rank)

five : (fs : List (List ℕ)) → length fs ≡ 5 → fs ≡ field fs 0 ∷ field fs 1 ∷ field fs 2 ∷ field fs 3 ∷ field fs 4 ∷ []
five fs l =
    let a = drop-cons fs 0 [] (omega arith) in
    let b = drop-cons fs 1 [] (omega arith) in
    let c = drop-cons fs 2 [] (omega arith) in
    let d = drop-cons fs 3 [] (omega arith) in
    let e = drop-cons fs 4 [] (omega arith) in
    let f = drop_of_length-le fs {i = 5} (omega arith) in
    cc

-- What a line says whose fields are an item row's.
pub record ItemRead (fs : List (List ℕ)) : Type 0 where
  pub valid : ValidItem (item_of fs)
  pub fields : item_fields (item_of fs) ≡ fs

pub item-read : (fs : List (List ℕ)) → question4 5 fs ≡ true → question5_item fs ≡ true → ItemRead fs
unfolding question5_item item_of
item-read fs q4 q5 =
    let r = and_parts (is_name (field fs 0) && is_kind (field fs 1) && is_value (field fs 2) && is_value (field fs 3)) (is_number_to highest (field fs 4)) q5 in
    let l = and_parts (is_name (field fs 0) && is_kind (field fs 1) && is_value (field fs 2)) (is_value (field fs 3)) r.0 in
    let s = and_parts (is_name (field fs 0) && is_kind (field fs 1)) (is_value (field fs 2)) l.0 in
    let k = and_parts (is_name (field fs 0)) (is_kind (field fs 1)) s.0 in
    let start = value_read (field fs 2) s.1 in
    let loss = value_read (field fs 3) l.1 in
    let rank = to_number 9 (field fs 4) (omega arith) r.1 in
    let kind = kind-read (field fs 1) k.1 in
    record {
      valid = record { name = k.0; start = start.range; loss = loss.range; rank = rank.bound };
      fields = cc (five fs (count_of 5 fs q4), start.text, loss.text, rank.text);
    }

-- ---- edge rows

abbrev pub edge_line : EdgeRow → List ℕ
edge_line e = spaced (edge_fields e)

-- An edge row that can be written.
pub record NamedEdge (e : EdgeRow) : Type 0 where
  pub from : is_name e.from ≡ true
  pub to : is_name e.to ≡ true
  pub colour : e.colour ≤ 7

mark-small : (r : Bool) → cond r 1 0 ≤ 1
mark-small true = omega arith
mark-small false = omega arith

pub edge-plain : (e : EdgeRow) → NamedEdge e → Each Plain (edge_fields e)
edge-plain e v =
    let c = v.colour in
    let m = mark-small e.rec in (
      name-plain e.from v.from,
      (name-plain e.to v.to, (decimal-plain e.colour (omega arith), (decimal-plain (cond e.rec 1 0) (omega arith), tt))),
    )

mark-written : (r : Bool) → eqb (number_of (decimal (cond r 1 0))) 1 ≡ r
mark-written true = rw (value-decimal 1 (omega arith))
mark-written false = rw (value-decimal 0 (omega arith))

pub edge-written : (e : EdgeRow) → NamedEdge e → edge_of (edge_fields e) ≡ e
unfolding edge_of
edge-written e v =
    let c = v.colour in
    λ i. record { from = e.from; to = e.to; colour = value-decimal e.colour (omega arith) i; rec = mark-written e.rec i }

pub edge-yes5 : (e : EdgeRow) → NamedEdge e → question5_edge (edge_fields e) ≡ true
unfolding question5_edge
edge-yes5 e v =
    rw (v.from, v.to, number-to 7 e.colour (omega arith) v.colour, number-to 1 (cond e.rec 1 0) (omega arith) (mark-small e.rec))

four : (fs : List (List ℕ)) → length fs ≡ 4 → fs ≡ field fs 0 ∷ field fs 1 ∷ field fs 2 ∷ field fs 3 ∷ []
four fs l =
    let a = drop-cons fs 0 [] (omega arith) in
    let b = drop-cons fs 1 [] (omega arith) in
    let c = drop-cons fs 2 [] (omega arith) in
    let d = drop-cons fs 3 [] (omega arith) in
    let f = drop_of_length-le fs {i = 4} (omega arith) in
    cc

mark-read : (n : ℕ) → n ≤ 1 → cond (eqb n 1) 1 0 ≡ n
mark-read n h = by_test (eqb n 1) (λ e. rw e (sym (eqb-true n 1 e))) (λ e. rw e (let m = eqb-false n 1 e in omega (arith, m)))

-- What a line says whose fields are an edge row's.
pub record EdgeRead (fs : List (List ℕ)) : Type 0 where
  pub valid : NamedEdge (edge_of fs)
  pub fields : edge_fields (edge_of fs) ≡ fs

pub edge-read : (fs : List (List ℕ)) → question4 4 fs ≡ true → question5_edge fs ≡ true → EdgeRead fs
unfolding question5_edge edge_of
edge-read fs q4 q5 =
    let r = and_parts (is_name (field fs 0) && is_name (field fs 1) && is_number_to 7 (field fs 2)) (is_number_to 1 (field fs 3)) q5 in
    let c = and_parts (is_name (field fs 0) && is_name (field fs 1)) (is_number_to 7 (field fs 2)) r.0 in
    let n = and_parts (is_name (field fs 0)) (is_name (field fs 1)) c.0 in
    let colour = to_number 7 (field fs 2) (omega arith) c.1 in
    let mark = to_number 1 (field fs 3) (omega arith) r.1 in
    let m = ap decimal (mark-read (number_of (field fs 3)) mark.bound) ∙ mark.text in
    record {
      valid = record { from = n.0; to = n.1; colour = colour.bound };
      fields = cc (four fs (count_of 4 fs q4), colour.text);
    }

-- ---- lines that were read

pub item-line : (line : List ℕ) → item_fields (item_of (fields_of line)) ≡ fields_of line → item_line (item_of (fields_of line)) ≡ line
item-line line e = ap spaced e ∙ spaced-fields line

pub edge-line : (line : List ℕ) → edge_fields (edge_of (fields_of line)) ≡ fields_of line → edge_line (edge_of (fields_of line)) ≡ line
edge-line line e = ap spaced e ∙ spaced-fields line
