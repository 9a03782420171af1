-- A row by itself: from its fields to the row.
-- Assumes nothing.
use mathlib.Core.Path.{◌≡◌, refl, sym, ap, ◌∙◌}
use mathlib.Core.List.{List, [], ◌∷◌}
use mathlib.Core.Bool.{Bool, true, false, ◌&&◌}
use Prim.Native.Nat.{ℕ, ◌+◌, ◌≤◌, ◌<◌}
use native.Mathlib.Nat.{sub-zero}
use native.Mathlib.Omega.{arith}
use lib.ListN.{take, drop}
use lib.Dec.{eqb, leb}
use borrow.Author.Tests.{le-leb, lt-leb}
use Rattle.std.specs.Prelude.{Option, None, Some, Ok, Err, is_some}
use Rattle.std.specs.Option.{ok_or}
use Rattle.setup.specs.Bounds.{largest}
use Rattle.setup.specs.declared.Vertex.{Vertex}
use Rattle.questions.specs.declared.Refusal.{Refusal}
use Rattle.questions.specs.declared.Refusal.TheVariants.{Fields, Form}
use Rattle.questions.specs.Refusals.{number}
use Rattle.vertex_set.proofs.Cases.{by_test, false-true}
use Rattle.sheet_format.specs.Text.{fields_of}
use Rattle.sheet_format.specs.Fields.{is_name, number_of, is_number_to, is_kind, kind_of, is_value, field_value}
use Rattle.sheet_format.specs.Questions.{question4, question5_item, question5_edge, item_of, edge_of}
use Rattle.sheet_format.specs.Read.{ask, first_no}
use Rattle.sheet_fields.specs.Inner.Forms.{read_if}
use Rattle.sheet_fields.specs.Inner.Keys.{key_of}
use Rattle.sheet_fields.proofs.Forms.{number-to}
use Rattle.sheet_fields.proofs.Cutting.{Stepped}
use Rattle.sheet_rows.specs.Inner.Lines.{read_line, vertex_form, vertex_from, item_line, edge_line}

-- ---- what a reader hands back

pub ok_or-some : {A : Type 0} (o : Option A) (e : Refusal) (x : A) → Ok x ≡ ok_or o e → o ≡ Some x
ok_or-some None e x h = absurd (cc)
ok_or-some (Some y) e x h = cc

pub ok_or-none : {A : Type 0} (o : Option A) (e d : Refusal) → Err d ≡ ok_or o e → (o ≡ None) × (d ≡ e)
ok_or-none None e d h = (refl, cc)
ok_or-none (Some y) e d h = absurd (cc)

pub none-no : {A : Type 0} (b : Bool) (a : A) → None ≡ read_if b a → b ≡ false
none-no true a e = absurd (cc)
none-no false a e = refl

pub some-yes : {A : Type 0} (b : Bool) (a y : A) → Some y ≡ read_if b a → (b ≡ true) × (y ≡ a)
some-yes true a y e = (refl, cc)
some-yes false a y e = absurd (cc)

pub some-is : {A : Type 0} (o : Option A) (b : Bool) → b ≡ is_some o → b ≡ true → (x : A) × (o ≡ Some x)
some-is None b e h = absurd (false-true (sym e ∙ h))
some-is (Some x) b e h = (x, refl)

pub none-is : {A : Type 0} (o : Option A) (b : Bool) → b ≡ is_some o → b ≡ false → o ≡ None
none-is None b e h = refl
none-is (Some x) b e h = absurd (false-true (sym h ∙ e))

pub line-no : {A : Type 0} (q p : Bool) (a : A) (e : Refusal) → Err e ≡ read_line q p a → (number e ≡ first_no (ask 4 q ∷ ask 5 p ∷ [])) × (number e ≡ 0 → ⊥)
unfolding first_no
line-no true true a e h = absurd (cc)
line-no true false a e h = let i : e ≡ Form = cc in rw i (refl, λ z. omega (arith, z))
line-no false p a e h = let i : e ≡ Fields = cc in rw i (refl, λ z. omega (arith, z))

-- A row that is read by itself: questions 4 and 5 have yeses.
pub record LineRead {A : Type 0} (q p : Bool) (a y : A) : Type 0 where
  pub four : q ≡ true
  pub five : p ≡ true
  pub is : y ≡ a

pub line-yes : {A : Type 0} (q p : Bool) (a y : A) → Ok y ≡ read_line q p a → LineRead q p a y
line-yes true true a y h = record { four = refl; five = refl; is = cc }
line-yes true false a y h = absurd (cc)
line-yes false p a y h = absurd (cc)

-- ---- the four fields behind an item's name

module _ (a b c d : List ℕ) where
  pub form-kind : is_kind a ≡ false → None ≡ read_if (vertex_form (a ∷ b ∷ c ∷ d ∷ [])) (vertex_from (a ∷ b ∷ c ∷ d ∷ []))
  unfolding vertex_form
  form-kind e = rw e

  pub form-start : is_kind a ≡ true → is_value b ≡ false → None ≡ read_if (vertex_form (a ∷ b ∷ c ∷ d ∷ [])) (vertex_from (a ∷ b ∷ c ∷ d ∷ []))
  unfolding vertex_form
  form-start e f = rw (e, f)

  pub form-loss : is_kind a ≡ true → is_value b ≡ true → is_value c ≡ false → None ≡ read_if (vertex_form (a ∷ b ∷ c ∷ d ∷ [])) (vertex_from (a ∷ b ∷ c ∷ d ∷ []))
  unfolding vertex_form
  form-loss e f g = rw (e, f, g)

  pub form-number : is_kind a ≡ true → is_value b ≡ true → is_value c ≡ true → is_number_to largest d ≡ false → None ≡ read_if (vertex_form (a ∷ b ∷ c ∷ d ∷ [])) (vertex_from (a ∷ b ∷ c ∷ d ∷ []))
  unfolding vertex_form
  form-number e f g h = rw (e, f, g, number-to 9 d (omega arith), h)

  pub form-rank : is_kind a ≡ true → is_value b ≡ true → is_value c ≡ true → is_number_to largest d ≡ true → 9 < number_of d
      → None ≡ read_if (vertex_form (a ∷ b ∷ c ∷ d ∷ [])) (vertex_from (a ∷ b ∷ c ∷ d ∷ []))
  unfolding vertex_form
  form-rank e f g h r = rw (e, f, g, number-to 9 d (omega arith), h, lt-leb (number_of d) 9 r)

  pub form-yes : is_kind a ≡ true → is_value b ≡ true → is_value c ≡ true → is_number_to largest d ≡ true → number_of d ≤ 9
      → Some (record { kind = kind_of a; start = field_value b; loss = field_value c; rank = number_of d }) ≡ read_if (vertex_form (a ∷ b ∷ c ∷ d ∷ [])) (vertex_from (a ∷ b ∷ c ∷ d ∷ []))
  unfolding vertex_form vertex_from
  form-yes e f g h r = rw (e, f, g, number-to 9 d (omega arith), h, le-leb (number_of d) 9 r)

  -- ---- the four fields of an edge row

  pub ends-from : is_name a ≡ false → None ≡ read_if (question5_edge (a ∷ b ∷ c ∷ d ∷ [])) (edge_line (a ∷ b ∷ c ∷ d ∷ []))
  unfolding question5_edge
  ends-from e = rw e

  pub ends-to : is_name a ≡ true → is_name b ≡ false → None ≡ read_if (question5_edge (a ∷ b ∷ c ∷ d ∷ [])) (edge_line (a ∷ b ∷ c ∷ d ∷ []))
  unfolding question5_edge
  ends-to e f = rw (e, f)

  pub ends-number : is_name a ≡ true → is_name b ≡ true → is_number_to largest c ≡ false → None ≡ read_if (question5_edge (a ∷ b ∷ c ∷ d ∷ [])) (edge_line (a ∷ b ∷ c ∷ d ∷ []))
  unfolding question5_edge
  ends-number e f g = rw (e, f, number-to 7 c (omega arith), g)

  pub ends-no-colour : is_name a ≡ true → is_name b ≡ true → is_number_to largest c ≡ true → 7 < number_of c → None ≡ read_if (question5_edge (a ∷ b ∷ c ∷ d ∷ [])) (edge_line (a ∷ b ∷ c ∷ d ∷ []))
  unfolding question5_edge
  ends-no-colour e f g r = rw (e, f, number-to 7 c (omega arith), g, lt-leb (number_of c) 7 r)

  module _ (e : is_name a ≡ true) (f : is_name b ≡ true) (g : is_number_to largest c ≡ true) where
    pub ends-mark : is_number_to largest d ≡ false → None ≡ read_if (question5_edge (a ∷ b ∷ c ∷ d ∷ [])) (edge_line (a ∷ b ∷ c ∷ d ∷ []))
    unfolding question5_edge
    ends-mark h =
        by_test (leb (number_of c) 7) (λ t. rw (e, f, number-to 7 c (omega arith), g, t, number-to 1 d (omega arith), h)) (λ t. rw (e, f, number-to 7 c (omega arith), g, t))

    module _ (r : number_of c ≤ 7) (h : is_number_to largest d ≡ true) where
      pub ends-no-mark : 1 < number_of d → None ≡ read_if (question5_edge (a ∷ b ∷ c ∷ d ∷ [])) (edge_line (a ∷ b ∷ c ∷ d ∷ []))
      unfolding question5_edge
      ends-no-mark q = rw (e, f, number-to 7 c (omega arith), g, le-leb (number_of c) 7 r, number-to 1 d (omega arith), h, lt-leb (number_of d) 1 q)

      pub ends-yes : number_of d ≤ 1
          → Some (record { from = key_of a; to = key_of b; colour = number_of c; rec = eqb (number_of d) 1 }) ≡ read_if (question5_edge (a ∷ b ∷ c ∷ d ∷ [])) (edge_line (a ∷ b ∷ c ∷ d ∷ []))
      unfolding question5_edge edge_of
      ends-yes q = rw (e, f, number-to 7 c (omega arith), g, le-leb (number_of c) 7 r, number-to 1 d (omega arith), h, le-leb (number_of d) 1 q)

-- ---- the name and the fields behind it

row-form : (f : List ℕ) (gs : List (List ℕ)) → question5_item (f ∷ gs) ≡ (is_name f && vertex_form gs)
unfolding question5_item vertex_form
row-form f gs = by_test (is_name f) (λ e. rw e) (λ e. rw e)

module _ (l : List ℕ) (e : ℕ) (s : Stepped l 0 e) where
  gs : List (List ℕ)
  gs = fields_of (drop (e + 1) l)

  fields : fields_of l ≡ take e l ∷ gs
  unfolding gs
  fields = s.fields ∙ rw (sub-zero e)

  pub behind-no : (x : Refusal) → Err x ≡ read_line (question4 4 (fields_of (drop (e + 1) l))) (vertex_form (fields_of (drop (e + 1) l))) (vertex_from (fields_of (drop (e + 1) l)))
      → Err x ≡ read_line (question4 5 (fields_of l)) (question5_item (fields_of l)) (item_line (fields_of l))
  unfolding gs
  behind-no x h =
      by_test (question4 4 gs)
      (λ q. by_test (vertex_form gs)
      (λ p. absurd (let k : Err x ≡ Ok (vertex_from gs) = rw (q, p) at h in cc))
      (λ p. let k : Err x ≡ Err Form = rw (q, p) at h in by_test (is_name (take e l)) (λ n. rw (s.question 3, fields, row-form (take e l) gs, q, p, n) (ap Err (let i : x ≡ Form = cc in i))) (λ n. rw (s.question 3, fields, row-form (take e l) gs, q, n) (ap Err (let i : x ≡ Form = cc in i)))))
      (λ q. let k : Err x ≡ Err Fields = rw q at h in rw (s.question 3, q) (ap Err (let i : x ≡ Fields = cc in i)))

  module _ (v : Vertex) (h : LineRead (question4 4 (fields_of (drop (e + 1) l))) (vertex_form (fields_of (drop (e + 1) l))) (vertex_from (fields_of (drop (e + 1) l))) v) where
    pub name-no : is_name (take e l) ≡ false → Err Form ≡ read_line (question4 5 (fields_of l)) (question5_item (fields_of l)) (item_line (fields_of l))
    unfolding gs
    name-no n = rw (s.question 3, fields, row-form (take e l) gs, h.four, n)

    pub name-yes : is_name (take e l) ≡ true → Ok (record { key = key_of (take e l); vertex = v }) ≡ read_line (question4 5 (fields_of l)) (question5_item (fields_of l)) (item_line (fields_of l))
    unfolding gs item_of vertex_from
    name-yes n = rw (s.question 3, fields, row-form (take e l) gs, h.four, n, h.five, h.is)
