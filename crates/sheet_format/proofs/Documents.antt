-- The lines of rows as data: their text is the lines put together, and where the rows are valid, each line is passed.
-- Assumes nothing.
use mathlib.Core.Path.{◌≡◌, refl, sym, ap, ap₂, ◌∙◌, subst}
use mathlib.Core.List.{List, [], ◌∷◌, ◌++◌, map, append_assoc, append-nil}
use mathlib.Core.Bool.{true, false, not}
use mathlib.Core.Logic.{⊎_elim}
use Prim.Native.Nat.{ℕ, suc, ◌+◌, ◌≤◌}
use native.Mathlib.Omega.{arith}
use lib.ListN.{length, length-append}
use lib.Seq.{append_snoc}
use lib.Dec.{eqb}
use borrow.Author.Tests.{le-leb, not-true}
use Rattle.setup.specs.Setup.{given, total}
use Rattle.sheet_format.specs.Text.{is_empty, all, fields_of}
use Rattle.sheet_format.specs.Fields.{is_name}
use Rattle.sheet_format.specs.Rows.{ItemRow, EdgeRow, Doc, Each, Apart, Known, SameName, SameEdge, ValidItem, ValidEdge, start_count, loss_count, first_header, second_header, item_fields, edge_fields, item_lines, edge_lines, render, Valid}
use Rattle.sheet_format.specs.Questions.{is_text_byte, question3, question6, question7_item, question7_edge, question8, question9, question10, is_known, is_repeated}
use Rattle.sheet_format.specs.Read.{Phase, AmongItems, AmongEdges, Place, with_item, with_row, item_questions, edge_questions, questions_of, behind}
use Rattle.sheet_format.specs.Meaning.{start, asked_at, OnlyYeses, Passed}
use Rattle.sheet_format.proofs.Lists.{each_append, each_right, each_map, each-image, apart-at}
use Rattle.setup.proofs.Counts.{total-append}
use Rattle.vertex_set.proofs.Decisions.{and_both, yes_of}
use Rattle.sheet_format.proofs.Tests.{same_refl, all-decided, known-decided, fresh-decided, single-decided}
use Rattle.sheet_format.proofs.Lines.{Without, joined, joined-append, spaced, line-text}
use Rattle.sheet_format.proofs.Fields.{Plain}
use Rattle.sheet_format.proofs.Rows.{plain-line, plain-bytes, plain-fields, plain-some, plain-yes4, item_line, item-plain, item-written, item-yes5, edge_line, NamedEdge, edge-plain, edge-written, edge-yes5}

-- ---- the lines of rows

abbrev pub doc_lines : Doc → List (List ℕ)
doc_lines d = first_header ∷ (map item_line d.items ++ ([] ∷ second_header ∷ map edge_line d.edges))

items-joined : (xs : List ItemRow) → joined (map item_line xs) ≡ item_lines xs
unfolding item_lines
items-joined [] = refl
items-joined (x ∷ xs) =
    ap (λ (s : List ℕ). item_line x ++ (10 ∷ s)) (items-joined xs) ∙ sym (append_assoc (item_line x) (10 ∷ []) (item_lines xs)) ∙
    ap (λ (s : List ℕ). s ++ item_lines xs) (sym (line-text (item_fields x)))

edges-joined : (es : List EdgeRow) → joined (map edge_line es) ≡ edge_lines es
unfolding edge_lines
edges-joined [] = refl
edges-joined (e ∷ es) =
    ap (λ (s : List ℕ). edge_line e ++ (10 ∷ s)) (edges-joined es) ∙ sym (append_assoc (edge_line e) (10 ∷ []) (edge_lines es)) ∙
    ap (λ (s : List ℕ). s ++ edge_lines es) (sym (line-text (edge_fields e)))

pub doc-joined : (d : Doc) → joined (doc_lines d) ≡ render d
unfolding render
doc-joined d =
    ap (λ (s : List ℕ). first_header ++ (10 ∷ s))
    (joined-append (map item_line d.items) ([] ∷ second_header ∷ map edge_line d.edges) ∙
    ap₂ (λ (s t : List ℕ). s ++ (10 ∷ (second_header ++ (10 ∷ t)))) (items-joined d.items) (edges-joined d.edges))

-- ---- valid rows, items and edges apart

pub record ItemsHold (xs : List ItemRow) : Type 0 where
  pub most : length xs ≤ 64
  pub items : Each ValidItem xs
  pub names : Apart SameName xs
  pub starts : start_count xs ≤ 14
  pub losses : loss_count xs ≤ 14

pub record EdgesHold (xs : List ItemRow) (es : List EdgeRow) : Type 0 where
  pub edges : Each (ValidEdge xs) es
  pub rows : Apart SameEdge es
  pub many : length es ≤ 256

pub items_of : (d : Doc) → Valid d → ItemsHold d.items
items_of d v = record { most = v.most; items = v.items; names = v.names; starts = v.starts; losses = v.losses }

pub edges-of : (d : Doc) → Valid d → EdgesHold d.items d.edges
edges-of d v = record { edges = v.edges; rows = v.rows; many = v.many }

-- ---- the lines of valid rows are lines of a text

known-name : (xs : List ItemRow) (n : List ℕ) → Each ValidItem xs → Known xs n → is_name n ≡ true
known-name [] n h k = absurd k
known-name (x ∷ xs) n h k = ⊎_elim (λ e. subst (λ (m : List ℕ). is_name m ≡ true) e h.0.name) (known-name xs n h.1) k

pub named-edge : (xs : List ItemRow) (e : EdgeRow) → Each ValidItem xs → ValidEdge xs e → NamedEdge e
named-edge xs e h v =
    record { from = known-name xs e.from h v.from; to = known-name xs e.to h v.to; colour = v.colour }

-- A line of a text.
pub record Clean (l : List ℕ) : Type 0 where
  pub without : Without 10 l
  pub bytes : all is_text_byte l ≡ true

plain-clean : (fs : List (List ℕ)) → Each Plain fs → Clean (spaced fs)
plain-clean fs h = record { without = plain-line fs h; bytes = plain-bytes fs h }

no-lf : (l : List ℕ) → all (λ b. not (eqb b 10)) l ≡ true → Without 10 l
no-lf l e = each_map (λ b. not (eqb b 10) ≡ true) (λ b. eqb b 10 ≡ false) (λ b h. not-true (eqb b 10) h) l ((all-decided (λ b. not (eqb b 10)) l).yes e)

clean-empty : Clean []
unfolding all
clean-empty = record { without = tt; bytes = refl }

clean-first : Clean first_header
unfolding all is_text_byte first_header
clean-first = record { without = no-lf first_header refl; bytes = refl }

clean-second : Clean second_header
unfolding all is_text_byte second_header
clean-second = record { without = no-lf second_header refl; bytes = refl }

items-clean : (xs : List ItemRow) → Each ValidItem xs → Each Clean (map item_line xs)
items-clean xs h =
    each-image Clean item_line xs (each_map ValidItem (λ x. Clean (item_line x)) (λ x v. plain-clean (item_fields x) (item-plain x v)) xs h)

edges-clean : (xs : List ItemRow) (es : List EdgeRow) → Each ValidItem xs → Each (ValidEdge xs) es → Each Clean (map edge_line es)
edges-clean xs es i h =
    each-image Clean edge_line es
    (each_map (ValidEdge xs) (λ e. Clean (edge_line e)) (λ e v. plain-clean (edge_fields e) (edge-plain e (named-edge xs e i v))) es h)

pub doc-clean : (d : Doc) → Valid d → Each Clean (doc_lines d)
doc-clean d v =
    let edges = edges-clean d.items d.edges v.items v.edges in
    (clean-first, each_append Clean (map item_line d.items) _ (items-clean d.items v.items) (clean-empty, (clean-second, edges)))

-- ---- valid item rows are passed

abbrev pub place : Phase → List ItemRow → List EdgeRow → Place
place p xs es = record { phase = p; above = record { items = xs; edges = es } }

pub item_back : (x : ItemRow) → ValidItem x → fields_of (item_line x) ≡ item_fields x
item_back x v = plain-fields x.name _ (item-plain x v)

next-item : (d : Doc) (x : ItemRow) → ValidItem x → behind AmongItems d (item_line x) ≡ record { phase = AmongItems; above = with_item d x }
unfolding behind
next-item d x v =
    rw (plain-some x.name _ _ (item-plain x v).0, item_back x v, item-written x v)

-- The questions 6 and 7 of the row x below the rows p.
item-yes6 : (p : List ItemRow) (es : List EdgeRow) (x : ItemRow) (xs : List ItemRow) → ItemsHold (p ++ (x ∷ xs)) → question6 (record { items = p; edges = es }) x ≡ true
unfolding question6
item-yes6 p es x xs h = yes_of (not (is_known p x.name)) (fresh-decided p x) (apart-at SameName p x xs h.names)

item-yes7 : (p : List ItemRow) (es : List EdgeRow) (x : ItemRow) (xs : List ItemRow) → ItemsHold (p ++ (x ∷ xs)) → question7_item (record { items = p; edges = es }) x ≡ true
unfolding question7_item start_count loss_count
item-yes7 p es x xs h =
    let l = length-append p (x ∷ xs) in
    let s = total-append (λ y. given y.start) p (x ∷ xs) in
    let t = total-append (λ y. given y.loss) p (x ∷ xs) in
    let m = h.most in
    let a : total (λ y. given y.start) (p ++ (x ∷ xs)) ≤ 14 = h.starts in
    let b : total (λ y. given y.loss) (p ++ (x ∷ xs)) ≤ 14 = h.losses in
    rw (le-leb (suc (length p)) 64 (omega arith), le-leb (start_count p + given x.start) 14 (omega arith), le-leb (loss_count p + given x.loss) 14 (omega arith))

pub item-yeses : (p : List ItemRow) (es : List EdgeRow) (x : ItemRow) (xs : List ItemRow) → ItemsHold (p ++ (x ∷ xs)) → OnlyYeses (asked_at (place AmongItems p es) (item_line x))
unfolding questions_of item_questions
item-yeses p es x xs h =
    let v = (each_right ValidItem p (x ∷ xs) h.items).0 in
    rw (plain-some x.name _ _ (item-plain x v).0, item_back x v, item-written x v)
    (plain-yes4 5 (item_fields x) refl (item-plain x v), (item-yes5 x v, (item-yes6 p es x xs h, (item-yes7 p es x xs h, tt))))

-- Item rows that hold together with those above them are passed.
items-passed : (p xs : List ItemRow) (es : List EdgeRow) (rest : List (List ℕ)) (q : Place) → ItemsHold (p ++ xs) → Passed (place AmongItems (p ++ xs) es) rest q → Passed (place AmongItems p es) (map item_line xs ++ rest) q
items-passed p [] es rest q h r = subst (λ (ys : List ItemRow). Passed (place AmongItems ys es) rest q) (append-nil p) r
items-passed p (x ∷ xs) es rest q h r =
    let v = (each_right ValidItem p (x ∷ xs) h.items).0 in
    let e = sym (append_snoc p x xs) in (
      item-yeses p es x xs h,
      subst (λ (m : Place). Passed m (map item_line xs ++ rest) q) (sym (next-item (record { items = p; edges = es }) x v))
          (items-passed (p ++ (x ∷ [])) xs es rest q (subst ItemsHold e h) (subst (λ (ys : List ItemRow). Passed (place AmongItems ys es) rest q) e r)),
    )

-- ---- valid edge rows are passed

pub edge-back : (e : EdgeRow) → NamedEdge e → fields_of (edge_line e) ≡ edge_fields e
edge-back e v = plain-fields e.from _ (edge-plain e v)

next_edge : (d : Doc) (e : EdgeRow) → NamedEdge e → behind AmongEdges d (edge_line e) ≡ record { phase = AmongEdges; above = with_row d e }
unfolding behind
next_edge d e v = rw (edge-back e v, edge-written e v)

edge-yes8 : (xs : List ItemRow) (p : List EdgeRow) (e : EdgeRow) → ValidEdge xs e → question8 (record { items = xs; edges = p }) e ≡ true
unfolding question8
edge-yes8 xs p e v =
    and_both (is_known xs e.from) (is_known xs e.to) (yes_of (is_known xs e.from) (known-decided xs e.from) v.from)
    (yes_of (is_known xs e.to) (known-decided xs e.to) v.to)

edge-yes9 : (xs : List ItemRow) (p : List EdgeRow) (e : EdgeRow) (es : List EdgeRow) → EdgesHold xs (p ++ (e ∷ es)) → question9 (record { items = xs; edges = p }) e ≡ true
unfolding question9
edge-yes9 xs p e es h = yes_of (not (is_repeated p e)) (single-decided p e) (apart-at SameEdge p e es h.rows)

edge-yes7 : (xs : List ItemRow) (p : List EdgeRow) (e : EdgeRow) (es : List EdgeRow) → EdgesHold xs (p ++ (e ∷ es)) → question7_edge (record { items = xs; edges = p }) ≡ true
unfolding question7_edge
edge-yes7 xs p e es h =
    let l = length-append p (e ∷ es) in
    let m = h.many in
    le-leb (suc (length p)) 256 (omega arith)

pub edge-yeses : (xs : List ItemRow) (p : List EdgeRow) (e : EdgeRow) (es : List EdgeRow) → Each ValidItem xs → EdgesHold xs (p ++ (e ∷ es)) → OnlyYeses (asked_at (place AmongEdges xs p) (edge_line e))
unfolding questions_of edge_questions
edge-yeses xs p e es i h =
    let v = (each_right (ValidEdge xs) p (e ∷ es) h.edges).0 in
    let n = named-edge xs e i v in
    rw (edge-back e n, edge-written e n)
    (plain-yes4 4 (edge_fields e) refl (edge-plain e n), (edge-yes5 e n, (edge-yes8 xs p e v, (edge-yes9 xs p e es h, (edge-yes7 xs p e es h, tt)))))

edges-passed : (xs : List ItemRow) (p es : List EdgeRow) → Each ValidItem xs → EdgesHold xs (p ++ es) → Passed (place AmongEdges xs p) (map edge_line es) (place AmongEdges xs (p ++ es))
edges-passed xs p [] i h = ap (place AmongEdges xs) (sym (append-nil p))
edges-passed xs p (e ∷ es) i h =
    let v = (each_right (ValidEdge xs) p (e ∷ es) h.edges).0 in
    let s = append_snoc p e es in (
      edge-yeses xs p e es i h,
      subst (λ (m : Place). Passed m (map edge_line es) (place AmongEdges xs (p ++ (e ∷ es)))) (sym (next_edge (record { items = xs; edges = p }) e (named-edge xs e i v)))
          (subst (λ (fs : List EdgeRow). Passed (place AmongEdges xs (p ++ (e ∷ []))) (map edge_line es) (place AmongEdges xs fs)) s
          (edges-passed xs (p ++ (e ∷ [])) es i (subst (EdgesHold xs) (sym s) h))),
    )

-- ---- the whole

second-passed : (d : Doc) → Valid d → Passed (place AmongItems d.items []) ([] ∷ second_header ∷ map edge_line d.edges) (place AmongEdges d.items d.edges)
unfolding questions_of behind is_empty question3 question10
second-passed d v =
    ((le-leb 1 (length d.items) v.some, tt), ((same_refl second_header, tt), edges-passed d.items [] d.edges v.items (edges-of d v)))

-- The lines of valid rows lead from the start to their end.
pub valid-passed : (d : Doc) → Valid d → Passed start (doc_lines d) (record { phase = AmongEdges; above = d })
unfolding questions_of behind question3
valid-passed d v =
    ((same_refl first_header, tt), items-passed [] d.items [] _ _ (items_of d v) (second-passed d v))
