-- The theorems of specs/Meaning: what is accepted is the written form of valid rows, and what a refusal says.
-- Assumes nothing.
use mathlib.Core.Path.{◌≡◌, refl, sym, ap, ◌∙◌, subst}
use mathlib.Core.List.{List, [], ◌∷◌}
use mathlib.Core.Bool.{true}
use mathlib.Core.Logic.{◌⊎◌, inl, inr, ⊎_elim}
use Prim.Native.Nat.{ℕ, ◌≤◌}
use native.Mathlib.Omega.{arith}
use lib.ListN.{length}
use borrow.Author.Tests.{le-leb, leb-true}
use Rattle.setup.specs.Bounds.{most_bytes}
use Rattle.setup.specs.declared.Setup.{Setup}
use Rattle.sheet_format.specs.Read.{Reading}
use Rattle.sheet_format.specs.Text.{lines_of, all}
use Rattle.sheet_format.specs.Rows.{Doc, Valid, render, vertices_of, with_edges, recovery_rows, setup_of}
use Rattle.sheet_format.specs.Questions.{question1, is_text_byte, ends_in_lf, question2}
use Rattle.sheet_format.specs.Read.{AmongEdges, Place, no_rows, refused, question11, read_sheet}
use Rattle.sheet_format.specs.Meaning.{AcceptedOfValid, ValidOfAccepted, start, next, Passed, Refusal, RefusalLaw, RefusalUnique, EmptySetup, Accepted, Refused, AcceptedOrRefused}
use Rattle.sheet_format.proofs.Lists.{each_map}
use Rattle.vertex_set.proofs.Decisions.{and_parts}
use Rattle.sheet_format.proofs.Lines.{Without, joined, lines-joined, joined-lines, joined-text}
use Rattle.sheet_format.proofs.Documents.{doc_lines, doc-joined, Clean, doc-clean, valid-passed}
use Rattle.sheet_format.proofs.Origins.{Origin, origin}
use Rattle.sheet_format.proofs.Refusals.{AllPassed, read-accepted, read-refused, refusal-number, Ending, accepts, refuses, ending}

-- ---- the written form of valid rows

pub render-lines : (d : Doc) → Valid d → lines_of (render d) ≡ doc_lines d
render-lines d v =
    ap lines_of (sym (doc-joined d)) ∙ lines-joined (doc_lines d) (each_map Clean (Without 10) (λ l c. c.without) (doc_lines d) (doc-clean d v))

render-text : (d : Doc) → Valid d → question2 (render d) ≡ true
render-text d v =
    subst (λ (s : List ℕ). question2 s ≡ true) (doc-joined d)
    (joined-text (doc_lines d) (omega arith) (each_map Clean (λ l. all is_text_byte l ≡ true) (λ l c. c.bytes) (doc_lines d) (doc-clean d v)))

pub valid-read : (d : Doc) → Valid d → AllPassed (render d) (record { phase = AmongEdges; above = d })
unfolding question1
valid-read d v =
    record {
      yes1 = le-leb (length (render d)) most_bytes v.text;
      yes2 = render-text d v;
      passed = rw (render-lines d v) (valid-passed d v);
    }

-- The written form of valid rows is accepted, and yields their setup.
pub accepted-of-valid : AcceptedOfValid
unfolding question11
accepted-of-valid d v = read-accepted (render d) (record { phase = AmongEdges; above = d }) (valid-read d v) refl

-- A text is the written form of one document's rows alone: reading finds them.
passed-once : (p : Place) (lines : List (List ℕ)) (q r : Place) → Passed p lines q → Passed p lines r → q ≡ r
passed-once p [] q r a b = sym a ∙ b
passed-once p (line ∷ lines) q r a b = passed-once (next p line) lines q r a.1 b.1

pub rows-unique : (d e : Doc) → Valid d → Valid e → render d ≡ render e → d ≡ e
rows-unique d e v w h =
    ap (λ (p : Place). p.above)
    (passed-once start (lines_of (render d)) (record { phase = AmongEdges; above = d }) (record { phase = AmongEdges; above = e }) (valid-read d v).passed
    (subst (λ (t : List ℕ). Passed start (lines_of t) (record { phase = AmongEdges; above = e })) (sym h) (valid-read e w).passed))

-- ---- accepted texts

-- A text all of whose lines are passed is the written form of the rows read, and these are valid.
module _ (s : List ℕ) (q : Place) (h : AllPassed s q) (e : question11 q.phase ≡ true) where
  from-rows : Origin (lines_of s) q.above
  from-rows = origin (lines_of s) q h.passed e

  text-rows : s ≡ render q.above
  unfolding question2
  text-rows =
      joined-lines s (and_parts (all is_text_byte s) (ends_in_lf s) h.yes2).1 ∙ ap joined from-rows.lines ∙ doc-joined q.above

  valid-rows : Valid q.above
  unfolding question1
  valid-rows =
      record {
        some = from-rows.some;
        most = from-rows.items.most;
        items = from-rows.items.items;
        names = from-rows.items.names;
        starts = from-rows.items.starts;
        losses = from-rows.items.losses;
        edges = from-rows.edges.edges;
        rows = from-rows.edges.rows;
        many = from-rows.edges.many;
        text = subst (λ (t : List ℕ). length t ≤ most_bytes) text-rows (leb-true (length s) most_bytes h.yes1);
      }

number_same : (q k q' k' : ℕ) (r : Reading) → r ≡ refused q k → r ≡ refused q' k' → (q ≡ q') × (k ≡ k')
number_same q k q' k' r a b = (ap (λ (x : Reading). x.number) (sym a ∙ b), ap (λ (x : Reading). x.line) (sym a ∙ b))

-- Every accepted text is the written form of valid rows, whose setup it yields.
pub valid-of-accepted : ValidOfAccepted
valid-of-accepted s st a = by (ending s)
  where
    by : Ending s → (d : Doc) × Valid d × (s ≡ render d) × (st ≡ setup_of d)
    by (accepts q h e) =
        (q.above, valid-rows s q h e, text-rows s q h e, ap (λ (x : Reading). x.setup) (sym a ∙ read-accepted s q h e))
    by (refuses q k r) =
        absurd (let n = refusal-number s q k r in let z : 0 ≡ q = ap (λ (x : Reading). x.number) (sym a ∙ read-refused s q k r) in omega arith)

-- ---- refusals

-- The setup of valid rows has an item.
never-empty : (d : Doc) → Valid d → setup_of d ≡ setup_of no_rows → ⊥
unfolding setup_of
never-empty d v e = let n = v.some in let z : length d.items ≡ 0 = ap (λ (x : Setup). x.count) e in omega arith

-- A text is refused with a number and a line exactly where they mean that.
pub refusal-law : RefusalLaw
refusal-law s q k = record { to = λ a. by a (ending s); from = read-refused s q k }
  where
    by : read_sheet s ≡ refused q k → Ending s → Refusal s q k
    by a (accepts p h e) =
        absurd (never-empty p.above (valid-rows s p h e) (ap (λ (x : Reading). x.setup) (sym (read-accepted s p h e) ∙ a)))
    by a (refuses q' k' r) =
        let n = number_same q' k' q k (read_sheet s) (read-refused s q' k' r) a in
        subst (λ (j : ℕ). Refusal s q j) n.1 (subst (λ (p : ℕ). Refusal s p k') n.0 r)

-- Number and line are determined.
pub refusal-unique : RefusalUnique
refusal-unique s q k q' k' a b = number_same q k q' k' (read_sheet s) (read-refused s q k a) (read-refused s q' k' b)

-- The setup of a refused sheet.
pub empty-setup : EmptySetup
unfolding setup_of vertices_of with_edges recovery_rows
empty-setup = refl

-- Every text is accepted or refused, and none is both.
pub accepted-or-refused : AcceptedOrRefused
accepted-or-refused =
    record {
      either = λ s. by s (ending s);
      never = λ s a r. let l = r.least in let z : 0 ≡ r.number = ap (λ (x : Reading). x.number) (sym a.reading ∙ r.reading) in omega arith;
    }
  where
    by : (s : List ℕ) → Ending s → Accepted s ⊎ Refused s
    by s (accepts q h e) = inl (record { setup = setup_of q.above; reading = read-accepted s q h e })
    by s (refuses q k r) =
        let n = refusal-number s q k r in
        inr (record { number = q; line = k; least = n.0; most = n.1; reading = read-refused s q k r })

-- The number of a reading is one of the questions 1 to 11, or 0.
pub number-most : (s : List ℕ) → (read_sheet s).number ≤ 11
number-most s =
    ⊎_elim
    (λ (a : Accepted s). let e = ap (λ (r : Reading). r.number) a.reading in omega arith)
    (λ (d : Refused s). let e = ap (λ (r : Reading). r.number) d.reading in let m = d.most in omega arith)
    (accepted-or-refused.either s)
