-- The steps, each with what it writes and where the report goes on.
-- Assumes nothing.
use mathlib.Core.Path.{◌≡◌, refl, sym, ap, subst, ◌∙◌}
use mathlib.Core.Bool.{true, false}
use mathlib.Core.List.{List, [], ◌∷◌, ◌++◌, append-nil}
use mathlib.Core.Logic.{⊎_elim}
use Prim.Native.Nat.{ℕ, suc, ◌+◌, ◌*◌, ◌/◌, ◌≤◌, ◌<◌}
use native.Mathlib.Numerals.{add-one}
use native.Mathlib.Omega.{arith}
use lib.ListN.{length, take, drop, length-take, take-append-drop}
use lib.Seq.{length-take-le}
use Rattle.vertex_set.specs.Set.{Decides}
use Rattle.vertex_set.proofs.Cases.{less-or, false-true}
use Rattle.setup.specs.declared.Setup.{Setup}
use Rattle.setup.specs.Calls.{written}
use Rattle.bases.proofs.Formed.{few}
use Rattle.written.specs.Inner.{Wrote}
use Rattle.written.specs.Rows.{RowWritten}
use Rattle.written.proofs.Writing.{wrote-inside}
use Rattle.written.proofs.Rows.{row_wrote}
use Rattle.report_text.specs.Rows.{list_header, score_header, pair_header, refused_row}
use Rattle.sheet_format.specs.Names.{name_of}
use Rattle.report_text.proofs.Lengths.{refused-row-length}
use Rattle.report_facts.specs.declared.Facts.{Facts}
use Rattle.report_facts.specs.Inner.Facts.{FactsOf, TablesOf}
use Rattle.report_facts.specs.Texts.{slot_list, score_at, pairs_at}
use Rattle.report_facts.proofs.Parts.{part_none, part-one}
use Rattle.report_sections.specs.Inner.Parts.{PartReady, WrotePart}
use Rattle.report_sections.specs.Inner.Lists.{CanLoad, Loaded}
use Rattle.report_writer.specs.declared.steps.Cursor.{Cursor}
use Rattle.report_writer.specs.declared.steps.Cursor.TheVariants as cursor
use Rattle.report_writer.specs.declared.steps.Step.{Step}
use Rattle.report_writer.specs.Rest.{rows_from, lists_from, scores_from, pairs_from, rest_of}
use Rattle.report_writer.specs.Inner.Steps.{ListAt, ListPut, KnownAt, CanStep, steps_left, loaded_before, ListsLoaded, StepTaken, CanPutSection, SectionPut, ScoresPut, PairsPut}
use Rattle.report_writer.proofs.Rest.{start-next, list-next, lists-end, rows_end, score-next, scores-end, pairs_next, pairs_end}

-- ---- at which place a step is taken

module _ (sheet : List ℕ) (f : Facts) (opening lockout list : List ℕ) (c d : Cursor) (e : c ≡ d) where
  pub going-at : CanStep sheet f opening lockout list c → CanStep sheet f opening lockout list d
  going-at g = subst (CanStep sheet f opening lockout list) e g

  pub went-at : (entry : List ℕ) (at : ℕ) (list' exit : List ℕ) (r : Step) → StepTaken sheet f opening lockout list d entry at list' exit r
      → StepTaken sheet f opening lockout list c entry at list' exit r
  went-at entry at list' exit r w = subst (λ x. StepTaken sheet f opening lockout list x entry at list' exit r) (sym e) w

-- ---- lists

can-load : (sheet : List ℕ) (s : Setup) (f : Facts) (opening lockout list : List ℕ) (k : ℕ) → FactsOf sheet s f → TablesOf s f opening lockout → k < 2 * s.count
    → length list ≡ 16384 → CanLoad k f.initial.0 f.losable.0 opening lockout list
can-load sheet s f opening lockout list k h t l room =
    let m = h.formed.most in
    record {
      vertex = omega arith;
      few = few false s f.initial.0 h.formed h.initial;
      few_losable = few true s f.losable.0 h.formed h.losable;
      room = room;
      graph = s.graph;
      opens = t.opens;
      locks = t.locks;
    }

loaded-here : (sheet : List ℕ) (s : Setup) (f : Facts) (opening lockout entry : List ℕ) (k m : ℕ) (list : List ℕ) → FactsOf sheet s f → TablesOf s f opening lockout → k < 2 * s.count
    → Loaded k f.accounts.0 f.initial.0 f.losable.0 opening lockout entry m list → ListAt sheet s f list k 0 m
loaded-here sheet s f opening lockout entry k m list h t l d =
    record {
      facts = h;
      number = l;
      next = omega arith;
      most = d.most;
      room = d.room;
      here = d.each s h.formed h.initial h.losable t.opens t.locks (h.accounts (k / 2) (omega arith));
    }

-- what is loaded stands in front, and what was behind it stays
loaded-is : (sheet : List ℕ) (s : Setup) (f : Facts) (opening lockout entry : List ℕ) (k m : ℕ) (list : List ℕ) → FactsOf sheet s f → TablesOf s f opening lockout → k < 2 * s.count
    → Loaded k f.accounts.0 f.initial.0 f.losable.0 opening lockout entry m list → list ≡ written (slot_list s k) entry
loaded-is sheet s f opening lockout entry k m list h t l d =
    let a = loaded-here sheet s f opening lockout entry k m list h t l d in
    let n : m ≡ length (slot_list s k) = let e = length-take-le m list (let p = d.most in let q = d.room in omega arith) in sym e ∙ ap length a.here in
    sym (take-append-drop m list) ∙ ap (λ (x : List ℕ). x ++ drop m list) a.here ∙ ap (λ (x : List ℕ). slot_list s k ++ x) (d.behind ∙ ap (λ (j : ℕ). drop j entry) n)

-- a step that loads no list, and one that loads one
none-loaded : (s : Setup) (count : ℕ) (c d : Cursor) (list : List ℕ) → loaded_before count d ≡ loaded_before count c → ListsLoaded s count c d list list
none-loaded s count c d list e = record { many = 0; between = omega arith; list = refl }

one-loaded : (s : Setup) (count : ℕ) (c d : Cursor) (k : ℕ) (entry exit : List ℕ) → loaded_before count c ≡ k → loaded_before count d ≡ suc k → exit ≡ written (slot_list s k) entry
    → ListsLoaded s count c d entry exit
one-loaded s count c d k entry exit e n h = record { many = 1; between = omega arith; list = rw e h }

-- where all rows of a list stand, the next list follows
list_done : (name : ℕ → List ℕ) (s : Setup) (list : List ℕ) (k i n : ℕ) → i ≤ n → n ≤ i → n ≤ 16384 → length list ≡ 16384 → take n list ≡ slot_list s k
    → rows_from name s k i ≡ lists_from name s (suc k)
list_done name s list k i n a b m room e = rows_end name s k i (ap length (sym e) ∙ length-take n list ∙ omega arith)

module _ (sheet : List ℕ) (f : Facts) (opening lockout list : List ℕ) (k i n : ℕ) (entry : List ℕ) (at : ℕ) where
  pub rows_step : (exit : List ℕ) (row r : ℕ) → i < n → ListPut sheet f list k i n entry at exit row r
      → StepTaken sheet f opening lockout list (cursor.Lists k i n) entry at list exit (record { cursor = cursor.Lists k row n; at = r })
  rows_step exit row r l w =
      record {
        part = λ s a. w.each s a.0;
        here = λ s a.
            let h = a.0 in
            (record { facts = h.facts; number = h.number; next = w.most; most = h.most; room = h.room; here = h.here }, a.1);
        lists = λ s a. none-loaded s f.count _ _ list refl;
        less = λ z. let m = w.more l in let p = w.most in omega arith;
      }

  pub next-can-load : CanStep sheet f opening lockout list (cursor.Lists k i n) → k + 1 < 2 * f.count → CanLoad (k + 1) f.initial.0 f.losable.0 opening lockout list
  next-can-load g l =
      let h = g.here.0 in
      let e = h.facts.is_count in
      can-load sheet g.setup f opening lockout list (k + 1) h.facts g.here.1 (omega arith) h.room

  pub next-step : (m : ℕ) (list' : List ℕ) → n ≤ i → k + 1 < 2 * f.count → at + 4096 ≤ length entry
      → Loaded (k + 1) f.accounts.0 f.initial.0 f.losable.0 opening lockout list m list'
      → StepTaken sheet f opening lockout list (cursor.Lists k i n) entry at list' entry (record { cursor = cursor.Lists (k + 1) 0 m; at = at })
  next-step m list' b l room d =
      record {
        part = λ s a.
            let h = a.0 in
            let e = h.facts.is_count in
            let q = list_done (name_of sheet) s list k i n h.next b h.most h.room h.here ∙ list-next (name_of sheet) s (suc k) (omega arith) in
            rw (q, add-one k) (part_none entry at (rows_from (name_of sheet) s (suc k) 0) (omega arith));
        here = λ s a.
            let h = a.0 in
            let e = h.facts.is_count in
            (loaded-here sheet s f opening lockout list (k + 1) m list' h.facts a.1 (omega arith) d, a.1);
        lists = λ s a.
            let h = a.0 in
            let e = h.facts.is_count in
            one-loaded s f.count (cursor.Lists k i n) (cursor.Lists (k + 1) 0 m) (k + 1) list list' (sym (add-one k)) refl
            (loaded-is sheet s f opening lockout list (k + 1) m list' h.facts a.1 (omega arith) d);
        less = λ z. let q = d.most in omega arith;
      }

  pub header-step : (text exit : List ℕ) (r : ℕ) → text ≡ 10 ∷ score_header → CanStep sheet f opening lockout list (cursor.Lists k i n) → n ≤ i → 2 * f.count ≤ k + 1
      → at + length text ≤ length entry → Wrote entry at text exit r
      → StepTaken sheet f opening lockout list (cursor.Lists k i n) entry at list exit (record { cursor = cursor.Scores 0; at = r })
  header-step text exit r t g b l room w =
      record {
        part = λ s a.
            let h = a.0 in
            let e = h.facts.is_count in
            let u = h.number in
            let v : suc k ≡ 2 * s.count = omega arith in
            let q = list_done (name_of sheet) s list k i n h.next b h.most h.room h.here ∙ ap (lists_from (name_of sheet) s) v ∙ lists-end (name_of sheet) s in
            part-one entry at _ text _ exit r (q ∙ ap (λ y. y ++ scores_from (name_of sheet) s 0) (sym t)) w (wrote-inside entry at text exit r w room);
        here = λ s a. (a.0.facts, omega arith);
        lists = λ s a.
            let e = a.0.facts.is_count in
            let u = a.0.number in
            none-loaded s f.count (cursor.Lists k i n) (cursor.Scores 0) list (omega arith);
        less = λ z.
            let h = g.here.0 in
            let e = h.facts.is_count in
            let u = h.number in
            let m = h.facts.formed.most in
            omega arith;
      }

-- ---- scores and pairs

module _ (sheet : List ℕ) (f : Facts) (v : ℕ) (entry : List ℕ) (at : ℕ) where
  pub section-ready : CanPutSection sheet f v entry at → v < f.count → PartReady sheet f v entry at
  section-ready g l = let e = g.facts.is_count in record { setup = g.setup; facts = g.facts; vertex = omega arith; room = g.room }

  -- A section's step at a vertex: its part is written, and the report goes on at the next vertex.
  section-step : (row : (ℕ → List ℕ) → Setup → ℕ → List ℕ) (here next behind : Cursor) → ((s : Setup) → v < s.count → rest_of (name_of sheet) s here ≡ row (name_of sheet) s v ++ rest_of (name_of sheet) s next)
      → (exit : List ℕ) (r : ℕ) → v < f.count → WrotePart row sheet f v entry at exit r
      → SectionPut here next behind sheet f v entry at exit (record { cursor = next; at = r })
  section-step row here next behind first exit r l w =
      record {
        part = λ s h m.
            let e = h.is_count in
            let below : v < s.count = omega arith in
            part-one entry at _ (row (name_of sheet) s v) _ exit r (first s below) (row_wrote entry at _ exit r (w.each s h below)) w.inside;
        more = λ b. refl;
        last = λ b. absurd (omega arith);
      }

  pub score-step : (exit : List ℕ) (r : ℕ) → v < f.count → WrotePart score_at sheet f v entry at exit r
      → ScoresPut sheet f v entry at exit (record { cursor = cursor.Scores (v + 1); at = r })
  score-step = section-step score_at (cursor.Scores v) (cursor.Scores (v + 1)) (cursor.Pairs 0) (λ s b. rw (add-one v) (score-next (name_of sheet) s v b))

  pub pairs-step : (exit : List ℕ) (r : ℕ) → v < f.count → WrotePart pairs_at sheet f v entry at exit r
      → PairsPut sheet f v entry at exit (record { cursor = cursor.Pairs (v + 1); at = r })
  pairs-step = section-step pairs_at (cursor.Pairs v) (cursor.Pairs (v + 1)) cursor.End (λ s b. rw (add-one v) (pairs_next (name_of sheet) s v b))

  pub scores-last : (text exit : List ℕ) (r : ℕ) → text ≡ 10 ∷ pair_header → f.count ≤ v → at + length text ≤ length entry → Wrote entry at text exit r
      → ScoresPut sheet f v entry at exit (record { cursor = cursor.Pairs 0; at = r })
  scores-last text exit r t l room w =
      record {
        part = λ s h m.
            let e = h.is_count in
            let q : v ≡ s.count = omega arith in
            part-one entry at _ text _ exit r (ap (scores_from (name_of sheet) s) q ∙ scores-end (name_of sheet) s ∙ ap (λ y. y ++ pairs_from (name_of sheet) s 0) (sym t)) w
            (wrote-inside entry at text exit r w room);
        more = λ b. absurd (omega arith);
        last = λ b. refl;
      }

  pub pairs-last : f.count ≤ v → at + 4096 ≤ length entry → PairsPut sheet f v entry at entry (record { cursor = cursor.End; at = at })
  pairs-last l room =
      record {
        part = λ s h m.
            let e = h.is_count in
            let q : v ≡ s.count = omega arith in
            rw (q, pairs_end (name_of sheet) s) (part_none entry at [] (omega arith));
        more = λ b. absurd (omega arith);
        last = λ b. refl;
      }

module _ (sheet : List ℕ) (f : Facts) (opening lockout list : List ℕ) (v : ℕ) (entry : List ℕ) (at : ℕ) (exit : List ℕ) (r : Step) where
  -- What is known at `here`, and what must be at the two places where the report may go on.
  section-went : (here next behind : Cursor)
      → ((s : Setup) → KnownAt sheet s f opening lockout list here → FactsOf sheet s f × (v ≤ s.count))
      → ((s : Setup) → FactsOf sheet s f → v < s.count → KnownAt sheet s f opening lockout list next)
      → ((s : Setup) → FactsOf sheet s f → KnownAt sheet s f opening lockout list behind)
      → loaded_before f.count next ≡ loaded_before f.count here → loaded_before f.count behind ≡ loaded_before f.count here
      → (v < f.count → steps_left f.count next < steps_left f.count here) → (f.count ≤ v → steps_left f.count behind < steps_left f.count here)
      → SectionPut here next behind sheet f v entry at exit r → StepTaken sheet f opening lockout list here entry at list exit r
  section-went here next behind known goes ends same still down away w =
      record {
        part = λ s a. let k = known s a in w.part s k.0 k.1;
        here = λ s a.
            let k = known s a in
            let e = k.0.is_count in
            ⊎_elim
            (λ b. subst (KnownAt sheet s f opening lockout list) (sym (w.more b)) (goes s k.0 (omega arith)))
            (λ b. subst (KnownAt sheet s f opening lockout list) (sym (w.last b)) (ends s k.0))
            (less-or v f.count);
        lists = λ s a.
            ⊎_elim (λ b. none-loaded s f.count here r.cursor list (ap (loaded_before f.count) (w.more b) ∙ same))
            (λ b. none-loaded s f.count here r.cursor list (ap (loaded_before f.count) (w.last b) ∙ still)) (less-or v f.count);
        less = λ z. ⊎_elim (λ b. rw (w.more b) (down b)) (λ b. rw (w.last b) (away b)) (less-or v f.count);
      }

  pub scores-went : CanStep sheet f opening lockout list (cursor.Scores v) → ScoresPut sheet f v entry at exit r
      → StepTaken sheet f opening lockout list (cursor.Scores v) entry at list exit r
  scores-went g =
      let e = g.here.0.is_count in
      let m = g.here.0.formed.most in
      section-went (cursor.Scores v) (cursor.Scores (v + 1)) (cursor.Pairs 0) (λ s a. a) (λ s h b. (h, omega arith)) (λ s h. (h, omega arith)) refl refl
      (λ b. omega arith) (λ b. omega arith)

  pub pairs-went : PairsPut sheet f v entry at exit r → StepTaken sheet f opening lockout list (cursor.Pairs v) entry at list exit r
  pairs-went =
      section-went (cursor.Pairs v) (cursor.Pairs (v + 1)) cursor.End (λ s a. a) (λ s h b. (h, omega arith)) (λ s h. tt) refl refl (λ b. omega arith) (λ b. omega arith)

pub section-scores : (sheet : List ℕ) (f : Facts) (opening lockout list : List ℕ) (v : ℕ) (out : List ℕ) (at : ℕ)
    → CanStep sheet f opening lockout list (cursor.Scores v) → at + 4096 ≤ length out → CanPutSection sheet f v out at
section-scores sheet f opening lockout list v out at g room = record { setup = g.setup; facts = g.here.0; most = g.here.1; room = room }

pub section-pairs : (sheet : List ℕ) (f : Facts) (opening lockout list : List ℕ) (v : ℕ) (out : List ℕ) (at : ℕ)
    → CanStep sheet f opening lockout list (cursor.Pairs v) → at + 4096 ≤ length out → CanPutSection sheet f v out at
section-pairs sheet f opening lockout list v out at g room = record { setup = g.setup; facts = g.here.0; most = g.here.1; room = room }

-- ---- the first step, and that of a refused sheet

module _ (sheet : List ℕ) (f : Facts) (opening lockout list : List ℕ) (entry : List ℕ) (at : ℕ) where
  pub start-can-load : CanStep sheet f opening lockout list cursor.Start → CanLoad 0 f.initial.0 f.losable.0 opening lockout list
  start-can-load g =
      let h = g.here.0 in
      let z = h.formed.some in
      can-load sheet g.setup f opening lockout list 0 h g.here.1 (omega arith) g.here.2

  pub start-step : (text exit : List ℕ) (r m : ℕ) (list' : List ℕ) → text ≡ list_header → at + length text ≤ length entry → Wrote entry at text exit r
      → Loaded 0 f.accounts.0 f.initial.0 f.losable.0 opening lockout list m list'
      → StepTaken sheet f opening lockout list cursor.Start entry at list' exit (record { cursor = cursor.Lists 0 0 m; at = r })
  start-step text exit r m list' t room w d =
      record {
        part = λ s a.
            let z = a.0.formed.some in
            part-one entry at _ text _ exit r
            (start-next (name_of sheet) s ∙ ap (λ y. list_header ++ y) (list-next (name_of sheet) s 0 (omega arith)) ∙ ap (λ y. y ++ rows_from (name_of sheet) s 0 0) (sym t)) w
            (wrote-inside entry at text exit r w room);
        here = λ s a. let z = a.0.formed.some in (loaded-here sheet s f opening lockout list 0 m list' a.0 a.1 (omega arith) d, a.1);
        lists = λ s a.
            let z = a.0.formed.some in
            one-loaded s f.count cursor.Start (cursor.Lists 0 0 m) 0 list list' refl refl (loaded-is sheet s f opening lockout list 0 m list' a.0 a.1 (omega arith) d);
        less = λ z. let q = d.most in omega arith;
      }

  pub refused-fits : (number line : ℕ) → CanStep sheet f opening lockout list (cursor.Refused number line) → at + 4096 ≤ length entry
      → at + length (refused_row number line) ≤ length entry
  refused-fits number line g room = let l = refused-row-length number line g.here.0 g.here.1 in omega arith

  pub refused-step : (number line : ℕ) (exit : List ℕ) (r : ℕ) → at + length (refused_row number line) ≤ length entry → RowWritten entry at (refused_row number line) exit r
      → StepTaken sheet f opening lockout list (cursor.Refused number line) entry at list exit (record { cursor = cursor.End; at = r })
  refused-step number line exit r room w =
      let v = row_wrote entry at (refused_row number line) exit r w in
      record {
        part = λ s a. part-one entry at _ (refused_row number line) [] exit r (sym (append-nil (refused_row number line))) v (wrote-inside entry at _ exit r v room);
        here = λ s a. tt;
        lists = λ s a. none-loaded s f.count (cursor.Refused number line) cursor.End list refl;
        less = λ z. omega arith;
      }

  pub end_step : at + 4096 ≤ length entry → StepTaken sheet f opening lockout list cursor.End entry at list entry (record { cursor = cursor.End; at = at })
  end_step room =
      record { part = λ s a. part_none entry at [] (omega arith); here = λ s a. tt; lists = λ s a. none-loaded s f.count cursor.End cursor.End list refl; less = λ z. absurd (omega arith) }

-- ---- is something left?

pub still-going : (c d : Cursor) → c ≡ d → 0 < steps_left 0 d → Decides (c ≡ cursor.End → ⊥) true
still-going c d e l =
    record {
      yes = λ t p. let z = ap (steps_left 0) (sym e ∙ p) in omega arith;
      no = λ t. absurd (false-true (sym t));
    }

pub at-end : (c : Cursor) → c ≡ cursor.End → Decides (c ≡ cursor.End → ⊥) false
at-end c e = record { yes = λ t. absurd (false-true t); no = λ t h. h e }
