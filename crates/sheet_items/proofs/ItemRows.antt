-- The loop over the item rows: what it has when it stands at a place of the sheet, and each of its turns.
-- Assumes nothing.
use mathlib.Core.Path.{◌≡◌, refl, sym, ap, ◌∙◌}
use mathlib.Core.List.{List, [], ◌∷◌, ◌++◌, map, map-append, append_assoc}
use mathlib.Core.Bool.{true, false}
use Prim.Native.Nat.{ℕ, zero, suc, ◌+◌, ◌-◌, ◌≤◌, ◌<◌}
use native.Mathlib.Nat.{not-suc-le-zero}
use native.Mathlib.Numerals.{add-one}
use native.Mathlib.Omega.{arith}
use lib.ListN.{length, take, drop, set, replicate, length-drop, length-set, length-append, length-map}
use lib.Seq.{take-suc-set, set_at}
use Rattle.setup.specs.declared.Vertex.{Vertex}
use Rattle.setup.specs.Setup.{unused_vertex, total, given}
use Rattle.setup.proofs.Counts.{total-append}
use Rattle.sheet_format.specs.Text.{lines_of, fields_of, is_empty}
use Rattle.sheet_format.specs.Fields.{is_name}
use Rattle.sheet_format.specs.Rows.{ItemRow, Doc, start_count, loss_count, vertex_of, vertices_of}
use Rattle.sheet_format.specs.Questions.{question4, question5_item, item_of}
use Rattle.sheet_format.specs.Read.{AmongItems, AtSecondHeader, first_no, no_rows, item_questions, refused, read_lines, question11}
use Rattle.sheet_format.proofs.Lists.{each_append}
use Rattle.sheet_fields.specs.declared.Key.{Key}
use Rattle.sheet_fields.specs.Inner.Parts.{until}
use Rattle.sheet_rows.specs.declared.TakenItem.{TakenItem}
use Rattle.sheet_rows.specs.Inner.NameKeys.{low_of, high_of, WellNamed, NameKeys}
use Rattle.sheet_rows.specs.Inner.Lines.{ItemTaken, TakesItem}
use Rattle.sheet_rows.specs.declared.ItemKeys.{ItemKeys}
use Rattle.sheet_rows.proofs.Asks.{all_yes}
use Rattle.sheet_rows.proofs.Taking.{item-name}
use Rattle.std.specs.Prelude.{Result, Ok, Err}
use Rattle.std.proofs.lemmas.Result.{IfOk-at_ok}
use Rattle.questions.specs.declared.Refusal.{Refusal}
use Rattle.questions.specs.Refusals.{number}
use Rattle.questions.specs.Inner.{asked}
use Rattle.questions.proofs.Refusals.{number_some}
use Rattle.sheet_items.specs.Inner.Items.{ItemsTaken}
use Rattle.sheet_fields.proofs.Lines.{line_at, lines-over}
use Rattle.sheet_lines.proofs.Reading.{empty-no, empty-yes, item-no, item-yes, over_no}

-- ---- one row more

total-more : (f : ItemRow → ℕ) (xs : List ItemRow) (x : ItemRow) → total f (xs ++ (x ∷ [])) ≡ total f xs + f x
total-more f xs x = let e = total-append f xs (x ∷ []) in omega arith

keys-more : (f : ItemRow → ℕ) (xs : List ItemRow) (x : ItemRow) (keys : List ℕ) (n k : ℕ) → n < length keys → take n keys ≡ map f xs → k ≡ f x
    → take (n + 1) (set keys n k) ≡ map f (xs ++ (x ∷ []))
keys-more f xs x keys n k h e q = rw (add-one n, take-suc-set keys n k h, e, q) (sym (map-append f xs (x ∷ [])))

-- the next place gets the row's vertex
places-more : (xs : List ItemRow) (x : ItemRow) → length xs < 64 → set (vertices_of xs) (length xs) (vertex_of x) ≡ vertices_of (xs ++ (x ∷ []))
unfolding vertices_of
places-more xs x h =
    let e : 64 - length xs ≡ suc (64 - (length xs + 1)) = omega arith in
    let l = length-append xs (x ∷ []) in
    let m : length (xs ++ (x ∷ [])) ≡ length xs + 1 = omega arith in
    rw (e, m, map-append vertex_of xs (x ∷ []))
    (set_at (map vertex_of xs) unused_vertex (replicate (64 - (length xs + 1)) unused_vertex) (vertex_of x) (length xs) (length-map xs vertex_of)
    ∙ sym (append_assoc (map vertex_of xs) (vertex_of x ∷ []) (replicate (64 - (length xs + 1)) unused_vertex)))

-- ---- the loop

abbrev pub doc_of : List ItemRow → Doc
doc_of xs = record { items = xs; edges = [] }

-- At the place `at`, the rows above are kept in the lists and counts, and the reading of all lines is that of the lines from here on.
pub record SoFar (s : List ℕ) (start : ℕ) (vertices : List Vertex) (low high : List ℕ) (count starts losses at : ℕ) : Type 0 where
  pub items : List ItemRow
  pub table : NameKeys items low high count
  pub most : count ≤ 64
  pub lows : length low ≡ 64
  pub highs : length high ≡ 64
  pub places : vertices ≡ vertices_of items
  pub starting : starts ≡ start_count items
  pub losable : losses ≡ loss_count items
  pub within : (starts ≤ 14) × (losses ≤ 14)
  pub reading : read_lines AmongItems no_rows 2 (lines_of (drop start s)) ≡ read_lines AmongItems (doc_of items) (count + 2) (lines_of (drop at s))

pub so-far-none : (s : List ℕ) (start : ℕ) (low high : List ℕ) → length low ≡ 64 → length high ≡ 64 → SoFar s start (replicate 64 unused_vertex) low high 0 0 0 start
unfolding vertices_of start_count loss_count
so-far-none s start low high p q =
    record {
      items = [];
      table = record { size = refl; lows = refl; highs = refl; named = tt };
      most = omega arith;
      lows = p;
      highs = q;
      places = refl;
      starting = refl;
      losable = refl;
      within = (omega arith, omega arith);
      reading = refl;
    }

some-line : (n : ℕ) (l : List ℕ) → 0 < n → 0 < length l → is_empty (take n l) ≡ false
unfolding is_empty
some-line zero l p h = absurd (not-suc-le-zero p)
some-line (suc n) [] p h = absurd (not-suc-le-zero h)
some-line (suc n) (b ∷ l) p h = refl

module _ (s : List ℕ) (start : ℕ) (vertices : List Vertex) (low high : List ℕ) (count starts losses at : ℕ)
    (f : SoFar s start vertices low high count starts losses at) where
  pub over : length s ≤ at → read_lines AmongItems no_rows 2 (lines_of (drop start s)) ≡ refused 11 (count + 2)
  unfolding question11
  over h = f.reading ∙ rw (lines-over s at h) (over_no AmongItems (doc_of f.items) (count + 2) refl)

  module _ (inside : at < length s) (e : ℕ) (found : e ≡ at + until 10 (drop at s)) where
    abbrev pub line : List ℕ
    line = take (e - at) (drop at s)

    here : read_lines AmongItems no_rows 2 (lines_of (drop start s)) ≡ read_lines AmongItems (doc_of f.items) (count + 2) (line ∷ lines_of (drop (e + 1) s))
    here = f.reading ∙ ap (read_lines AmongItems (doc_of f.items) (count + 2)) (line_at s at e inside found)

    empty-line : e ≡ at → is_empty line ≡ true
    unfolding is_empty
    empty-line q = let z : e - at ≡ 0 = omega arith in rw z

    pub none : e ≡ at → count ≡ 0 → read_lines AmongItems no_rows 2 (lines_of (drop start s)) ≡ refused 10 (count + 2)
    none q z = here ∙ empty-no (doc_of f.items) (count + 2) line (lines_of (drop (e + 1) s)) (empty-line q) (sym f.table.size ∙ z)

    pub some : (keys : ItemKeys) → keys.low ≡ low → keys.high ≡ high → keys.count ≡ count → e ≡ at → (count ≡ 0 → ⊥)
        → ItemsTaken s start (record { line = count + 2; at = e + 1; vertices = vertices; keys = keys })
    some keys l h c q n =
        record {
          items = f.items;
          table = rw (l, h, c) f.table;
          above = omega (arith, f.most);
          vertices = f.places;
          reading =
              here ∙ empty-yes (doc_of f.items) (count + 2) line (lines_of (drop (e + 1) s)) (empty-line q) (λ y. n (f.table.size ∙ y))
              ∙ ap (λ (k : ℕ). read_lines AtSecondHeader (doc_of f.items) k (lines_of (drop (e + 1) s))) (sym (add-one (count + 2)));
        }

    module _ (full : e ≡ at → ⊥) (r : Result TakenItem Refusal) (takes : TakesItem line low high count starts losses r) where
      full-line : is_empty line ≡ false
      full-line =
          let d = length-drop at s in
          some-line (e - at) (drop at s) (omega (arith, full)) (omega arith)

      asked-is : asked r ≡ first_no (item_questions (doc_of f.items) (fields_of line))
      asked-is = takes.number (doc_of f.items) f.table f.starting f.losable

      pub refused-row : (x : Refusal) → r ≡ Err x → read_lines AmongItems no_rows 2 (lines_of (drop start s)) ≡ refused (number x) (count + 2)
      refused-row x i =
          here ∙ item-no (doc_of f.items) (count + 2) line (lines_of (drop (e + 1) s)) (number x) full-line (rw i at asked-is) (number_some x)

      module _ (x : TakenItem) (ok : r ≡ Ok x) where
        zero-is : 0 ≡ first_no (item_questions (doc_of f.items) (fields_of line))
        zero-is = rw ok at asked-is

        took : ItemTaken line count starts losses x
        took = IfOk-at_ok (ItemTaken line count starts losses) ok takes.taken

        pub has-room : count < 64
        has-room = took.room

        row : ItemRow
        row = item_of (fields_of line)

        named : is_name row.name ≡ true
        unfolding row item_questions
        named =
            item-name (fields_of line) (all_yes 5 (question5_item (fields_of line)) _ (omega arith)
            (all_yes 4 (question4 5 (fields_of line)) _ (omega arith) (sym zero-is)).1).0

        pub taken-row : SoFar s start (set vertices count x.vertex) (set low count x.key.low) (set high count x.key.high) (count + 1) x.starts x.losses (e + 1)
        unfolding row start_count loss_count
        taken-row =
            let room = took.room in
            let size = f.table.size in
            let k = took.key in
            record {
              items = f.items ++ (row ∷ []);
              table = record {
                size = let l = length-append f.items (row ∷ []) in omega arith;
                lows = keys-more low_of f.items row low count x.key.low (omega (arith, f.lows)) f.table.lows (ap (λ (q : Key). q.low) k);
                highs = keys-more high_of f.items row high count x.key.high (omega (arith, f.highs)) f.table.highs (ap (λ (q : Key). q.high) k);
                named = each_append WellNamed f.items (row ∷ []) f.table.named (named, tt);
              };
              most = omega arith;
              lows = length-set low count x.key.low ∙ f.lows;
              highs = length-set high count x.key.high ∙ f.highs;
              places = rw (f.places, took.vertex, size) (places-more f.items row (rw size at room));
              starting = took.more_starts ∙ rw f.starting (sym (total-more (λ x. given x.start) f.items row));
              losable = took.more_losses ∙ rw f.losable (sym (total-more (λ x. given x.loss) f.items row));
              within = took.within;
              reading =
                  here ∙ item-yes (doc_of f.items) (count + 2) line (lines_of (drop (e + 1) s)) full-line zero-is
                  ∙ ap (λ (i : ℕ). read_lines AmongItems (doc_of (f.items ++ (row ∷ []))) i (lines_of (drop (e + 1) s))) (let i : suc (count + 2) ≡ count + 1 + 2 = omega arith in i);
            }
