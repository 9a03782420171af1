-- What is left of the report, and what comes next.
-- Assumes nothing.
use mathlib.Core.Path.{◌≡◌, refl, sym, ap, ◌∙◌}
use mathlib.Core.Bool.{Bool, true, false, cond}
use mathlib.Core.List.{List, [], ◌∷◌, ◌++◌, append_assoc}
use Prim.Native.Nat.{ℕ, zero, suc, ◌-◌, ◌*◌, ◌/◌, ◌%◌, ◌<◌}
use native.Mathlib.Omega.{arith}
use lib.ListN.{length, drop}
use lib.Seq.{drop-length}
use Rattle.vertex_set.proofs.Cases.{by_test}
use Rattle.setup.specs.declared.Setup.{Setup}
use Rattle.reference.specs.Tests.{filtered}
use Rattle.reference.specs.Bases.{base_of}
use Rattle.report_text.specs.Rows.{numbers_from, texts_of, list_header, score_header, pair_header}
use Rattle.report_text.specs.Report.{is_account, accounts_of, base_row, target_rows, list_section, finding_row, score_section, pair_rows, pair_section, accepted_report}
use Rattle.report_text.proofs.Items.{filtered-yes, filtered-no}
use Rattle.report_facts.specs.Texts.{slot_loss, slot_list, slot_row, slot_text, score_at, pairs_at}
use Rattle.report_writer.specs.Rest.{texts_from, pairs_from, scores_from, lists_from, rows_from}

-- ---- texts of numbers in a row

pub texts-next : (text : ℕ → List ℕ) (n k : ℕ) → k < n → texts_from text n k ≡ text k ++ texts_from text n (suc k)
unfolding texts_from texts_of numbers_from
texts-next text n k h =
    let e : n - k ≡ suc (n - suc k) = omega arith in
    rw e refl

pub texts-end : (text : ℕ → List ℕ) (n : ℕ) → texts_from text n n ≡ []
unfolding texts_from texts_of numbers_from
texts-end text n =
    let e : n - n ≡ 0 = omega arith in
    rw e refl

filtered-none : (test : ℕ → Bool) → filtered test [] ≡ []
unfolding filtered
filtered-none test = refl

-- an element that fails the test has the empty text
texts-filtered : (test : ℕ → Bool) (text : ℕ → List ℕ) (l : List ℕ) → texts_of text (filtered test l) ≡ texts_of (λ (x : ℕ). cond (test x) (text x) []) l
unfolding texts_of
texts-filtered test text [] = ap (texts_of text) (filtered-none test)
texts-filtered test text (x ∷ l) =
    by_test
    (test x)
    (λ e. rw (filtered-yes test x l e, e) (ap (λ r. text x ++ r) (texts-filtered test text l)))
    (λ e. rw (filtered-no test x l e, e) (texts-filtered test text l))

-- ---- the lists by their numbers

module _ (name : ℕ → List ℕ) (s : Setup) where
  abbrev target_text : ℕ → List ℕ
  target_text v = cond (is_account s v) (target_rows name s v) []

  -- the two lists of a vertex
  slot-text : (loss : Bool) (k v : ℕ) → slot_loss k ≡ loss → k / 2 ≡ v
      → slot_text name s k ≡ texts_of (base_row name s loss v) (cond (is_account s v) (base_of loss s s.graph v) [])
  unfolding slot_text slot_row slot_list
  slot-text loss k v p q = rw (p, q) refl

  slots-of : (v : ℕ) → slot_text name s (2 * v) ++ slot_text name s (suc (2 * v)) ≡ target_text v
  unfolding target_rows texts_of
  slots-of v =
      let a : 2 * v % 2 ≡ 0 = omega arith in
      let b : suc (2 * v) % 2 ≡ 1 = omega arith in
      rw (slot-text false (2 * v) v (rw a refl) (omega arith), slot-text true (suc (2 * v)) v (rw b refl) (omega arith))
      (by_test (is_account s v) (λ e. rw e refl) (λ e. rw e refl))

  slots : (v n : ℕ) → texts_of (slot_text name s) (numbers_from (2 * v) (2 * n)) ≡ texts_of target_text (numbers_from v n)
  unfolding texts_of numbers_from
  slots v zero = refl
  slots v (suc n) =
      let e : 2 * suc n ≡ suc (suc (2 * n)) = omega arith in
      let f : suc (suc (2 * v)) ≡ 2 * suc v = omega arith in
      rw (e, f, slots (suc v) n, ← slots-of v) (sym (append_assoc (slot_text name s (2 * v)) (slot_text name s (suc (2 * v))) _))

  pub lists-section : list_section name s ≡ list_header ++ texts_from (slot_text name s) (2 * s.count) 0
  unfolding list_section accounts_of texts_from
  lists-section =
      let e : 2 * s.count - 0 ≡ 2 * s.count = omega arith in
      rw e (ap (λ r. list_header ++ r) (texts-filtered (is_account s) (target_rows name s) (numbers_from 0 s.count) ∙ sym (slots 0 s.count)))

  pub score-section : score_section name s ≡ score_header ++ texts_from (score_at name s) s.count 0
  unfolding score_section accounts_of texts_from score_at
  score-section =
      let e : s.count - 0 ≡ s.count = omega arith in
      rw e (ap (λ r. score_header ++ r) (texts-filtered (is_account s) (finding_row name s) (numbers_from 0 s.count)))

  pub pair-section : pair_section name s ≡ pair_header ++ pairs_from name s 0
  unfolding pair_section accounts_of pairs_from texts_from pairs_at
  pair-section =
      let e : s.count - 0 ≡ s.count = omega arith in
      rw e (ap (λ r. pair_header ++ r) (texts-filtered (is_account s) (pair_rows name s) (numbers_from 0 s.count)))

  -- ---- what comes next

  pub start-next : accepted_report name s ≡ list_header ++ lists_from name s 0
  unfolding accepted_report lists_from
  start-next = rw (lists-section) (append_assoc list_header _ _)

  pub list-next : (k : ℕ) → k < 2 * s.count → lists_from name s k ≡ rows_from name s k 0
  unfolding lists_from rows_from slot_text
  list-next k h = rw (texts-next (slot_text name s) (2 * s.count) k h) (append_assoc (slot_text name s k) _ _)

  pub lists-end : lists_from name s (2 * s.count) ≡ (10 ∷ score_header) ++ scores_from name s 0
  unfolding lists_from scores_from
  lists-end =
      rw (texts-end (slot_text name s) (2 * s.count), score-section) (ap (λ r. 10 ∷ r) (append_assoc score_header _ _))

  -- rows of the list k go on from row i to row j
  pub rows_next : (k i j : ℕ) (part : List ℕ) → texts_of (slot_row name s k) (drop i (slot_list s k)) ≡ part ++ texts_of (slot_row name s k) (drop j (slot_list s k))
      → rows_from name s k i ≡ part ++ rows_from name s k j
  unfolding rows_from
  rows_next k i j part e = rw e (append_assoc part _ _)

  pub rows_end : (k i : ℕ) → length (slot_list s k) ≡ i → rows_from name s k i ≡ lists_from name s (suc k)
  unfolding rows_from texts_of
  rows_end k i e = rw (← e, drop-length (slot_list s k)) refl

  pub score-next : (v : ℕ) → v < s.count → scores_from name s v ≡ score_at name s v ++ scores_from name s (suc v)
  unfolding scores_from
  score-next v h = rw (texts-next (score_at name s) s.count v h) (append_assoc (score_at name s v) _ _)

  pub scores-end : scores_from name s s.count ≡ (10 ∷ pair_header) ++ pairs_from name s 0
  unfolding scores_from
  scores-end = rw (texts-end (score_at name s) s.count, pair-section) refl

  pub pairs_next : (v : ℕ) → v < s.count → pairs_from name s v ≡ pairs_at name s v ++ pairs_from name s (suc v)
  unfolding pairs_from
  pairs_next v h = texts-next (pairs_at name s) s.count v h

  pub pairs_end : pairs_from name s s.count ≡ []
  unfolding pairs_from
  pairs_end = texts-end (pairs_at name s) s.count
