-- What is written of a vertex is its part of the report, whichever setup the facts are of.
-- Assumes nothing.
use mathlib.Core.Path.{◌≡◌, refl, sym, ap, ◌∙◌}
use mathlib.Core.Bool.{Bool, true, false, ◌&&◌}
use mathlib.Core.List.{List, [], ◌∷◌}
use mathlib.Core.Logic.{inl, inr}
use Prim.Native.Nat.{ℕ, zero, suc, ◌+◌, ◌^◌, ◌≤◌, ◌<◌}
use native.Mathlib.Omega.{arith}
use lib.ListN.{length, get_or}
use Rattle.vertex_set.specs.Set.{Member, Decides, Iff}
use Rattle.vertex_set.specs.Order.{Listed}
use Rattle.vertex_set.proofs.Cases.{by_test}
use Rattle.vertex_set.proofs.Decisions.{decide_iff, decide-and}
use Rattle.scores.specs.Inner.Lists.{security_at, recoverability_at}
use Rattle.setup.specs.declared.Setup.{Setup}
use Rattle.written.specs.Rows.{RowWritten}
use Rattle.written.proofs.Writing.{wrote_none}
use Rattle.written.proofs.Rows.{row_written}
use Rattle.reference.specs.Tests.{filtered, is_member}
use Rattle.reference.proofs.Tests.{by-decision, decide-member}
use Rattle.findings.proofs.Unique.{decided-once}
use Rattle.report_text.specs.Rows.{numbers_from, texts_of, items_of, score_row, pair_row}
use Rattle.sheet_format.specs.Names.{name_of}
use Rattle.report_text.specs.Report.{is_account, is_backdoor, is_idle, is_out_of_rank, below_of, accounts_of, finding_row, pair_rows}
use Rattle.report_text.proofs.Items.{filtered-no}
use Rattle.report_text.proofs.Meaning.{decide_true}
use Rattle.report_text.proofs.Lengths.{score-row-length}
use Rattle.report_text.proofs.Numbers.{listed-numbers}
use Rattle.report_rows.specs.Inner.Writing.{SetNamePlaces}
use Rattle.report_facts.specs.declared.Facts.{Facts}
use Rattle.report_facts.specs.Inner.Facts.{FactsOf}
use Rattle.report_facts.specs.Texts.{score_at, pairs_at}
use Rattle.report_sections.specs.Inner.Parts.{PartReady, WrotePart, pairs_with}
use Rattle.report_sections.proofs.Pairs.{pairs-length}

-- ---- those of the numbers

-- Two tests, one after the other, are one.
filtered-filtered : (t u m : ℕ → Bool) (l : List ℕ) → ((w : ℕ) → Listed l w → m w ≡ u w && t w) → filtered t (filtered u l) ≡ filtered m l
unfolding filtered
filtered-filtered t u m [] h = refl
filtered-filtered t u m (w ∷ l) h =
    let ih = filtered-filtered t u m l (λ i k. h i (inr k)) in
    let e = h w (inl refl) in
    by_test (u w)
    (λ a. by_test (t w) (λ b. rw (e, a, b) (ap (λ (r : List ℕ). w ∷ r) ih)) (λ b. rw (e, a, b) ih))
    (λ a. rw (e, a) ih)

filtered-none : (m : ℕ → Bool) (k d : ℕ) → ((w : ℕ) → k ≤ w → m w ≡ false) → filtered m (numbers_from k d) ≡ []
unfolding filtered numbers_from
filtered-none m k zero h = refl
filtered-none m k (suc d) h = filtered-no m k (numbers_from (suc k) d) (h k (omega arith)) ∙ filtered-none m (suc k) d (λ w l. h w (omega arith))

-- Where no number from k + n on passes, n numbers are as good as more.
filtered-cut : (m : ℕ → Bool) (k n more : ℕ) → n ≤ more → ((w : ℕ) → k + n ≤ w → m w ≡ false)
    → filtered m (numbers_from k n) ≡ filtered m (numbers_from k more)
unfolding filtered numbers_from
filtered-cut m k zero more l h = sym (filtered-none m k more (λ w q. h w (omega arith)))
filtered-cut m k (suc n) zero l h = absurd (omega arith)
filtered-cut m k (suc n) (suc more) l h =
    let ih = filtered-cut m (suc k) n more (omega arith) (λ w q. h w (omega arith)) in
    by_test (m k) (λ e. rw e (ap (λ (r : List ℕ). k ∷ r) ih)) (λ e. rw e ih)

-- ---- answers

-- A decision of what a test says is the test's answer.
same_answer : {P : Type 0} (a b : Bool) → Iff P (b ≡ true) → Decides P a → b ≡ a
same_answer a b f d = decided-once b a (decide_true b) (decide_iff f d)

-- ---- any part

-- A part is written where the text of v is the same for all setups that the facts are of.
pub part-wrote : (text : (ℕ → List ℕ) → Setup → ℕ → List ℕ) (sheet : List ℕ) (f : Facts) (v : ℕ) (entry : List ℕ) (at : ℕ) (row exit : List ℕ) (r : ℕ)
    → ((s : Setup) → FactsOf sheet s f → v < s.count → text (name_of sheet) s v ≡ row) → at + length row ≤ length entry → RowWritten entry at row exit r
    → WrotePart text sheet f v entry at exit r
part-wrote text sheet f v entry at row exit r same room w =
    record {
      each = λ s g h. rw (same s g h) w;
      inside = omega (arith, w.many, w.others.2);
    }

pub part-empty : (text : (ℕ → List ℕ) → Setup → ℕ → List ℕ) (sheet : List ℕ) (f : Facts) (v : ℕ) (entry : List ℕ) (at : ℕ)
    → ((s : Setup) → FactsOf sheet s f → v < s.count → text (name_of sheet) s v ≡ []) → PartReady sheet f v entry at
    → WrotePart text sheet f v entry at entry at
part-empty text sheet f v entry at same p =
    let room : at + 0 ≤ length entry = omega (arith, p.room) in
    part-wrote text sheet f v entry at [] entry at same room (row_written entry at [] entry at (wrote_none entry at) room)

-- ---- the parts of a vertex

module _ (sheet : List ℕ) (f : Facts) (v : ℕ) where
  -- no account
  no-account : (Member f.accounts.0 v → ⊥) → (s : Setup) → FactsOf sheet s f → v < s.count → is_account s v ≡ false
  no-account n s g h = by_test (is_account s v) (λ e. absurd (n ((g.accounts v h).from e))) (λ e. e)

  pub no-score : (Member f.accounts.0 v → ⊥) → (s : Setup) → FactsOf sheet s f → v < s.count → score_at (name_of sheet) s v ≡ []
  unfolding score_at
  no-score n s g h = rw (no-account n s g h)

  pub no_pairs : (Member f.accounts.0 v → ⊥) → (s : Setup) → FactsOf sheet s f → v < s.count → pairs_at (name_of sheet) s v ≡ []
  unfolding pairs_at
  no_pairs n s g h = rw (no-account n s g h)

  -- an account
  pub score-text : (score risk : ℕ) (back idle : Bool) → score ≡ security_at f.scores v → risk ≡ recoverability_at f.risks v → Member f.accounts.0 v → Decides (Member f.back.0 v) back → Decides (Member f.idle.0 v) idle
      → (s : Setup) → FactsOf sheet s f → v < s.count
      → score_at (name_of sheet) s v ≡ score_row (name_of sheet) v score risk back idle
  unfolding score_at finding_row
  score-text score risk back idle p q m b i s g h =
      rw (
        p,
        q,
        (g.accounts v h).to m,
        ← (g.scores v h),
        ← (g.risks v h),
        same_answer back (is_backdoor s v) (g.back v h) b,
        same_answer idle (is_idle s v) (g.idle v h) i,
      )

  -- the accounts that are out of rank with v above are the vertices of its set
  below-list : (s : Setup) → FactsOf sheet s f → v < s.count → below_of s v ≡ items_of (get_or f.below v 0)
  unfolding below_of accounts_of items_of
  below-list s g h =
      let x : ℕ = get_or f.below v 0 in
      filtered-filtered (is_out_of_rank s v) (is_account s) (is_member x) (numbers_from 0 s.count)
      (λ w m. decided-once (is_member x w) (is_account s w && is_out_of_rank s v w)
      (decide_iff (g.pairs v w h (omega (arith, ((listed-numbers 0 s.count w).to m).1))) (decide-member x w))
      (decide-and (is_account s w) (is_out_of_rank s v w) (decide_true (is_account s w)) (decide_true (is_out_of_rank s v w))))
      ∙ filtered-cut (is_member x) 0 s.count 64 g.formed.most
      (λ w l. by-decision (is_member x w) (decide-member x w) (λ e m. let q = g.within v w h m in absurd (omega arith)) (λ e n. e))

  pub pairs-text : Member f.accounts.0 v → (s : Setup) → FactsOf sheet s f → v < s.count
      → pairs_at (name_of sheet) s v ≡ pairs_with (name_of sheet) v (get_or f.below v 0)
  unfolding pairs_at pair_rows pairs_with
  pairs-text m s g h = rw ((g.accounts v h).to m) (ap (texts_of (pair_row (name_of sheet) v)) (below-list s g h))

  -- ---- what is asked for at the calls
  module _ (out : List ℕ) (at : ℕ) (p : PartReady sheet f v out at) where
    pub score-room : (score risk : ℕ) (back idle : Bool) → score < 2 ^ 64 → risk < 2 ^ 64
        → at + length (score_row (name_of sheet) v score risk back idle) ≤ length out
    score-room score risk back idle a b =
        let l = score-row-length (name_of sheet) v score risk back idle a b (p.facts.short v p.vertex) in
        omega (arith, p.room)

    pub below_names : SetNamePlaces sheet f.from f.to (get_or f.below v 0)
    below_names = record { each = λ w m. p.facts.names w (p.facts.within v w p.vertex m) }

    pub below-room : get_or f.below v 0 < 2 ^ 64 → at + length (pairs_with (name_of sheet) v (get_or f.below v 0)) ≤ length out
    below-room b =
        let l = pairs-length (name_of sheet) v (get_or f.below v 0) b (p.facts.short v p.vertex) (λ w m. p.facts.short w (p.facts.within v w p.vertex m)) in
        omega (arith, p.room)
