-- The rows of the list with a number.
-- Assumes nothing.
use mathlib.Core.Path.{◌≡◌, refl, sym, ap, subst, ◌∙◌}
use mathlib.Core.Bool.{Bool, true, false}
use mathlib.Core.List.{List, [], ◌∷◌, ◌++◌}
use Prim.Native.Nat.{ℕ, ◌+◌, ◌*◌, ◌/◌, ◌≤◌, ◌<◌}
use native.Mathlib.Omega.{arith}
use lib.Count.{ones}
use lib.ListN.{length, get_or, take, drop, length-take}
use lib.Seq.{get_or-take}
use Rattle.vertex_set.specs.Set.{Member}
use Rattle.vertex_set.specs.Order.{Listed, sum_over}
use Rattle.vertex_set.proofs.Cases.{by_test}
use Rattle.vertex_set.proofs.Places.{ones-within}
use Rattle.vertex_set.proofs.Sums.{sum-over-same}
use Rattle.vertex_set.proofs.Lists.{listed_at}
use Rattle.setup.specs.Bounds.{largest, most_chosen}
use Rattle.setup.specs.declared.Setup.{Setup}
use Rattle.setup.specs.Setup.{Chosen}
use Rattle.bases.specs.Base.{MinimalSet}
use Rattle.bases.specs.Inner.Readers.{Values}
use Rattle.bases.specs.Score.{points_at}
use Rattle.bases.proofs.Formed.{few, points-range, sums-hold}
use Rattle.reference.proofs.Graphs.{chosen-below}
use Rattle.report_text.specs.Rows.{texts_of, set_row}
use Rattle.sheet_format.specs.Names.{name_of}
use Rattle.report_text.specs.Report.{is_account, base_row}
use Rattle.report_text.proofs.Meaning.{report-meaning}
use Rattle.report_facts.specs.declared.Facts.{Facts}
use Rattle.report_facts.specs.Inner.Facts.{FactsOf}
use Rattle.report_facts.specs.Texts.{slot_loss, slot_list, slot_row}
use Rattle.report_sections.specs.Inner.Lists.{SetReady, RowsReady, row_of_set, RowsPut, set_rows_from}
use Rattle.report_writer.specs.Inner.Steps.{ValuesBy, CanPutList, ListPut}
use Rattle.report_writer.proofs.Rest.{rows_next}

-- ---- the values that are added up

pub values-losses : (loss : Bool) (f : Facts) → loss ≡ true → ValuesBy loss f f.losses
values-losses loss f e = rw e (record { each = λ sheet s h. h.losses })

pub values-starts : (loss : Bool) (f : Facts) → loss ≡ false → ValuesBy loss f f.starts
values-starts loss f e = rw e (record { each = λ sheet s h. h.starts })

-- ---- the sets of a list can be written

module _ (sheet : List ℕ) (s : Setup) (f : Facts) (h : FactsOf sheet s f) where
  few-chosen : (loss : Bool) (x : ℕ) → ((v : ℕ) → Member x v → Chosen loss s v) → ones x ≤ 14
  few-chosen false x c =
      let l = ones-within x f.initial.0 (record { each = λ v m. (h.initial.each v).from (c v m) }) in
      let k = few false s f.initial.0 h.formed h.initial in
      omega arith
  few-chosen true x c =
      let l = ones-within x f.losable.0 (record { each = λ v m. (h.losable.each v).from (c v m) }) in
      let k = few true s f.losable.0 h.formed h.losable in
      omega arith

  set-ready : (loss : Bool) (target x : ℕ) → MinimalSet loss s s.graph target x → SetReady sheet f.from f.to x
  set-ready loss target x m =
      let c = m.is.chosen in
      record {
        few = few-chosen loss x c;
        names = record { each = λ v k. h.names v (chosen-below loss s h.formed v (c v k)) };
        short = λ v k. h.short v (chosen-below loss s h.formed v (c v k));
      }

  slot-minimal : (k x : ℕ) → Listed (slot_list s k) x → MinimalSet (slot_loss k) s s.graph (k / 2) x
  unfolding slot_list
  slot-minimal k x =
      by_test
      (is_account s (k / 2))
      (λ a. rw a (λ l. ((report-meaning s h.formed).base (slot_loss k) (k / 2)).sound x l))
      (λ a. rw a (λ l. absurd l))

  slot-ready : (k x : ℕ) → Listed (slot_list s k) x → SetReady sheet f.from f.to x
  slot-ready k x l = set-ready (slot_loss k) (k / 2) x (slot-minimal k x l)

  slot-sum : (values : List ℕ) (k x : ℕ) → Values (slot_loss k) s values → Listed (slot_list s k) x → sum_over (λ (v : ℕ). get_or values v 0) x ≤ most_chosen * largest
  slot-sum values k x vs l =
      rw (sum-over-same _ (points_at (slot_loss k) s) x vs.each) (sums-hold (slot_loss k) s x h.formed (slot-minimal k x l).is.chosen).0

module _ (sheet : List ℕ) (f : Facts) (list : List ℕ) (k i n : ℕ) (values : List ℕ)
    (v : ValuesBy (slot_loss k) f values) where
  pub list-ready : CanPutList sheet f list k i n → RowsReady sheet f.from f.to values list (k / 2) i n
  list-ready g =
      let s = g.setup in
      let h = g.here in
      let o = h.facts in
      let vs = v.each sheet s o in
      let below : k / 2 < s.count = omega (arith, h.number) in
      let most : n ≤ length list = omega (arith, h.most, h.room) in
      let stands : (j : ℕ) → j < n → Listed (slot_list s k) (get_or list j 0) = λ j l.
      subst (λ (t : List ℕ). Listed t (get_or list j 0)) h.here
      (subst (Listed (take n list)) (get_or-take n list j 0 l) (listed_at (take n list) j (omega (arith, length-take n list)))) in
      record {
        name = o.names (k / 2) below;
        short = o.short (k / 2) below;
        sets = λ j l. slot-ready sheet s f o k (get_or list j 0) (stands j l);
        long_values = vs.long;
        small = λ w. rw (vs.each w) (points-range (slot_loss k) s o.formed w);
        sums = λ j l. slot-sum sheet s f o values k (get_or list j 0) vs (stands j l);
        next = h.next;
        here = most;
      }

-- ---- and are written

texts-same : (f g : ℕ → List ℕ) → ((x : ℕ) → f x ≡ g x) → (l : List ℕ) → texts_of f l ≡ texts_of g l
unfolding texts_of
texts-same f g e [] = refl
texts-same f g e (x ∷ l) = rw (e x, texts-same f g e l) refl

row_same : (name : ℕ → List ℕ) (s : Setup) (loss : Bool) (target : ℕ) (values : List ℕ) → Values loss s values → (x : ℕ)
    → row_of_set name loss target values x ≡ base_row name s loss target x
unfolding row_of_set base_row
row_same name s loss target values v x = ap (set_row name loss target x) (sum-over-same _ _ x v.each)

rows_same : (name : ℕ → List ℕ) (s : Setup) (k : ℕ) (values list : List ℕ) (n i : ℕ) → Values (slot_loss k) s values → take n list ≡ slot_list s k
    → set_rows_from name (slot_loss k) (k / 2) values list n i ≡ texts_of (slot_row name s k) (drop i (slot_list s k))
unfolding set_rows_from slot_row
rows_same name s k values list n i v e = rw e (texts-same _ _ (row_same name s (slot_loss k) (k / 2) values v) (drop i (slot_list s k)))

module _ (sheet : List ℕ) (f : Facts) (list : List ℕ) (k i n : ℕ) (values : List ℕ) (v : ValuesBy (slot_loss k) f values)
    (entry : List ℕ) (at : ℕ) (exit : List ℕ) (row r : ℕ) where
  pub list-went : at + 4096 ≤ length entry → RowsPut (name_of sheet) (slot_loss k) (k / 2) values list i n entry at exit row r
      → ListPut sheet f list k i n entry at exit row r
  list-went room w =
      record {
        each = λ s h.
            let vs = v.each sheet s h.facts in
            let p = w.part in
            record {
              part = p.part;
              split = rows_next (name_of sheet) s k i row p.part
                  (sym (rows_same (name_of sheet) s k values list n i vs h.here) ∙ p.split ∙
                  ap (λ t. p.part ++ t) (rows_same (name_of sheet) s k values list n row vs h.here));
              wrote = p.wrote;
              inside = p.inside;
            };
        most = w.most;
        more = λ l. w.more l (omega arith);
      }
