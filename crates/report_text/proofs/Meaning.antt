-- The definitions behind the report's text are the declared ones.
-- Assumes nothing.
use mathlib.Core.Path.{◌≡◌, refl, sym, ap, ◌∙◌, subst}
use mathlib.Core.Bool.{Bool, true, false}
use mathlib.Core.List.{List, [], ◌∷◌}
use Prim.Native.Nat.{ℕ, ◌+◌, ◌<◌}
use native.Mathlib.Omega.{arith}
use lib.Dec.{leb, ltb}
use Rattle.vertex_set.specs.Set.{Member, Iff, Decides}
use Rattle.vertex_set.specs.Order.{Listed, Rising}
use Rattle.vertex_set.proofs.Decisions.{decide-yes, decide-no, decide_iff, decide-leb, decide-ltb, decide-and}
use Rattle.vertex_set.proofs.Cases.{false-true}
use Rattle.vertex_set.proofs.Places.{places, listed-places, sorted-places}
use Rattle.vertex_set.proofs.Sorted.{Sorted}
use Rattle.setup.specs.declared.Kind.{Kind}
use Rattle.setup.specs.declared.Kind.TheVariants.{Credential, Account}
use Rattle.setup.specs.declared.Rows.{Rows}
use Rattle.setup.specs.declared.Graph.{Graph}
use Rattle.setup.specs.declared.Setup.{Setup}
use Rattle.setup.specs.Setup.{vertex_at, rows_at, row_of, row_less, WithoutRecovery}
use Rattle.formed.specs.WellFormed.{WellFormed}
use Rattle.setup.specs.Inner.{RowsLess}
use Rattle.setup.proofs.Recovery.{LessBelow, less-all, places-all}
use Rattle.formed.proofs.Vertices.{not-credential}
use Rattle.setup.proofs.Graphs.{graph_same}
use Rattle.bases.specs.Score.{Score}
use Rattle.reference.specs.Bases.{score_of}
use Rattle.reference.proofs.Tests.{listed-filtered, sorted-filtered}
use Rattle.reference.proofs.Graphs.{own-graph, graph-without}
use Rattle.reference.proofs.Meaning.{meaning}
use Rattle.findings.specs.Findings.{Compared, FindsBackdoor, FindsIneffective, FindsInconsistent}
use Rattle.report_text.specs.Rows.{numbers_from, items_of}
use Rattle.report_text.specs.Report.{rows_less, less_recovery, is_account_kind, is_account, accounts_of, is_backdoor, is_idle, is_out_of_rank, below_of}
use Rattle.report_text.specs.Meaning.{ReportMeaning}
use Rattle.report_text.proofs.Items.{items-places}
use Rattle.report_text.proofs.Numbers.{length-numbers, at-numbers, listed-numbers, sorted-numbers}

-- ---- the graph without recovery

less-rows : (s : Setup) (v : ℕ) → v < 64 → rows_at (less_recovery s) v ≡ rows_less (rows_at s.graph v) (rows_at s.recovery v)
unfolding less_recovery
less-rows s v h =
    let e : 0 + v ≡ v = omega arith in
    at-numbers (λ u. rows_less (rows_at s.graph u) (rows_at s.recovery u)) 0 64 v (record { needs = [] }) h
    ∙ ap (λ (u : ℕ). rows_less (rows_at s.graph u) (rows_at s.recovery u)) e

less-row : (rows recovery : Rows) (c : ℕ) → c < 8 → row_of (rows_less rows recovery) c ≡ row_less (row_of rows c) (row_of recovery c)
unfolding rows_less
less-row rows recovery c h =
    let e : 0 + c ≡ c = omega arith in
    at-numbers (λ k. row_less (row_of rows k) (row_of recovery k)) 0 8 c 0 h ∙ ap (λ (k : ℕ). row_less (row_of rows k) (row_of recovery k)) e

less-below : (rows recovery : Rows) → LessBelow rows recovery (rows_less rows recovery) 8
unfolding rows_less
less-below rows recovery = record { long = length-numbers (λ c. row_less (row_of rows c) (row_of recovery c)) 0 8; each = less-row rows recovery }

less-place : (s : Setup) → WellFormed s → (v : ℕ) → v < 64 → RowsLess (rows_at s.graph v) (rows_at s.recovery v) (rows_at (less_recovery s) v)
less-place s w v h =
    subst (RowsLess (rows_at s.graph v) (rows_at s.recovery v)) (sym (less-rows s v h))
    (less-all (rows_at s.graph v) (rows_at s.recovery v) (rows_less (rows_at s.graph v) (rows_at s.recovery v))
    (w.shaped.graph.colours v h) (less-below (rows_at s.graph v) (rows_at s.recovery v)))

pub less-recovery : (s : Setup) → WellFormed s → WithoutRecovery s (less_recovery s)
unfolding less_recovery
less-recovery s w =
    places-all s (less_recovery s) w.shaped.graph.places
    (record { long = length-numbers (λ v. rows_less (rows_at s.graph v) (rows_at s.recovery v)) 0 64; each = less-place s w })

-- it is the only one
pub less-unique : (s : Setup) (g : Graph) → WellFormed s → WithoutRecovery s g → g ≡ less_recovery s
less-unique s g w h =
    let l = less-recovery s w in
    graph_same g (less_recovery s) h.shaped l.shaped
    (λ f v c. record { to = λ e. (l.each f v c).from ((h.each f v c).to e); from = λ e. (h.each f v c).from ((l.each f v c).to e) })

-- ---- accounts

kind-account : (k : Kind) → Decides (k ≡ Account) (is_account_kind k)
kind-account Credential = decide-no (λ e. not-credential Credential e refl)
kind-account Account = decide-yes refl

pub decide-account : (s : Setup) (v : ℕ) → Decides ((vertex_at s v).kind ≡ Account) (is_account s v)
unfolding is_account
decide-account s v = kind-account (vertex_at s v).kind

listed-accounts : (s : Setup) (v : ℕ) → Iff (Listed (accounts_of s) v) ((v < s.count) × ((vertex_at s v).kind ≡ Account))
unfolding accounts_of
listed-accounts s v =
    let i = listed-filtered (λ u. (vertex_at s u).kind ≡ Account) (is_account s) (numbers_from 0 s.count) (λ u m. decide-account s u) v in
    let n = listed-numbers 0 s.count v in
    record {
      to = λ m. let h = i.to m in let b = (n.to h.0).1 in (omega arith, h.1);
      from = λ h. let b = h.0 in i.from (n.from (omega arith, omega arith), h.1);
    }

-- ---- order

-- A test decides that it says yes.
pub decide_true : (b : Bool) → Decides (b ≡ true) b
decide_true b = record { yes = λ e. e; no = λ e t. false-true (sym e ∙ t) }

rises : (l : List ℕ) → Sorted ◌<◌ l → Rising l
rises [] h = h
rises (v ∷ l) h = (h.0, rises l h.1)

sorted-accounts : (s : Setup) → Sorted ◌<◌ (accounts_of s)
unfolding accounts_of
sorted-accounts s = sorted-filtered ◌<◌ (is_account s) (numbers_from 0 s.count) (sorted-numbers 0 s.count)

sorted-below : (s : Setup) (v : ℕ) → Sorted ◌<◌ (below_of s v)
unfolding below_of
sorted-below s v = sorted-filtered ◌<◌ (is_out_of_rank s v) (accounts_of s) (sorted-accounts s)

listed_below : (s : Setup) (v w : ℕ) → Iff (Listed (below_of s v) w) (Listed (accounts_of s) w × (is_out_of_rank s v w ≡ true))
unfolding below_of
listed_below s v w = listed-filtered (λ u. is_out_of_rank s v u ≡ true) (is_out_of_rank s v) (accounts_of s) (λ u m. decide_true (is_out_of_rank s v u)) w

-- ---- items

sorted-items : (x : ℕ) → Sorted ◌<◌ (items_of x)
sorted-items x = rw (items-places x) (sorted-places 64 x)

listed-items : (x v : ℕ) → Iff (Listed (items_of x) v) (Member x v × (v < 64))
listed-items x v = rw (items-places x) (listed-places 64 x v)

-- ---- findings

module _ (s : Setup) (w : WellFormed s) where
  own : (loss : Bool) (v : ℕ) → Score loss s s.graph v (score_of loss s s.graph v)
  own loss v = (meaning s s.graph w (own-graph s w)).score loss v

  compared : (loss : Bool) (v : ℕ) → Compared loss s v (score_of loss s s.graph v) (score_of loss s (less_recovery s) v)
  compared loss v =
      record {
        score = own loss v;
        less = less_recovery s;
        is_less = less-recovery s w;
        without = (meaning s (less_recovery s) w (graph-without s (less_recovery s) w (less-recovery s w))).score loss v;
      }

  finds-backdoor : (v : ℕ) → FindsBackdoor s v (is_backdoor s v)
  unfolding is_backdoor
  finds-backdoor v =
      record {
        score = score_of false s s.graph v;
        without = score_of false s (less_recovery s) v;
        are = compared false v;
        decides = decide_iff (record { to = λ h. record { are = compared false v; below = h }; from = λ f. f.below })
            (decide-ltb (score_of false s s.graph v) (score_of false s (less_recovery s) v));
      }

  finds-idle : (v : ℕ) → FindsIneffective s v (is_idle s v)
  unfolding is_idle
  finds-idle v =
      record {
        score = score_of true s s.graph v;
        without = score_of true s (less_recovery s) v;
        are = compared true v;
        decides = decide_iff (record { to = λ h. record { are = compared true v; most = h }; from = λ f. f.most })
            (decide-leb (score_of true s s.graph v) (score_of true s (less_recovery s) v));
      }

  finds-pair : (v u : ℕ) → FindsInconsistent s v u (is_out_of_rank s v u)
  unfolding is_out_of_rank
  finds-pair v u =
      record {
        score = score_of false s s.graph v;
        other = score_of false s s.graph u;
        is_score = own false v;
        is_other = own false u;
        decides = decide_iff (record {
          to = λ h. record { score = own false v; other = own false u; rank = h.0; most = h.1 };
          from = λ f. (f.rank, f.most);
        })
            (decide-and (ltb (vertex_at s u).rank (vertex_at s v).rank) (leb (score_of false s s.graph v) (score_of false s s.graph u))
            (decide-ltb (vertex_at s u).rank (vertex_at s v).rank) (decide-leb (score_of false s s.graph v) (score_of false s s.graph u)));
      }

pub report-meaning : (s : Setup) → WellFormed s → ReportMeaning s
report-meaning s w =
    record {
      accounts = listed-accounts s;
      in_order = rises (accounts_of s) (sorted-accounts s);
      base = λ loss v. (meaning s s.graph w (own-graph s w)).base loss v;
      items = listed-items;
      items_rise = λ x. rises (items_of x) (sorted-items x);
      score = own s w;
      less = less-recovery s w;
      back = finds-backdoor s w;
      idle = finds-idle s w;
      pair = finds-pair s w;
      below = listed_below s;
      below_rise = λ v. rises (below_of s v) (sorted-below s v);
    }
