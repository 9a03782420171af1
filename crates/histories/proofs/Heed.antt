-- No other call heeds what is held: what its contract says of a setup it says of one that holds something else.
-- Assumes nothing.
use mathlib.Core.Path.{◌≡◌, refl, sym, subst}
use mathlib.Core.Bool.{Bool, true, false}
use mathlib.Core.List.{List, [], ◌∷◌, ◌++◌}
use Prim.Native.Nat.{ℕ}
use Rattle.vertex_set.specs.declared.VertexSet.{VertexSet}
use Rattle.vertex_set.specs.Set.{Iff}
use Rattle.vertex_set.specs.Order.{Smallest}
use Rattle.vertex_set.proofs.Decisions.{decide_iff, iff-refl}
use Rattle.vertex_set.proofs.Lists.{exactly-same}
use Rattle.setup.specs.declared.Graph.{Graph}
use Rattle.setup.specs.declared.Setup.{Setup}
use Rattle.setup.specs.Calls.{Inside}
use Rattle.setup.specs.Inner.{holding}
use Rattle.formed.specs.WellFormed.{WellFormed}
use Rattle.questions.specs.Questions.{asks12, asks13, asks14}
use Rattle.questions.specs.Contract.{Outcome, Fulfils}
use Rattle.questions.proofs.Asks.{Alike, asks-alike}
use Rattle.questions.proofs.Contract.{fulfils-alike}
use Rattle.bases.specs.Base.{TargetSet, MinimalSet, Base}
use Rattle.bases.specs.Score.{Score}
use Rattle.bases.specs.Marks.{Mark, Repeated, Shut, Loose, Right, CountsAs, MarkedAs, Counts, IsBaseOnce}
use Rattle.findings.specs.Findings.{Compared, Backdoor, IneffectiveRecovery, Inconsistent, FindsBackdoor, FindsIneffective, FindsInconsistent}
use Rattle.forecasts.proofs.Bounds.{forecast-holds}
use Rattle.cut_sets.specs.Cuts.{CutSet}
use Rattle.cut_sets.proofs.Theorems.{duality-holds}
use Rattle.attackers.specs.Attackers.{OfBase, KindInScore, AttackerScore}
use Rattle.multisets.specs.Multisets.{places_of}
use Rattle.multiset_scores.specs.Scores.{multiset_of, FirstInScore, all_places, all_lengths}
use Rattle.next_sets.specs.Answers.{Next, Shown, End, IsNext}
use Rattle.records.specs.declared.Record.{Record}
use Rattle.records.specs.Records.{RegisterOutcome, with_slice, hands_back}
use Rattle.register.specs.Calls.{asks25, Enters, HandInCall}
use Rattle.histories.specs.Requests as requests
use Rattle.histories.specs.Requests.{Request, contract_of}
use Rattle.histories.specs.NoHeed.{OnlyHolding, NoHeed}

-- ---- sets, lists and scores: count, vertices and graphs are the setup's own

module _ (s : Setup) (h o : VertexSet) (loss : Bool) (g : Graph) (target : ℕ) where
  target-too : (x : ℕ) → TargetSet loss s g target x → TargetSet loss (holding s h o) g target x
  target-too x t = record { chosen = t.chosen; derives = t.derives }

  minimal-too : (x : ℕ) → MinimalSet loss s g target x → MinimalSet loss (holding s h o) g target x
  minimal-too x m = record { is = target-too x m.is; minimal = m.minimal }

module _ (s : Setup) (h o : VertexSet) (loss : Bool) (g : Graph) (target : ℕ) where
  -- and the other way
  target-back : (x : ℕ) → TargetSet loss (holding s h o) g target x → TargetSet loss s g target x
  target-back = target-too (holding s h o) s.held s.opened loss g target

  minimal-back : (x : ℕ) → MinimalSet loss (holding s h o) g target x → MinimalSet loss s g target x
  minimal-back = minimal-too (holding s h o) s.held s.opened loss g target

  base-too : (l : List ℕ) → Base loss s g target l → Base loss (holding s h o) g target l
  base-too l = exactly-same (MinimalSet loss s g target) (MinimalSet loss (holding s h o) g target) l (λ x. record { to = minimal-too s h o loss g target x; from = minimal-back x })

  score-too : (r : ℕ) → Score loss s g target r → Score loss (holding s h o) g target r
  score-too r a =
      record {
        none = λ n. a.none (λ x t. n x (target-too s h o loss g target x t));
        some = λ x t. a.some x (target-back x t);
        least = λ x t. a.least x (target-back x t);
        reached = λ l. let w = a.reached l in (w.0, target-too s h o loss g target w.0 w.1, w.2);
      }

  -- ---- marks

  counts-as-too : (earlier : List ℕ) (x : ℕ) (m : Mark) → CountsAs loss s g target earlier x m → CountsAs loss (holding s h o) g target earlier x m
  counts-as-too earlier x Repeated c = c
  counts-as-too earlier x Shut c = (c.0, λ t. c.1 (target-back x t))
  counts-as-too earlier x Loose c = (c.0, target-too s h o loss g target x c.1, c.2)
  counts-as-too earlier x Right c = (c.0, minimal-too s h o loss g target x c.1)

  marked-too : (earlier handed : List ℕ) (marks : List Mark) → MarkedAs loss s g target earlier handed marks → MarkedAs loss (holding s h o) g target earlier handed marks
  marked-too earlier [] [] c = c
  marked-too earlier [] (m ∷ marks) c = c
  marked-too earlier (x ∷ handed) [] c = c
  marked-too earlier (x ∷ handed) (m ∷ marks) c = (counts-as-too earlier x m c.0, marked-too (x ∷ earlier) handed marks c.1)

  counts-too : (handed : List ℕ) (right repeated shut loose missing : ℕ) → Counts loss s g target handed right repeated shut loose missing
      → Counts loss (holding s h o) g target handed right repeated shut loose missing
  counts-too handed right repeated shut loose missing c =
      record {
        marks = c.marks;
        marked = marked-too [] handed c.marks c.marked;
        base = c.base;
        is_base = base-too c.base c.is_base;
        is_right = c.is_right;
        is_repeated = c.is_repeated;
        is_shut = c.is_shut;
        is_loose = c.is_loose;
        is_missing = c.is_missing;
      }

  once-too : (handed : List ℕ) → IsBaseOnce loss s g target handed → IsBaseOnce loss (holding s h o) g target handed
  once-too handed c =
      record {
        sets = λ x. record { to = λ i. minimal-too s h o loss g target x ((c.sets x).to i); from = λ m. (c.sets x).from (minimal-back x m) };
        once = c.once;
      }

-- ---- findings

compared-too : (s : Setup) (h o : VertexSet) (loss : Bool) (v r r' : ℕ) → Compared loss s v r r' → Compared loss (holding s h o) v r r'
compared-too s h o loss v r r' c =
    record {
      score = score-too s h o loss s.graph v r c.score;
      less = c.less;
      is_less = record { shaped = c.is_less.shaped; each = c.is_less.each };
      without = score-too s h o loss c.less v r' c.without;
    }

module _ (s : Setup) (h o : VertexSet) (v : ℕ) where
  backdoor-one : (r r' : ℕ) → Backdoor s v r r' → Backdoor (holding s h o) v r r'
  backdoor-one r r' b = record { are = compared-too s h o false v r r' b.are; below = b.below }

  idle-one : (r r' : ℕ) → IneffectiveRecovery s v r r' → IneffectiveRecovery (holding s h o) v r r'
  idle-one r r' b = record { are = compared-too s h o true v r r' b.are; most = b.most }

  pair_one : (u r r' : ℕ) → Inconsistent s v u r r' → Inconsistent (holding s h o) v u r r'
  pair_one u r r' b =
      record {
        score = score-too s h o false s.graph v r b.score;
        other = score-too s h o false s.graph u r' b.other;
        rank = b.rank;
        most = b.most;
      }

module _ (s : Setup) (h o : VertexSet) (v : ℕ) where
  finds-backdoor : (b : Bool) → FindsBackdoor s v b → FindsBackdoor (holding s h o) v b
  finds-backdoor b f =
      record {
        score = f.score;
        without = f.without;
        are = compared-too s h o false v f.score f.without f.are;
        decides = decide_iff (record {
          to = backdoor-one s h o v f.score f.without;
          from = backdoor-one (holding s h o) s.held s.opened v f.score f.without;
        }) f.decides;
      }

  finds-idle : (b : Bool) → FindsIneffective s v b → FindsIneffective (holding s h o) v b
  finds-idle b f =
      record {
        score = f.score;
        without = f.without;
        are = compared-too s h o true v f.score f.without f.are;
        decides = decide_iff (record {
          to = idle-one s h o v f.score f.without;
          from = idle-one (holding s h o) s.held s.opened v f.score f.without;
        }) f.decides;
      }

  finds-pair : (u : ℕ) (b : Bool) → FindsInconsistent s v u b → FindsInconsistent (holding s h o) v u b
  finds-pair u b f =
      record {
        score = f.score;
        other = f.other;
        is_score = score-too s h o false s.graph v f.score f.is_score;
        is_other = score-too s h o false s.graph u f.other f.is_other;
        decides = decide_iff (record {
          to = pair_one s h o v u f.score f.other;
          from = pair_one (holding s h o) s.held s.opened v u f.score f.other;
        }) f.decides;
      }

-- ---- cut sets, kinds of attacker, multisets

cut-too : (s : Setup) (h o : VertexSet) (target x : ℕ) → CutSet s target x → CutSet (holding s h o) target x
cut-too s h o target x c = record { chosen = c.chosen; shut = c.shut }

smallest-cut : (s : Setup) (h o : VertexSet) (target x : ℕ) → Smallest (CutSet s target) x → Smallest (CutSet (holding s h o) target) x
smallest-cut s h o target x c =
    record { is = cut-too s h o target x c.is; none = λ y p d. c.none y p (cut-too (holding s h o) s.held s.opened target y d) }

of-base : (s : Setup) (h o : VertexSet) (kinds : List ℕ) (target k : ℕ) → OfBase s kinds target k → OfBase (holding s h o) kinds target k
of-base s h o kinds target k b = record { set = b.set; is = minimal-too s h o false s.graph target b.set b.is; attacker = b.attacker }

in-score : (s : Setup) (h o : VertexSet) (kinds : List ℕ) (target k : ℕ) → KindInScore s kinds target k → KindInScore (holding s h o) kinds target k
in-score s h o kinds target k c =
    record { is = of-base s h o kinds target k c.is; none = λ j b. c.none j (of-base (holding s h o) s.held s.opened kinds target j b) }

attackers-too : (s : Setup) (h o : VertexSet) (kinds : List ℕ) (target r : ℕ) → AttackerScore s kinds target r → AttackerScore (holding s h o) kinds target r
attackers-too s h o kinds target r a =
    record {
      each = λ k. record {
        to = λ m. in-score s h o kinds target k ((a.each k).to m);
        from = λ i. (a.each k).from (in-score (holding s h o) s.held s.opened kinds target k i);
      };
      none = λ n. a.none (λ k i. n k (in-score s h o kinds target k i));
      intruders = a.intruders;
    }

first-in-score : (s : Setup) (h o : VertexSet) (target x : ℕ) → FirstInScore s target x → FirstInScore (holding s h o) target x
first-in-score s h o target x f =
    record {
      score = record {
        is = minimal-too s h o false s.graph target x f.score.is;
        least = λ y m. f.score.least y (minimal-back s h o false s.graph target y m);
      };
      first = λ y m. f.first y (minimal-back s h o false s.graph target y m);
    }

places-too : (s : Setup) (h o : VertexSet) (l : List ℕ) → all_places s l ≡ all_places (holding s h o) l
places-too s h o [] = refl
places-too s h o (x ∷ l) = λ i. places_of (multiset_of s x) ++ places-too s h o l i

-- ---- questions

module _ (s : Setup) (h o : VertexSet) (w : WellFormed s) (u : WellFormed (holding s h o)) where
  formed-too : Iff (WellFormed s) (WellFormed (holding s h o))
  formed-too = record { to = λ k. u; from = λ k. w }

  target-questions : (target : ℕ) → Alike (asks12 s ∷ asks13 s target ∷ []) (asks12 (holding s h o) ∷ asks13 (holding s h o) target ∷ [])
  target-questions target = (refl, formed-too, (refl, iff-refl, tt))

  inside_too : (set : ℕ) → Iff (Inside s set) (Inside (holding s h o) set)
  inside_too set = record { to = λ k. record { each = k.each }; from = λ k. record { each = k.each } }

  set-questions : (set : ℕ) → Alike (asks12 s ∷ asks14 s set ∷ []) (asks12 (holding s h o) ∷ asks14 (holding s h o) set ∷ [])
  set-questions set = (refl, formed-too, (refl, inside_too set, tt))

  way-questions : (target set : ℕ) → Alike (asks12 s ∷ asks13 s target ∷ asks14 s set ∷ []) (asks12 (holding s h o) ∷ asks13 (holding s h o) target ∷ asks14 (holding s h o) set ∷ [])
  way-questions target set = (refl, formed-too, (refl, iff-refl, (refl, inside_too set, tt)))

-- ---- the next set

next-too : (s : Setup) (h o : VertexSet) (target last : ℕ) (a : Next) → IsNext s target last a → IsNext (holding s h o) target last a
next-too s h o target last (Shown x) n =
    record { is = minimal-too s h o false s.graph target x n.is; after = n.after; first = λ y m. n.first y (minimal-back s h o false s.graph target y m) }
next-too s h o target last End n = record { none = λ y m. n.none y (minimal-back s h o false s.graph target y m) }

-- ---- the calls

module _ (s : Setup) (h o : VertexSet) (w : WellFormed s) (u : WellFormed (holding s h o)) where
  -- behind question 12 each contract says the same
  heedless : (q : Request) (p : Outcome) → Fulfils (contract_of q s) p → Fulfils (contract_of q (holding s h o)) p
  heedless (requests.Closure set) p =
      fulfils-alike _ _ _ _ _ _ _ _ _ (set-questions s h o w u set) (λ a r. record { opened = r.opened; passes = r.passes; most = r.most; once = r.once }) (λ a. refl) p
  heedless (requests.Lost set) p = fulfils-alike _ _ _ _ _ _ _ _ _ (set-questions s h o w u set) (λ a r. r) (λ a. refl) p
  heedless (requests.WayTo target set vertices colours) p = fulfils-alike _ _ _ _ _ _ _ _ _ (way-questions s h o w u target set) (λ a r. r) (λ a. refl) p
  heedless (requests.QuickYes target set) p = fulfils-alike _ _ _ _ _ _ _ _ _ (way-questions s h o w u target set) (λ a r. r) (λ a. refl) p
  heedless (requests.BothBases target list) p =
      fulfils-alike _ _ _ _ _ _ _ _ _ (target-questions s h o w u target)
      (λ a r. record { is_opening = base-too s h o false s.graph target a.opening r.is_opening; is_lockout = base-too s h o true s.graph target a.lockout r.is_lockout })
      (λ a. refl) p
  heedless (requests.ScoreOf loss target) p =
      fulfils-alike _ _ _ _ _ _ _ _ _ (target-questions s h o w u target)
      (λ a r. record { all = score-too s h o loss s.graph target a r.all; base = λ k b. r.base k (base-too (holding s h o) s.held s.opened loss s.graph target k b) })
      (λ a. refl) p
  heedless (requests.MarksOf loss target handed) p =
      fulfils-alike _ _ _ _ _ _ _ _ _ (target-questions s h o w u target)
      (λ a r. record {
        counts = counts-too s h o loss s.graph target handed a.right a.repeated a.shut a.loose a.missing r.counts;
        full = record { to = λ f. once-too s h o loss s.graph target handed (r.full.to f); from = λ b. r.full.from (once-too (holding s h o) s.held s.opened loss s.graph target handed b) };
      }) (λ a. refl) p
  heedless (requests.Backdoor item) p = fulfils-alike _ _ _ _ _ _ _ _ _ (target-questions s h o w u item) (finds-backdoor s h o item) (λ a. refl) p
  heedless (requests.Idle item) p = fulfils-alike _ _ _ _ _ _ _ _ _ (target-questions s h o w u item) (finds-idle s h o item) (λ a. refl) p
  heedless (requests.OutOfRank above below) p = fulfils-alike _ _ _ _ _ _ _ _ _ (refl, formed-too s h o w u, (refl, iff-refl, (refl, iff-refl, tt))) (finds-pair s h o above below) (λ a. refl) p
  heedless (requests.ForecastOf target) p =
      fulfils-alike _ _ _ _ _ _ _ _ _ (target-questions s h o w u target)
      (λ n r. record { counted = r.counted; is = forecast-holds (holding s h o) target r.counted n (record { each = r.is.is_counted.each }) r.is.ways }) (λ a. refl) p
  heedless (requests.Cuts target list) p =
      fulfils-alike _ _ _ _ _ _ _ _ _ (target-questions s h o w u target)
      (λ cuts r.
      let same = exactly-same (Smallest (CutSet s target)) (Smallest (CutSet (holding s h o) target)) cuts
      (λ q. record { to = smallest-cut s h o target q; from = smallest-cut (holding s h o) s.held s.opened target q }) r.list in
      record { list = same; duality = duality-holds (holding s h o) target cuts u same }) (λ a. refl) p
  heedless (requests.Attackers target kinds) p =
      fulfils-alike _ _ _ _ _ _ _ _ _ (refl, formed-too s h o w u, (refl, iff-refl, (refl, iff-refl, (refl, record { to = λ k. record { each = k.each }; from = λ k. record { each = k.each } }, tt))))
      (attackers-too s h o kinds target) (λ a. refl) p
  heedless (requests.NextSet target last) p =
      fulfils-alike _ _ _ _ _ _ _ _ _ (refl, formed-too s h o w u, (refl, iff-refl, (refl, record { to = λ k. record { each = k.each }; from = λ k. record { each = k.each } }, tt)))
      (next-too s h o target last) (λ a. refl) p
  heedless (requests.Bags target places lengths) p =
      fulfils-alike _ _ _ _ _ _ _ _ _ (target-questions s h o w u target)
      (λ l r. exactly-same (FirstInScore s target) (FirstInScore (holding s h o) target) l
      (λ q. record { to = first-in-score s h o target q; from = first-in-score (holding s h o) s.held s.opened target q }) r)
      (λ l i. places-too s h o l i ∷ all_lengths s l ∷ []) p
  heedless (requests.Save sheet out) p =
      fulfils-alike _ _ _ _ _ _ _ _ _ (refl, iff-refl, (refl, formed-too s h o w u, (refl, iff-refl, tt)))
      (λ d r. record { valid = r.valid; states = r.states; names = r.names; rising = r.rising }) (λ a. refl) p

-- ---- a hand-in

module _ (s : Setup) (h o : VertexSet) (used student target : ℕ) (loss : Bool) (handed : List ℕ) (entry : List Record) where
  enters-too : (p : RegisterOutcome) → Enters s used student target loss handed entry p → Enters (holding s h o) used student target loss handed entry p
  enters-too p e =
      let r = e.row in
      let c = e.is_record in
      record {
        row = r;
        is_record = record {
          is_student = c.is_student;
          is_target = c.is_target;
          is_way = c.is_way;
          counts = counts-too s h o loss s.graph target handed r.right r.repeated r.shut r.loose r.missing c.counts;
          full = record { to = λ f. once-too s h o loss s.graph target handed (c.full.to f); from = λ b. c.full.from (once-too (holding s h o) s.held s.opened loss s.graph target handed b) };
        };
        told = e.told;
      }

  hand-in-too : WellFormed s → WellFormed (holding s h o) → (p : RegisterOutcome) → HandInCall s used student target loss handed p.answer entry p.slice
      → HandInCall (holding s h o) used student target loss handed p.answer entry p.slice
  hand-in-too w u p =
      asks-alike (hands_back used entry) (Enters s used student target loss handed entry) (Enters (holding s h o) used student target loss handed entry)
      (asks25 entry used ∷ asks12 s ∷ asks13 s target ∷ []) (asks25 entry used ∷ asks12 (holding s h o) ∷ asks13 (holding s h o) target ∷ []) p
      (refl, iff-refl, target-questions s h o w u target) (enters-too p)

-- ---- the statement

module _ (s t : Setup) (k : OnlyHolding s t) where
  whole : holding s t.held t.opened ≡ t
  whole = λ i. record { count = k.count i; vertices = k.vertices i; graph = k.graph i; recovery = k.recovery i; held = t.held; opened = t.opened }

  formed-held : WellFormed (holding s t.held t.opened)
  formed-held = subst WellFormed (sym whole) k.second

pub no-heed : NoHeed
no-heed =
    record {
      calls = λ q s t k p f.
          subst (λ (x : Setup). Fulfils (contract_of q x) p) (whole s t k) (heedless s t.held t.opened k.first (formed-held s t k) q p f);
      hand_in = λ s t k used student target loss handed a entry exit f.
          subst (λ (x : Setup). HandInCall x used student target loss handed a entry exit) (whole s t k)
          (hand-in-too s t.held t.opened used student target loss handed entry k.first (formed-held s t k) (with_slice a exit) f);
    }
