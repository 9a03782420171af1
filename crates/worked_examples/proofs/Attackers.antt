-- The scores by kinds of attacker hold: the opening list is computed, of each of its sets the kind, and which of these have no other below.
-- Assumes nothing.
use mathlib.Core.Path.{◌≡◌, refl, sym, subst}
use mathlib.Core.Bool.{Bool, true, false, not, ◌&&◌}
use mathlib.Core.List.{List, [], ◌∷◌, map}
use Prim.Native.Nat.{ℕ, ◌*◌, ◌≤◌, ◌<◌}
use native.Mathlib.Omega.{arith}
use lib.Dec.{eqb, leb, ltb}
use lib.ListN.{get_or}
use borrow.Author.Tests.{eqb-true, leb-true, ltb-true}
use Rattle.vertex_set.specs.Set.{Member, Iff, Decides}
use Rattle.vertex_set.specs.Order.{Listed}
use Rattle.vertex_set.proofs.Decisions.{decide_iff, decide-leb, decide-eqb, decide-not, decide-and}
use Rattle.vertex_set.proofs.Digits.{digit}
use Rattle.vertex_set.proofs.Sets.{member_below}
use Rattle.vertex_set.proofs.Shifts.{all, all-at, flag}
use Rattle.vertex_set.proofs.Sorted.{listed-map, listed-of-map}
use Rattle.setup.specs.declared.Setup.{Setup}
use Rattle.setup.specs.Setup.{given, value_of, vertex_at}
use Rattle.formed.specs.WellFormed.{WellFormed}
use Rattle.reference.specs.Tests.{lowest, some, every, filtered, is_listed, is_member, is_within, is_meeting, with_vertex}
use Rattle.reference.specs.Closures.{is_complete, is_broken, colour_of, is_added, pass_of, passes_of, closure_of, derives_of}
use Rattle.reference.specs.Bases.{is_chosen, sets_of_size, sets_up_to, sets_of, target_sets_of, is_minimal, base_of}
use Rattle.reference.proofs.Tests.{by-decision, decide-some, decide-listed}
use Rattle.reference.proofs.Graphs.{chosen-below}
use Rattle.reference.proofs.Bases.{own-base}
use Rattle.attackers.specs.Attackers.{location, skill, Weaker, largest_over, attacker_of, OfBase, KindInScore, EntriesFit, AttackerScore}
use Rattle.attackers.proofs.Scores.{base-small, score-small, score-whole}
use Rattle.sheet_format.specs.Rows.{Each}
use Rattle.worked_examples.specs.Sheets.{Sheet, ReadsSheet}
use Rattle.worked_examples.specs.Table.{set_of}
use Rattle.worked_examples.specs.Attackers.{rem_none, loc_none, KindsOrdered, AttackerExample, Scores, attacker_examples, AllScore}
use Rattle.worked_examples.proofs.Reading.{◌&◌, reads-well, read-bench, read-alone, read-closed, read-spare, read-full, read-figure1}

-- ---- the order, at examples

above : (a b : ℕ) → location a < location b → skill a ≡ skill b → Weaker a b
above a b l e = record { at_most = record { locations = omega arith; skills = omega arith }; other = λ q. omega arith }

pub kinds-ordered : KindsOrdered
kinds-ordered =
    record {
      location = above rem_none loc_none (omega arith) refl;
      some = record { at_most = record { locations = omega arith; skills = omega arith }; other = λ q. omega arith };
      expert = record { at_most = record { locations = omega arith; skills = omega arith }; other = λ q. omega arith };
      both = record { at_most = record { locations = omega arith; skills = omega arith }; other = λ q. omega arith };
      neither = λ h. let p = h.skills in omega arith;
      nor_back = λ h. let p = h.locations in omega arith;
    }

-- ---- computed

-- Is j below k?
is_weaker : ℕ → ℕ → Bool
is_weaker j k = not (eqb j k) && (leb (location j) (location k) && leb (skill j) (skill k))

-- Is k one of the kinds, with no other of them below?
is_lowest : List ℕ → ℕ → Bool
is_lowest ks k = is_listed ks k && not (some (λ j. is_listed ks j && is_weaker j k) 6)

-- r has of the six kinds just those.
right_at : List ℕ → ℕ → ℕ → Bool
right_at ks r k = eqb (digit r k) (flag (is_lowest ks k))

-- The entry of an initial vertex is at most 5.
unfoldable pub fits_at : Setup → List ℕ → ℕ → Bool
fits_at s kinds v = leb (given (value_of false (vertex_at s v)) * get_or kinds v 0) 5

decide-weaker : (j k : ℕ) → Decides (Weaker j k) (is_weaker j k)
unfolding is_weaker
decide-weaker j k =
    decide_iff (record {
      to = λ p. record { at_most = record { locations = p.1.0; skills = p.1.1 }; other = p.0 };
      from = λ w. (w.other, (w.at_most.locations, w.at_most.skills));
    })
    (decide-and _ _ (decide-not _ (decide-eqb j k)) (decide-and _ _ (decide-leb (location j) (location k)) (decide-leb (skill j) (skill k))))

module _ (s : Setup) (kinds : List ℕ) (target r : ℕ) (w : WellFormed s) (fits : all (fits_at s kinds) 64 ≡ true) where
  fit : EntriesFit s kinds
  unfolding fits_at
  fit =
      record {
        each = λ v c.
            let l = chosen-below false s w v c in
            let m = w.most in
            let h = leb-true (given (value_of false (vertex_at s v)) * get_or kinds v 0) 5 (all-at (fits_at s kinds) 64 fits v (omega arith)) in
            let q : 1 * get_or kinds v 0 ≤ 5 = rw c at h in
            omega arith;
      }

  kinds_of : List ℕ
  kinds_of = map (attacker_of kinds) (base_of false s s.graph target)

  of-listed : (k : ℕ) → Iff (Listed kinds_of k) (OfBase s kinds target k)
  unfolding kinds_of
  of-listed k =
      record {
        to = λ m.
            let x = listed-of-map (attacker_of kinds) (base_of false s s.graph target) k m in
            record { set = x.0; is = (own-base false s target w).sound x.0 x.1; attacker = x.2 };
        from = λ o. subst (Listed kinds_of) (sym o.attacker) (listed-map (attacker_of kinds) (base_of false s s.graph target) o.set ((own-base false s target w).whole o.set o.is));
      }

  decide-score : (k : ℕ) → Decides (KindInScore s kinds target k) (is_lowest kinds_of k)
  unfolding is_lowest
  decide-score k =
      decide_iff (record {
        to = λ p. record {
          is = (of-listed k).to p.0;
          none = λ j o l. p.1 (j, base-small s kinds target w fit j o, ((of-listed j).from o, l));
        };
        from = λ h. ((of-listed k).from h.is, λ x. h.none x.0 ((of-listed x.0).to x.2.0) x.2.1);
      })
      (decide-and _ _ (decide-listed kinds_of k)
      (decide-not _ (decide-some (λ j. Listed kinds_of j × Weaker j k) _ (λ j. decide-and _ _ (decide-listed kinds_of j) (decide-weaker j k)) 6)))

  module _ (low : ltb r 64 ≡ true) (right : all (right_at kinds_of r) 6 ≡ true) where
    at : (k : ℕ) → k < 6 → digit r k ≡ flag (is_lowest kinds_of k)
    unfolding right_at
    at k l = eqb-true _ _ (all-at (right_at kinds_of r) 6 right k l)

    scored : AttackerScore s kinds target r
    unfolding Member
    scored =
        score-whole s kinds target w fit r (λ k. record {
          to = λ m.
              let e = at k (member_below 6 r k (ltb-true r 64 low) m) in
              by-decision (is_lowest kinds_of k) (decide-score k) (λ b h. h)
              (λ b n. absurd (let z : digit r k ≡ 0 = subst (λ (x : Bool). digit r k ≡ flag x) b e in omega arith));
          from = λ h.
              let e = at k (score-small s kinds target w fit k h) in
              by-decision (is_lowest kinds_of k) (decide-score k) (λ b i. subst (λ (x : Bool). digit r k ≡ flag x) b e) (λ b n. absurd (n h));
        })

-- question 17 of a sheet's setup, computed
pub fits-of : (x : Sheet) (kinds : List ℕ) → ReadsSheet x → all (fits_at x.setup kinds) 64 ≡ true → EntriesFit x.setup kinds
fits-of x kinds r e = fit x.setup kinds 0 0 (reads-well x r) e

-- ---- the examples

record Counted (x : AttackerExample) (r : ReadsSheet x.sheet) : Type 0 where
  fits : all (fits_at x.sheet.setup x.kinds) 64 ≡ true
  low : ltb (set_of x.attackers) 64 ≡ true
  right : all (right_at (map (attacker_of x.kinds) (base_of false x.sheet.setup x.sheet.setup.graph x.target)) (set_of x.attackers)) 6 ≡ true

shown : (x : AttackerExample) (r : ReadsSheet x.sheet) → Counted x r → Scores x
unfolding kinds_of
shown x r c =
    record {
      setup = x.sheet.setup;
      reading = r;
      holds = scored x.sheet.setup x.kinds x.target (set_of x.attackers) (reads-well x.sheet r) c.fits c.low c.right;
    }

-- The sheet read, and all of it computed.
abbrev Shown : AttackerExample → Type 0
Shown x = (r : ReadsSheet x.sheet) × Counted x r

all_of : (l : List AttackerExample) → Each Shown l → Each Scores l
all_of [] s = tt
all_of (x ∷ l) s = (shown x s.0.0 s.0.1, all_of l s.1)

all-counted : Each Shown attacker_examples
unfolding lowest some every filtered is_listed is_member is_within is_meeting with_vertex is_complete is_broken colour_of is_added pass_of passes_of closure_of derives_of is_chosen sets_of_size sets_up_to sets_of target_sets_of is_minimal base_of attacker_of largest_over is_weaker is_lowest right_at fits_at
all-counted =
    (read-figure1, record { fits = refl; low = refl; right = refl })
    & (read-figure1, record { fits = refl; low = refl; right = refl })
    & (read-spare, record { fits = refl; low = refl; right = refl })
    & (read-bench, record { fits = refl; low = refl; right = refl })
    & (read-spare, record { fits = refl; low = refl; right = refl })
    & (read-spare, record { fits = refl; low = refl; right = refl })
    & (read-closed, record { fits = refl; low = refl; right = refl })
    & (read-alone, record { fits = refl; low = refl; right = refl })
    & (read-full, record { fits = refl; low = refl; right = refl })
    & tt

pub all-score : AllScore
all-score = all_of attacker_examples all-counted
