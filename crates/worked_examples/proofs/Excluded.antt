-- Wrong answers that the contracts exclude, each at an example of the table; and wrong graphs without recovery, of any setup.
-- Assumes nothing.
use mathlib.Core.Path.{◌≡◌, refl, ap, subst}
use mathlib.Core.Bool.{true, false}
use mathlib.Core.List.{List, [], ◌∷◌, ◌++◌}
use mathlib.Core.Logic.{inl, inr, ⊎_elim}
use Prim.Native.Nat.{ℕ, ◌+◌, ◌≤◌, ◌<◌}
use native.Mathlib.Omega.{arith}
use lib.ListN.{length, get_or}
use Rattle.vertex_set.specs.Set.{Member}
use lib.Count.{ones}
use Rattle.vertex_set.specs.Order.{Listed, Before, Ordered, sum_over}
use Rattle.vertex_set.proofs.Sets.{member_below, same_set}
use Rattle.setup.specs.declared.Graph.{Graph}
use Rattle.setup.specs.declared.Setup.{Setup}
use Rattle.setup.specs.Setup.{row, Edge, WithoutRecovery}
use Rattle.formed.specs.WellFormed.{WellFormed}
use Rattle.setup.specs.Calls.{Inside, written}
use Rattle.derivations.specs.Access.{Step, access}
use Rattle.derivations.specs.Passes.{Passes}
use Rattle.derivations.specs.Way.{Way}
use Rattle.questions.specs.Contract.{Reply, Outcome, gives, refuses, ends, Fulfils}
use Rattle.questions.proofs.Contract.{only-given, only-short}
use Rattle.access.specs.Answers.{closure_call, way_call}
use Rattle.bases.specs.Base.{Base}
use Rattle.scores.specs.Never.{never}
use Rattle.bases.specs.Score.{Score}
use Rattle.answers.specs.Answers.{Bases, AreBases, bases_call, score_call, marks_call}
use Rattle.answers.proofs.Unique.{one-bases}
use Rattle.reference.specs.Tests.{lowest, some, every, filtered, is_listed, is_member, is_within, is_meeting, with_vertex}
use Rattle.reference.specs.Closures.{is_complete, is_broken, colour_of, is_added, pass_of, passes_of, closure_of, derives_of, next_vertex, steps_of, way_of}
use Rattle.reference.specs.Bases.{is_chosen, sets_of_size, sets_up_to, sets_of, target_sets_of, is_minimal, base_of, least_sum, score_of, mark_of, marks_from, counts_of, marks_of}
use Rattle.reference.proofs.Unique.{base-unique}
use Rattle.worked_examples.specs.Sheets.{bench, ordpw, mailpw, token, mail, order, ring, pwd_backup, pwd_manager, device, seed, acc_backup, closed, only, pair, p, q}
use Rattle.worked_examples.specs.Table.{Example, lockout, marks, set_of, AllHold}
use Rattle.worked_examples.proofs.Reading.{◌&◌, reads-well, read-bench, read-ring, read-closed, read-pair}
use Rattle.worked_examples.proofs.Table.{held, all_hold, table-holds, further-holds}
use Rattle.worked_examples.proofs.Settled.{Gives, closure-told, way-told, bases-told, score-told, marks-told}

-- ---- what is known of the examples

well : WellFormed bench.setup
well = reads-well bench read-bench

pub inside : (set : ℕ) → set < 32 → Inside bench.setup set
inside set h = record { each = λ v m. member_below 5 set v h m }

by-mail : Passes (access bench.setup.graph) 3 (set_of (mailpw ∷ [])) (set_of (mailpw ∷ mail ∷ order ∷ []))
by-mail = held bench _ read-bench further-holds.1.0

together : Passes (access bench.setup.graph) 2 (set_of (ordpw ∷ mailpw ∷ token ∷ [])) (set_of (ordpw ∷ mailpw ∷ token ∷ mail ∷ order ∷ []))
together = held bench _ read-bench further-holds.1.1.1.0

to-and-fro : Passes (access pair.setup.graph) 2 (set_of (p ∷ [])) (set_of (p ∷ q ∷ []))
to-and-fro = held pair _ read-pair further-holds.1.1.1.1.1.1.0

b3 : Base false bench.setup bench.setup.graph order (set_of (mailpw ∷ []) ∷ set_of (ordpw ∷ token ∷ []) ∷ [])
b3 = held bench _ read-bench table-holds.1.1.0

b4 : Base true bench.setup bench.setup.graph order (set_of (ordpw ∷ mailpw ∷ []) ∷ set_of (mailpw ∷ token ∷ []) ∷ [])
b4 = held bench _ read-bench table-holds.1.1.1.0

b5 : Score false bench.setup bench.setup.graph order 1
b5 = held bench _ read-bench table-holds.1.1.1.1.0

abbrev steps : List Step
steps = record { vertex = mail; colour = 0 } ∷ record { vertex = order; colour = 1 } ∷ []

b6 : Way bench.setup.graph order (Member (set_of (mailpw ∷ []))) steps
b6 = held bench _ read-bench table-holds.1.1.1.1.1.1.0

b8 : Base false ring.setup ring.setup.graph acc_backup
    (set_of (pwd_backup ∷ device ∷ []) ∷ set_of (pwd_manager ∷ device ∷ []) ∷ set_of (pwd_backup ∷ seed ∷ []) ∷ set_of (pwd_manager ∷ seed ∷ []) ∷ [])
b8 = held ring _ read-ring table-holds.1.1.1.1.1.1.1.1.0

b10 : Score false closed.setup closed.setup.graph only never
b10 = held closed _ read-closed table-holds.1.1.1.1.1.1.1.1.1.1.0

-- and of some more, shown likewise: the ring has no losable vertex; {mailpw, mail} and {mailpw} are handed in for order
abbrev more : List Example
more =
    lockout ring acc_backup []
    ∷ marks bench order (set_of (mailpw ∷ mail ∷ []) ∷ []) 0 0 1 0 2
    ∷ marks bench order (set_of (mailpw ∷ []) ∷ []) 1 0 0 0 1
    ∷ []

further : AllHold more
unfolding lowest some every filtered is_listed is_member is_within is_meeting with_vertex is_complete is_broken colour_of is_added pass_of passes_of closure_of derives_of next_vertex steps_of way_of is_chosen sets_of_size sets_up_to sets_of target_sets_of is_minimal base_of least_sum score_of mark_of marks_from counts_of marks_of sum_over
further = all_hold more ((read-ring, refl) & (read-bench, refl) & (read-bench, refl) & tt)

-- lists with other first elements are not equal
apart : (a b : ℕ) (l k : List ℕ) → (a ≡ b → ⊥) → a ∷ l ≡ b ∷ k → ⊥
apart a b l k n e = n cc

-- .. nor those with other second ones
second-apart : (a b x y : ℕ) → (a ≡ b → ⊥) → x ∷ a ∷ [] ≡ y ∷ b ∷ [] → ⊥
second-apart a b x y n e = n cc

-- ---- closures and ways in

-- A closure that hands its set back (B2): {mailpw} opens mail and order.
pub no-set-back : (n : ℕ) → Gives (closure_call bench.setup (set_of (mailpw ∷ []))) (set_of (mailpw ∷ []) ∷ n ∷ []) → ⊥
no-set-back n c = apart 2 26 (n ∷ []) (3 ∷ []) (omega arith) (closure-told bench.setup 2 26 3 _ by-mail c)

-- Two passes from {mailpw}: a loop in place makes two turns; two are counted where the pass that adds nothing is left out; the longest way in
-- from there has two steps.
pub no-two-passes : Gives (closure_call bench.setup (set_of (mailpw ∷ []))) (set_of (mailpw ∷ mail ∷ order ∷ []) ∷ 2 ∷ []) → ⊥
no-two-passes c = second-apart 2 3 26 26 (omega arith) (closure-told bench.setup 2 26 3 _ by-mail c)

-- Vertices added, and one more: {ordpw, mailpw, token} opens mail and order in one pass.
pub no-vertices-counted : Gives (closure_call bench.setup (set_of (ordpw ∷ mailpw ∷ token ∷ []))) (set_of (ordpw ∷ mailpw ∷ token ∷ mail ∷ order ∷ []) ∷ 3 ∷ []) → ⊥
no-vertices-counted c = second-apart 3 2 31 31 (omega arith) (closure-told bench.setup 7 31 2 _ together c)

-- A loop that is cut off after as many passes as vertices are outside: from {p} there are two, and q alone is outside.
pub no-pass-cut-off : Gives (closure_call pair.setup (set_of (p ∷ []))) (set_of (p ∷ q ∷ []) ∷ 1 ∷ []) → ⊥
no-pass-cut-off c = second-apart 1 2 3 3 (omega arith) (closure-told pair.setup 1 3 2 _ to-and-fro c)

-- "Shut" before looking (B6): there is a way in of two steps, whatever room the lists have.
pub no-early-shut : (vertices colours : List ℕ) (lent : List (List ℕ)) → Fulfils (way_call bench.setup order (set_of (mailpw ∷ [])) vertices colours) (ends (gives (0 ∷ [])) lent) → ⊥
no-early-shut vertices colours lent c =
    let e = way-told bench.setup order 2 steps vertices colours (0 ∷ []) lent b6 c in
    let z : ◌≡◌ {A = ℕ} 1 2 = ap length e in
    omega arith

-- ---- lists

abbrev both-lists : Bases
both-lists =
    record {
      opening = set_of (mailpw ∷ []) ∷ set_of (ordpw ∷ token ∷ []) ∷ [];
      lockout = set_of (ordpw ∷ mailpw ∷ []) ∷ set_of (mailpw ∷ token ∷ []) ∷ [];
    }

are-both : AreBases bench.setup order both-lists
are-both = record { is_opening = b3; is_lockout = b4 }

-- with room for them, both lists of order are what the call gives
in-room : (list : List ℕ) (o : Outcome) → Fulfils (bases_call bench.setup order list) o → 4 ≤ length list
    → o ≡ ends (gives (2 ∷ 2 ∷ [])) (written (both-lists.opening ++ both-lists.lockout) list ∷ [])
in-room list o c l = only-given (bases_call bench.setup order list) (one-bases bench.setup order list) both-lists are-both o c (well, (omega arith, tt)) (l, tt)

-- An always empty list (B3, B4): order has two opening sets and two lockout sets.
pub no-empty-list : (n : ℕ) (list : List ℕ) (lent : List (List ℕ)) → Fulfils (bases_call bench.setup order list) (ends (gives (0 ∷ n ∷ [])) lent) → ⊥
no-empty-list n list lent c = apart 0 2 (n ∷ []) (2 ∷ []) (omega arith) (bases-told bench.setup order both-lists list _ lent are-both c)

-- One minimal set instead of all, as where vertices are dropped one by one from the full set (B8): the ring has four.
pub no-single-set : (n : ℕ) (list : List ℕ) (lent : List (List ℕ)) → Fulfils (bases_call ring.setup acc_backup list) (ends (gives (1 ∷ n ∷ [])) lent) → ⊥
no-single-set n list lent c =
    apart 1 4 (n ∷ []) (0 ∷ []) (omega arith)
    (bases-told ring.setup acc_backup _ list _ lent (record { is_opening = b8; is_lockout = held ring _ read-ring further.0 }) c)

-- Loss through one colour where another still opens (B4): without ordpw the colour of ordpw and token is broken, and mail still opens order.
pub no-loss-by-one-colour : (l : List ℕ) → Base true bench.setup bench.setup.graph order l → Listed l (set_of (ordpw ∷ [])) → ⊥
no-loss-by-one-colour l b m = none (subst (λ (k : List ℕ). Listed k 1) (base-unique true bench.setup bench.setup.graph order l (3 ∷ 6 ∷ []) b b4) m)
  where
    none : Listed (3 ∷ 6 ∷ []) 1 → ⊥
    none (inl e) = omega arith
    none (inr (inl e)) = omega arith
    none (inr (inr z)) = z

-- 15 at equality: four places are enough for order's two lists.
pub no-refusal-at-equality : (list : List ℕ) (lent : List (List ℕ)) → length list ≡ 4 → Fulfils (bases_call bench.setup order list) (ends (refuses 15) lent) → ⊥
no-refusal-at-equality list lent n c =
    let z : ◌≡◌ {A = ℕ} 15 0 = ap (λ (o : Outcome). o.reply.number) (in-room list _ c (omega arith)) in
    omega arith

-- 15 judged by one list alone: three places have room for either list and not for both.
pub no-room-for-one : (values list : List ℕ) (lent : List (List ℕ)) → length list ≡ 3 → Fulfils (bases_call bench.setup order list) (ends (gives values) lent) → ⊥
no-room-for-one values list lent n c =
    let e = only-short (bases_call bench.setup order list) (one-bases bench.setup order list) both-lists are-both _ c (well, (omega arith, tt)) (λ k. let j = k.0 in omega arith) in
    let z : ◌≡◌ {A = ℕ} 0 15 = ap (λ (o : Outcome). o.reply.number) e in
    omega arith

-- A lockout list one place late: behind order's two opening sets the first lockout set stands.
pub no_gap : (reply : Reply) (list after : List ℕ) → 4 ≤ length list → Fulfils (bases_call bench.setup order list) (ends reply (after ∷ []))
    → get_or after 2 0 ≡ set_of (ordpw ∷ mailpw ∷ [])
no_gap reply list after l c = ap (λ (o : Outcome). get_or (get_or o.lent 0 []) 2 0) (in-room list _ c l)

-- Order by number only: {0, 1} is the smaller number, and {2} has fewer vertices, so it comes first.
pub no-order-by-number : Ordered (3 ∷ 4 ∷ []) → ⊥
unfolding Before ones
no-order-by-number o = ⊎_elim (λ l. omega arith) (λ p. let e = p.0 in omega arith) (o.0 4 (inl refl))

-- ---- scores

-- "Never" beside an empty list (B5): the score is 1.
pub no-early-never : Gives (score_call false bench.setup order) (never ∷ []) → ⊥
no-early-never c = apart never 1 [] [] (omega arith) (score-told bench.setup order false 1 _ b5 c)

-- Score 0 where the list is empty (B10): it is never.
pub no-free-score : Gives (score_call false closed.setup only) (0 ∷ []) → ⊥
no-free-score c = apart 0 never [] [] (omega arith) (score-told closed.setup only false never _ b10 c)

-- A number above "never" (B10), which the portal would take for a refusal.
pub no-score-above-never : Gives (score_call false closed.setup only) ((never + 1) ∷ []) → ⊥
no-score-above-never c = apart (never + 1) never [] [] (omega arith) (score-told closed.setup only false never _ b10 c)

-- ---- marks

-- Loose before shut: {mailpw, mail} opens, and so does a part of it, but mail is no initial vertex.
pub no-loose-before-shut : Gives (marks_call false bench.setup order (set_of (mailpw ∷ mail ∷ []) ∷ [])) (0 ∷ 0 ∷ 0 ∷ 1 ∷ 2 ∷ []) → ⊥
no-loose-before-shut c =
    let e = marks-told bench.setup order false (set_of (mailpw ∷ mail ∷ []) ∷ []) 0 0 1 0 2 _ (held bench _ read-bench further.1.0) c in
    let z : ◌≡◌ {A = ℕ} 0 1 = ap (λ (l : List ℕ). get_or l 2 0) e in
    omega arith

-- Full marks for a list with a set missing: {mailpw} alone is one of two.
pub no-full-marks-early : Gives (marks_call false bench.setup order (set_of (mailpw ∷ []) ∷ [])) (1 ∷ 0 ∷ 0 ∷ 0 ∷ 0 ∷ []) → ⊥
no-full-marks-early c =
    let e = marks-told bench.setup order false (set_of (mailpw ∷ []) ∷ []) 1 0 0 0 1 _ (held bench _ read-bench further.1.1.0) c in
    let z : ◌≡◌ {A = ℕ} 0 1 = ap (λ (l : List ℕ). get_or l 4 0) e in
    omega arith

-- ---- without recovery (document 02, point 3)

module _ (s : Setup) (g : Graph) (h : WithoutRecovery s g) where
  -- no row goes for a mark in another colour, or of another vertex: without a mark of its own it is as it was
  pub no-other-row-out : (v c : ℕ) → ((e : ℕ) → Edge s.recovery e v c → ⊥) → row g v c ≡ row s.graph v c
  no-other-row-out v c none =
      same_set (row g v c) (row s.graph v c) (record { each = λ f m. ((h.each f v c).to m).0 }) (record { each = λ f m. (h.each f v c).from (m, none) })

  -- no edge is left beside a mark, whether the marked edge stands in the rows or not
  pub no-edge-beside-mark : (e f v c : ℕ) → Edge s.recovery e v c → Edge g f v c → ⊥
  no-edge-beside-mark e f v c marked m = ((h.each f v c).to m).1 e marked
