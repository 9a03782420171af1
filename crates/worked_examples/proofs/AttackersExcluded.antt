-- Who gets in at document 003's example 15, and wrong scores that the contract excludes, each at an example.
-- Assumes nothing.
use mathlib.Core.Path.{◌≡◌, refl, ap, subst}
use mathlib.Core.List.{List, [], ◌∷◌, head-eq_of_cons-eq}
use Prim.Native.Nat.{ℕ, ◌/◌, ◌%◌, ◌^◌}
use native.Mathlib.Omega.{arith}
use Rattle.vertex_set.specs.Set.{Member}
use Rattle.setup.specs.declared.Setup.{Setup}
use Rattle.attackers.specs.Attackers.{KindAtMost, EntriesFit, AttackerScore}
use Rattle.questions.specs.Contract.{Outcome, refuses, ends, turns_away, Answers, Fulfils}
use Rattle.questions.specs.Questions.{asks12, asks13}
use Rattle.questions.proofs.Asks.{first-no}
use Rattle.questions.proofs.Contract.{only-answer, only-given}
use Rattle.attackers.specs.Answers.{asks16, asks17, attacker_call}
use Rattle.attackers.proofs.Unique.{one-attackers}
use Rattle.worked_examples.specs.Sheets.{bench, order, closed, only, spare, acc}
use Rattle.worked_examples.specs.Attackers.{rem_none, rem_some, rem_exp, loc_none, loc_some, loc_exp, WhoGetsIn}
use Rattle.worked_examples.proofs.Reading.{reads-well, read-bench, read-closed, read-spare}
use Rattle.worked_examples.proofs.Table.{held}
use Rattle.worked_examples.proofs.Settled.{Gives}
use Rattle.worked_examples.proofs.Attackers.{fits_at, fits-of, all-score}

-- an answer that meets the contract is the score
settled : (s : Setup) (target : ℕ) (kinds : List ℕ) (r q : ℕ) → AttackerScore s kinds target r → Gives (attacker_call s target kinds) (q ∷ []) → q ≡ r
settled s target kinds r q h c =
    head-eq_of_cons-eq (ap (λ (o : Outcome). o.reply.values) (only-answer (attacker_call s target kinds) (one-attackers s target kinds) r h _ c refl refl))

-- ---- example 15: either of a remote one with some skill and a local one without

abbrev either : List ℕ
either = rem_some ∷ loc_none ∷ 255 ∷ []

either-score : AttackerScore spare.setup either acc 10
either-score = held spare (λ (s : Setup). AttackerScore s either acc 10) read-spare all-score.1.1.0

either-fits : EntriesFit spare.setup either
unfolding fits_at
either-fits = fits-of spare either read-spare refl

either_is : (q : ℕ) → Gives (attacker_call spare.setup acc either) (q ∷ []) → q ≡ 10
either_is q = settled spare.setup acc either 10 q either-score

-- a remote expert and a local attacker with some skill get in too, a remote one without skill does not
pub who-gets-in : WhoGetsIn
unfolding Member
who-gets-in =
    record {
      setup = spare.setup;
      reading = read-spare;
      holds = (
        (either-score.intruders rem_exp (omega arith)).to (record { attacker = rem_some; member = refl; at_most = record { locations = omega arith; skills = omega arith } }),
        (either-score.intruders loc_some (omega arith)).to (record { attacker = loc_none; member = refl; at_most = record { locations = omega arith; skills = omega arith } }),
        λ g. let a = (either-score.intruders rem_none (omega arith)).from g in none_above a.attacker a.member a.at_most,
      );
    }
  where
    -- at most 0 as a kind is 0, which the score has not
    none_above : (k : ℕ) → Member 10 k → KindAtMost k rem_none → ⊥
    none_above k m h =
        let p = h.locations in
        let q = h.skills in
        let z : k ≡ 0 = omega arith in
        let e : 10 / 2 ^ 0 % 2 ≡ 1 = subst (λ (j : ℕ). 10 / 2 ^ j % 2 ≡ 1) z m in
        omega arith

-- the six kinds as a chain: 1 would be below 3, and the score 2
pub no-chain : Gives (attacker_call spare.setup acc either) (2 ∷ []) → ⊥
no-chain c = let e = either_is 2 c in omega arith

-- all who get in: 1 to 5
pub no-upward-closure : Gives (attacker_call spare.setup acc either) (62 ∷ []) → ⊥
no-upward-closure c = let e = either_is 62 c in omega arith

-- 17 for an entry above 5 where nothing starts
pub no-other-entry-read : Fulfils (attacker_call spare.setup acc either) (ends (refuses 17) []) → ⊥
no-other-entry-read c =
    let e = only-given (attacker_call spare.setup acc either) (one-attackers spare.setup acc either) 10 either-score _ c
    (reads-well spare read-spare, (omega arith, (refl, (either-fits, tt)))) tt in
    let z : ◌≡◌ {A = ℕ} 17 0 = ap (λ (o : Outcome). o.reply.number) e in
    omega arith

-- ---- a lower and a higher kind

abbrev two : List ℕ
two = loc_some ∷ rem_some ∷ 0 ∷ []

two_is : (q : ℕ) → Gives (attacker_call spare.setup acc two) (q ∷ []) → q ≡ 2
two_is q =
    settled spare.setup acc two 2 q
    (held spare (λ (s : Setup). AttackerScore s (loc_some ∷ rem_some ∷ 0 ∷ []) acc 2) read-spare all-score.1.1.1.1.1.0)

-- the highest kinds kept; all kinds kept
pub no-highest : Gives (attacker_call spare.setup acc two) (16 ∷ []) → ⊥
no-highest c = let e = two_is 16 c in omega arith

pub no_all : Gives (attacker_call spare.setup acc two) (18 ∷ []) → ⊥
no_all c = let e = two_is 18 c in omega arith

-- ---- a set of a local one without skill and a remote expert

abbrev joined : List ℕ
joined = loc_none ∷ loc_exp ∷ rem_exp ∷ 255 ∷ 255 ∷ []

joined_is : (q : ℕ) → Gives (attacker_call bench.setup order joined) (q ∷ []) → q ≡ 32
joined_is q =
    settled bench.setup order joined 32 q
    (held bench (λ (s : Setup). AttackerScore s (loc_none ∷ loc_exp ∷ rem_exp ∷ 255 ∷ 255 ∷ []) order 32) read-bench all-score.1.1.1.0)

-- the larger number as a set's kind: 3, which would be below 5
pub no-larger-number : Gives (attacker_call bench.setup order joined) (8 ∷ []) → ⊥
no-larger-number c = let e = joined_is 8 c in omega arith

-- ---- an empty score, and questions 16 and 17

-- 1, which is kind 0, where nobody gets in
pub no-one-for-none : Gives (attacker_call closed.setup only (255 ∷ [])) (1 ∷ []) → ⊥
no-one-for-none c =
    let e = settled closed.setup only (255 ∷ []) 0 1
    (held closed (λ (s : Setup). AttackerScore s (255 ∷ []) only 0) read-closed all-score.1.1.1.1.1.1.0) c in
    omega arith

-- 17 before 16: a list that is too long, with a starting item's entry above 5
pub no-seventeen-first : Fulfils (attacker_call spare.setup acc (6 ∷ 6 ∷ 6 ∷ 6 ∷ [])) (ends (refuses 17) []) → ⊥
unfolding Fulfils
no-seventeen-first c =
    let e = first-no (turns_away []) (Answers (attacker_call spare.setup acc (6 ∷ 6 ∷ 6 ∷ 6 ∷ []))) (asks12 spare.setup ∷ asks13 spare.setup acc ∷ [])
    (asks16 spare.setup (6 ∷ 6 ∷ 6 ∷ 6 ∷ [])) (asks17 spare.setup (6 ∷ 6 ∷ 6 ∷ 6 ∷ []) ∷ []) _ c (reads-well spare read-spare, (omega arith, tt))
    (λ e. let z : ◌≡◌ {A = ℕ} 4 3 = e in omega arith) in
    let z : ◌≡◌ {A = ℕ} 17 16 = ap (λ (o : Outcome). o.reply.number) e in
    omega arith
