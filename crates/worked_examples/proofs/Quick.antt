-- All examples of quick answers hold; and wrong quick answers that the contract excludes, each at one of them.
-- Assumes nothing.
use mathlib.Core.Path.{◌≡◌, refl, ap, subst}
use mathlib.Core.Bool.{true, false}
use mathlib.Core.List.{List, [], ◌∷◌}
use mathlib.Core.Logic.{◌⊎◌, inl, inr, ⊎_elim}
use Prim.Native.Nat.{ℕ, ◌<◌, ◌^◌}
use native.Mathlib.Omega.{arith}
use Rattle.vertex_set.specs.Set.{Member, Iff}
use Rattle.vertex_set.proofs.Sets.{member_below}
use Rattle.setup.specs.declared.Graph.{Graph}
use Rattle.setup.specs.declared.Setup.{Setup}
use Rattle.setup.specs.Calls.{Inside}
use Rattle.derivations.specs.Derivation.{Adds}
use Rattle.derivations.specs.Access.{Step, access, AccessFrom}
use Rattle.questions.specs.Contract.{Outcome, ends, turns_away, Answers, Fulfils}
use Rattle.questions.specs.Questions.{asks12, asks13, asks14}
use Rattle.questions.proofs.Asks.{first-no}
use Rattle.questions.proofs.Contract.{fulfilled, given, fulfils-once}
use Rattle.quick_yes.specs.Answers.{HeldAtStop, quick_call}
use Rattle.quick_yes.proofs.Unique.{one-quick}
use Rattle.reference.specs.Tests.{lowest, some, every, is_member, is_within, is_meeting, with_vertex}
use Rattle.reference.specs.Closures.{is_complete, is_broken, colour_of, is_added, pass_of, passes_of, closure_of, derives_of, next_vertex, steps_of, way_of}
use Rattle.reference.proofs.Graphs.{own-graph}
use Rattle.reference.proofs.Meaning.{meaning}
use Rattle.reference.proofs.Tests.{in-with}
use Rattle.worked_examples.specs.Sheets.{Sheet, ReadsSheet, bench, ordpw, mailpw, token, mail, order, closed}
use Rattle.worked_examples.specs.Table.{set_of}
use Rattle.worked_examples.specs.Quick.{AllTell}
use Rattle.worked_examples.proofs.Reading.{◌&◌, reads-well, read-bench, read-closed}
use Rattle.worked_examples.proofs.Table.{held}
use Rattle.worked_examples.proofs.Settled.{Gives}
use Rattle.worked_examples.proofs.Excluded.{inside}

-- ---- the examples

-- The set, and what the steps add.
abbrev held_of : ℕ → List Step → ℕ
held_of set [] = set
held_of set (e ∷ d) = held_of (with_vertex set e.vertex) d

in_held : (g : Graph) (set : ℕ) (d : List Step) (v : ℕ) → Iff (Member (held_of set d) v) (Member set v ⊎ Adds (access g) d v)
in_held g set [] v = record { to = λ m. inl m; from = ⊎_elim (λ m. m) (λ a. absurd a) }
in_held g set (e ∷ d) v =
    let h = in_held g (with_vertex set e.vertex) d v in
    let w = in-with set e.vertex v in
    record {
      to = λ m. ⊎_elim (λ k. ⊎_elim (λ x. inl x) (λ q. inr (inl q)) (w.to k)) (λ a. inr (inr a)) (h.to m);
      from = λ k. h.from (⊎_elim (λ x. inl (w.from (inl x))) (λ a. ⊎_elim (λ q. inl (w.from (inr q))) (λ b. inr b) a) k);
    }

module _ (x : Sheet) (r : ReadsSheet x) (target set : ℕ) (l : target < x.setup.count) (i : Inside x.setup set) where
  yes-told : (q : ℕ) → derives_of false x.setup.count x.setup.graph target set ≡ true → held_of set (way_of x.setup.count x.setup.graph target set) ≡ q
      → Gives (quick_call x.setup target set) (1 ∷ q ∷ [])
  yes-told q d e =
      let w = reads-well x r in
      let steps : List Step = way_of x.setup.count x.setup.graph target set in
      let call = quick_call x.setup target set in
      fulfilled call _ (w, (l, (i, tt))) (given call (record { opens = true; held = q }) (subst (HeldAtStop x.setup.graph target set) e
      (record {
        steps = steps;
        way = (meaning x.setup x.setup.graph w (own-graph x.setup w)).way target set d;
        each = in_held x.setup.graph set steps;
      })) tt _ refl)

  no-told : (q : ℕ) → derives_of false x.setup.count x.setup.graph target set ≡ false → closure_of false x.setup.count x.setup.graph set ≡ q
      → Gives (quick_call x.setup target set) (0 ∷ q ∷ [])
  no-told q d e =
      let w = reads-well x r in
      let m = meaning x.setup x.setup.graph w (own-graph x.setup w) in
      let call = quick_call x.setup target set in
      fulfilled call _ (w, (l, (i, tt)))
      (given call (record { opens = false; held = q }) (m.shut target set d, subst (AccessFrom x.setup.graph set) e (m.closure false set)) tt _ refl)

inside-closed : Inside closed.setup 0
inside-closed = record { each = λ v m. let k = member_below 0 0 v (omega arith) m in omega arith }

pub all_tell : AllTell
unfolding lowest some every is_member is_within is_meeting with_vertex is_complete is_broken colour_of is_added pass_of passes_of closure_of derives_of next_vertex steps_of way_of
all_tell =
    record { setup = bench.setup; reading = read-bench; holds = yes-told bench read-bench mail 7 (omega arith) (inside 7 (omega arith)) 15 refl refl }
    & record { setup = bench.setup; reading = read-bench; holds = yes-told bench read-bench order 7 (omega arith) (inside 7 (omega arith)) 31 refl refl }
    & record { setup = bench.setup; reading = read-bench; holds = yes-told bench read-bench order 2 (omega arith) (inside 2 (omega arith)) 26 refl refl }
    & record { setup = bench.setup; reading = read-bench; holds = yes-told bench read-bench token 6 (omega arith) (inside 6 (omega arith)) 6 refl refl }
    & record { setup = bench.setup; reading = read-bench; holds = no-told bench read-bench ordpw 2 (omega arith) (inside 2 (omega arith)) 26 refl refl }
    & record { setup = bench.setup; reading = read-bench; holds = no-told bench read-bench order 0 (omega arith) (inside 0 (omega arith)) 0 refl refl }
    & record { setup = closed.setup; reading = read-closed; holds = no-told closed read-closed 0 0 (omega arith) inside-closed 0 refl refl }
    & tt

-- ---- wrong answers

-- what meets the contract has the example's values
module _ (target set : ℕ) (y h : ℕ) (told : Gives (quick_call bench.setup target set) (y ∷ h ∷ [])) where
  only-values : (values : List ℕ) → Gives (quick_call bench.setup target set) values → values ≡ y ∷ h ∷ []
  only-values values c = ap (λ (o : Outcome). o.reply.values) (fulfils-once (quick_call bench.setup target set) (one-quick bench.setup target set) _ _ c told)

  no-other-set : (k : ℕ) → (k ≡ h → ⊥) → Gives (quick_call bench.setup target set) (y ∷ k ∷ []) → ⊥
  no-other-set k n c = let e = only-values (y ∷ k ∷ []) c in n cc

  no-other-word : (z k : ℕ) → (z ≡ y → ⊥) → Gives (quick_call bench.setup target set) (z ∷ k ∷ []) → ⊥
  no-other-word z k n c = let e = only-values (z ∷ k ∷ []) c in n cc

abbrev AtBench : ℕ → ℕ → ℕ → ℕ → Setup → Type 0
AtBench target set y h s = Gives (quick_call s target set) (y ∷ h ∷ [])

-- Whole passes until the target is in, the closure handed back on a yes, or one step too many: {ordpw, mailpw, token} opens mail and order together.
pub no-whole-pass : Gives (quick_call bench.setup mail (set_of (ordpw ∷ mailpw ∷ token ∷ []))) (1 ∷ set_of (ordpw ∷ mailpw ∷ token ∷ mail ∷ order ∷ []) ∷ []) → ⊥
no-whole-pass = no-other-set mail 7 1 15 (held bench (AtBench mail 7 1 15) read-bench all_tell.0) 31 (omega arith)

-- A pruned way: order needs no mail there, but mail is the lower item.
pub no-pruned-way : Gives (quick_call bench.setup order (set_of (ordpw ∷ mailpw ∷ token ∷ []))) (1 ∷ set_of (ordpw ∷ mailpw ∷ token ∷ order ∷ []) ∷ []) → ⊥
no-pruned-way = no-other-set order 7 1 31 (held bench (AtBench order 7 1 31) read-bench all_tell.1.0) 23 (omega arith)

-- The closure for a target that is held.
pub no-closure-of-held : Gives (quick_call bench.setup token (set_of (mailpw ∷ token ∷ []))) (1 ∷ set_of (mailpw ∷ token ∷ mail ∷ order ∷ []) ∷ []) → ⊥
no-closure-of-held = no-other-set token 6 1 6 (held bench (AtBench token 6 1 6) read-bench all_tell.1.1.1.0) 30 (omega arith)

-- No, with the given set.
pub no-set-on-no : Gives (quick_call bench.setup ordpw (set_of (mailpw ∷ []))) (0 ∷ set_of (mailpw ∷ []) ∷ []) → ⊥
no-set-on-no = no-other-set ordpw 2 0 26 (held bench (AtBench ordpw 2 0 26) read-bench all_tell.1.1.1.1.0) 2 (omega arith)

-- Yes for a starting item that is not held.
pub no-yes-for-starting : (h : ℕ) → Gives (quick_call bench.setup ordpw (set_of (mailpw ∷ []))) (1 ∷ h ∷ []) → ⊥
no-yes-for-starting h = no-other-word ordpw 2 0 26 (held bench (AtBench ordpw 2 0 26) read-bench all_tell.1.1.1.1.0) 1 h (omega arith)

-- 14 before 13: of no item, and from a set that is outside too.
pub no-fourteen-first : (values : List ℕ) → Fulfils (quick_call bench.setup 5 (2 ^ 5)) (ends (record { number = 14; values = values }) []) → ⊥
unfolding Fulfils
no-fourteen-first values c =
    let e = first-no (turns_away []) (Answers (quick_call bench.setup 5 (2 ^ 5))) (asks12 bench.setup ∷ []) (asks13 bench.setup 5) (asks14 bench.setup (2 ^ 5) ∷ []) _ c
    (reads-well bench read-bench, tt) (λ l. omega arith) in
    let z : ◌≡◌ {A = ℕ} 14 13 = ap (λ (o : Outcome). o.reply.number) e in
    omega arith
