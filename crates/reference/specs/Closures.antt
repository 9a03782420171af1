-- Closures, their passes and ways in, computed: passes over the vertices, as many as can add one.
use Rattle.std.specs.Prelude.{Bool, true, false, cond, not, ◌&&◌, ◌||◌, List, [], ◌∷◌, ℕ, zero, suc, eqb, ltb}
use Rattle.setup.specs.declared.Rows.{Rows}
use Rattle.setup.specs.declared.Graph.{Graph}
use Rattle.setup.specs.Setup.{rows_at, row_of}
use Rattle.derivations.specs.Access.{Step}
use Rattle.reference.specs.Tests.{lowest, some, every, is_member, is_within, is_meeting, with_vertex}

-- The row is not empty, and lies within what is held.
unfoldable pub is_complete : ℕ → ℕ → Bool
is_complete row held = not (eqb row 0) && is_within row held

-- The row is empty, and so no colour, or has a lost vertex.
unfoldable pub is_broken : ℕ → ℕ → Bool
is_broken row lost = eqb row 0 || is_meeting row lost

-- The lowest complete colour; 8 where there is none.
unfoldable pub colour_of : Rows → ℕ → ℕ
colour_of rows held = lowest (λ c. is_complete (row_of rows c) held) 8

-- By these rows the vertex is opened: some colour is complete. Or for a loss it is lost: there is a colour, and every colour has a lost vertex.
unfoldable pub is_added : Bool → Rows → ℕ → Bool
is_added false rows held = ltb (colour_of rows held) 8
is_added true rows lost = some (λ c. not (eqb (row_of rows c) 0)) 8 && every (λ c. is_broken (row_of rows c) lost) 8

-- A pass over the vertices below n: each that the held set allows is added, and helps no other in this pass.
unfoldable pub pass_of : Bool → Graph → ℕ → ℕ → ℕ
pass_of loss g zero held = held
pass_of loss g (suc n) held =
    let now = pass_of loss g n held in
    let more = with_vertex now n in
    cond (is_added loss (rows_at g n) held) more now

-- Passes until one adds nothing, where at most k can add something.
unfoldable pub passes_of : Bool → ℕ → Graph → ℕ → ℕ → ℕ
passes_of loss count g zero held = held
passes_of loss count g (suc k) held =
    let now = pass_of loss g count held in
    let later = passes_of loss count g k now in
    cond (eqb now held) held later

-- How many passes are made. The one that adds nothing is counted as well.
unfoldable pub count_of : Bool → ℕ → Graph → ℕ → ℕ → ℕ
count_of loss count g zero held = 1
count_of loss count g (suc k) held =
    let now = pass_of loss g count held in
    let later = suc (count_of loss count g k now) in
    cond (eqb now held) 1 later

-- `Closure (rule_of loss g) set`, for a graph whose edges run between the vertices below `count`.
unfoldable pub closure_of : Bool → ℕ → Graph → ℕ → ℕ
closure_of loss count g set = passes_of loss count g count set

-- `Passes (rule_of loss g)`: how many passes lead from the set to its closure.
unfoldable pub pass_count_of : Bool → ℕ → Graph → ℕ → ℕ
pass_count_of loss count g set = count_of loss count g count set

-- `Derives loss g target set`: is the target in the closure?
unfoldable pub derives_of : Bool → ℕ → Graph → ℕ → ℕ → Bool
derives_of loss count g target set = is_member (closure_of loss count g set) target

-- The lowest vertex below `count` that is not held and can be opened; `count` where there is none.
unfoldable pub next_vertex : ℕ → Graph → ℕ → ℕ
next_vertex count g held = lowest (λ v. not (is_member held v) && is_added false (rows_at g v) held) count

-- While the target isn't held, the lowest step, at most k of them.
unfoldable pub steps_of : ℕ → Graph → ℕ → ℕ → ℕ → List Step
steps_of count g target zero held = []
steps_of count g target (suc k) held =
    let v = next_vertex count g held in
    let step : Step = record { vertex = v; colour = colour_of (rows_at g v) held } in
    let later : List Step = step ∷ steps_of count g target k (with_vertex held v) in
    cond (is_member held target) [] later

-- `Way g target (Member set)`, where `derives_of false count g target set` says that there is one.
unfoldable pub way_of : ℕ → Graph → ℕ → ℕ → List Step
way_of count g target set = steps_of count g target count set
