-- Document 01's bench examples, B1 to B12, and what it is for them to hold of the sheets' bytes: in terms of the definitions that the contracts cite.
use Rattle.std.specs.Prelude.{true, false, List, [], ◌∷◌, ℕ, ◌^◌}
use Rattle.vertex_set.specs.Set.{Member}
use Rattle.setup.specs.Setup.{total}
use Rattle.derivations.specs.Access.{Step, access, AccessFrom}
use Rattle.derivations.specs.Lockout.{LockoutFrom}
use Rattle.derivations.specs.Passes.{Passes}
use Rattle.derivations.specs.Way.{Way}
use Rattle.bases.specs.Base.{Base}
use Rattle.scores.specs.Never.{never}
use Rattle.bases.specs.Score.{Score}
use Rattle.bases.specs.Marks.{Counts}
use Rattle.sheet_format.specs.Rows.{Each}
use Rattle.worked_examples.specs.Sheets.{Sheet, Yields, bench, ordpw, mailpw, token, mail, order, ring, pwd_backup, pwd_manager, device, seed, code, acc_backup, alone, closed, loop, only, pair, p, q, spare, pw, key, acc, full, first, last, halves, whole, half, other, level, sum}

-- The set of the vertices of the list.
abbrev pub set_of : List ℕ → ℕ
set_of l = total (λ v. 2 ^ v) l

-- ---- what an example says

pub data Example : Type 0 where
  -- the closure of a set
  closure : Sheet → (set result : ℕ) → Example
  -- .. and the number of passes that lead there
  passes : Sheet → (set result n : ℕ) → Example
  -- the lost set of a set
  loss : Sheet → (set result : ℕ) → Example
  -- the opening list and the lockout list of a target
  opening : Sheet → (target : ℕ) → List ℕ → Example
  lockout : Sheet → (target : ℕ) → List ℕ → Example
  -- its score and its risk
  score : Sheet → (target result : ℕ) → Example
  risk : Sheet → (target result : ℕ) → Example
  -- the way in to a target from a set
  way : Sheet → (target set : ℕ) → List Step → Example
  -- the marks for sets handed in as the opening list: right, repeated, shut, loose, missing
  marks : Sheet → (target : ℕ) → List ℕ → (right repeated shut loose missing : ℕ) → Example
  -- and as the lockout list
  lock_marks : Sheet → (target : ℕ) → List ℕ → (right repeated shut loose missing : ℕ) → Example

-- The example holds of what is read from its sheet's bytes.
abbrev pub Holds : Example → Type 0
Holds (closure x set result) = Yields x (λ s. AccessFrom s.graph set result)
Holds (passes x set result n) = Yields x (λ s. Passes (access s.graph) n set result)
Holds (loss x set result) = Yields x (λ s. LockoutFrom s.graph set result)
Holds (opening x target l) = Yields x (λ s. Base false s s.graph target l)
Holds (lockout x target l) = Yields x (λ s. Base true s s.graph target l)
Holds (score x target result) = Yields x (λ s. Score false s s.graph target result)
Holds (risk x target result) = Yields x (λ s. Score true s s.graph target result)
Holds (way x target set steps) = Yields x (λ s. Way s.graph target (Member set) steps)
Holds (marks x target handed right repeated shut loose missing) =
    Yields x (λ s. Counts false s s.graph target handed right repeated shut loose missing)
Holds (lock_marks x target handed right repeated shut loose missing) =
    Yields x (λ s. Counts true s s.graph target handed right repeated shut loose missing)

-- ---- the examples

abbrev pub table : List Example
table =
    -- B1: the closure of the empty set is empty
    closure bench (set_of []) (set_of [])
    -- B2: the closure of {mailpw} adds mail, order
    ∷ closure bench (set_of (mailpw ∷ [])) (set_of (mailpw ∷ mail ∷ order ∷ []))
    -- B3, B4: order's two lists
    ∷ opening bench order (set_of (mailpw ∷ []) ∷ set_of (ordpw ∷ token ∷ []) ∷ [])
    ∷ lockout bench order (set_of (ordpw ∷ mailpw ∷ []) ∷ set_of (mailpw ∷ token ∷ []) ∷ [])
    -- B5: score 1, risk 3
    ∷ score bench order 1
    ∷ risk bench order 3
    -- B6: the way in from {mailpw}
    ∷ way bench order (set_of (mailpw ∷ [])) (record { vertex = mail; colour = 0 } ∷ record { vertex = order; colour = 1 } ∷ [])
    -- B7: {mailpw}, {mailpw}, {mailpw, token}, {token} for order: right, repeated, loose, shut and missing are 1 each
    ∷ marks bench order (set_of (mailpw ∷ []) ∷ set_of (mailpw ∷ []) ∷ set_of (mailpw ∷ token ∷ []) ∷ set_of (token ∷ []) ∷ []) 1 1 1 1 1
    -- B8: the four opening sets of document 003's example 5
    ∷ opening ring acc_backup
    (set_of (pwd_backup ∷ device ∷ []) ∷ set_of (pwd_manager ∷ device ∷ []) ∷ set_of (pwd_backup ∷ seed ∷ []) ∷ set_of (pwd_manager ∷ seed ∷ []) ∷ [])
    -- B9: start 5, score 5
    ∷ score alone only 5
    -- B10: start `-`, score never
    ∷ score closed only never
    -- B11: no opening set, lockout set itself
    ∷ opening loop only []
    ∷ lockout loop only (set_of (only ∷ []) ∷ [])
    -- B12: p and q open each other: lockout sets of p are {p} and {q}
    ∷ lockout pair p (set_of (p ∷ []) ∷ set_of (q ∷ []) ∷ [])
    ∷ []

-- Further examples, for what B1 to B12 leave open: a definition could be altered there, and none of them would tell (docs/TESTING.md).
abbrev pub further : List Example
further =
    -- passes: the one that adds nothing is counted; mail, which a pass adds, opens order in the next; two that come together; as many passes as
    -- vertices are outside, and one more
    passes bench (set_of []) (set_of []) 1
    ∷ passes bench (set_of (mailpw ∷ [])) (set_of (mailpw ∷ mail ∷ order ∷ [])) 3
    ∷ passes bench (set_of (ordpw ∷ token ∷ [])) (set_of (ordpw ∷ token ∷ order ∷ [])) 2
    ∷ passes bench (set_of (ordpw ∷ mailpw ∷ token ∷ [])) (set_of (ordpw ∷ mailpw ∷ token ∷ mail ∷ order ∷ [])) 2
    ∷ passes bench (set_of (ordpw ∷ mailpw ∷ token ∷ mail ∷ order ∷ [])) (set_of (ordpw ∷ mailpw ∷ token ∷ mail ∷ order ∷ [])) 1
    ∷ passes ring (set_of (pwd_manager ∷ device ∷ [])) (set_of (pwd_backup ∷ pwd_manager ∷ device ∷ seed ∷ code ∷ acc_backup ∷ [])) 4
    ∷ passes pair (set_of (p ∷ [])) (set_of (p ∷ q ∷ [])) 2
    -- losses: by all colours of order, and by one of two
    ∷ loss bench (set_of (ordpw ∷ mailpw ∷ [])) (set_of (ordpw ∷ mailpw ∷ mail ∷ order ∷ []))
    ∷ loss bench (set_of (ordpw ∷ [])) (set_of (ordpw ∷ []))
    -- a late edge: acc_backup, which opens seed, stands behind it, and one pass over the vertices is not enough
    ∷ opening ring seed (set_of (seed ∷ []) ∷ set_of (pwd_backup ∷ device ∷ []) ∷ set_of (pwd_manager ∷ device ∷ []) ∷ [])
    -- the lower of two complete colours, and a target that is held
    ∷ way bench order (set_of (ordpw ∷ mailpw ∷ token ∷ [])) (record { vertex = mail; colour = 0 } ∷ record { vertex = order; colour = 0 } ∷ [])
    ∷ way bench order (set_of (order ∷ [])) []
    -- "never" is 2^62
    ∷ score closed only (2 ^ 62)
    -- full marks for the lockout list, in any order; for order a vertex that is not initial, and one that is not there, make a set shut
    ∷ lock_marks bench order (set_of (mailpw ∷ token ∷ []) ∷ set_of (ordpw ∷ mailpw ∷ []) ∷ []) 2 0 0 0 0
    ∷ marks bench order (set_of (mailpw ∷ mail ∷ []) ∷ set_of (mailpw ∷ 63 ∷ []) ∷ set_of (ordpw ∷ mailpw ∷ token ∷ []) ∷ []) 0 0 2 1 2
    -- a zero value, colour 7, a recovery edge
    ∷ opening spare acc (set_of (pw ∷ []) ∷ set_of (key ∷ []) ∷ [])
    ∷ lockout spare acc (set_of (pw ∷ key ∷ []) ∷ [])
    ∷ score spare acc 0
    ∷ risk spare acc 1
    ∷ way spare acc (set_of (key ∷ [])) (record { vertex = acc; colour = 7 } ∷ [])
    -- 64 items: the last, 63, opens the first
    ∷ closure full (set_of (last ∷ [])) (set_of (first ∷ last ∷ []))
    ∷ loss full (set_of (last ∷ [])) (set_of (first ∷ last ∷ []))
    -- the largest value against two of half of it, and sums above 2^32
    ∷ opening halves level (set_of (whole ∷ []) ∷ set_of (half ∷ other ∷ []) ∷ [])
    ∷ score halves level 4000000000
    ∷ risk halves level 6000000000
    ∷ score halves sum 8000000000
    ∷ risk halves sum 2000000000
    ∷ []

abbrev pub AllHold : List Example → Type 0
AllHold l = Each Holds l
