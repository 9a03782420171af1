-- Examples of opening lists shown one set at a time (document 02, point 9), of what is read from the sheets' bytes.
use Rattle.std.specs.Prelude.{false, List, [], ◌∷◌, ℕ}
use Rattle.sheet_format.specs.Rows.{Each}
use Rattle.setup.specs.declared.Setup.{Setup}
use Rattle.living.specs.Calls.{AddEdge, RemoveEdge}
use Rattle.histories.specs.Histories.{Ran}
use Rattle.next_sets.specs.Answers.{Shown, End}
use Rattle.next_sets.specs.Walks.{Tells, Walk}
use Rattle.worked_examples.specs.Sheets.{Sheet, Yields, bench, ordpw, mailpw, token, mail, order, ring, pwd_backup, pwd_manager, device, seed, acc_backup, loop, only, spare, pw, key, acc}
use Rattle.worked_examples.specs.Table.{set_of}

-- A sheet, a target, and the sets that are shown from the empty set on up to "no more".
pub record WalkExample : Type 0 where
  pub sheet : Sheet
  pub target : ℕ
  pub sets : List ℕ

abbrev pub shows : Sheet → ℕ → List ℕ → WalkExample
shows sheet target sets = record { sheet = sheet; target = target; sets = sets }

abbrev pub Walks : WalkExample → Type 0
Walks x = Yields x.sheet (λ s. Walk s x.target 0 x.sets)

abbrev pub walks : List WalkExample
walks =
    -- a set of one item, and then one of two
    shows bench order (set_of (mailpw ∷ []) ∷ set_of (ordpw ∷ token ∷ []) ∷ [])
    -- {seed} is 8, and comes before 5 and 6: fewer items first, then the smaller number
    ∷ shows ring seed (set_of (seed ∷ []) ∷ set_of (pwd_backup ∷ device ∷ []) ∷ set_of (pwd_manager ∷ device ∷ []) ∷ [])
    -- four sets of one size
    ∷ shows ring acc_backup
    (set_of (pwd_backup ∷ device ∷ []) ∷ set_of (pwd_manager ∷ device ∷ []) ∷ set_of (pwd_backup ∷ seed ∷ []) ∷ set_of (pwd_manager ∷ seed ∷ []) ∷ [])
    -- no set opens it: "no more" at once
    ∷ shows loop only []
    -- a start of zero is a start
    ∷ shows spare acc (set_of (pw ∷ []) ∷ set_of (key ∷ []) ∷ [])
    ∷ []

abbrev pub AllWalk : Type 0
AllWalk = Each Walks walks

-- ---- while the drawing changes

-- The order account, of document 01's sheet. After {mailpw} the token is drawn as a second way into mail, and {token} is shown; that edge is removed again,
-- and what comes after {token}, which is in the list no more, is {ordpw, token}. Then there is no more.
pub record ShownWhileDrawn (s : Setup) : Type 0 where
  pub more : Setup
  pub less : Setup
  pub first : Tells s order 0 (Shown (set_of (mailpw ∷ [])))
  pub added : Ran s (AddEdge token mail 1 false ∷ []) (0 ∷ []) more
  pub second : Tells more order (set_of (mailpw ∷ [])) (Shown (set_of (token ∷ [])))
  pub removed : Ran more (RemoveEdge token mail 1 ∷ []) (0 ∷ []) less
  pub third : Tells less order (set_of (token ∷ [])) (Shown (set_of (ordpw ∷ token ∷ [])))
  pub last : Tells less order (set_of (ordpw ∷ token ∷ [])) End

abbrev pub WalkWhileDrawn : Type 0
WalkWhileDrawn = Yields bench ShownWhileDrawn
