-- Examples of scores by kinds of attacker (document 02, point 1; document 003, examples 14 to 16), of what is read from the sheets' bytes. Figure 7's
-- kinds are not in the text that we have: they are chosen so that its three sets have the three kinds that example 16 gives them.
use Rattle.std.specs.Prelude.{List, [], ◌∷◌, ◌++◌, ℕ, replicate}
use Rattle.sheet_format.specs.Rows.{Each}
use Rattle.attackers.specs.Attackers.{KindAtMost, Weaker, GetsIn, AttackerScore}
use Rattle.worked_examples.specs.Sheets.{Sheet, Yields, bench, order, alone, closed, only, spare, acc, full, first, figure1, acc_mail, acc_shop}
use Rattle.worked_examples.specs.Table.{set_of}

-- The six kinds: remote or local, with no, some or expert skill.
abbrev pub rem_none : ℕ
rem_none = 0

abbrev pub rem_some : ℕ
rem_some = 1

abbrev pub rem_exp : ℕ
rem_exp = 2

abbrev pub loc_none : ℕ
loc_none = 3

abbrev pub loc_some : ℕ
loc_some = 4

abbrev pub loc_exp : ℕ
loc_exp = 5

-- Example 14: remote is below local, no skill below some, some below expert. Remote experts and local attackers without skill are not to be compared.
pub record KindsOrdered : Type 0 where
  pub location : Weaker rem_none loc_none
  pub some : Weaker rem_none rem_some
  pub expert : Weaker rem_some rem_exp
  pub both : Weaker rem_some loc_exp
  pub neither : KindAtMost rem_exp loc_none → ⊥
  pub nor_back : KindAtMost loc_none rem_exp → ⊥

-- A sheet, a list of kinds, a target, and the kinds of its score.
pub record AttackerExample : Type 0 where
  pub sheet : Sheet
  pub kinds : List ℕ
  pub target : ℕ
  pub attackers : List ℕ

abbrev pub scores : Sheet → List ℕ → ℕ → List ℕ → AttackerExample
scores sheet kinds target attackers = record { sheet = sheet; kinds = kinds; target = target; attackers = attackers }

abbrev pub Scores : AttackerExample → Type 0
Scores x = Yields x.sheet (λ s. AttackerScore s x.kinds x.target (set_of x.attackers))

-- Figure 7: pwd_shop and pwd_mail remote with some skill, device local with some, finger local expert, pin local with none; 255 where nothing is read.
abbrev pub figure7 : List ℕ
figure7 = rem_some ∷ rem_some ∷ loc_some ∷ loc_exp ∷ loc_none ∷ 255 ∷ 255 ∷ 255 ∷ []

abbrev pub attacker_examples : List AttackerExample
attacker_examples =
    -- example 16: (rem, some), (loc, exp) and (loc, some), of which the first is below the others
    scores figure1 figure7 acc_shop (rem_some ∷ [])
    ∷ scores figure1 figure7 acc_mail (loc_some ∷ [])
    -- example 15: either of two, which are not to be compared
    ∷ scores spare (rem_some ∷ loc_none ∷ 255 ∷ []) acc (rem_some ∷ loc_none ∷ [])
    -- a set of a local one without skill and a remote expert takes a local expert
    ∷ scores bench (loc_none ∷ loc_exp ∷ rem_exp ∷ 255 ∷ 255 ∷ []) order (loc_exp ∷ [])
    -- one kind of two sets counts once; the lower of two stays
    ∷ scores spare (rem_exp ∷ rem_exp ∷ 0 ∷ []) acc (rem_exp ∷ [])
    ∷ scores spare (loc_some ∷ rem_some ∷ 0 ∷ []) acc (rem_some ∷ [])
    -- nobody gets in; only by the target itself
    ∷ scores closed (255 ∷ []) only []
    ∷ scores alone (loc_exp ∷ []) only (loc_exp ∷ [])
    -- 64 items, of which the last alone is read
    ∷ scores full (replicate 63 255 ++ (loc_some ∷ [])) first (loc_some ∷ [])
    ∷ []

abbrev pub AllScore : Type 0
AllScore = Each Scores attacker_examples

-- Example 15 goes on: a remote expert and a local attacker with some skill get in too, a remote one without skill does not.
abbrev pub WhoGetsIn : Type 0
WhoGetsIn = Yields spare (λ s. GetsIn s (rem_some ∷ loc_none ∷ 255 ∷ []) acc rem_exp × GetsIn s (rem_some ∷ loc_none ∷ 255 ∷ []) acc loc_some
    × (GetsIn s (rem_some ∷ loc_none ∷ 255 ∷ []) acc rem_none → ⊥))
