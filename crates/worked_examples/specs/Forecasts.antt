-- Examples of forecasts (document 02, point 10), of what is read from the sheets' bytes.
use Rattle.std.specs.Prelude.{List, [], ◌∷◌, ℕ}
use Rattle.sheet_format.specs.Rows.{Each}
use Rattle.forecasts.specs.Forecast.{Forecast}
use Rattle.worked_examples.specs.Sheets.{Sheet, Yields, bench, ordpw, mailpw, token, mail, order, ring, pwd_backup, pwd_manager, device, seed, alone, closed, loop, only, spare, pw, key, acc}
use Rattle.worked_examples.specs.Table.{set_of}

-- A sheet, a target, the items that are counted, and the forecast.
pub record ForecastExample : Type 0 where
  pub sheet : Sheet
  pub target : ℕ
  pub counted : List ℕ
  pub sets : ℕ

abbrev pub foretells : Sheet → ℕ → List ℕ → ℕ → ForecastExample
foretells sheet target counted sets = record { sheet = sheet; target = target; counted = counted; sets = sets }

abbrev pub Foretells : ForecastExample → Type 0
Foretells x = Yields x.sheet (λ s. Forecast s x.target (set_of x.counted) x.sets)

abbrev pub forecasts : List ForecastExample
forecasts =
    -- through mail, which is no starting item, and along a recovery edge: mailpw is counted too; the list has 2 sets
    foretells bench order (ordpw ∷ mailpw ∷ token ∷ []) 3
    -- ordpw and token do not reach mail
    ∷ foretells bench mail (mailpw ∷ []) 1
    -- a ring: all four, the target among them
    ∷ foretells ring pwd_backup (pwd_backup ∷ pwd_manager ∷ device ∷ seed ∷ []) 6
    -- nothing reaches device but itself
    ∷ foretells ring device (device ∷ []) 1
    -- one item: a starting item or not, with an edge to itself or none
    ∷ foretells alone only (only ∷ []) 1
    ∷ foretells closed only [] 1
    ∷ foretells loop only [] 1
    -- a start of zero is a start, and colour 7 a colour
    ∷ foretells spare acc (pw ∷ key ∷ []) 2
    ∷ []

abbrev pub AllForetell : Type 0
AllForetell = Each Foretells forecasts
