-- What the portal's calls answer, for every text and every item number (document 01, "Report and portal").
use Rattle.std.specs.Prelude.{◌≡◌, Bool, List, [], ◌∷◌, ◌⊎◌, ℕ, ◌+◌, ◌≤◌, ◌<◌}
use Rattle.questions.specs.Asks.{Asks}
use Rattle.questions.specs.Questions.{asks13}
use Rattle.sheet_format.specs.Read.{read_sheet, asks_sheet}
use Rattle.scores.specs.Never.{never}
use Rattle.bases.specs.Score.{Score}

-- 2^62 plus the number for a refusal: the sheet's own number first, else 13 for an item that isn't there; else the score, which is 2^62 for "never".
abbrev pub PortalCall : Bool → List ℕ → ℕ → ℕ → Type 0
PortalCall loss text item =
    Asks (λ q. never + q) (asks_sheet text ∷ asks13 (read_sheet text).setup item ∷ []) (Score loss (read_sheet text).setup (read_sheet text).setup.graph item)

-- The coding is one-to-one: a number below 2^62 is a score, 2^62 is "never", and a number above it is a refusal.
pub record Decoded (text : List ℕ) (item r : ℕ) : Type 0 where
  pub answer : r ≤ never → ((read_sheet text).number ≡ 0) × (item < (read_sheet text).setup.count)
  pub refusal : never < r → ((read_sheet text).number ≡ 0 → ⊥) ⊎ ((read_sheet text).setup.count ≤ item)
