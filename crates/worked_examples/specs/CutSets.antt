-- Examples of cut sets (document 02, point 13), of what is read from the sheets' bytes.
use Rattle.std.specs.Prelude.{List, [], ◌∷◌, ℕ}
use Rattle.sheet_format.specs.Rows.{Each}
use Rattle.cut_sets.specs.Cuts.{CutList}
use Rattle.worked_examples.specs.Sheets.{Sheet, Yields, bench, ordpw, mailpw, token, mail, order, ring, pwd_backup, pwd_manager, device, seed, acc_backup, alone, closed, loop, only, spare, pw, key, acc, relay, note, vault, card, shop}
use Rattle.worked_examples.specs.Table.{set_of}

-- A sheet, a target, and its list of cut sets.
pub record CutExample : Type 0 where
  pub sheet : Sheet
  pub target : ℕ
  pub cuts : List ℕ

abbrev pub cut : Sheet → ℕ → List ℕ → CutExample
cut sheet target cuts = record { sheet = sheet; target = target; cuts = cuts }

abbrev pub Cuts : CutExample → Type 0
Cuts x = Yields x.sheet (λ s. CutList s x.target x.cuts)

abbrev pub cut_examples : List CutExample
cut_examples =
    -- the mail password, and one of the two that open order together; the lockout list has the same sets
    cut bench order (set_of (ordpw ∷ mailpw ∷ []) ∷ set_of (mailpw ∷ token ∷ []) ∷ [])
    -- mail needs the mail password alone
    ∷ cut bench mail (set_of (mailpw ∷ []) ∷ [])
    -- a starting item that nothing else opens
    ∷ cut bench token (set_of (token ∷ []) ∷ [])
    -- a ring
    ∷ cut ring acc_backup (set_of (pwd_backup ∷ pwd_manager ∷ []) ∷ set_of (device ∷ seed ∷ []) ∷ [])
    -- starting items that open each other: without one alone, the others open it again
    ∷ cut ring pwd_backup (set_of (pwd_backup ∷ pwd_manager ∷ []) ∷ [])
    -- one set of one item, and one of two: without the vault alone, the note opens it again
    ∷ cut relay shop (set_of (card ∷ []) ∷ set_of (note ∷ vault ∷ []) ∷ [])
    ∷ cut relay vault (set_of (note ∷ vault ∷ []) ∷ [])
    -- the target alone, a starting item
    ∷ cut alone only (set_of (only ∷ []) ∷ [])
    -- nothing opens it: the empty set
    ∷ cut closed only (set_of [] ∷ [])
    ∷ cut loop only (set_of [] ∷ [])
    -- a start of zero is a start, and a recovery edge opens
    ∷ cut spare acc (set_of (pw ∷ key ∷ []) ∷ [])
    ∷ []

abbrev pub AllCut : Type 0
AllCut = Each Cuts cut_examples
