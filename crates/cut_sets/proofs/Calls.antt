-- The list of cut sets, with room and without; and that there is one list.
-- Assumes nothing.
use mathlib.Core.Path.{refl}
use mathlib.Core.List.{List, [], ◌∷◌}
use Prim.Native.Nat.{ℕ, ◌≤◌, ◌<◌}
use native.Mathlib.Omega.{arith}
use lib.ListN.{length}
use Rattle.vertex_set.specs.Order.{Smallest}
use Rattle.vertex_set.proofs.Lists.{exactly-unique}
use Rattle.setup.specs.declared.Setup.{Setup}
use Rattle.formed.specs.WellFormed.{WellFormed}
use Rattle.family_lists.specs.Inner.Lists.{WroteSets}
use Rattle.questions.specs.Contract.{gives, ends, turns_away, Answers, OneAnswer}
use Rattle.questions.proofs.Contract.{given, no_room}
use Rattle.cut_sets.specs.Cuts.{CutSet, CutList}
use Rattle.cut_sets.specs.Answers.{AreCuts, cuts_call}
use Rattle.cut_sets.specs.Inner.{CutFamily}
use Rattle.cut_sets.proofs.Theorems.{duality-holds}

module _ (s : Setup) (target initial n : ℕ) (w : WellFormed s) (m entry : List ℕ) (f : CutFamily s target initial m n) where
  are-cuts : (cuts : List ℕ) → CutList s target cuts → AreCuts s target cuts
  are-cuts cuts c = record { list = c; duality = duality-holds s target cuts w c }

  -- the family has more members than there are places
  pub cuts-short : length entry < n → Answers (cuts_call s target entry) (turns_away (entry ∷ []) 15)
  cuts-short l = no_room (cuts_call s target entry) f.cuts (are-cuts f.cuts f.is_list) (λ k. let e = f.counted in let j = k.0 in omega arith)

  -- their sets are written
  pub cuts-room : n ≤ length entry → (r : ℕ) (exit : List ℕ) → WroteSets initial m entry r exit → Answers (cuts_call s target entry) (ends (gives (r ∷ [])) (exit ∷ []))
  cuts-room l r exit h =
      given (cuts_call s target entry) h.list (are-cuts h.list (f.each h.list h.is)) (let a = f.count in let b = h.all in omega arith, tt)
      (ends (gives (r ∷ [])) (exit ∷ [])) (λ i. ends (gives (h.count i ∷ [])) (h.wrote i ∷ []))

pub one-cuts : (s : Setup) (target : ℕ) (list : List ℕ) → OneAnswer (cuts_call s target list)
one-cuts s target list a b p q = exactly-unique (Smallest (CutSet s target)) a b p.list q.list
