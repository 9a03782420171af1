-- The list with a number is the base of a vertex that is an account, and empty for any other.
-- Assumes nothing.
use mathlib.Core.Path.{◌≡◌, refl}
use mathlib.Core.Bool.{Bool, true, false}
use mathlib.Core.List.{List, []}
use Prim.Native.Nat.{ℕ, ◌/◌, ◌%◌}
use borrow.Author.Tests.{ne_eqb}
use native.Mathlib.Omega.{arith}
use lib.ListN.{length, take}
use Rattle.vertex_set.specs.Set.{Member}
use Rattle.vertex_set.proofs.Cases.{by_test}
use Rattle.setup.specs.declared.Setup.{Setup}
use Rattle.formed.specs.WellFormed.{WellFormed}
use Rattle.bases.specs.Base.{Base}
use Rattle.reference.proofs.Unique.{base-unique}
use Rattle.report_text.specs.Report.{is_account}
use Rattle.report_text.proofs.Meaning.{report-meaning}
use Rattle.report_scores.specs.Inner.Scores.{Listing}
use Rattle.report_facts.specs.Texts.{slot_loss, slot_list}
use Rattle.report_sections.specs.Inner.Lists.{Loaded}

pub slot-lockout : (k : ℕ) → k % 2 ≡ 1 → slot_loss k ≡ true
slot-lockout k e = rw e refl

pub slot-opening : (k : ℕ) → (k % 2 ≡ 1 → ⊥) → slot_loss k ≡ false
slot-opening k n = ne_eqb (k % 2) 1 n

pub slot-full : (s : Setup) (k : ℕ) (l : List ℕ) (loss : Bool) → WellFormed s → slot_loss k ≡ loss → is_account s (k / 2) ≡ true → Base loss s s.graph (k / 2) l
    → l ≡ slot_list s k
unfolding slot_list
slot-full s k l loss wf e a b = rw (a, e) (base-unique loss s s.graph (k / 2) l _ b ((report-meaning s wf).base loss (k / 2)))

pub slot-none : (s : Setup) (k : ℕ) → is_account s (k / 2) ≡ false → [] ≡ slot_list s k
unfolding slot_list
slot-none s k a = rw a refl

module _ (k accounts initial losable : ℕ) (opening lockout entry : List ℕ) (r : ℕ) (list : List ℕ) where
  pub loaded-lockout : Member accounts (k / 2) → slot_loss k ≡ true → Listing lockout losable (k / 2) entry r list → Loaded k accounts initial losable opening lockout entry r list
  loaded-lockout m e h =
      record {
        each = λ s wf ci cl ti tl a. slot-full s k (take r list) true wf e (a.to m) (h.each true s s.graph wf cl tl);
        most = h.count;
        room = h.room;
        behind = h.behind;
      }

  pub loaded-opening : Member accounts (k / 2) → slot_loss k ≡ false → Listing opening initial (k / 2) entry r list → Loaded k accounts initial losable opening lockout entry r list
  loaded-opening m e h =
      record {
        each = λ s wf ci cl ti tl a. slot-full s k (take r list) false wf e (a.to m) (h.each false s s.graph wf ci ti);
        most = h.count;
        room = h.room;
        behind = h.behind;
      }

pub loaded-none : (k accounts initial losable : ℕ) (opening lockout list : List ℕ) → (Member accounts (k / 2) → ⊥) → length list ≡ 16384
    → Loaded k accounts initial losable opening lockout list 0 list
loaded-none k accounts initial losable opening lockout list n room =
    record {
      each = λ s wf ci cl ti tl a. slot-none s k (by_test (is_account s (k / 2)) (λ e. absurd (n (a.from e))) (λ e. e));
      most = omega arith;
      room = room;
      behind = refl;
    }
