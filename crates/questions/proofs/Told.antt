-- What C is told of a call is settled by the call's contract.
-- Assumes nothing.
use mathlib.Core.Path.{◌≡◌, refl, sym, ap, subst, ◌∙◌}
use mathlib.Core.List.{List, ◌++◌}
use mathlib.Core.Logic.{inl, inr, ⊎_elim}
use Prim.Native.Nat.{ℕ, ◌+◌}
use native.Mathlib.Omega.{arith}
use lib.ListN.{length, replicate, length-append, length-replicate}
use Rattle.setup.specs.declared.Setup.{Setup}
use Rattle.questions.specs.Contract.{Reply, Outcome, ends, turns_away, Contract, Fulfils, numbers, OneAnswer}
use Rattle.questions.specs.Told.{Told, ToldNo, SettledTold}
use Rattle.questions.specs.Asks.{TurnedAway}
use Rattle.questions.specs.Inner.{InStruct}
use Rattle.questions.proofs.Asks.{Numbered}
use Rattle.questions.proofs.Contract.{fulfils-once, settled}

-- as many fields behind the same values
padding-length : (v : List ℕ) (k : ℕ) → length (v ++ replicate k 0) ≡ length v + k
padding-length v k = length-append v (replicate k 0) ∙ ap (λ (n : ℕ). length v + n) (length-replicate k 0)

same-unused : (v v' f f' : List ℕ) (k k' : ℕ) → v ≡ v' → length f ≡ length f' → f ≡ v ++ replicate k 0 → f' ≡ v' ++ replicate k' 0 → k ≡ k'
same-unused v v' f f' k k' e h p q =
    let a : length f ≡ length v + k = ap length p ∙ padding-length v k in
    let b : length f' ≡ length v' + k' = ap length q ∙ padding-length v' k' in
    let c : length v ≡ length v' = ap length e in
    omega arith

-- no fields but zeros where there are no values
only-zeros : (f : List ℕ) (k : ℕ) → f ≡ replicate k 0 → f ≡ replicate (length f) 0
only-zeros f k e = e ∙ ap (λ (n : ℕ). replicate n 0) (sym (ap length e ∙ length-replicate k 0))

module _ (c : Contract) (one : OneAnswer c) (n : ℕ) (f : List ℕ) (l : List (List ℕ)) (t : Told c n f l) where
  one-result : (n' : ℕ) (f' : List ℕ) (l' : List (List ℕ)) → length f' ≡ length f → Told c n' f' l' → (n' ≡ n) × (f' ≡ f) × (l' ≡ l)
  one-result n' f' l' e t' =
      let h = fulfils-once c one (ends (record { number = n'; values = t'.values }) l') (ends (record { number = n; values = t.values }) l) t'.call t.call in
      let v : t'.values ≡ t.values = ap (λ (o : Outcome). o.reply.values) h in
      let k = same-unused t'.values t.values f' f t'.unused t.unused v e t'.told t.told in (
        ap (λ (o : Outcome). o.reply.number) h,
        t'.told ∙ ap (λ (x : List ℕ). x ++ replicate t'.unused 0) v ∙ ap (λ (j : ℕ). t.values ++ replicate j 0) k ∙ sym t.told,
        ap (λ (o : Outcome). o.lent) h,
      )

  told-no : TurnedAway (λ o. o.reply.number) (turns_away c.lent) (numbers c) (ends (record { number = n; values = t.values }) l) → ToldNo c n f l
  told-no h =
      record {
        listed = h.listed;
        some = h.some;
        zeros = only-zeros f t.unused (t.told ∙ ap (λ (o : Outcome). o.reply.values ++ replicate t.unused 0) h.is);
        kept = ap (λ (o : Outcome). o.lent) h.is;
      }

  pub settled-told : Numbered c.questions → SettledTold c n f l
  settled-told all =
      record {
        outcome = ⊎_elim (λ z. inl z) (λ h. inr (told-no h)) (settled c all one (ends (record { number = n; values = t.values }) l) t.call).outcome;
        only = one-result;
      }

-- of the answer y, which is the case x
pub tells_as : {A : Type 0} (reply : A → Reply) (x y : A) → y ≡ x → (fields : List ℕ) (unused : ℕ) → fields ≡ (reply x).values ++ replicate unused 0
    → InStruct (reply y) (reply x).number fields
tells_as {A = A} reply x y e fields unused h =
    subst (λ (z : A). InStruct (reply z) (reply x).number fields) (sym e) (record { returned = refl; unused = unused; told = h })

-- a call on the setup t, which was decoded as s
pub told : (call : Setup → Contract) (s t : Setup) → s ≡ t → (reply : Reply) (lent : List (List ℕ)) (r : ℕ) (fields : List ℕ) → Fulfils (call s) (ends reply lent)
    → InStruct reply r fields → Told (call t) r fields lent
told call s t e reply lent r fields h w =
    record {
      values = reply.values;
      call = subst (λ (x : Setup). Fulfils (call x) (ends (record { number = r; values = reply.values }) lent)) e
          (subst (λ (k : ℕ). Fulfils (call s) (ends (record { number = k; values = reply.values }) lent)) (sym w.returned) h);
      unused = w.unused;
      told = w.told;
    }
