-- A settled block of lanes gets one vertex more in every lane. Only the vertices that need it can have something new.
-- Assumes nothing.
use mathlib.Core.Path.{◌≡◌, refl, sym, subst, ap, ◌∙◌}
use Rattle.std.specs.Prelude.{None, Some}
use mathlib.Core.Bool.{Bool}
use mathlib.Core.List.{List}
use mathlib.Core.Logic.{◌⊎◌, inl, inr, ⊎_elim}
use Prim.Native.Nat.{ℕ, ◌-◌, ◌*◌, ◌^◌, ◌<◌}
use lib.ListN.{length, get_or, replicate}
use borrow.Rule.Slice.PartMut.{put_mid}
use Rattle.vertex_set.specs.Set.{Member, Iff}
use Rattle.vertex_set.proofs.Cases.{same_or}
use Rattle.vertex_set.proofs.Decisions.{iff-trans}
use Rattle.vertex_set.proofs.Sets.{none-in-zero}
use Rattle.setup.specs.declared.Graph.{Graph}
use Rattle.setup.specs.Setup.{row_of, rows_at}
use Rattle.derivations.specs.Derivation.{Vertices, Derivation}
use Rattle.derivations.specs.Both.{rule_of}
use Rattle.derivations.proofs.Rules.{held, least, monotone, union}
use Rattle.derivations.proofs.Both.{lawful}
use Rattle.derivations.proofs.Admits.{admits-local, admits-derived, step-admits, admits-place}
use Rattle.successors.specs.Inner.{Successors}
use Rattle.family_words.specs.Inner.Words.{PartWhere}
use Rattle.family_words.proofs.Families.{full-word, filled-part}
use Rattle.lanes.specs.Inner.Lanes.{Lane}
use Rattle.tables.specs.Inner.Steps.{Closed, Quiet, Extended}
use Rattle.tables.specs.Inner.Blocks.{AtPlace, VertexAt}
use Rattle.tables.proofs.Parts.{part_length, lane-put, lane-kept}

-- from the same vertices the same is derivable
pub same-derivable : (loss : Bool) (g : Graph) (P Q : Vertices) → ((x : ℕ) → Iff (P x) (Q x)) → (u : ℕ) → Iff (Derivation (rule_of loss g) P u) (Derivation (rule_of loss g) Q u)
same-derivable loss g P Q h u =
    let m = monotone (rule_of loss g) (lawful loss g) in record { to = m P Q (λ x. (h x).to) u; from = m Q P (λ x. (h x).from) u }

-- lanes that have all that is derivable from some vertices have nothing left to look at
pub derived-quiet : (loss : Bool) (g : Graph) (w : List ℕ) (P : ℕ → ℕ → Vertices)
    → ((b i u : ℕ) → b < 16 → i < 64 → Iff (Lane w b i u) (Derivation (rule_of loss g) (P b i) u)) → Quiet loss g 0 w
derived-quiet loss g w P h =
    record {
      each = λ u l no b i hb hi m. (h b i u hb hi).from (admits-derived loss g (P b i) (Lane w b i) u (λ x y. (h b i x hb hi).to y) m);
    }

-- e is w with v in every lane
pub record WithAll (v : ℕ) (w e : List ℕ) : Type 0 where
  pub words : length e ≡ 1024
  pub each : (b i u : ℕ) → b < 16 → i < 64 → Iff (Lane e b i u) (Lane w b i u ⊎ (u ≡ v))

-- for any part that has all masks
pub with_part : (v k : ℕ) (w d : List ℕ) → length w ≡ 1024 → v < 64 → k ≡ 16 → PartWhere (λ b i. Member (2 ^ 64 - 1) i) d → WithAll v w (put_mid (v * 16) k w d)
with_part v k w d hw hv hk f =
    subst (λ (j : ℕ). WithAll v w (put_mid (v * 16) j w d)) (sym hk)
    (record {
      words = part_length w d v hw hv f.words;
      each = λ b i u hb hi. ⊎_elim
          (λ q. subst (λ (x : ℕ). Iff (Lane (put_mid (v * 16) 16 w d) b i x) (Lane w b i x ⊎ (x ≡ v))) (sym q)
          (record { to = λ m. inr refl; from = λ m. (lane-put w d v hw hv f.words b i hb).from ((f.each b i hb hi).from (full-word i hi)) }))
          (λ n. let t = lane-kept w d v hw hv f.words b i u hb n in
          record { to = λ m. inl (t.to m); from = ⊎_elim (λ m. t.from m) (λ q. absurd (n q)) })
          (same_or u v);
    })

-- for a part that is filled with the word that has all masks
pub with_all : (v k : ℕ) (w part d : List ℕ) → length w ≡ 1024 → v < 64 → k ≡ 16 → length part ≡ k → d ≡ replicate (length part) (2 ^ 64 - 1)
    → WithAll v w (put_mid (v * 16) k w d)
with_all v k w part d hw hv hk long e = with_part v k w d hw hv hk (filled-part (2 ^ 64 - 1) part d (long ∙ hk) e)

module _ (loss : Bool) (g : Graph) (v : ℕ) (w e : List ℕ) (a : WithAll v w e) where
  -- a vertex that does not need v is admitted by the same lanes as before
  pub extending : (list : List ℕ) (us : ℕ) → v < 64 → Successors g list → us ≡ get_or list v 0 → Quiet loss g 0 w → Quiet loss g us e
  extending list us hv s p q =
      record {
        each = λ u l no b i hb hi m. (a.each b i u hb hi).from (inl (q.each u l (λ z. none-in-zero u z) b i hb hi
            (admits-local loss (rows_at g u) (Lane e b i) (Lane w b i)
            (λ c j r x. ⊎_elim (λ y. y)
            (λ y. absurd (no (subst (λ (z : ℕ). Member z u) (sym p) ((s.each v u hv).from (record { colour = c; member = subst (Member (row_of (rows_at g u) c)) y r })))))
            ((a.each b i j hb hi).to x)) m)));
      }

  pub extended : (f : List ℕ) → Closed (rule_of loss g) e f → Extended loss g (λ x. x ≡ v) w f
  extended f c =
      record {
        words = c.words;
        each = λ b i u hb hi. iff-trans (c.each b i u hb hi)
            (same-derivable loss g (Lane e b i) (λ x. Lane w b i x ⊎ (x ≡ v)) (λ x. a.each b i x hb hi) u);
      }

-- the chosen vertex at bit k is the one that was added
pub widened : (loss : Bool) (g : Graph) (chosen k v : ℕ) (w e : List ℕ) → VertexAt chosen k (Some v) → Extended loss g (λ x. x ≡ v) w e
    → Extended loss g (AtPlace chosen k) w e
widened loss g chosen k v w e at x =
    record {
      words = x.words;
      each = λ b i u hb hi. iff-trans (x.each b i u hb hi)
          (same-derivable loss g (λ y. Lane w b i y ⊎ (y ≡ v)) (λ y. Lane w b i y ⊎ AtPlace chosen k y)
          (λ y. record {
            to = ⊎_elim (λ p. inl p) (λ q. inr ((at.each y).from (ap Some (sym q))));
            from = ⊎_elim (λ p. inl p) (λ q. inr (let s = (at.each y).to q in cc));
          }) u);
    }

-- or there is none: what is settled has all that is derivable from it
pub kept : (loss : Bool) (g : Graph) (chosen k : ℕ) (w : List ℕ) → length w ≡ 1024 → length g.rows ≡ 64 → VertexAt chosen k None → Quiet loss g 0 w
    → Extended loss g (AtPlace chosen k) w w
kept loss g chosen k w words rows at q =
    record {
      words = words;
      each = λ b i u hb hi. record {
        to = λ m. held (rule_of loss g) (λ x. Lane w b i x ⊎ AtPlace chosen k x) u (inl m);
        from = least (rule_of loss g) (lawful loss g) (λ x. Lane w b i x ⊎ AtPlace chosen k x) (Lane w b i)
            (λ x. ⊎_elim (λ p. p) (λ p. let s = (at.each x).to p in cc))
            (λ s a.
            let m = step-admits loss g (Lane w b i) s a in
            let y = (rule_of loss g).adds s in
            q.each y (admits-place loss g (Lane w b i) y rows m) (λ z. none-in-zero y z) b i hb hi m) u;
      };
    }

-- A block that has what is derivable from P's lanes has, once extended, what is derivable from these and more.
pub extended-from : (loss : Bool) (g : Graph) (more : Vertices) (w e : List ℕ) (P : ℕ → ℕ → Vertices)
    → ((b i u : ℕ) → b < 16 → i < 64 → Iff (Lane w b i u) (Derivation (rule_of loss g) (P b i) u)) → Extended loss g more w e
    → (b i u : ℕ) → b < 16 → i < 64 → Iff (Lane e b i u) (Derivation (rule_of loss g) (λ x. P b i x ⊎ more x) u)
extended-from loss g more w e P h x b i u hb hi =
    iff-trans (x.each b i u hb hi) (iff-trans
    (same-derivable loss g (λ y. Lane w b i y ⊎ more y) (λ y. Derivation (rule_of loss g) (P b i) y ⊎ more y)
    (λ y. record { to = ⊎_elim (λ p. inl ((h b i y hb hi).to p)) (λ q. inr q); from = ⊎_elim (λ p. inl ((h b i y hb hi).from p)) (λ q. inr q) }) u)
    (let n = union (rule_of loss g) (lawful loss g) (P b i) more u in record { to = n.from; from = n.to }))
