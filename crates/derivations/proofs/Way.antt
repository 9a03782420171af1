-- The way in is a derivation of its target, and there is at most one.
-- Assumes nothing.
use mathlib.Core.Path.{◌≡◌, refl, sym, subst}
use mathlib.Core.List.{List, [], ◌∷◌}
use mathlib.Core.Logic.{◌⊎◌, inl, inr, ⊎_elim}
use Prim.Native.Nat.{ℕ, ◌≤◌, ◌<◌}
use native.Mathlib.Omega.{arith}
use Rattle.setup.specs.declared.Graph.{Graph}
use Rattle.derivations.specs.Derivation.{Vertices, With, Run}
use Rattle.derivations.specs.Access.{Step, access, HasAccess}
use Rattle.derivations.specs.Way.{LowestStep, Way}
use Rattle.derivations.proofs.Rules.{Sub, After}
use Rattle.derivations.proofs.Graphs.{access-lawful}

-- ---- the same for collections with the same members

pub lowest-same : (g : Graph) (P Q : Vertices) → Sub P Q → Sub Q P → (e : Step) → LowestStep g P e → LowestStep g Q e
lowest-same g P Q s t e l =
    record {
      new = λ q. l.new (t e.vertex q);
      opens = (access-lawful g).mono P Q s e l.opens;
      lowest = λ f o n. l.lowest f ((access-lawful g).mono Q P t f o) (λ p. n (s f.vertex p));
    }

with-sub : (P Q : Vertices) (v : ℕ) → Sub P Q → Sub (With P v) (With Q v)
with-sub P Q v s i = ⊎_elim (λ p. inl (s i p)) (λ e. inr e)

pub way_same : (g : Graph) (target : ℕ) (P Q : Vertices) → Sub P Q → Sub Q P → (d : List Step) → Way g target P d → Way g target Q d
way_same g target P Q s t [] w = s target w
way_same g target P Q s t (e ∷ d) w = (
  λ q. w.0 (t target q),
  lowest-same g P Q s t e w.1,
  way_same g target (With P e.vertex) (With Q e.vertex) (with-sub P Q e.vertex s) (with-sub Q P e.vertex t) d w.2,
)

-- ---- a way is a derivation

pub way-run : (g : Graph) (target : ℕ) (P : Vertices) (d : List Step) → Way g target P d → Run (access g) P d
way-run g target P [] w = tt
way-run g target P (e ∷ d) w = (w.1.opens, way-run g target (With P e.vertex) d w.2)

way-has : (g : Graph) (target : ℕ) (P : Vertices) (d : List Step) → Way g target P d → After (access g) P d target
way-has g target P [] w = inl w
way-has g target P (e ∷ d) w = shift (way-has g target (With P e.vertex) d w.2)
  where
    shift : After (access g) (With P e.vertex) d target → After (access g) P (e ∷ d) target
    shift (inl (inl p)) = inl p
    shift (inl (inr q)) = inr (inl q)
    shift (inr a) = inr (inr a)

pub way-derives : (g : Graph) (target : ℕ) (P : Vertices) (d : List Step) → Way g target P d → HasAccess g P target
way-derives g target P d w = record { steps = d; run = way-run g target P d w; has = way-has g target P d w }

-- ---- there is at most one

pub lowest-unique : (g : Graph) (P : Vertices) (e f : Step) → LowestStep g P e → LowestStep g P f → e ≡ f
lowest-unique g P e f l m = ⊎_elim (λ p. absurd (not-both p back)) (λ p. same p back) (l.lowest f m.opens m.new)
  where
    back : (f.vertex < e.vertex) ⊎ ((f.vertex ≡ e.vertex) × (f.colour ≤ e.colour))
    back = m.lowest e l.opens l.new

    not-both : e.vertex < f.vertex → (f.vertex < e.vertex) ⊎ ((f.vertex ≡ e.vertex) × (f.colour ≤ e.colour)) → ⊥
    not-both p (inl q) = omega arith
    not-both p (inr q) = let r = q.0 in omega arith

    same : (e.vertex ≡ f.vertex) × (e.colour ≤ f.colour) → (f.vertex < e.vertex) ⊎ ((f.vertex ≡ e.vertex) × (f.colour ≤ e.colour)) → e ≡ f
    same p (inl q) = absurd (let r = p.0 in omega arith)
    same p (inr q) =
        let a = p.1 in
        let b = q.1 in
        let c : e.colour ≡ f.colour = omega arith in
        λ i. record { vertex = p.0 i; colour = c i }

pub way-unique : (g : Graph) (target : ℕ) (P : Vertices) (d d' : List Step) → Way g target P d → Way g target P d' → d ≡ d'
way-unique g target P [] [] w w' = refl
way-unique g target P [] (e ∷ d) w w' = absurd (w'.0 w)
way-unique g target P (e ∷ d) [] w w' = absurd (w.0 w')
way-unique g target P (e ∷ d) (f ∷ d') w w' =
    let q = lowest-unique g P e f w.1 w'.1 in
    let rest = way-unique g target (With P e.vertex) d d' w.2 (subst (λ (h : Step). Way g target (With P h.vertex) d') (sym q) w'.2) in
    λ i. q i ∷ rest i
