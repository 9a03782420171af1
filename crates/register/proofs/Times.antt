-- Which attempts stand after one more call.
-- Assumes nothing.
use mathlib.Core.Path.{◌≡◌, refl, sym}
use mathlib.Core.List.{List, [], ◌∷◌}
use mathlib.Core.Logic.{◌⊎◌, inl, inr, ⊎_elim}
use Prim.Native.Nat.{ℕ, ◌<◌}
use native.Mathlib.Omega.{arith}
use lib.ListN.{length}
use Rattle.vertex_set.specs.Set.{Iff}
use Rattle.records.specs.declared.Record.{Record}
use Rattle.records.specs.declared.Registered.{Registered}
use Rattle.register.specs.Afternoon.{Attempt, HandIn, Withdraw, Made, HandedIn, Withdrawn, Stands}

-- calls are made before the present time
handed-before : (log : List Made) (t : ℕ) (x : Attempt) → HandedIn log t x → t < length log
handed-before [] t x h = absurd h
handed-before (m ∷ earlier) t x (inl h) = let e = h.0 in omega (arith, e)
handed-before (m ∷ earlier) t x (inr h) = let l = handed-before earlier t x h in omega (arith, l)

withdrawn-before : (log : List Made) (t k : ℕ) → Withdrawn log t k → t < length log
withdrawn-before [] t k h = absurd h
withdrawn-before (m ∷ earlier) t k (inl h) = let e = h.0 in omega (arith, e)
withdrawn-before (m ∷ earlier) t k (inr h) = let l = withdrawn-before earlier t k h in omega (arith, l)

pub stands-before : (log : List Made) (t : ℕ) (x : Attempt) → Stands log t x → t < length log
stands-before log t x h = handed-before log t x h.handed

-- a refused call changes nothing
module _ (m : Made) (earlier : List Made) (no : m.answer.number ≡ 0 → ⊥) where
  pub stands-refused : (t : ℕ) (x : Attempt) → Iff (Stands earlier t x) (Stands (m ∷ earlier) t x)
  stands-refused t x =
      record {
        to = λ h. record { handed = inr h.handed; since = λ u. ⊎_elim (λ w. absurd (no w.1)) (h.since u) };
        from = λ h. record { handed = ⊎_elim (λ g. absurd (no g.1)) (λ g. g) h.handed; since = λ u w. h.since u (inr w) };
      }

-- an accepted withdrawal takes the student's attempts away
module _ (k : ℕ) (a : Registered) (exit : List Record) (earlier : List Made) (yes : a.number ≡ 0) where
  pub stands-withdrawn : (t : ℕ) (x : Attempt)
      → Iff (Stands earlier t x × (x.student ≡ k → ⊥)) (Stands (record { call = Withdraw k; answer = a; exit = exit } ∷ earlier) t x)
  stands-withdrawn t x =
      record {
        to = λ h. record {
          handed = inr h.0.handed;
          since = λ u. ⊎_elim (λ w. absurd (h.1 (sym w.2))) (h.0.since u);
        };
        from = λ h.
            let g : HandedIn earlier t x = ⊎_elim (λ i. absurd i.2) (λ i. i) h.handed in (
              record { handed = g; since = λ u w. h.since u (inr w) },
              λ e.
                  let l = handed-before earlier t x g in
                  let n = h.since (length earlier) (inl (refl, yes, sym e)) in
                  omega (arith, l, n),
            );
      }

-- an accepted hand-in adds its attempt
module _ (y : Attempt) (a : Registered) (exit : List Record) (earlier : List Made) (yes : a.number ≡ 0) where
  pub stands-handed : (t : ℕ) (x : Attempt)
      → Iff (((t ≡ length earlier) × (y ≡ x)) ⊎ Stands earlier t x) (Stands (record { call = HandIn y; answer = a; exit = exit } ∷ earlier) t x)
  stands-handed t x = record { to = ⊎_elim new old; from = back }
    where
      new : (t ≡ length earlier) × (y ≡ x) → Stands (record { call = HandIn y; answer = a; exit = exit } ∷ earlier) t x
      new e =
          record {
            handed = inl (e.0, yes, e.1);
            since = λ u. ⊎_elim (λ w. absurd w.2) (λ w. let l = withdrawn-before earlier u x.student w in let d = e.0 in omega (arith, l, d));
          }

      old : Stands earlier t x → Stands (record { call = HandIn y; answer = a; exit = exit } ∷ earlier) t x
      old h = record { handed = inr h.handed; since = λ u. ⊎_elim (λ w. absurd w.2) (h.since u) }

      back : Stands (record { call = HandIn y; answer = a; exit = exit } ∷ earlier) t x → ((t ≡ length earlier) × (y ≡ x)) ⊎ Stands earlier t x
      back h = ⊎_elim (λ g. inl (g.0, g.2)) (λ g. inr (record { handed = g; since = λ u w. h.since u (inr w) })) h.handed
