-- The graph without recovery, row by row and place by place.
-- Assumes nothing.
use mathlib.Core.Path.{◌≡◌, refl, sym, ◌∙◌}
use mathlib.Core.List.{[]}
use mathlib.Core.Logic.{⊎_elim}
use Prim.Native.Nat.{ℕ, ◌+◌, ◌≤◌, ◌<◌}
use native.Mathlib.Omega.{arith}
use lib.ListN.{length, set, length-set}
use borrow.Author.Tests.{ne_eqb}
use Rattle.vertex_set.specs.Set.{Member, Iff}
use Rattle.vertex_set.proofs.Cases.{same_or, less-or}
use Rattle.vertex_set.proofs.Sets.{none-in-zero, some-member}
use Rattle.vertex_set.proofs.Filling.{fill_more}
use Rattle.setup.specs.declared.Rows.{Rows}
use Rattle.setup.specs.declared.Graph.{Graph}
use Rattle.setup.specs.declared.Setup.{Setup}
use Rattle.setup.specs.Setup.{rows_at, row_of, row_less, WithoutRecovery}
use Rattle.setup.specs.Inner.{RowsLess}
use Rattle.setup.proofs.Graphs.{edge-place, edge-colour}

-- a row without a recovery edge stays
pub row_stays : (row recovery : ℕ) → recovery ≡ 0 → row ≡ row_less row recovery
unfolding row_less
row_stays row recovery z = rw z refl

-- a row with one goes
pub row_goes : (row recovery : ℕ) → (recovery ≡ 0 → ⊥) → 0 ≡ row_less row recovery
unfolding row_less
row_goes row recovery n = rw (ne_eqb recovery 0 n) refl

-- so of each edge: it stays where no edge of its row is a recovery edge
row-left : (row recovery f : ℕ) → Iff (Member (row_less row recovery) f) (Member row f × ((e : ℕ) → Member recovery e → ⊥))
row-left row recovery f =
    ⊎_elim
    (λ z. rw (sym (row_stays row recovery z), z) (record { to = λ m. (m, none-in-zero); from = λ p. p.0 }))
    (λ n.
    let m = some-member recovery n in
    rw (sym (row_goes row recovery n)) (record { to = λ k. absurd (none-in-zero f k); from = λ p. absurd (p.1 m.0 m.1) }))
    (same_or recovery 0)

-- The rows of the colours below n are those without recovery.
pub record LessBelow (rows recovery r : Rows) (n : ℕ) : Type 0 where
  pub long : length r.needs ≡ 8
  pub each : (c : ℕ) → c < n → row_of r c ≡ row_less (row_of rows c) (row_of recovery c)

pub less-more : (rows recovery r : Rows) (n : ℕ) → n < 8 → LessBelow rows recovery r n
    → LessBelow rows recovery (record { needs = set r.needs n (row_less (row_of rows n) (row_of recovery n)) }) (n + 1)
less-more rows recovery r n l b =
    record {
      long = length-set r.needs n x ∙ b.long;
      each = fill_more 0 (λ c y. y ≡ row_less (row_of rows c) (row_of recovery c)) r.needs n x (let h = b.long in omega arith) b.each refl;
    }
  where
    x : ℕ
    x = row_less (row_of rows n) (row_of recovery n)

pub less-all : (rows recovery r : Rows) → length rows.needs ≡ 8 → LessBelow rows recovery r 8 → RowsLess rows recovery r
less-all rows recovery r long b =
    record {
      long = b.long;
      each = λ f c. ⊎_elim (inside f c) (outside f c) (less-or c 8);
    }
  where
    inside : (f c : ℕ) → c < 8 → Iff (Member (row_of r c) f) (Member (row_of rows c) f × ((e : ℕ) → Member (row_of recovery c) e → ⊥))
    inside f c l = rw (b.each c l) (row-left (row_of rows c) (row_of recovery c) f)

    outside : (f c : ℕ) → 8 ≤ c → Iff (Member (row_of r c) f) (Member (row_of rows c) f × ((e : ℕ) → Member (row_of recovery c) e → ⊥))
    outside f c l =
        record {
          to = λ m. absurd (let k = edge-colour r b.long f c m in omega arith);
          from = λ p. absurd (let k = edge-colour rows long f c p.0 in omega arith);
        }

-- The rows of the vertices below n are those without recovery.
pub record LessPlaces (graph recovery r : Graph) (n : ℕ) : Type 0 where
  pub long : length r.rows ≡ 64
  pub each : (v : ℕ) → v < n → RowsLess (rows_at graph v) (rows_at recovery v) (rows_at r v)

pub places-more : (graph recovery r : Graph) (n : ℕ) (x : Rows) → n < 64 → LessPlaces graph recovery r n
    → RowsLess (rows_at graph n) (rows_at recovery n) x → LessPlaces graph recovery (record { rows = set r.rows n x }) (n + 1)
places-more graph recovery r n x l b h =
    record {
      long = length-set r.rows n x ∙ b.long;
      each = fill_more (record { needs = [] }) (λ v y. RowsLess (rows_at graph v) (rows_at recovery v) y) r.rows n x (let q = b.long in omega arith) b.each h;
    }

pub places-all : (s : Setup) (r : Graph) → length s.graph.rows ≡ 64 → LessPlaces s.graph s.recovery r 64 → WithoutRecovery s r
places-all s r lg b =
    record {
      shaped = record { places = b.long; colours = λ v l. (b.each v l).long };
      each = λ f v c. record {
        to = λ m. ((b.each v (edge-place r b.long f v c m)).each f c).to m;
        from = λ p. ((b.each v (edge-place s.graph lg f v c p.0)).each f c).from p;
      };
    }
