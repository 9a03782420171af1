-- Vertices that reach a target, found from the target on: a vertex that has been seen has all that it needs among those found.
-- Assumes nothing.
use mathlib.Core.Path.{◌≡◌, refl, sym, subst}
use mathlib.Core.Logic.{inl, inr, ⊎_elim}
use Prim.Native.Nat.{ℕ, ◌-◌, ◌^◌, ◌<◌}
use native.Mathlib.Omega.{arith}
use lib.Bits.{bit_and, bit_or}
use Rattle.vertex_set.specs.Set.{Member, Within, Inserted}
use Rattle.vertex_set.proofs.Sets.{none-in-zero, same_set, in_and, in-or, in-not, within-test}
use Rattle.vertex_set.proofs.Subsets.{proper-less}
use Rattle.setup.specs.declared.Graph.{Graph}
use Rattle.setup.specs.Setup.{Edge, rows_at}
use Rattle.successors.specs.Inner.{VertexOf, Needed}
use Rattle.forecasts.specs.Forecast.{Reaches, here, along}
use Rattle.forecasts.specs.Inner.{ReachingSet}

-- The vertices found reach the target, which is one of them; those seen are some of them, and what a vertex needs that has been seen, has been found.
pub record Finding (g : Graph) (target found seen : ℕ) : Type 0 where
  pub first : Member found target
  pub sound : (v : ℕ) → Member found v → Reaches g target v
  pub some : Within seen found
  pub followed : (v w c : ℕ) → Member seen w → Edge g v w c → Member found v

module _ (g : Graph) (target : ℕ) where
  pub finding-none : (found : ℕ) → target < 64 → Inserted 0 target found → Finding g target found 0
  finding-none found l h =
      record {
        first = (h.taken l target).from (inr refl);
        sound = λ v m. ⊎_elim (λ z. absurd (none-in-zero v z)) (λ e. subst (Reaches g target) (sym e) here) ((h.taken l v).to m);
        some = record { each = λ i m. absurd (none-in-zero i m) };
        followed = λ v w c m. absurd (none-in-zero w m);
      }

  module _ (found seen : ℕ) (f : Finding g target found seen) where
    -- some vertex found has not been seen
    pub unseen : seen < 2 ^ 64 → found < 2 ^ 64 → (seen ≡ found → ⊥) → bit_and found ((2 ^ 64 - 1) - seen) ≡ 0 → ⊥
    unseen hs hf n z = n (same_set seen found f.some ((within-test found seen hf hs).to z))

    module _ (v needed more : ℕ) (place : v < 64) (is : Member found v) (k : Needed (rows_at g v) needed) (i : Inserted seen v more) where
      -- a vertex that was found is seen, and what it needs is found
      pub finding-more : Finding g target (bit_or found needed) more
      finding-more =
          record {
            first = kept target f.first;
            sound = λ u m. ⊎_elim (f.sound u) (λ n. let c = (k.each u).to n in along c.colour c.member (f.sound v is)) ((in-or found needed u).to m);
            some = record { each = λ u m. kept u (⊎_elim (f.some.each u) (λ e. subst (Member found) (sym e) is) ((i.taken place u).to m)) };
            followed = λ u w c m e. ⊎_elim
                (λ s. kept u (f.followed u w c s e))
                (λ q. (in-or found needed u).from (inr ((k.each u).from (record { colour = c; member = subst (λ (x : ℕ). Edge g u x c) q e }))))
                ((i.taken place w).to m);
          }
        where
          kept : (u : ℕ) → Member found u → Member (bit_or found needed) u
          kept u m = (in-or found needed u).from (inl m)

    -- all found have been seen
    pub finding-done : seen ≡ found → ReachingSet g target found
    finding-done e = record { each = λ v. record { to = f.sound v; from = whole v } }
      where
        whole : (v : ℕ) → Reaches g target v → Member found v
        whole v here = f.first
        whole v (along {w = w} c m r) = f.followed v w c (subst (λ (x : ℕ). Member x w) (sym e) (whole w r)) m

-- ---- the vertex that is seen next

module _ (found seen v : ℕ) (hs : seen < 2 ^ 64) (o : VertexOf (bit_and found ((2 ^ 64 - 1) - seen)) v) where
  pub was-found : Member found v
  was-found = ((in_and found ((2 ^ 64 - 1) - seen) v).to o.member).0

  not_seen : Member seen v → ⊥
  not_seen = (in-not seen v hs o.place).to ((in_and found ((2 ^ 64 - 1) - seen) v).to o.member).1

  pub seen-grows : (more : ℕ) → Inserted seen v more → more < 2 ^ 64 → 2 ^ 64 - more < 2 ^ 64 - seen
  seen-grows more i l =
      let p : seen < more = proper-less seen more (record {
        within = record { each = λ u m. (i.taken o.place u).from (inl m) };
        other = λ e. not_seen (subst (λ (x : ℕ). Member x v) (sym e) ((i.taken o.place v).from (inr refl)));
      }) in
      omega arith
