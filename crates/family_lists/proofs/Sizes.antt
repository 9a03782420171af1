-- Which sizes a family's members have, by its words joined.
-- Assumes nothing.
use mathlib.Core.Path.{◌≡◌, refl, sym, ap, ◌∙◌, subst}
use mathlib.Core.Bool.{Bool, true, false}
use mathlib.Core.Logic.{◌⊎◌, inl, inr, ⊎_elim}
use mathlib.Core.List.{List, [], ◌∷◌, ◌++◌, map}
use Prim.Native.Nat.{ℕ, ◌+◌, ◌*◌, ◌/◌, ◌%◌, ◌^◌, ◌<◌}
use native.Mathlib.Omega.{arith}
use lib.Bits.{bit_and, bit_or}
use lib.Count.{ones, ones-le}
use lib.ListN.{length, get_or, set, replicate}
use lib.Seq.{get_or-set_same, get_or-set_other}
use Rattle.vertex_set.specs.Set.{Member, Iff}
use Rattle.vertex_set.specs.Order.{Listed}
use Rattle.vertex_set.proofs.Cases.{same_or, false-true}
use Rattle.vertex_set.proofs.Sets.{none-in-zero, member_below, in-or, meets-test, meets-not}
use Rattle.vertex_set.proofs.Sorted.{listed-append}
use Rattle.vertex_set.proofs.Lists.{zeros}
use Rattle.families.specs.Inner.Family.{In}
use Rattle.written.specs.Inner.{Wrote}
use Rattle.written.proofs.Writing.{wrote_none}
use Rattle.family_lists.specs.Inner.Tables.{Layer, masks_in, rising, of_words, Occupied, JoinedBySize, SomeOfSize, of_size}
use Rattle.family_lists.proofs.Lists.{mask-ones}
use Rattle.family_lists.proofs.Order.{listed-masks, listed-members, listed-of-size, member-small}

-- ---- joining the words with the listed numbers

listed-words : (f ws : List ℕ) (m : ℕ) → Iff (Listed (of_words f ws) m) (Listed ws (m / 64) × Member (get_or f (m / 64) 0) (m % 64))
listed-words f [] m = record { to = λ z. absurd z; from = λ p. p.0 }
listed-words f (b ∷ ws) m =
    let a = listed-append (masks_in b (get_or f b 0)) (of_words f ws) m in
    let here = listed-masks b (get_or f b 0) m in
    let ih = listed-words f ws m in
    record {
      to = λ h. ⊎_elim (λ p. let q = here.to p in (inl q.0, rw q.0 q.1)) (λ p. let q = ih.to p in (inr q.0, q.1)) (a.to h);
      from = λ p. a.from (⊎_elim (λ e. inl (here.from (e, rw e at p.1))) (λ l. inr (ih.from (l, p.1))) p.0);
    }

-- Lane i is in some listed word whose number has k bits.
abbrev InWord : List ℕ → List ℕ → ℕ → ℕ → Type 0
InWord f ws k i = (b : ℕ) × Listed ws b × (ones b ≡ k) × Member (get_or f b 0) i

-- At k stand these lanes.
pub record Joining (f ws joined : List ℕ) : Type 0 where
  pub each : (k i : ℕ) → Iff (Member (get_or joined k 0) i) (InWord f ws k i)

pub joining-none : (f : List ℕ) (n : ℕ) → Joining f [] (replicate n 0)
joining-none f n =
    record { each = λ k i. record { to = λ m. absurd (none-in-zero i (rw (zeros n k) at m)); from = λ p. absurd p.1 } }

module _ (f ws joined : List ℕ) (j : Joining f ws joined) (b : ℕ) where
  -- the word stands behind the listed ones
  listed-last : (c : ℕ) → Iff (Listed (ws ++ (b ∷ [])) c) (Listed ws c ⊎ (c ≡ b))
  listed-last c =
      let a = listed-append ws (b ∷ []) c in
      record {
        to = λ h. ⊎_elim (λ l. inl l) (λ p. ⊎_elim (λ e. inr e) (λ z. absurd z) p) (a.to h);
        from = λ p. a.from (⊎_elim (λ l. inl l) (λ e. inr (inl e)) p);
      }

  with-word : (i : ℕ) → Iff (Member (bit_or (get_or joined (ones b) 0) (get_or f b 0)) i) (InWord f (ws ++ (b ∷ [])) (ones b) i)
  with-word i =
      let o = in-or (get_or joined (ones b) 0) (get_or f b 0) i in
      record {
        to = λ m. ⊎_elim (λ l. let p = (j.each (ones b) i).to l in (p.0, (listed-last p.0).from (inl p.1), p.2, p.3))
            (λ r. (b, (listed-last b).from (inr refl), refl, r)) (o.to m);
        from = λ p. o.from (⊎_elim (λ l. inl ((j.each (ones b) i).from (p.0, l, p.2, p.3)))
            (λ e. inr (subst (λ (c : ℕ). Member (get_or f c 0) i) e p.3)) ((listed-last p.0).to p.1));
      }

  without-word : (k i : ℕ) → (k ≡ ones b → ⊥) → Iff (Member (get_or joined k 0) i) (InWord f (ws ++ (b ∷ [])) k i)
  without-word k i ne =
      record {
        to = λ m. let p = (j.each k i).to m in (p.0, (listed-last p.0).from (inl p.1), p.2, p.3);
        from = λ p. ⊎_elim (λ l. (j.each k i).from (p.0, l, p.2, p.3)) (λ e. absurd (ne (sym p.2 ∙ ap ones e))) ((listed-last p.0).to p.1);
      }

  pub joining-more : ones b < length joined → Joining f (ws ++ (b ∷ [])) (set joined (ones b) (bit_or (get_or joined (ones b) 0) (get_or f b 0)))
  joining-more h =
      let new : ℕ = bit_or (get_or joined (ones b) 0) (get_or f b 0) in
      record {
        each = λ k i. ⊎_elim
            (λ e. subst (λ (n : ℕ). Iff (Member (get_or (set joined (ones b) new) n 0) i) (InWord f (ws ++ (b ∷ [])) n i)) (sym e)
            (rw (get_or-set_same joined (ones b) new 0 h) (with-word i)))
            (λ ne. rw (get_or-set_other joined (ones b) k new 0 ne) (without-word k i ne)) (same_or k (ones b));
      }

-- all members are in the listed words
pub joining-end : (f ws joined : List ℕ) → Occupied f ws → Joining f ws joined → JoinedBySize f joined
unfolding In
joining-end f ws joined o j =
    record {
      each = λ k i h. record {
        to = λ m. let p = (j.each k i).to m in (p.0, p.2, p.3);
        from = λ p.
            let b : ℕ = p.0 in
            let word : (b * 64 + i) / 64 ≡ b = omega arith in
            let lane : (b * 64 + i) % 64 ≡ i = omega arith in
            let listed = rw (sym o.all) at ((listed-members f (b * 64 + i)).from (rw (word, lane) p.2)) in
            let at = (listed-words f ws (b * 64 + i)).to listed in
            (j.each k i).from (b, rw word at at.0, p.1, p.2);
      };
    }

-- ---- a member of a size

-- No lane that was joined below k belongs to a mask of s bits.
abbrev pub NoneBelow : List ℕ → ℕ → ℕ → Type 0
NoneBelow joined s k = (j i : ℕ) → j < k → i < 64 → Member (get_or joined j 0) i → j + ones i ≡ s → ⊥

pub none_more : (joined : List ℕ) (s k r : ℕ) → Layer k s r → bit_and (get_or joined k 0) r ≡ 0 → NoneBelow joined s k → NoneBelow joined s (k + 1)
none_more joined s k r l z none j i h g m e =
    ⊎_elim
    (λ q.
    let same = subst (λ (n : ℕ). Member (get_or joined n 0) i) q m in
    meets-not (get_or joined k 0) r z (record { vertex = i; left = same; right = (l.each i g).from (omega arith) }))
    (λ ne. none j i (omega arith) g m e) (same_or j k)

pub some-yes : (joined : List ℕ) (s k r : ℕ) → r < 2 ^ 64 → Layer k s r → (bit_and (get_or joined k 0) r ≡ 0 → ⊥) → SomeOfSize joined s true
unfolding In
some-yes joined s k r small l ne =
    let t = meets-test (get_or joined k 0) r ne in
    let i : ℕ = t.vertex in
    let h : i < 64 = member_below 64 r i small t.right in
    record {
      each = λ f e j.
          let p = (j.each k i h).to t.left in
          let b : ℕ = p.0 in
          let word : (b * 64 + i) / 64 ≡ b = omega arith in
          let lane : (b * 64 + i) % 64 ≡ i = omega arith in
          let size = (l.each i h).to t.right in
          record {
            yes = λ q. record { mask = b * 64 + i; is = rw (word, lane) p.2; bits = mask-ones b i h ∙ omega (arith, p.1) };
            no = λ q. absurd (false-true (sym q));
          };
    }

pub some-no : (joined : List ℕ) (s : ℕ) → NoneBelow joined s 9 → SomeOfSize joined s false
unfolding In
some-no joined s none =
    record {
      each = λ f e j. record {
        yes = λ q. absurd (false-true q);
        no = λ q h.
            let m : ℕ = h.mask in
            let small = member-small f m e h.is in
            let b : ℕ = m / 64 in
            let most = ones-le 8 b (omega arith) in
            let parts : b * 64 + m % 64 ≡ m = omega arith in
            none (ones b) (m % 64) (omega arith) (omega arith) ((j.each (ones b) (m % 64) (omega arith)).from (b, refl, h.is))
            (sym (mask-ones b (m % 64) (omega arith)) ∙ ap ones parts ∙ h.bits);
      };
    }

-- ---- a size that no member has

unlisted : (l : List ℕ) → ((x : ℕ) → Listed l x → ⊥) → l ≡ []
unlisted [] h = refl
unlisted (x ∷ l) h = absurd (h x (inl refl))

-- nothing is to be written of it
pub wrote-no-size : (N : ℕ → ℕ) (f joined out : List ℕ) (next s : ℕ) (r : Bool) → length f ≡ 256 → JoinedBySize f joined → SomeOfSize joined s r → r ≡ false
    → Wrote out next (map N (of_size s (rising 0 f))) out next
wrote-no-size N f joined out next s r e j o q =
    let none : of_size s (rising 0 f) ≡ [] =
    unlisted (of_size s (rising 0 f))
    (λ m l.
    let p = (listed-of-size (rising 0 f) s m).to l in
    (o.each f e j).no q (record { mask = m; is = (listed-members f m).to p.0; bits = p.1 })) in
    rw none (wrote_none out next)
