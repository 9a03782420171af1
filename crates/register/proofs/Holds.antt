-- What the register holds, carried through one more call: nothing new, a student's attempts gone, an attempt more.
-- Assumes nothing.
use mathlib.Core.Path.{◌≡◌, refl, sym, ◌∙◌, subst}
use mathlib.Core.Bool.{true, false}
use mathlib.Core.List.{List, [], ◌∷◌, ◌++◌}
use mathlib.Core.Logic.{◌⊎◌, inl, inr, ⊎_elim}
use Prim.Native.Nat.{ℕ, ◌<◌}
use native.Mathlib.Omega.{arith}
use lib.Dec.{eqb}
use borrow.Author.Tests.{eqb-false}
use Rattle.vertex_set.specs.Set.{Iff}
use Rattle.vertex_set.specs.Order.{Listed, Rising}
use Rattle.vertex_set.proofs.Cases.{by_test, false-true}
use Rattle.setup.specs.declared.Setup.{Setup}
use Rattle.records.specs.declared.Record.{Record}
use Rattle.records.specs.Records.{RecordOf, same_three, has_three, with_record, without}
use Rattle.records.proofs.Laws.{if-true, if-false}
use Rattle.register.specs.Afternoon.{Attempt, SameAttempt, First, Latest, Entry, Entries, IsOf, Held, RegisterHolds}
use Rattle.register.proofs.Three.{same_back, same_then, is-of, same_of, of-same, of-both, of-moved, held-three, held-without, held_new, held_with}

module _ (s : Setup) (P Q : ℕ → Attempt → Type 0) where
  -- ---- the same attempts stand

  module _ (same : (t : ℕ) (x : Attempt) → Iff (P t x) (Q t x)) where
    entry-same : (t : ℕ) (r : Record) → Entry s P t r → Entry s Q t r
    entry-same t r h =
        record {
          first = h.first;
          is_first = record { stands = (same t h.first).to h.is_first.stands; first = λ u y q. h.is_first.first u y ((same u y).from q) };
          time = h.time;
          latest = h.latest;
          is_latest = record { stands = (same h.time h.latest).to h.is_latest.stands; latest = λ u y q. h.is_latest.latest u y ((same u y).from q) };
          same = h.same;
          is_record = h.is_record;
        }

    entries-same : (ts : List ℕ) (rs : List Record) → Entries s P ts rs → Entries s Q ts rs
    entries-same [] [] h = tt
    entries-same [] (r ∷ rs) h = absurd h
    entries-same (t ∷ ts) [] h = absurd h
    entries-same (t ∷ ts) (r ∷ rs) h = (entry-same t r h.0, entries-same ts rs h.1)

    pub holds_same : (rs : List Record) → RegisterHolds s P rs → RegisterHolds s Q rs
    holds_same rs h =
        record { times = h.times; rising = h.rising; entries = entries-same h.times rs h.entries; whole = λ t x q. h.whole t x ((same t x).from q) }

  -- ---- the attempts of the student k are gone

  module _ (k : ℕ) (less : (t : ℕ) (x : Attempt) → Iff (P t x × (x.student ≡ k → ⊥)) (Q t x)) where
    entry-less : (t : ℕ) (r : Record) → (r.student ≡ k → ⊥) → Entry s P t r → Entry s Q t r
    entry-less t r other h =
        record {
          first = h.first;
          is_first = record { stands = (less t h.first).to (h.is_first.stands, λ e. other (named ∙ h.same.student ∙ e)); first = λ u y q. h.is_first.first u y ((less u y).from q).0 };
          time = h.time;
          latest = h.latest;
          is_latest = record { stands = (less h.time h.latest).to (h.is_latest.stands, λ e. other (named ∙ e)); latest = λ u y q. h.is_latest.latest u y ((less u y).from q).0 };
          same = h.same;
          is_record = h.is_record;
        }
      where
        named : r.student ≡ h.latest.student
        named = h.is_record.is_student

    -- the times of the records that stay
    record Left (ts : List ℕ) (rs : List Record) : Type 0 where
      times : List ℕ
      rising : Rising times
      among : (u : ℕ) → Listed times u → Listed ts u
      entries : Entries s Q times (without k rs)

    left : (ts : List ℕ) (rs : List Record) → Rising ts → Entries s P ts rs → Left ts rs
    left [] [] o h = record { times = []; rising = tt; among = λ u l. l; entries = tt }
    left [] (r ∷ rs) o h = absurd h
    left (t ∷ ts) [] o h = absurd h
    left (t ∷ ts) (r ∷ rs) o h = by_test (eqb r.student k) (gone (left ts rs o.1 h.1)) (stays (left ts rs o.1 h.1))
      where
        gone : Left ts rs → eqb r.student k ≡ true → Left (t ∷ ts) (r ∷ rs)
        gone rest e =
            record {
              times = rest.times;
              rising = rest.rising;
              among = λ u l. inr (rest.among u l);
              entries = rw (if-true _ (without k rs) (r ∷ without k rs) e) rest.entries;
            }

        stays : Left ts rs → eqb r.student k ≡ false → Left (t ∷ ts) (r ∷ rs)
        stays rest e =
            record {
              times = t ∷ rest.times;
              rising = (λ u l. o.0 u (rest.among u l), rest.rising);
              among = λ u. ⊎_elim (λ l. inl l) (λ l. inr (rest.among u l));
              entries = rw (if-false _ (without k rs) (r ∷ without k rs) e) (entry-less t r (eqb-false r.student k e) h.0, rest.entries);
            }

    pub holds-less : (rs : List Record) → RegisterHolds s P rs → RegisterHolds s Q (without k rs)
    holds-less rs h =
        let l = left h.times rs h.rising h.entries in
        record {
          times = l.times;
          rising = l.rising;
          entries = l.entries;
          whole = λ t x q. let p = (less t x).from q in held-without k x rs p.1 (h.whole t x p.0);
        }

  -- ---- the attempt z stands too, later than all others

  module _ (z : Attempt) (now : ℕ) (n : Record) (is_record : RecordOf s z.student z.target z.loss z.handed n)
      (before : (t : ℕ) (x : Attempt) → P t x → t < now) (more : (t : ℕ) (x : Attempt) → Iff (((t ≡ now) × (z ≡ x)) ⊎ P t x) (Q t x)) where
    n-of : IsOf n z
    n-of = is-of is_record

    z-stands : Q now z
    z-stands = (more now z).to (inl (refl, refl))

    -- no attempt is later
    z-latest : Latest Q now z
    z-latest =
        record {
          stands = z-stands;
          latest = λ u y q h. ⊎_elim (λ e. let d = e.0 in omega (arith, d)) (λ p. let l = before u y p in omega (arith, l)) ((more u y).from q);
        }

    first_more : (t : ℕ) (x : Attempt) → First P t x → First Q t x
    first_more t x h =
        record {
          stands = (more t x).to (inr h.stands);
          first = λ u y q e.
              ⊎_elim (λ d. let f = d.0 in let l = before t x h.stands in omega (arith, f, l)) (λ p. h.first u y p e) ((more u y).from q);
        }

    entry_other : (t : ℕ) (r : Record) → (IsOf r z → ⊥) → Entry s P t r → Entry s Q t r
    entry_other t r other h =
        record {
          first = h.first;
          is_first = first_more t h.first h.is_first;
          time = h.time;
          latest = h.latest;
          is_latest = record {
            stands = (more h.time h.latest).to (inr h.is_latest.stands);
            latest = λ u y q e.
                ⊎_elim (λ d. absurd (other (of-moved r h.latest z (is-of h.is_record) (same_back (subst (λ (a : Attempt). SameAttempt a h.latest) (sym d.1) e)))))
                (λ p. h.is_latest.latest u y p e) ((more u y).from q);
          };
          same = h.same;
          is_record = h.is_record;
        }

    entry_new : (t : ℕ) (r : Record) → IsOf r z → Entry s P t r → Entry s Q t n
    entry_new t r of h =
        record {
          first = h.first;
          is_first = first_more t h.first h.is_first;
          time = now;
          latest = z;
          is_latest = z-latest;
          same = same_then (of-both r z h.latest of (is-of h.is_record)) h.same;
          is_record = is_record;
        }

    -- a record with the three of z stands once: another would have been first at another time
    apart : (t u : ℕ) (r r' : Record) → t < u → Entry s P t r → Entry s P u r' → IsOf r z → IsOf r' z → ⊥
    apart t u r r' l h g a b =
        let e = same_then (same_back h.same) (same_then (of-both r h.latest z (is-of h.is_record) a) (same_then (of-both r' z g.latest b (is-of g.is_record)) g.same)) in
        let k = g.is_first.first t h.first h.is_first.stands e in
        omega (arith, l, k)

    entries-after : (t : ℕ) (r : Record) → Entry s P t r → IsOf r z → (ts : List ℕ) (rs : List Record) → ((u : ℕ) → Listed ts u → t < u) → Entries s P ts rs → Entries s Q ts rs
    entries-after t r h of [] [] l g = tt
    entries-after t r h of [] (r' ∷ rs) l g = absurd g
    entries-after t r h of (u ∷ ts) [] l g = absurd g
    entries-after t r h of (u ∷ ts) (r' ∷ rs) l g =
        (entry_other u r' (apart t u r r' (l u (inl refl)) h g.0 of) g.0, entries-after t r h of ts rs (λ v k. l v (inr k)) g.1)

    replaced : (ts : List ℕ) (rs : List Record) → Rising ts → has_three n rs ≡ true → Entries s P ts rs → Entries s Q ts (with_record n rs)
    replaced [] [] o e h = absurd (false-true e)
    replaced [] (r ∷ rs) o e h = absurd h
    replaced (t ∷ ts) [] o e h = absurd h
    replaced (t ∷ ts) (r ∷ rs) o e h =
        by_test (same_three r n)
        (λ d. let of = same_of r n z d n-of in
        rw (if-true _ (n ∷ rs) (r ∷ with_record n rs) d) (entry_new t r of h.0, entries-after t r h.0 of ts rs o.0 h.1))
        (λ d. rw (if-false _ (n ∷ rs) (r ∷ with_record n rs) d)
        (entry_other t r (λ of. false-true (sym d ∙ of-same r n z of n-of)) h.0, replaced ts rs o.1 (sym (if-false _ true (has_three n rs) d) ∙ e) h.1))

    appended : (ts : List ℕ) (rs : List Record) → ((t : ℕ) (x : Attempt) → P t x → SameAttempt x z → ⊥) → has_three n rs ≡ false → Entries s P ts rs
        → Entries s Q (ts ++ (now ∷ [])) (with_record n rs)
    appended [] [] none e h = (
      record {
        first = z;
        is_first = record {
          stands = z-stands;
          first = λ u y q d. ⊎_elim (λ f. let g = f.0 in omega (arith, g)) (λ p. absurd (none u y p d)) ((more u y).from q);
        };
        time = now;
        latest = z;
        is_latest = z-latest;
        same = record { student = refl; target = refl; way = refl };
        is_record = is_record;
      },
      tt,
    )
    appended [] (r ∷ rs) none e h = absurd h
    appended (t ∷ ts) [] none e h = absurd h
    appended (t ∷ ts) (r ∷ rs) none e h =
        by_test (same_three r n) (λ d. absurd (false-true (sym e ∙ if-true _ true (has_three n rs) d)))
        (λ d. rw (if-false _ (n ∷ rs) (r ∷ with_record n rs) d)
        (entry_other t r (λ of. false-true (sym d ∙ of-same r n z of n-of)) h.0, appended ts rs none (sym (if-false _ true (has_three n rs) d) ∙ e) h.1))

    -- all times are before now
    past : (ts : List ℕ) (rs : List Record) → Entries s P ts rs → (u : ℕ) → Listed ts u → u < now
    past [] rs h u l = absurd l
    past (t ∷ ts) [] h u l = absurd h
    past (t ∷ ts) (r ∷ rs) h u (inl e) = let k = before t h.0.first h.0.is_first.stands in omega (arith, k, e)
    past (t ∷ ts) (r ∷ rs) h u (inr l) = past ts rs h.1 u l

    listed-snoc : (ts : List ℕ) (u : ℕ) → Listed (ts ++ (now ∷ [])) u → Listed ts u ⊎ (u ≡ now)
    listed-snoc [] u (inl e) = inr e
    listed-snoc [] u (inr l) = absurd l
    listed-snoc (t ∷ ts) u (inl e) = inl (inl e)
    listed-snoc (t ∷ ts) u (inr l) = ⊎_elim (λ k. inl (inr k)) (λ k. inr k) (listed-snoc ts u l)

    rising_snoc : (ts : List ℕ) → Rising ts → ((u : ℕ) → Listed ts u → u < now) → Rising (ts ++ (now ∷ []))
    rising_snoc [] o l = (λ u h. absurd h, tt)
    rising_snoc (t ∷ ts) o l =
        (λ u h. ⊎_elim (o.0 u) (λ e. let k = l t (inl refl) in omega (arith, k, e)) (listed-snoc ts u h), rising_snoc ts o.1 (λ u h. l u (inr h)))

    pub holds_more : (rs : List Record) → RegisterHolds s P rs → RegisterHolds s Q (with_record n rs)
    holds_more rs h = by_test (has_three n rs) again anew
      where
        whole : (t : ℕ) (x : Attempt) → Q t x → Held (with_record n rs) x
        whole t x q = ⊎_elim (λ e. subst (λ (a : Attempt). Held (with_record n rs) a) e.1 (held_new n z rs n-of)) (λ p. held_with n x rs (h.whole t x p)) ((more t x).from q)

        again : has_three n rs ≡ true → RegisterHolds s Q (with_record n rs)
        again e = record { times = h.times; rising = h.rising; entries = replaced h.times rs h.rising e h.entries; whole = whole }

        anew : has_three n rs ≡ false → RegisterHolds s Q (with_record n rs)
        anew e =
            record {
              times = h.times ++ (now ∷ []);
              rising = rising_snoc h.times h.rising (past h.times rs h.entries);
              entries = appended h.times rs
                  (λ t x p d. false-true (sym e ∙ held-three n x rs (of-moved n z x n-of (same_back d)) (h.whole t x p))) e h.entries;
              whole = whole;
            }
