-- The colours of a vertex are taken one after the other: what holds of some or of all of those taken.
-- Assumes nothing.
use mathlib.Core.Path.{◌≡◌, sym, subst}
use mathlib.Core.Bool.{Bool, true, false, not}
use mathlib.Core.List.{List}
use mathlib.Core.Logic.{inl, ⊎_elim}
use Prim.Native.Nat.{ℕ, ◌+◌, ◌≤◌, ◌<◌}
use native.Mathlib.Omega.{arith}
use lib.ListN.{length}
use Rattle.vertex_set.specs.Set.{Member, Iff}
use Rattle.vertex_set.proofs.Decisions.{iff-refl, iff-trans}
use Rattle.vertex_set.proofs.Sets.{none-in-zero, not-empty, some-member}
use Rattle.setup.specs.declared.Rows.{Rows}
use Rattle.setup.specs.Setup.{row_of}
use Rattle.setup.proofs.Graphs.{colour-below}
use Rattle.derivations.specs.Derivation.{Vertices}
use Rattle.derivations.specs.Inner.Admits.{Admits}
use Rattle.derivations.proofs.Admits.{admits-coloured}
use Rattle.successors.specs.Inner.{Coloured, Needed}
use Rattle.family_words.specs.Inner.Words.{At, PartWhere, Merged}
use Rattle.family_words.proofs.Families.{part-as, full-word}
use Rattle.lanes.specs.Inner.Lanes.{Lane, Over, Colour, Takes, untaken_word}
use Rattle.lanes.proofs.Over.{merged-same, below_more}

-- ---- one colour

-- a row that is no colour takes nothing, and gives nothing
empty-taken : (loss : Bool) (was : Type 0) (P : Vertices) (row : ℕ) → row ≡ 0 → Iff was (Takes loss was P row)
unfolding Merged Colour
empty-taken false was P row e = record { to = λ a. inl a; from = ⊎_elim (λ a. a) (λ q. absurd (q.coloured e)) }
empty-taken true was P row e = record { to = λ a. (a, λ n. absurd (n e)); from = λ p. p.0 }

-- a colour is complete if all of it is held, and broken if some of it is lost
colour-over : (loss : Bool) (P : Vertices) (row : ℕ) → (row ≡ 0 → ⊥) → Iff (Over loss (Member row) P) (Colour loss P row)
unfolding Over Colour
colour-over false P row n = record { to = λ a. record { coloured = n; within = a.each }; from = λ c. record { each = c.within } }
colour-over true P row n =
    record {
      to = λ s _. record { vertex = s.place; member = s.is; gone = s.has };
      from = λ c. let s = c n in record { place = s.vertex; is = s.member; has = s.gone };
    }

module _ (loss : Bool) (w : List ℕ) (row : ℕ) (out : List ℕ) where
  pub take_none : length out ≡ 16 → row ≡ 0 → PartWhere (λ b i. Takes loss (At out b i) (Lane w b i) row) out
  take_none h e = record { words = h; each = λ b i hb hi. empty-taken loss (At out b i) (Lane w b i) row e }

  pub take-one : (part out' : List ℕ) → (row ≡ 0 → ⊥) → PartWhere (λ b i. Over loss (Member row) (Lane w b i)) part
      → PartWhere (λ b i. Merged (not loss) (At out b i) (At part b i)) out' → PartWhere (λ b i. Takes loss (At out b i) (Lane w b i) row) out'
  take-one part out' n p l =
      part-as out' l (λ b i hb hi.
      merged-same (not loss) _ _ _ _ iff-refl (iff-trans (p.each b i hb hi) (colour-over loss (Lane w b i) row n)))

-- ---- all colours

-- What the colours below n say: some is complete, or all are broken.
abbrev Colours : Bool → Rows → Vertices → ℕ → Type 0
Colours loss rows P n = Over (not loss) (λ c. c < n) (λ c. Colour loss P (row_of rows c))

-- of all eight colours, where one of them needs a vertex
colours-all : (loss : Bool) (rows : Rows) (P : Vertices) (n v : ℕ) → length rows.needs ≡ 8 → 8 ≤ n → Coloured rows v
    → Iff (Colours loss rows P n) (Admits loss rows P)
unfolding Over Colour
colours-all false rows P n v e h k =
    record {
      to = λ s. record { colour = s.place; complete = s.has };
      from = λ a. record {
        place = a.colour;
        is = colour-below rows n a.colour (omega arith) a.complete.coloured;
        has = a.complete;
      };
    }
colours-all true rows P n v e h k =
    record {
      to = λ a. record {
        colour = k.colour;
        coloured = not-empty (row_of rows k.colour) v k.member;
        every = λ c d. a.each c (colour-below rows n c (omega arith) d) d;
      };
      from = λ a. record { each = λ c q. a.every c };
    }

pub record Taken (w : List ℕ) (rows : Rows) (loss : Bool) (n : ℕ) (out : List ℕ) : Type 0 where
  pub place : n ≤ 8
  pub family : PartWhere (λ b i. Colours loss rows (Lane w b i) n) out

module _ (w : List ℕ) (rows : Rows) where
  pub taken_none : (loss : Bool) (x : ℕ) (out : List ℕ) → x ≡ untaken_word loss → PartWhere (λ b i. Member x i) out → Taken w rows loss 0 out
  unfolding Over
  taken_none false x out q l =
      record {
        place = omega arith;
        family = part-as out l (λ b i hb hi. record {
          to = λ m. absurd (not-empty _ i m q);
          from = λ s. let k = s.is in absurd (omega arith);
        });
      }
  taken_none true x out q l =
      record {
        place = omega arith;
        family = part-as out l (λ b i hb hi. record {
          to = λ m. record { each = λ c k. absurd (omega arith) };
          from = λ _. subst (λ (y : ℕ). Member y i) (sym q) (full-word i hi);
        });
      }

  module _ (loss : Bool) (n : ℕ) where
    pub taken_more : (out out' : List ℕ) → n < 8 → Taken w rows loss n out
        → PartWhere (λ b i. Takes loss (At out b i) (Lane w b i) (row_of rows n)) out' → Taken w rows loss (n + 1) out'
    taken_more out out' h g l =
        record {
          place = omega arith;
          family = part-as out' l (λ b i hb hi.
              iff-trans (merged-same (not loss) _ _ _ _ (g.family.each b i hb hi) iff-refl)
              (below_more (not loss) (λ c. Colour loss (Lane w b i) (row_of rows c)) n));
        }

    pub taken-done : (s : ℕ) (out : List ℕ) → length rows.needs ≡ 8 → 8 ≤ n → Needed rows s → (s ≡ 0 → ⊥) → Taken w rows loss n out
        → PartWhere (λ b i. Admits loss rows (Lane w b i)) out
    taken-done s out e h d z g =
        let m = some-member s z in
        part-as out g.family (λ b i hb hi. colours-all loss rows (Lane w b i) n m.0 e h ((d.each m.0).to m.1))

  -- a vertex that needs nothing has no colour
  pub admitted-none : (loss : Bool) (s : ℕ) (out : List ℕ) → Needed rows s → s ≡ 0 → PartWhere (λ b i. Member 0 i) out
      → PartWhere (λ b i. Admits loss rows (Lane w b i)) out
  admitted-none loss s out d z l =
      part-as out l (λ b i hb hi. record {
        to = λ m. absurd (none-in-zero i m);
        from = λ a.
            let c = admits-coloured loss rows (Lane w b i) a in
            let m = some-member (row_of rows c.0) c.1 in
            absurd (none-in-zero m.0 (subst (λ (x : ℕ). Member x m.0) z ((d.each m.0).from (record { colour = c.0; member = m.1 }))));
      })
