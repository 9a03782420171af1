-- From what the call answers to what the program tells.
-- Assumes nothing.
use mathlib.Core.Path.{◌≡◌, refl, sym, ap, ◌∙◌, subst}
use mathlib.Core.List.{List, [], ◌∷◌, ◌++◌, append_assoc}
use mathlib.Core.Logic.{inl, inr}
use Prim.Native.Nat.{ℕ, ◌+◌, ◌^◌, ◌≤◌, ◌<◌}
use native.Mathlib.Omega.{arith}
use lib.ListN.{length, take, drop, length-append, length-take, length-drop}
use lib.Seq.{length-take-le, drop-append_seam}
use Rattle.std.specs.Counts.{IsPrefixLen}
use Rattle.written.specs.Inner.{Wrote}
use Rattle.vertex_set.specs.Order.{Listed}
use Rattle.written.specs.Rows.{RowWritten}
use Rattle.written.proofs.Rows.{row_written}
use Rattle.sheet_format.specs.Fields.{decimal}
use Rattle.sheet_format.specs.Rows.{line_text}
use Rattle.sheet_format.proofs.Meaning.{number-most}
use Rattle.sheet_format.proofs.Numbers.{decimal-length}
use Rattle.writing.specs.Inner.{ended}
use Rattle.pool_format.specs.Call.{Pooled}
use Rattle.pool_format.specs.Call.{PoolOutcome, with_buffer, pool_refusal, PoolCall}
use Rattle.pool_format.specs.Meaning.{IsPooled}
use Rattle.sheet_format.specs.Meaning.{longest_sheet}
use Rattle.pool_format.proofs.Meaning.{always-enough, PoolComes, of-first, of-second, of-both, of-short, of-text, pool-comes, pooled-text}
use Rattle.pool.specs.Printed.{refusal_line, Printed}

-- ---- the line of a refusal

pub number_short : (n e : ℕ) → n < 2 ^ 64 → length (ended (decimal n) e) ≤ 21
number_short n e h = let d = decimal-length 19 n (omega arith) in omega (arith, length-append (decimal n) (e ∷ []))

-- A line of four fields, by its parts.
line-parts : (f g h k : List ℕ) → ended f 32 ++ ended g 32 ++ ended h 32 ++ ended k 10 ≡ line_text (f ∷ g ∷ h ∷ k ∷ [])
line-parts f g h k =
    let last : List ℕ = ended h 32 ++ ended k 10 in
    append_assoc (ended f 32 ++ ended g 32) (ended h 32) (ended k 10) ∙ append_assoc (ended f 32) (ended g 32) last ∙ append_assoc f (32 ∷ []) (ended g 32 ++ last) ∙
    ap (λ x. f ++ (32 ∷ x)) (append_assoc g (32 ∷ []) last ∙ ap (λ x. g ++ (32 ∷ x)) (append_assoc h (32 ∷ []) (ended k 10)))

pub line-written : (f g h k entry out : List ℕ) (r : ℕ) → Wrote entry 0 (ended f 32 ++ ended g 32 ++ ended h 32 ++ ended k 10) out r
    → length (ended f 32 ++ ended g 32 ++ ended h 32 ++ ended k 10) ≤ length entry → RowWritten entry 0 (line_text (f ∷ g ∷ h ∷ k ∷ [])) out r
line-written f g h k entry out r w room =
    let e = line-parts f g h k in
    row_written entry 0 (line_text (f ∷ g ∷ h ∷ k ∷ [])) out r (subst (λ (x : List ℕ). Wrote entry 0 x out r) e w)
    (subst (λ (x : List ℕ). 0 + length x ≤ length entry) e (omega arith))

-- ---- bytes at a buffer's start

pub counted : (n : ℕ) (xs : List ℕ) → n ≤ length xs → IsPrefixLen n xs
counted n xs h = (h, sym (length-take-le n xs h))

pub row_counts : (entry row exit : List ℕ) (r : ℕ) → RowWritten entry 0 row exit r → IsPrefixLen r exit
row_counts entry row exit r w =
    let m = w.many in
    let l = ap length w.stands in
    counted r exit (omega (arith, length-take (length row) (drop 0 exit), length-drop 0 exit))

pub row-taken : (entry row exit : List ℕ) (r : ℕ) → RowWritten entry 0 row exit r → take r exit ≡ row
row-taken entry row exit r w = let e : r ≡ length row = omega (arith, w.many) in ap (λ n. take n exit) e ∙ w.stands

-- behind a row at the start everything is as it was
pub row-behind : (entry row exit : List ℕ) (r : ℕ) → RowWritten entry 0 row exit r → drop r exit ≡ drop r entry
row-behind entry row exit r w = let e : r ≡ 0 + length row = w.many in rw e w.others.1

-- ---- what the call answers

module _ (a b : List ℕ) (r : Pooled) (entry exit : List ℕ) (c : PoolCall a b r entry exit) (h : longest_sheet ≤ length entry) where
  -- every pooled sheet has room
  enough : (t : List ℕ) → IsPooled a b t → length t ≤ length entry
  enough t p =
      let m = always-enough a b t p in
      omega arith

  few : (q : ℕ) → Listed (22 ∷ 23 ∷ []) q → q ≡ 24 → ⊥
  few q (inl e) z = omega (arith, e, z)
  few q (inr (inl e)) z = omega (arith, e, z)
  few q (inr (inr l)) z = absurd l

  number : {p : PoolOutcome} → with_buffer r exit ≡ p → r.number ≡ p.answer.number
  number e = ap (λ (o : PoolOutcome). o.answer.number) e

  never-short : r.number ≡ 24 → ⊥
  never-short z = by (pool-comes a b r entry exit c)
    where
      by : PoolComes a b entry (with_buffer r exit) → ⊥
      by (of-first n e) = let m = number-most a in let k = number e in omega arith
      by (of-second n e) = let m = number-most b in let k = number e in omega arith
      by (of-both q l e) = few q l (sym (number e) ∙ z)
      by (of-short t p n e) = n (enough t p)
      by (of-text t p e) = let k = number e in omega arith

  size-inside : r.size ≤ length exit
  size-inside = by (pool-comes a b r entry exit c)
    where
      size : {p : PoolOutcome} → with_buffer r exit ≡ p → r.size ≡ p.answer.size
      size e = ap (λ (o : PoolOutcome). o.answer.size) e

      by : PoolComes a b entry (with_buffer r exit) → r.size ≤ length exit
      by (of-first n e) = let k = size e in omega arith
      by (of-second n e) = let k = size e in omega arith
      by (of-both q l e) = let k = size e in omega arith
      by (of-short t p n e) = let k = size e in omega arith
      by (of-text t p e) =
          let k = size e in
          let m = ap (λ (o : PoolOutcome). length o.buffer) e in
          let l = length-append t (drop (length t) entry) in
          omega arith

  pub sheet-counts : IsPrefixLen r.size exit
  sheet-counts = counted r.size exit size-inside

  -- behind the sheet the buffer is as it was, and a refusal leaves all of it
  pub sheet-behind : drop r.size exit ≡ drop r.size entry
  sheet-behind = by (pool-comes a b r entry exit c)
    where
      kept : (sheet line q : ℕ) → with_buffer r exit ≡ pool_refusal sheet line entry q → drop r.size exit ≡ drop r.size entry
      kept sheet line q e = ap (λ (o : PoolOutcome). drop r.size o.buffer) e

      by : PoolComes a b entry (with_buffer r exit) → drop r.size exit ≡ drop r.size entry
      by (of-first n e) = kept _ _ _ e
      by (of-second n e) = kept _ _ _ e
      by (of-both q l e) = kept _ _ _ e
      by (of-short t p n e) = kept _ _ _ e
      by (of-text t p e) =
          let size : r.size ≡ length t = ap (λ (o : PoolOutcome). o.answer.size) e in
          ap (λ (o : PoolOutcome). drop r.size o.buffer) e ∙ rw size (drop-append_seam t (drop (length t) entry))

  pub refused-behind : (r.number ≡ 0 → ⊥) → drop 0 exit ≡ drop 0 entry
  refused-behind n = by (pool-comes a b r entry exit c)
    where
      by : PoolComes a b entry (with_buffer r exit) → drop 0 exit ≡ drop 0 entry
      by (of-first m e) = ap (λ (o : PoolOutcome). o.buffer) e
      by (of-second m e) = ap (λ (o : PoolOutcome). o.buffer) e
      by (of-both q l e) = ap (λ (o : PoolOutcome). o.buffer) e
      by (of-short t p m e) = ap (λ (o : PoolOutcome). o.buffer) e
      by (of-text t p e) = absurd (n (number e))

  -- ---- what the program tells

  pub tells-pooled : (line : List ℕ) → r.number ≡ 0 → Printed a b (take r.size exit) (take 0 line)
  tells-pooled line z =
      record {
        answer = r;
        entry = entry;
        exit = exit;
        call = c;
        enough = never-short;
        pooled = λ _. (pooled-text a b r entry exit c z, refl);
        refused = λ n. absurd (n z);
      }

  pub tells-refused : (said : List ℕ) → (r.number ≡ 0 → ⊥) → said ≡ refusal_line r.sheet r.number r.line → Printed a b (take 0 exit) said
  tells-refused said n e =
      record {
        answer = r;
        entry = entry;
        exit = exit;
        call = c;
        enough = never-short;
        pooled = λ z. absurd (n z);
        refused = λ _. (refl, e);
      }
