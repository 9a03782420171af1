-- How the calls on two labs' sheets end, for every lent buffer, and wrong pooled sheets that are excluded.
-- Assumes nothing.
use mathlib.Core.Path.{◌≡◌, refl, sym, ap, subst, ◌∙◌}
use mathlib.Core.Bool.{false}
use mathlib.Core.List.{List, [], ◌∷◌, ◌++◌}
use Prim.Native.Nat.{ℕ, ◌≤◌}
use Prim.Native.String.{String}
use native.Mathlib.Omega.{arith}
use lib.ListN.{length}
use Rattle.setup.specs.declared.Vertex.{Vertex}
use Rattle.questions.specs.Asks.{Asks}
use Rattle.questions.proofs.Asks.{first-no, after-all}
use Rattle.sheet_format.specs.Read.{Reading}
use Rattle.sheet_format.specs.Text.{same_text}
use Rattle.sheet_format.specs.Rows.{Doc, render, start_count}
use Rattle.sheet_format.specs.Questions.{is_known}
use Rattle.sheet_format.specs.Read.{read_sheet, asks_sheet}
use Rattle.sheet_format.proofs.Meaning.{accepted-of-valid, rows-unique}
use Rattle.pool_format.specs.Call.{Pooled}
use Rattle.pool_format.specs.Rows.{Agree, remaining, uses_colour, lowest_free, is_taken, new_colour, recoloured, pooled, Fits}
use Rattle.pool_format.specs.Call.{PoolOutcome, with_buffer, asks22, asks23, asks24, pool_refusal, pools_text, PoolsRows, PoolCall}
use Rattle.pool_format.specs.Meaning.{IsPooled}
use Rattle.worked_examples.specs.Sheets.{lines_text}
use Rattle.worked_examples.specs.Pooling.{first_lab, second_lab, both_labs, wrong_lab, Disagree, SecondRefused, NinthColour, FifteenStarts, TooShort, WithRoom}
use Rattle.worked_examples.proofs.Reading.{HasRows}
use Rattle.worked_examples.proofs.PoolingRows.{first, second, other, eight, ninth, starts, others, labs-read}
use Rattle.worked_examples.proofs.Pooling.{differ, agree, fits, text-both}

-- ---- the questions behind both readings

read-well : (text : List ℕ) (d : Doc) → HasRows text d → (read_sheet text).number ≡ 0
read-well text d h = ap (λ (r : Reading). r.number) (ap read_sheet h.is ∙ accepted-of-valid d h.valid)

-- 22, 23, 24 of these rows, and then their pooled sheet
abbrev Told : Doc → Doc → List ℕ → PoolOutcome → Type 0
Told d e entry = Asks (pool_refusal 0 0 entry) (asks22 d e ∷ asks23 d e ∷ asks24 d e entry ∷ []) (λ p. p ≡ pools_text (render (pooled d e)) entry)

-- the call on the second sheet, once the first is read
behind-first : (a b : List ℕ) (d : Doc) → HasRows a d → (r : Pooled) (entry exit : List ℕ) → PoolCall a b r entry exit
    → Asks (pool_refusal 2 (read_sheet b).line entry) (asks_sheet b ∷ []) (PoolsRows a b entry) (with_buffer r exit)
behind-first a b d h r entry exit c =
    after-all (pool_refusal 1 (read_sheet a).line entry) (Asks (pool_refusal 2 (read_sheet b).line entry) (asks_sheet b ∷ []) (PoolsRows a b entry)) (asks_sheet a ∷ []) _ c
    (read-well a d h, tt)

behind-both : (a b : List ℕ) (d e : Doc) → HasRows a d → HasRows b e → (r : Pooled) (entry exit : List ℕ) → PoolCall a b r entry exit → Told d e entry (with_buffer r exit)
behind-both a b d e h k r entry exit c =
    let p = after-all (pool_refusal 2 (read_sheet b).line entry) (PoolsRows a b entry) (asks_sheet b ∷ []) _ (behind-first a b d h r entry exit c) (read-well b e k, tt) in
    let x = rows-unique p.d d p.valid h.valid (sym p.is ∙ h.is) in
    let y = rows-unique p.e e p.valid_second k.valid (sym p.is_second ∙ k.is) in
    subst (λ (z : Doc). Told d z entry (with_buffer r exit)) y (subst (λ (z : Doc). Told z p.e entry (with_buffer r exit)) x p.told)

module _ (d e : Doc) (entry : List ℕ) (o : PoolOutcome) (t : Told d e entry o) where
  abbrev Ended : PoolOutcome → Type 0
  Ended p = p ≡ pools_text (render (pooled d e)) entry

  ends-22 : (Agree d.items e.items → ⊥) → o ≡ pool_refusal 0 0 entry 22
  ends-22 n = first-no (pool_refusal 0 0 entry) Ended [] (asks22 d e) (asks23 d e ∷ asks24 d e entry ∷ []) o t tt n

  ends-23 : Agree d.items e.items → (Fits (pooled d e) → ⊥) → o ≡ pool_refusal 0 0 entry 23
  ends-23 a n = first-no (pool_refusal 0 0 entry) Ended (asks22 d e ∷ []) (asks23 d e) (asks24 d e entry ∷ []) o t (a, tt) n

  ends-24 : Agree d.items e.items → Fits (pooled d e) → (length (render (pooled d e)) ≤ length entry → ⊥) → o ≡ pool_refusal 0 0 entry 24
  ends-24 a f n = first-no (pool_refusal 0 0 entry) Ended (asks22 d e ∷ asks23 d e ∷ []) (asks24 d e entry) [] o t (a, (f, tt)) n

  ends-well : Agree d.items e.items → Fits (pooled d e) → length (render (pooled d e)) ≤ length entry → Ended o
  ends-well a f l = after-all (pool_refusal 0 0 entry) Ended (asks22 d e ∷ asks23 d e ∷ asks24 d e entry ∷ []) o t (a, (f, (l, tt)))

-- ---- refusals

apart : Agree first.items other.items → ⊥
apart a = let e : ◌≡◌ {A = ℕ} 1 2 = ap (λ (v : Vertex). v.rank) (a.1.0.0 refl) in omega arith

pub disagree : Disagree
disagree r entry exit c l = ends-22 first other entry _ (behind-both _ _ first other labs-read.first labs-read.other r entry exit c) apart

pub second-refused : SecondRefused
second-refused r entry exit c l =
    let b = lines_text wrong_lab in
    let e = labs-read.wrong in
    let q : (read_sheet b).number ≡ 6 = ap (λ (x : Reading). x.number) e in
    first-no (pool_refusal 2 (read_sheet b).line entry) (PoolsRows (lines_text first_lab) b entry) [] (asks_sheet b) [] _ (behind-first _ b first labs-read.first r entry exit c) tt (λ z. omega arith)
    ∙ ap (λ (x : Reading). pool_refusal 2 x.line entry x.number) e

-- the storeroom agrees with itself, and no other names are shared
agree-ninth : Agree eight.items ninth.items
unfolding same_text
agree-ninth = ((λ s. absurd (differ _ _ refl s), (λ s. absurd (differ _ _ refl s), tt)), ((λ s. refl, (λ s. absurd (differ _ _ refl s), tt)), tt))

no-ninth : Fits (pooled eight ninth) → ⊥
unfolding pooled remaining recoloured new_colour is_taken lowest_free uses_colour is_known same_text
no-ninth f = let k : 8 ≤ 7 = f.colours.1.1.1.1.1.1.1.1.0 in omega arith

pub ninth-colour : NinthColour
ninth-colour r entry exit c l = ends-23 eight ninth entry _ (behind-both _ _ eight ninth labs-read.eight labs-read.ninth r entry exit c) agree-ninth no-ninth

no-fifteen : Fits (pooled starts others) → ⊥
unfolding pooled remaining is_known same_text start_count
no-fifteen f = let k : 15 ≤ 14 = f.starts in omega arith

agree-starts : Agree starts.items others.items
unfolding same_text
agree-starts = ((λ s. absurd (differ _ _ refl s), (λ s. absurd (differ _ _ refl s), (λ s. absurd (differ _ _ refl s), (λ s. absurd (differ _ _ refl s), (λ s. absurd (differ _ _ refl s), (λ s. absurd (differ _ _ refl s), (λ s. absurd (differ _ _ refl s), tt))))))), ((λ s. absurd (differ _ _ refl s), (λ s. absurd (differ _ _ refl s), (λ s. absurd (differ _ _ refl s), (λ s. absurd (differ _ _ refl s), (λ s. absurd (differ _ _ refl s), (λ s. absurd (differ _ _ refl s), (λ s. absurd (differ _ _ refl s), tt))))))), ((λ s. absurd (differ _ _ refl s), (λ s. absurd (differ _ _ refl s), (λ s. absurd (differ _ _ refl s), (λ s. absurd (differ _ _ refl s), (λ s. absurd (differ _ _ refl s), (λ s. absurd (differ _ _ refl s), (λ s. absurd (differ _ _ refl s), tt))))))), ((λ s. absurd (differ _ _ refl s), (λ s. absurd (differ _ _ refl s), (λ s. absurd (differ _ _ refl s), (λ s. absurd (differ _ _ refl s), (λ s. absurd (differ _ _ refl s), (λ s. absurd (differ _ _ refl s), (λ s. absurd (differ _ _ refl s), tt))))))), ((λ s. absurd (differ _ _ refl s), (λ s. absurd (differ _ _ refl s), (λ s. absurd (differ _ _ refl s), (λ s. absurd (differ _ _ refl s), (λ s. absurd (differ _ _ refl s), (λ s. absurd (differ _ _ refl s), (λ s. absurd (differ _ _ refl s), tt))))))), ((λ s. absurd (differ _ _ refl s), (λ s. absurd (differ _ _ refl s), (λ s. absurd (differ _ _ refl s), (λ s. absurd (differ _ _ refl s), (λ s. absurd (differ _ _ refl s), (λ s. absurd (differ _ _ refl s), (λ s. absurd (differ _ _ refl s), tt))))))), ((λ s. absurd (differ _ _ refl s), (λ s. absurd (differ _ _ refl s), (λ s. absurd (differ _ _ refl s), (λ s. absurd (differ _ _ refl s), (λ s. absurd (differ _ _ refl s), (λ s. absurd (differ _ _ refl s), (λ s. absurd (differ _ _ refl s), tt))))))), ((λ s. absurd (differ _ _ refl s), (λ s. absurd (differ _ _ refl s), (λ s. absurd (differ _ _ refl s), (λ s. absurd (differ _ _ refl s), (λ s. absurd (differ _ _ refl s), (λ s. absurd (differ _ _ refl s), (λ s. absurd (differ _ _ refl s), tt))))))), tt))))))))

pub fifteen-starts : FifteenStarts
fifteen-starts r entry exit c l = ends-23 starts others entry _ (behind-both _ _ starts others labs-read.starts labs-read.others r entry exit c) agree-starts no-fifteen

-- ---- the pooled sheet

abbrev pools : (r : Pooled) (entry exit : List ℕ) → PoolCall (lines_text first_lab) (lines_text second_lab) r entry exit → Told first second entry (with_buffer r exit)
pools = behind-both _ _ first second labs-read.first labs-read.second

pub too_short : TooShort
too_short r entry exit c l = ends-24 first second entry _ (pools r entry exit c) agree fits (λ k. let e = ap length text-both in omega arith)

pub with-room : WithRoom
with-room r entry exit c l =
    ends-well first second entry _ (pools r entry exit c) agree fits (let e = ap length text-both in omega arith) ∙ ap (λ (t : List ℕ). pools_text t entry) (sym text-both)

-- ---- wrong pooled sheets

one-sheet : (t : List ℕ) → IsPooled (lines_text first_lab) (lines_text second_lab) t → t ≡ lines_text both_labs
one-sheet t p =
    let x = rows-unique p.first first p.valid_first labs-read.first.valid (sym p.is_first ∙ labs-read.first.is) in
    let y = rows-unique p.second second p.valid_second labs-read.second.valid (sym p.is_second ∙ labs-read.second.is) in
    p.text ∙ ap (λ (d : Doc). render (pooled d p.second)) x ∙ ap (λ (d : Doc). render (pooled first d)) y ∙ sym text-both

-- A sheet of these item rows and edge rows.
abbrev pub sheet_of : List String → List String → List String
sheet_of items edges = "name kind start loss rank" ∷ (items ++ ("" ∷ "from to colour rec" ∷ edges))

abbrev pub PoolsTo : List String → Type 0
PoolsTo t = IsPooled (lines_text first_lab) (lines_text second_lab) (lines_text t)

other-sheet : (t : List String) → same_text (lines_text t) (lines_text both_labs) ≡ false → PoolsTo t → ⊥
other-sheet t h p = differ _ _ h (one-sheet (lines_text t) p)

abbrev pub items : List String
items = "badge c 2 1 0" ∷ "store a - - 1" ∷ "bench a - - 2" ∷ "pin c 1 0 0" ∷ "mail a - - 3" ∷ []

abbrev pub edges : List String
edges = "badge store 0 0" ∷ "store bench 0 0" ∷ "pin store 2 0" ∷ "mail store 1 1" ∷ "store mail 5 0" ∷ []

-- The second sheet's colours kept: the badge would open the storeroom with the mail alone.
abbrev pub kept_colours : List String
kept_colours = sheet_of items ("badge store 0 0" ∷ "store bench 0 0" ∷ "pin store 3 0" ∷ "mail store 0 1" ∷ "store mail 5 0" ∷ [])

pub no-colours-kept : PoolsTo kept_colours → ⊥
unfolding same_text
no-colours-kept = other-sheet kept_colours refl

-- Renamed in the order of the rows, not of the colours.
abbrev pub by_row : List String
by_row = sheet_of items ("badge store 0 0" ∷ "store bench 0 0" ∷ "pin store 1 0" ∷ "mail store 2 1" ∷ "store mail 5 0" ∷ [])

pub no-colours-by-row : PoolsTo by_row → ⊥
unfolding same_text
no-colours-by-row = other-sheet by_row refl

-- The colour of an item that is not shared renamed too.
abbrev pub own_renamed : List String
own_renamed = sheet_of items ("badge store 0 0" ∷ "store bench 0 0" ∷ "pin store 2 0" ∷ "mail store 1 1" ∷ "store mail 0 0" ∷ [])

pub no-own-colour-renamed : PoolsTo own_renamed → ⊥
unfolding same_text
no-own-colour-renamed = other-sheet own_renamed refl

-- The second lab's items first.
abbrev pub second_first : List String
second_first = sheet_of ("store a - - 1" ∷ "pin c 1 0 0" ∷ "mail a - - 3" ∷ "badge c 2 1 0" ∷ "bench a - - 2" ∷ []) edges

pub no-second-first : PoolsTo second_first → ⊥
unfolding same_text
no-second-first = other-sheet second_first refl

-- The shared item twice.
abbrev pub shared_twice : List String
shared_twice = sheet_of ("badge c 2 1 0" ∷ "store a - - 1" ∷ "bench a - - 2" ∷ "store a - - 1" ∷ "pin c 1 0 0" ∷ "mail a - - 3" ∷ []) edges

pub no-shared-twice : PoolsTo shared_twice → ⊥
unfolding same_text
no-shared-twice = other-sheet shared_twice refl
