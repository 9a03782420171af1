-- Sets by name: what is written is read, and what is read is written; and which items a set of names has.
-- Assumes nothing.
use mathlib.Core.Path.{◌≡◌, refl, sym, ap, ap₂, ◌∙◌, subst}
use mathlib.Core.Bool.{true, false, ◌&&◌}
use mathlib.Core.List.{List, [], ◌∷◌, ◌++◌, head-eq_of_cons-eq}
use mathlib.Core.Logic.{◌⊎◌, inl, inr, ⊎_elim}
use Prim.Native.Nat.{ℕ, zero, suc, ◌/◌, ◌%◌, ◌^◌}
use native.Mathlib.Omega.{arith}
use lib.Bits.{bit_or, or_zero_l, or_zero_r}
use lib.Dec.{eqb, leb}
use lib.ListN.{length}
use borrow.Author.Tests.{eqb-true, ne_eqb}
use Rattle.vertex_set.specs.Set.{Iff, Member}
use Rattle.vertex_set.proofs.Cases.{by_test, false-true}
use Rattle.vertex_set.proofs.Decisions.{and_parts, yes_of, no_of}
use Rattle.vertex_set.proofs.Sets.{in-or, in_one, none-in-zero, one_set, member-decided}
use Rattle.sheet_format.specs.Text.{grow, same_text, all}
use Rattle.sheet_format.specs.Fields.{is_name, is_name_byte, is_digit, dash}
use Rattle.sheet_format.specs.Rows.{ItemRow, Each, Apart, Known, ValidItem, number_in}
use Rattle.sheet_format.specs.Stated.{StandsAt}
use Rattle.sheet_format.specs.Questions.{is_known}
use Rattle.sheet_format.proofs.Lists.{each_map}
use Rattle.sheet_format.proofs.Tests.{text-decided, same_refl, all-decided, known-decided}
use Rattle.sheet_format.proofs.Lines.{Without}
use Rattle.sheet_format.proofs.Stated.{number-stands}
use Rattle.handin_format.specs.Sets.{SetField}
use Rattle.handin_format.specs.Sets.{joined_by, names_text, set_named, no_set, some_set, parts_of, with_name, with_names, set_from}
use Rattle.handin_format.specs.Entries.{ValidNames}
use Rattle.handin_format.specs.Meaning.{NamedRows, OneOf, SetOfNames}

-- ---- the parts of a text

part_apart : (n l : List ℕ) → Without 43 n → parts_of (n ++ (43 ∷ l)) ≡ n ∷ parts_of l
unfolding parts_of grow
part_apart [] l w = refl
part_apart (b ∷ n) l w = rw (w.0, part_apart n l w.1)

part-alone : (n : List ℕ) → Without 43 n → parts_of n ≡ n ∷ []
unfolding parts_of grow
part-alone [] w = refl
part-alone (b ∷ n) w = rw (w.0, part-alone n w.1)

parts-joined : (n : List ℕ) (ns : List (List ℕ)) → Each (Without 43) (n ∷ ns) → parts_of (joined_by 43 (n ∷ ns)) ≡ n ∷ ns
parts-joined n [] w = part-alone n w.0
parts-joined n (m ∷ ns) w = part_apart n (joined_by 43 (m ∷ ns)) w.0 ∙ ap (λ (r : List (List ℕ)). n ∷ r) (parts-joined m ns w.1)

-- a text has a first part, and its parts make the text again
record Parts (l : List ℕ) : Type 0 where
  first : List ℕ
  rest : List (List ℕ)
  parts : parts_of l ≡ first ∷ rest
  text : joined_by 43 (first ∷ rest) ≡ l

grown : (b : ℕ) (n l : List ℕ) (ns : List (List ℕ)) → joined_by 43 (n ∷ ns) ≡ l → joined_by 43 ((b ∷ n) ∷ ns) ≡ b ∷ l
grown b n l [] e = ap (λ (t : List ℕ). b ∷ t) e
grown b n l (m ∷ ns) e = ap (λ (t : List ℕ). b ∷ t) e

parts-of : (l : List ℕ) → Parts l
unfolding parts_of grow
parts-of [] = record { first = []; rest = []; parts = refl; text = refl }
parts-of (b ∷ l) =
    let p = parts-of l in
    by_test (eqb b 43)
    (λ e. record {
      first = [];
      rest = p.first ∷ p.rest;
      parts = rw (e, p.parts);
      text = ap₂ ◌∷◌ (sym (eqb-true b 43 e)) p.text;
    })
    (λ e. record {
      first = b ∷ p.first;
      rest = p.rest;
      parts = rw (e, p.parts);
      text = grown b p.first l p.rest p.text;
    })

-- ---- names

name-byte : (b : ℕ) → is_name_byte b ≡ true → eqb b 43 ≡ false
unfolding is_name_byte is_digit
name-byte b t = ne_eqb b 43 (λ e. false-true (sym (ap is_name_byte e) ∙ t))

pub name-without : (n : List ℕ) → is_name n ≡ true → Without 43 n
unfolding is_name
name-without n t =
    each_map (λ b. is_name_byte b ≡ true) (λ b. eqb b 43 ≡ false) name-byte n
    ((all-decided is_name_byte n).yes (and_parts (leb 1 (length n) && leb (length n) 16) (all is_name_byte n) t).1)

-- a known name has the form of one
pub known-name : (items : List ItemRow) → Each ValidItem items → (n : List ℕ) → Known items n → is_name n ≡ true
known-name [] v n k = absurd k
known-name (x ∷ items) v n k =
    ⊎_elim (λ e. subst (λ (m : List ℕ). is_name m ≡ true) e v.0.name) (λ h. known-name items v.1 n h) k

stands_same : (xs : List ItemRow) (i : ℕ) (x y : ItemRow) → StandsAt xs i x → StandsAt xs i y → x ≡ y
stands_same [] i x y h k = absurd h
stands_same (z ∷ zs) zero x y h k = sym h ∙ k
stands_same (z ∷ zs) (suc i) x y h k = stands_same zs i x y h k

-- two known names with one number are the same
number_same : (items : List ItemRow) (m n : List ℕ) → Known items m → Known items n → number_in items m ≡ number_in items n → m ≡ n
number_same items m n p q e =
    let a = number-stands items m p in
    let b = number-stands items n q in
    a.2 ∙ ap (λ (x : ItemRow). x.name) (stands_same items (number_in items n) a.0 b.0 (subst (λ (i : ℕ). StandsAt items i a.0) e a.1) b.1) ∙ sym b.2

-- ---- the items of a set of names

pub named-members : (items : List ItemRow) (ns : List (List ℕ)) (i : ℕ)
    → Iff (Member (set_named items ns) i) ((n : List ℕ) × OneOf ns n × (number_in items n ≡ i))
unfolding set_named
named-members items [] i = record { to = λ m. absurd (none-in-zero i m); from = λ h. absurd h.1 }
named-members items (n ∷ ns) i =
    let ih = named-members items ns i in
    let or = in-or (2 ^ number_in items n) (set_named items ns) i in
    record {
      to = λ m. ⊎_elim (λ h. (n, inl refl, sym ((in_one (number_in items n) i).to h))) (λ h. let k = ih.to h in (k.0, inr k.1, k.2)) (or.to m);
      from = λ h. or.from (⊎_elim
          (λ e. inl ((in_one (number_in items n) i).from (sym h.2 ∙ ap (number_in items) e)))
          (λ k. inr (ih.from (h.0, k, h.2)))
          h.1);
    }

pub set-of-names : SetOfNames
set-of-names items rows ns v i = named-members items ns i

-- ---- names taken into a set, one after the other

or-more : (x y z : ℕ) → bit_or (bit_or x y) z ≡ bit_or x (bit_or y z)
or-more x y z =
    one_set (λ i. Member x i ⊎ (Member y i ⊎ Member z i)) (bit_or (bit_or x y) z) (bit_or x (bit_or y z))
    (λ i. record {
      to = λ m. ⊎_elim (λ h. ⊎_elim inl (λ k. inr (inl k)) ((in-or x y i).to h)) (λ h. inr (inr h)) ((in-or (bit_or x y) z i).to m);
      from = ⊎_elim (λ h. (in-or (bit_or x y) z i).from (inl ((in-or x y i).from (inl h))))
          (⊎_elim (λ h. (in-or (bit_or x y) z i).from (inl ((in-or x y i).from (inr h)))) (λ h. (in-or (bit_or x y) z i).from (inr h)));
    })
    (λ i. record {
      to = λ m. ⊎_elim inl (λ h. inr ((in-or y z i).to h)) ((in-or x (bit_or y z) i).to m);
      from = ⊎_elim (λ h. (in-or x (bit_or y z) i).from (inl h)) (λ h. (in-or x (bit_or y z) i).from (inr ((in-or y z i).from h)));
    })

-- the set x with the item of n
abbrev more : List ItemRow → ℕ → List ℕ → ℕ
more items x n = bit_or x (2 ^ number_in items n)

-- the item of n is not in x
abbrev Free : List ItemRow → ℕ → List ℕ → Type 0
Free items x n = Member x (number_in items n) → ⊥

-- n is the name of an item that is not in x
record Takes (items : List ItemRow) (x : ℕ) (n : List ℕ) : Type 0 where
  name : is_name n ≡ true
  known : Known items n
  free : Free items x n

takes : (items : List ItemRow) (x : ℕ) (n : List ℕ) → Takes items x n → with_name items x n ≡ some_set (more items x n)
unfolding with_name
takes items x n t =
    rw (
      t.name,
      yes_of (is_known items n) (known-decided items n) t.known,
      no_of (eqb (x / 2 ^ number_in items n % 2) 1) (member-decided x (number_in items n)) t.free,
    )

with_names-more : (items : List ItemRow) (x : ℕ) (n : List ℕ) (ns : List (List ℕ))
    → with_names items (some_set x) (n ∷ ns) ≡ with_names items (with_name items x n) ns
unfolding with_names
with_names-more items x n ns = refl

-- after a no nothing is taken
stays-no : (items : List ItemRow) (q : ℕ) → (q ≡ 0 → ⊥) → (ns : List (List ℕ)) → with_names items (no_set q) ns ≡ no_set q
unfolding with_names
stays-no items q z [] = refl
stays-no items q z (n ∷ ns) = rw (ne_eqb q 0 z)

-- the first no, or a name that is taken
taken-or : (items : List ItemRow) (x : ℕ) (n : List ℕ) → ((q : ℕ) × (q ≡ 0 → ⊥) × (with_name items x n ≡ no_set q)) ⊎ Takes items x n
unfolding with_name
taken-or items x n =
    by_test (is_name n)
    (λ a. by_test (is_known items n)
    (λ b. by_test (eqb (x / 2 ^ number_in items n % 2) 1)
    (λ c. inl (6, λ z. omega arith, rw (a, b, c)))
    (λ c. inr (record { name = a; known = (known-decided items n).yes b; free = (member-decided x (number_in items n)).no c })))
    (λ b. inl (8, λ z. omega arith, rw (a, b))))
    (λ a. inl (5, λ z. omega arith, rw a))

module _ (items : List ItemRow) (rows : NamedRows items) where
  names-taken : (x : ℕ) (ns : List (List ℕ)) → Each (Known items) ns → Apart (λ (m n : List ℕ). m ≡ n) ns → Each (Free items x) ns
      → with_names items (some_set x) ns ≡ some_set (bit_or x (set_named items ns))
  unfolding with_names set_named
  names-taken x [] k a f = ap some_set (sym (or_zero_r x))
  names-taken x (n ∷ ns) k a f =
      with_names-more items x n ns
      ∙ ap (λ (r : SetField). with_names items r ns) (takes items x n (record { name = known-name items rows.valid n k.0; known = k.0; free = f.0 }))
      ∙ names-taken (more items x n) ns k.1 a.1 (later ns k.1 a.0 f.1)
      ∙ ap some_set (or-more x (2 ^ number_in items n) (set_named items ns))
    where
      later : (ms : List (List ℕ)) → Each (Known items) ms → Each (λ m. n ≡ m → ⊥) ms → Each (Free items x) ms → Each (Free items (more items x n)) ms
      later [] p q r = tt
      later (m ∷ ms) p q r = (
        λ h. ⊎_elim r.0 (λ e. q.0 (number_same items n m k.0 p.0 (sym ((in_one (number_in items n) (number_in items m)).to e))))
            ((in-or x (2 ^ number_in items n) (number_in items m)).to h),
        later ms p.1 q.1 r.1,
      )

  -- and back: where no no came, all of them were taken
  record AllTaken (x : ℕ) (ns : List (List ℕ)) : Type 0 where
    known : Each (Known items) ns
    once : Apart (λ (m n : List ℕ). m ≡ n) ns
    free : Each (Free items x) ns

  names-back : (x : ℕ) (ns : List (List ℕ)) → (with_names items (some_set x) ns).number ≡ 0 → AllTaken x ns
  names-back x [] e = record { known = tt; once = tt; free = tt }
  names-back x (n ∷ ns) e =
      ⊎_elim refuses (λ t. accepts t (names-back (more items x n) ns (ap (λ (r : SetField). r.number) (sym (step t)) ∙ e))) (taken-or items x n)
    where
      step : Takes items x n → with_names items (some_set x) (n ∷ ns) ≡ with_names items (some_set (more items x n)) ns
      step t = with_names-more items x n ns ∙ ap (λ (r : SetField). with_names items r ns) (takes items x n t)

      refuses : ((q : ℕ) × (q ≡ 0 → ⊥) × (with_name items x n ≡ no_set q)) → AllTaken x (n ∷ ns)
      refuses h =
          absurd (h.1 (sym (ap (λ (r : SetField). r.number) (with_names-more items x n ns ∙ ap (λ (r : SetField). with_names items r ns) h.2 ∙ stays-no items h.0 h.1 ns)) ∙ e))

      apart : (ms : List (List ℕ)) → Each (Free items (more items x n)) ms → Each (λ m. n ≡ m → ⊥) ms
      apart [] f = tt
      apart (m ∷ ms) f = (
        λ p. f.0 ((in-or x (2 ^ number_in items n) (number_in items m)).from (inr ((in_one (number_in items n) (number_in items m)).from (ap (number_in items) (sym p))))),
        apart ms f.1,
      )

      accepts : Takes items x n → AllTaken (more items x n) ns → AllTaken x (n ∷ ns)
      accepts t b =
          record {
            known = (t.known, b.known);
            once = (apart ns b.free, b.once);
            free = (t.free, each_map (Free items (more items x n)) (Free items x) (λ m g h. g ((in-or x (2 ^ number_in items n) (number_in items m)).from (inl h))) ns b.free);
          }

  -- ---- a set as it is written, and as it is read

  free-zero : (ns : List (List ℕ)) → Each (Free items 0) ns
  free-zero [] = tt
  free-zero (n ∷ ns) = (none-in-zero (number_in items n), free-zero ns)

  from_zero : (ns : List (List ℕ)) → ValidNames items ns → with_names items (some_set 0) ns ≡ some_set (set_named items ns)
  from_zero ns v = names-taken 0 ns v.known v.once (free-zero ns) ∙ ap some_set (or_zero_l (set_named items ns))

  dash-no-name : is_name dash ≡ false
  unfolding is_name all is_name_byte is_digit
  dash-no-name = refl

  dash-alone : parts_of dash ≡ dash ∷ []
  unfolding parts_of grow
  dash-alone = refl

  pub names-read : (ns : List (List ℕ)) → ValidNames items ns → set_from items (names_text ns) ≡ some_set (set_named items ns)
  unfolding set_from set_named
  names-read [] v = rw (same_refl dash)
  names-read (n ∷ ns) v =
      let named = each_map (Known items) (λ m. is_name m ≡ true) (known-name items rows.valid) (n ∷ ns) v.known in
      let parts = parts-joined n ns (each_map (λ m. is_name m ≡ true) (Without 43) name-without (n ∷ ns) named) in
      let other : joined_by 43 (n ∷ ns) ≡ dash → ⊥ = λ e. false-true (sym dash-no-name ∙ sym (ap is_name (head-eq_of_cons-eq (sym parts ∙ ap parts_of e ∙ dash-alone))) ∙ named.0) in
      rw (no_of (same_text (joined_by 43 (n ∷ ns)) dash) (text-decided (joined_by 43 (n ∷ ns)) dash) other, parts) (from_zero (n ∷ ns) v)

  -- a text that names a set is that of names
  pub record NamesRead (l : List ℕ) : Type 0 where
    pub names : List (List ℕ)
    pub valid : ValidNames items names
    pub text : l ≡ names_text names
    pub set : (set_from items l).set ≡ set_named items names

  pub set-read : (l : List ℕ) → (set_from items l).number ≡ 0 → NamesRead l
  unfolding set_from
  set-read l e = by_test (same_text l dash) (λ t. empty ((text-decided l dash).yes t)) (λ t. of_parts (parts-of l) t)
    where
      empty : l ≡ dash → NamesRead l
      empty d = record { names = []; valid = record { known = tt; once = tt }; text = d; set = ap (λ (x : List ℕ). (set_from items x).set) d ∙ ap (λ (r : SetField). r.set) (names-read [] (record { known = tt; once = tt })) }

      of_parts : Parts l → same_text l dash ≡ false → NamesRead l
      of_parts p t =
          let is : set_from items l ≡ with_names items (some_set 0) (p.first ∷ p.rest) = rw (t, p.parts) in
          let b = names-back 0 (p.first ∷ p.rest) (ap (λ (r : SetField). r.number) (sym is) ∙ e) in
          let v : ValidNames items (p.first ∷ p.rest) = record { known = b.known; once = b.once } in
          record { names = p.first ∷ p.rest; valid = v; text = sym p.text; set = ap (λ (r : SetField). r.set) (is ∙ from_zero (p.first ∷ p.rest) v) }
