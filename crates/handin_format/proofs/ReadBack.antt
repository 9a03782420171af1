-- The names of a set, written: they are read back as that set, and how long they are.
-- Assumes nothing.
use mathlib.Core.Path.{◌≡◌, refl, sym, ap, ◌∙◌, subst}
use mathlib.Core.List.{List, [], ◌∷◌, ◌++◌, map}
use mathlib.Core.Logic.{◌⊎◌, inl, inr, ⊎_elim}
use Prim.Native.Nat.{ℕ, zero, suc, ◌*◌, ◌≤◌, ◌<◌}
use native.Mathlib.Omega.{arith}
use lib.Dec.{eqb}
use lib.Count.{ones-le}
use lib.ListN.{length, length-append, length-map}
use borrow.Author.Tests.{eqb-true, eqb-false}
use Rattle.vertex_set.specs.Set.{Iff, Member}
use Rattle.vertex_set.specs.Order.{Listed}
use Rattle.vertex_set.proofs.Cases.{by_test}
use Rattle.vertex_set.proofs.Places.{places, length-places, listed-places, sorted-places}
use Rattle.vertex_set.proofs.Sets.{some-member, one_set, bounded-by-members}
use Rattle.vertex_set.proofs.Sorted.{Sorted}
use Rattle.setup.specs.Calls.{Inside}
use Rattle.sheet_format.specs.Fields.{dash}
use Rattle.sheet_format.specs.Rows.{ItemRow, Doc, Each, Apart, Known, Valid, number_in, render, setup_of}
use Rattle.sheet_format.specs.Names.{name_of}
use Rattle.sheet_format.specs.Stated.{StandsAt}
use Rattle.sheet_format.proofs.Fields.{name-length}
use Rattle.sheet_format.proofs.Lists.{each_map}
use Rattle.sheet_format.proofs.Stated.{at_place, name_in, stands-number}
use Rattle.sheet.proofs.Names.{names-of-rows}
use Rattle.report_text.specs.Rows.{joined}
use Rattle.report_text.proofs.Items.{set-text}
use Rattle.handin_format.specs.Sets.{joined_by, names_text, set_named, some_set, set_names, set_from}
use Rattle.handin_format.specs.Entries.{ValidNames}
use Rattle.handin_format.specs.Meaning.{OneOf, SetReadBack, set_bytes, SetEnough}
use Rattle.handin_format.proofs.Sets.{known-name, named-members, names-read}

-- ---- names joined, by their numbers

joined-names : (name : ℕ → List ℕ) (v : ℕ) (vs : List ℕ) → joined name (v ∷ vs) ≡ names_text (map name (v ∷ vs))
unfolding joined
joined-names name v [] = refl
joined-names name v (w ∷ vs) = ap (λ (l : List ℕ). name v ++ (43 ∷ l)) (joined-names name w vs)

one-of-map : (name : ℕ → List ℕ) (vs : List ℕ) (n : List ℕ) → OneOf (map name vs) n → (v : ℕ) × Listed vs v × (n ≡ name v)
one-of-map name [] n h = absurd h
one-of-map name (v ∷ vs) n h = ⊎_elim (λ e. (v, inl refl, e)) (λ k. let r = one-of-map name vs n k in (r.0, inr r.1, r.2)) h

map-one-of : (name : ℕ → List ℕ) (vs : List ℕ) (v : ℕ) → Listed vs v → OneOf (map name vs) (name v)
map-one-of name [] v h = absurd h
map-one-of name (w ∷ vs) v h = ⊎_elim (λ e. inl (ap name e)) (λ k. inr (map-one-of name vs v k)) h

stands-known : (xs : List ItemRow) (i : ℕ) (x : ItemRow) → StandsAt xs i x → Known xs x.name
stands-known [] i x h = absurd h
stands-known (y ∷ ys) zero x h = inl (ap (λ (z : ItemRow). z.name) h)
stands-known (y ∷ ys) (suc i) x h = inr (stands-known ys i x h)

-- ---- how long names are

abbrev Short : List ℕ → Type 0
Short n = length n ≤ 16

names-length : (n : List ℕ) (ns : List (List ℕ)) → Each Short (n ∷ ns) → length (joined_by 43 (n ∷ ns)) < 17 * suc (length ns)
names-length n [] h = let a = h.0 in omega arith
names-length n (m ∷ ns) h =
    let a = h.0 in
    let b = names-length m ns h.1 in
    let l = length-append n (43 ∷ joined_by 43 (m ∷ ns)) in
    omega arith

text-length : (ns : List (List ℕ)) → Each Short ns → length ns ≤ 64 → length (names_text ns) ≤ set_bytes
text-length [] h b = omega arith
text-length (n ∷ ns) h b = let l = names-length n ns h in omega arith

-- ---- the names of a sheet's items

module _ (d : Doc) (v : Valid d) where
  abbrev name : ℕ → List ℕ
  name = name_of (render d)

  -- the name of an item is that of its row
  row_of : (i : ℕ) → i < length d.items → (x : ItemRow) × StandsAt d.items i x × (name i ≡ x.name)
  row_of i l =
      let p = at_place d.items i l in
      (p.0, p.1, names-of-rows d v i l ∙ name_in d.items i p.0 p.1)

  is_known : (i : ℕ) → i < length d.items → Known d.items (name i)
  is_known i l = let r = row_of i l in subst (Known d.items) (sym r.2) (stands-known d.items i r.0 r.1)

  number-back : (i : ℕ) → i < length d.items → number_in d.items (name i) ≡ i
  number-back i l = let r = row_of i l in ap (number_in d.items) r.2 ∙ stands-number d.items v.names i r.0 r.1

  abbrev Items : List ℕ → Type 0
  Items vs = (i : ℕ) → Listed vs i → i < length d.items

  all_known : (vs : List ℕ) → Items vs → Each (Known d.items) (map name vs)
  all_known [] b = tt
  all_known (i ∷ vs) b = (is_known i (b i (inl refl)), all_known vs (λ j m. b j (inr m)))

  others : (i : ℕ) (vs : List ℕ) → i < length d.items → Items vs → ((j : ℕ) → Listed vs j → i < j) → Each (λ n. name i ≡ n → ⊥) (map name vs)
  others i [] l b h = tt
  others i (j ∷ vs) l b h = (
    λ e. let same = sym (number-back i l) ∙ ap (number_in d.items) e ∙ number-back j (b j (inl refl)) in let less = h j (inl refl) in omega arith,
    others i vs l (λ k m. b k (inr m)) (λ k m. h k (inr m)),
  )

  all_once : (vs : List ℕ) → Items vs → Sorted ◌<◌ vs → Apart (λ (m n : List ℕ). m ≡ n) (map name vs)
  all_once [] b s = tt
  all_once (i ∷ vs) b s = (others i vs (b i (inl refl)) (λ j m. b j (inr m)) s.0, all_once vs (λ j m. b j (inr m)) s.1)

  members : (vs : List ℕ) → Items vs → (i : ℕ) → Iff (Member (set_named d.items (map name vs)) i) (Listed vs i)
  members vs b i =
      let n = named-members d.items (map name vs) i in
      record {
        to = λ m. let h = n.to m in
            let r = one-of-map name vs h.0 h.1 in
            subst (Listed vs) (sym (number-back r.0 (b r.0 r.1)) ∙ sym (ap (number_in d.items) r.2) ∙ h.2) r.1;
        from = λ m. n.from (name i, map-one-of name vs i m, number-back i (b i m));
      }

  module _ (x : ℕ) (h : Inside (setup_of d) x) where
    inside : (i : ℕ) → Member x i → i < length d.items
    unfolding setup_of
    inside i m = h.each i m

    bounded : Items (places 64 x)
    bounded i m = inside i ((listed-places 64 x i).to m).0

    names-valid : ValidNames d.items (map name (places 64 x))
    names-valid = record { known = all_known (places 64 x) bounded; once = all_once (places 64 x) bounded (sorted-places 64 x) }

    set_back : set_named d.items (map name (places 64 x)) ≡ x
    set_back =
        one_set (Listed (places 64 x)) (set_named d.items (map name (places 64 x))) x (members (places 64 x) bounded)
        (λ i. record {
          to = λ m. (listed-places 64 x i).from (m, let l = inside i m in let n = v.most in omega arith);
          from = λ m. ((listed-places 64 x i).to m).0;
        })

    some-name : (vs : List ℕ) (i : ℕ) → Listed vs i → joined name vs ≡ names_text (map name vs)
    some-name [] i m = absurd m
    some-name (j ∷ vs) i m = joined-names name j vs

    names-are : set_names name x ≡ names_text (map name (places 64 x))
    unfolding set_names places
    names-are =
        by_test (eqb x 0)
        (λ e. rw e (none (eqb-true x 0 e)))
        (λ e. rw e (let s = some-member x (eqb-false x 0 e) in
        set-text name x ∙ some-name (places 64 x) s.0 ((listed-places 64 x s.0).from (s.1, let l = inside s.0 s.1 in let n = v.most in omega arith))))
      where
        none : x ≡ 0 → dash ≡ names_text (map name (places 64 x))
        none e = sym (ap (λ (y : ℕ). names_text (map name (places 64 y))) e)

    read_back : set_from d.items (set_names name x) ≡ some_set x
    read_back =
        ap (set_from d.items) names-are
        ∙ names-read d.items (record { valid = v.items; names = v.names }) (map name (places 64 x)) names-valid ∙ ap some_set set_back

    few : length (map name (places 64 x)) ≤ 64
    few =
        let b = bounded-by-members 64 x (λ i m. let l = inside i m in let n = v.most in omega arith) in
        let m = length-map (places 64 x) name in
        let k = length-places 64 x b in
        let o = ones-le 64 x b in
        omega arith

    short : length (set_names name x) ≤ set_bytes
    short =
        subst (λ (l : List ℕ). length l ≤ set_bytes) (sym names-are)
        (text-length (map name (places 64 x))
        (each_map (Known d.items) Short (λ n k. name-length n (known-name d.items v.items n k)) (map name (places 64 x)) names-valid.known) few)

pub set-enough : SetEnough
set-enough = short

pub set-read-back : SetReadBack
set-read-back = read_back
