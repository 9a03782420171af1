-- The way in: its lowest step, the steps one after the other, and their writing.
-- Assumes nothing.
use mathlib.Core.Path.{◌≡◌, refl, sym, ap, subst, ◌∙◌}
use Rattle.std.specs.Prelude.{Option, None, Some, false}
use Rattle.std.specs.Option.{unwrap_or}
use mathlib.Core.List.{List, [], ◌∷◌, ◌++◌, map, append_assoc, append-nil, map-append}
use mathlib.Core.Logic.{◌⊎◌, inl, inr, ⊎_elim}
use Prim.Native.Nat.{ℕ, suc, ◌+◌, ◌≤◌, ◌<◌}
use native.Mathlib.Numerals.{add-one}
use native.Mathlib.Omega.{arith}
use lib.ListN.{length, get_or, drop, set, length-append, length-drop, length-map}
use lib.Seq.{drop-cons, set-append_seam, append_snoc}
use Rattle.vertex_set.specs.Set.{Member, Inserted, Iff, count_outside}
use Rattle.vertex_set.proofs.Cases.{same_or, less-or, search-below, lowest}
use Rattle.vertex_set.proofs.Digits.{below-own-power}
use Rattle.vertex_set.proofs.Outside.{outside-most, outside-less}
use Rattle.vertex_set.proofs.Places.{member-le}
use Rattle.vertex_set.proofs.Sets.{member-or}
use Rattle.setup.specs.declared.Graph.{Graph}
use Rattle.setup.specs.Setup.{row, rows_at}
use Rattle.setup.specs.Calls.{written}
use Rattle.derivations.specs.Derivation.{Vertices, With, Adds}
use Rattle.derivations.specs.Access.{Step, Opens, access, HasAccess}
use Rattle.derivations.specs.Way.{LowestStep, Way}
use Rattle.derivations.specs.Inner.Admits.{Complete, SomeComplete}
use Rattle.derivations.proofs.Admits.{step-admits}
use Rattle.derivations.proofs.Rules.{adds-left, adds-right, held, closed, least}
use Rattle.derivations.proofs.Graphs.{access-lawful}
use Rattle.derivations.proofs.Way.{way_same, way-unique, lowest-unique}
use Rattle.closures.specs.Inner.{ColourFound}
use Rattle.ways.specs.Inner.{Ready, NextTaken, WayFollowed, WayRoom, Written}
use Rattle.ways.proofs.Searches.{none-ready}

-- ---- the lowest step

complete-or : (s row : ℕ) → Complete (Member s) row ⊎ (Complete (Member s) row → ⊥)
complete-or s row =
    ⊎_elim (λ z. inr (λ h. h.coloured z))
    (λ n. ⊎_elim (λ k. inr (λ h. k.2.1 (h.within k.0 k.2.0)))
    (λ k. inl (record { coloured = n; within = λ i m. ⊎_elim (λ x. x) (λ x. absurd (k i (let a = member-le i row m in let b = below-own-power i in omega arith) (m, x))) (member-or s i) }))
    (search-below (λ i. Member row i × (Member s i → ⊥)) misses row))
    (same_or row 0)
  where
    misses : (i : ℕ) → (Member row i × (Member s i → ⊥)) ⊎ (Member row i × (Member s i → ⊥) → ⊥)
    misses i =
        ⊎_elim (λ m. ⊎_elim (λ k. inr (λ p. p.1 k)) (λ k. inl (m, k)) (member-or s i)) (λ m. inr (λ p. m p.0)) (member-or row i)

-- Each vertex below n that can be opened is held already.
abbrev pub PassedOver : Graph → ℕ → ℕ → Type 0
PassedOver g s n = (f : Step) → f.vertex < n → Opens g (Member s) f → Member s f.vertex

by_rows : (g : Graph) (s : ℕ) (f : Step) → Opens g (Member s) f → Complete (Member s) (row g f.vertex f.colour)
by_rows g s f o = record { coloured = o.coloured; within = o.complete }

module _ (g : Graph) (s n : ℕ) (p : PassedOver g s n) (new : Member s n → ⊥) where
  -- The next vertex, by the lowest of its complete colours.
  pub lowest_step : (r : ℕ) → Complete (Member s) (row g n r) → ((c : ℕ) → Complete (Member s) (row g n c) → r ≤ c) → LowestStep g (Member s) (record { vertex = n; colour = r })
  lowest_step r complete lower =
      record {
        new = new;
        opens = record { coloured = complete.coloured; complete = complete.within };
        lowest = λ f o d. ⊎_elim
            (λ k. absurd (d (p f k o)))
            (λ k. ⊎_elim
            (λ q. inr (sym q, lower f.colour (subst (λ (v : ℕ). Complete (Member s) (row g v f.colour)) q (by_rows g s f o))))
            (λ q. inl (omega (arith, q)))
            (same_or f.vertex n))
            (less-or f.vertex n);
      }

  -- If it has a complete colour, it has a lowest one.
  some-step : SomeComplete (rows_at g n) (Member s) → (c : ℕ) × LowestStep g (Member s) (record { vertex = n; colour = c })
  some-step h =
      let l = lowest (λ c. Complete (Member s) (row g n c)) (λ c. complete-or s (row g n c)) h.colour h.complete in
      (l.0, lowest_step l.0 l.1 (λ c k. ⊎_elim (λ j. absurd (l.2 c j k)) (λ j. j) (less-or c l.0)))

module _ (g : Graph) (held v : ℕ) (ready : Ready g held v) (low : (u : ℕ) → Ready g held u → v ≤ u) where
  -- a vertex below the lowest ready one that can be opened is held
  ready-over : PassedOver g held v
  ready-over f l o =
      ⊎_elim (λ m. m)
      (λ n. absurd (let a = low f.vertex (n, step-admits false g (Member held) f o) in omega arith))
      (member-or held f.vertex)

  -- the lowest ready vertex is next, by some colour
  pub next-some : (c : ℕ) × LowestStep g (Member held) (record { vertex = v; colour = c })
  next-some = some-step g held v ready-over ready.0 ready.1

  -- and by the lowest complete one
  pub next-colour : (o : Option ℕ) → ColourFound (rows_at g v) (Member held) o → LowestStep g (Member held) (record { vertex = v; colour = unwrap_or o 0 }) × (unwrap_or o 0 < 8)
  next-colour None n = absurd (n ready.1)
  next-colour (Some r) k = (lowest_step g held v ready-over ready.0 r (k.1.complete k.0) (λ d j. (k.1.lower d j).0), k.0)

-- ---- the steps one after the other

-- Some steps of the way from s are taken: what is held now, and whatever way leads on from there.
pub record Taken (g : Graph) (target s now count : ℕ) : Type 0 where
  pub steps : List Step
  pub counted : count ≡ length steps
  pub rest : (d : List Step) → Way g target (Member now) d → Way g target (Member s) (steps ++ d)
  pub few : count + count_outside 64 now ≤ 64
  pub each : (v : ℕ) → Iff (Member now v) (Member s v ⊎ Adds (access g) steps v)
  pub derives : (v : ℕ) → Member now v → HasAccess g (Member s) v

pub taken_none : (g : Graph) (target s : ℕ) → Taken g target s s 0
taken_none g target s =
    record {
      steps = [];
      counted = refl;
      rest = λ d w. w;
      few = let o = outside-most 64 s in omega arith;
      each = λ v. record { to = λ m. inl m; from = ⊎_elim (λ m. m) (λ a. absurd a) };
      derives = λ v m. held (access g) (Member s) v m;
    }

-- with one vertex more, fewer are outside
pub inserted-fewer : (s v r : ℕ) → v < 64 → (Member s v → ⊥) → Inserted s v r → count_outside 64 r < count_outside 64 s
inserted-fewer s v r l new t = outside-less 64 s r v (record { each = λ i m. (t.taken l i).from (inl m) }) l new ((t.taken l v).from (inr refl))

-- the way from what is held with a vertex more is the way behind the step that adds it
pub way-behind : (g : Graph) (target s v r : ℕ) → v < 64 → Inserted s v r → (d : List Step) → Iff (Way g target (Member r) d) (Way g target (With (Member s) v) d)
way-behind g target s v r l t d =
    record {
      to = way_same g target (Member r) (With (Member s) v) (λ i. (t.taken l i).to) (λ i. (t.taken l i).from) d;
      from = way_same g target (With (Member s) v) (Member r) (λ i. (t.taken l i).from) (λ i. (t.taken l i).to) d;
    }

-- what a list with a step more adds
adds-last : (g : Graph) (d : List Step) (e : Step) (v : ℕ) → Iff (Adds (access g) d v ⊎ (v ≡ e.vertex)) (Adds (access g) (d ++ (e ∷ [])) v)
adds-last g d e v =
    record { to = ⊎_elim (adds-left (access g) d (e ∷ []) v) (λ q. adds-right (access g) d (e ∷ []) v (inl q)); from = split d }
  where
    split : (l : List Step) → Adds (access g) (l ++ (e ∷ [])) v → Adds (access g) l v ⊎ (v ≡ e.vertex)
    split [] (inl q) = inr q
    split [] (inr a) = absurd a
    split (f ∷ l) (inl q) = inl (inl q)
    split (f ∷ l) (inr a) = ⊎_elim (λ x. inl (inr x)) (λ x. inr x) (split l a)

module _ (g : Graph) (target s now count : ℕ) (h : Taken g target s now count) where
  pub taken_more : (e : Step) (now' : ℕ) → e.vertex < 64 → (Member now target → ⊥) → LowestStep g (Member now) e → Inserted now e.vertex now' → Taken g target s now' (count + 1)
  taken_more e now' l out low t =
      record {
        steps = h.steps ++ (e ∷ []);
        counted = let c = h.counted in rw (length-append h.steps (e ∷ [])) (omega arith);
        rest = λ d w. subst (Way g target (Member s)) (sym (append_assoc h.steps (e ∷ []) d))
            (h.rest (e ∷ d) (out, low, (way-behind g target now e.vertex now' l t d).to w));
        few = let a = h.few in let b = inserted-fewer now e.vertex now' l low.new t in omega arith;
        each = λ v.
            let a = adds-last g h.steps e v in
            record {
              to = λ m. ⊎_elim (λ k. ⊎_elim (λ x. inl x) (λ x. inr (a.to (inl x))) ((h.each v).to k)) (λ q. inr (a.to (inr q))) ((t.taken l v).to m);
              from = λ k. (t.taken l v).from
                  (⊎_elim (λ x. inl ((h.each v).from (inl x))) (λ x. ⊎_elim (λ y. inl ((h.each v).from (inr y))) (λ q. inr q) (a.from x)) k);
            };
        derives = λ v m. ⊎_elim (h.derives v)
            (λ q. subst (HasAccess g (Member s)) (sym q)
            (closed (access g) (access-lawful g) (Member s) e ((access-lawful g).mono (Member now) (HasAccess g (Member s)) h.derives e low.opens)))
            ((t.taken l v).to m);
      }

  pub taken-all : Member now target → WayFollowed g target s (Some count) now
  taken-all m = (h.steps, subst (Way g target (Member s)) (append-nil h.steps) (h.rest [] m), h.counted, h.each)

  pub taken-stuck : (Member now target → ⊥) → ((f : Step) → Opens g (Member now) f → Member now f.vertex) → WayFollowed g target s None now
  taken-stuck out cl = (λ a. out (within target a), record { each = λ v. record { to = h.derives v; from = within v } })
    where
      within : (v : ℕ) → HasAccess g (Member s) v → Member now v
      within = least (access g) (access-lawful g) (Member s) (Member now) (λ v m. (h.each v).from (inl m)) cl

-- one step more
module _ (g : Graph) (target s held v held' ready' left' : ℕ) (out : Member held target → ⊥) (n : NextTaken g held v held' ready' left') where
  pub taken-next : (count : ℕ) → Taken g target s held count → Taken g target s held' (count + 1)
  taken-next count t =
      let p = next-some g held v n.ready n.lowest in
      taken_more g target s held count t (record { vertex = v; colour = p.0 }) held' n.place out p.1 n.taken

  pub falls-next : count_outside 64 held' < count_outside 64 held
  falls-next = inserted-fewer held v held' n.place n.ready.0 n.taken

  -- its vertex is the target, or the target is still not held
  pub next-here : v ≡ target → Member held' target
  next-here q = (n.taken.taken n.place target).from (inr (sym q))

  pub next-out : (v ≡ target → ⊥) → Member held' target → ⊥
  next-out d m = ⊎_elim out (λ q. d (sym q)) ((n.taken.taken n.place target).to m)

-- ---- writing the steps

-- one element more stands in the lent list
pub written-more : (xs entry : List ℕ) (x : ℕ) → length xs < length entry → set (written xs entry) (length xs) x ≡ written (xs ++ (x ∷ [])) entry
written-more xs entry x l =
    rw (drop-cons entry (length xs) 0 l, set-append_seam xs (get_or entry (length xs) 0) (drop (suc (length xs)) entry) x)
    (rw (length-append xs (x ∷ []), add-one (length xs)) (sym (append_snoc xs x (drop (suc (length xs)) entry))))

length-written : (xs entry : List ℕ) → length xs ≤ length entry → length (written xs entry) ≡ length entry
length-written xs entry l = rw (length-append xs (drop (length xs) entry), length-drop (length xs) entry) (omega arith)

-- Of the way from s some steps are written, and the others are to come.
pub record Writing (g : Graph) (target s now i : ℕ) (entry cur entry' cur' : List ℕ) : Type 0 where
  pub done : List Step
  pub todo : List Step
  pub whole : Way g target (Member s) (done ++ todo)
  pub onward : Way g target (Member now) todo
  pub counted : i ≡ length done
  pub room : length (done ++ todo) ≤ length entry
  pub room' : length (done ++ todo) ≤ length entry'
  pub first : cur ≡ written (map (λ e. e.vertex) done) entry
  pub second : cur' ≡ written (map (λ e. e.colour) done) entry'

pub writing-none : (g : Graph) (target s : ℕ) (entry entry' : List ℕ) → WayRoom g target s entry entry' → Writing g target s s 0 entry entry entry' entry'
writing-none g target s entry entry' r =
    record { done = []; todo = r.steps; whole = r.way; onward = r.way; counted = refl; room = r.first; room' = r.second; first = refl; second = refl }

-- the lists keep their lengths
pub writing-long : (g : Graph) (target s now i : ℕ) (entry cur entry' cur' : List ℕ) → Writing g target s now i entry cur entry' cur' → (length cur ≡ length entry) × (length cur' ≡ length entry')
writing-long g target s now i entry cur entry' cur' h =
    (keep (λ e. e.vertex) entry cur h.room h.first, keep (λ e. e.colour) entry' cur' h.room' h.second)
  where
    keep : (field : Step → ℕ) (old new : List ℕ) → length (h.done ++ h.todo) ≤ length old → new ≡ written (map field h.done) old → length new ≡ length old
    keep field old new r e =
        ap length e ∙ length-written (map field h.done) old
        (let m = length-map h.done field in let a = length-append h.done h.todo in omega arith)

-- a way that has not come to its target goes on with the lowest step
goes_on : (g : Graph) (target : ℕ) (P : Vertices) (d : List Step) → Way g target P d → (P target → ⊥)
    → (e : Step) × (r : List Step) × (d ≡ e ∷ r) × LowestStep g P e × Way g target (With P e.vertex) r
goes_on g target P [] w out = absurd (out w)
goes_on g target P (e ∷ d) w out = (e, d, refl, w.1, w.2)

module _ (g : Graph) (target s now i : ℕ) (entry cur entry' cur' : List ℕ) (h : Writing g target s now i entry cur entry' cur')
    (out : Member now target → ⊥) where
  next : (e : Step) × (r : List Step) × (h.todo ≡ e ∷ r) × LowestStep g (Member now) e × Way g target (With (Member now) e.vertex) r
  next = goes_on g target (Member now) h.todo h.onward out

  -- something can be opened
  pub writing-open : ((v : ℕ) → Ready g now v → ⊥) → ⊥
  writing-open n = next.3.new (none-ready g now n next.0 next.3.opens)

  count : length (h.done ++ h.todo) ≡ i + suc (length next.1)
  count =
      ap (λ (d : List Step). length (h.done ++ d)) next.2 ∙ length-append h.done (next.0 ∷ next.1)
      ∙ ap (λ (n : ℕ). n + suc (length next.1)) (sym h.counted)

  -- there is a place for the step in both lists
  pub writing-place : (i < length cur) × (i < length cur')
  writing-place =
      let r = h.room in
      let r' = h.room' in
      let c = count in
      let l = (writing-long g target s now i entry cur entry' cur' h).0 in
      let l' = (writing-long g target s now i entry cur entry' cur' h).1 in
      (omega arith, omega arith)

  module _ (f : Step) (k : LowestStep g (Member now) f) where
    -- the lowest step is the next one of the way
    same : f ≡ next.0
    same = lowest-unique g (Member now) f next.0 k next.3

    split : h.done ++ h.todo ≡ h.done ++ (f ∷ next.1)
    split = ap (λ (d : List Step). h.done ++ d) (next.2 ∙ ap (λ (e : Step). e ∷ next.1) (sym same))

    store : (field : Step → ℕ) (old new : List ℕ) → length (h.done ++ h.todo) ≤ length old → new ≡ written (map field h.done) old
        → set new i (field f) ≡ written (map field (h.done ++ (f ∷ []))) old
    store field old new r e =
        let n : i ≡ length (map field h.done) = h.counted ∙ sym (length-map h.done field) in
        let c = count in
        ap (λ (l : List ℕ). set l i (field f)) e
        ∙ ap (λ (j : ℕ). set (written (map field h.done) old) j (field f)) n
        ∙ written-more (map field h.done) old (field f) (omega arith)
        ∙ ap (λ (l : List ℕ). written l old) (sym (map-append field h.done (f ∷ [])))

    pub writing_more : (now' : ℕ) → f.vertex < 64 → Inserted now f.vertex now'
        → Writing g target s now' (i + 1) entry (set cur i f.vertex) entry' (set cur' i f.colour)
    writing_more now' l t =
        record {
          done = h.done ++ (f ∷ []);
          todo = next.1;
          whole = subst (Way g target (Member s)) join h.whole;
          onward = (way-behind g target now f.vertex now' l t next.1).from
              (subst (λ (e : Step). Way g target (With (Member now) e.vertex) next.1) (sym same) next.4);
          counted = let c = h.counted in rw (length-append h.done (f ∷ [])) (omega arith);
          room = subst (λ (d : List Step). length d ≤ length entry) join h.room;
          room' = subst (λ (d : List Step). length d ≤ length entry') join h.room';
          first = store (λ e. e.vertex) entry cur h.room h.first;
          second = store (λ e. e.colour) entry' cur' h.room' h.second;
        }
      where
        join : h.done ++ h.todo ≡ (h.done ++ (f ∷ [])) ++ next.1
        join = split ∙ sym (append_assoc h.done (f ∷ []) next.1)

-- where the target is held, all is written
pub writing-all : (g : Graph) (target s now i : ℕ) (entry cur entry' cur' : List ℕ) → Writing g target s now i entry cur entry' cur' → Member now target
    → Written g target s entry cur entry' cur'
writing-all g target s now i entry cur entry' cur' h m =
    record {
      each = λ d w.
          let e : h.done ≡ d = sym (append-nil h.done) ∙ ap (λ (t : List Step). h.done ++ t) (sym (none h.todo h.onward))
          ∙ way-unique g target (Member s) (h.done ++ h.todo) d h.whole w in
          (h.first ∙ ap (λ (x : List Step). written (map (λ q. q.vertex) x) entry) e, h.second ∙ ap (λ (x : List Step). written (map (λ q. q.colour) x) entry') e);
    }
  where
    none : (t : List Step) → Way g target (Member now) t → t ≡ []
    none [] w = refl
    none (e ∷ t) w = absurd (w.0 m)
