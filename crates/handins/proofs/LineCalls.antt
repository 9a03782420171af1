-- Reading a line, and taking it to the register.
-- Assumes nothing.
use mathlib.Core.Path.{◌≡◌, refl, sym, ap, ◌∙◌}
use mathlib.Core.Bool.{true, false}
use mathlib.Core.List.{List, [], ◌∷◌}
use mathlib.Core.Logic.{◌⊎◌, inl, inr, ⊎_elim}
use Prim.Native.Nat.{ℕ, ◌≤◌, ◌<◌}
use native.Mathlib.Omega.{arith}
use lib.ListN.{length}
use Rattle.vertex_set.proofs.Cases.{by_test, less-or, same_or}
use Rattle.written.proofs.Writing.{wrote-front}
use Rattle.setup.specs.declared.Setup.{Setup}
use Rattle.setup.specs.Calls.{written}
use Rattle.questions.specs.Asks.{Asks}
use Rattle.records.specs.declared.Record.{Record}
use Rattle.records.specs.declared.Registered.{Registered}
use Rattle.records.specs.declared.Task.{Task}
use Rattle.records.specs.Records.{with_slice, hands_back}
use Rattle.records.specs.Inner.{refused_by, outcome_of, Leaves}
use Rattle.register.specs.Afternoon.{RegisterCall, HandIn, Withdraw, MeetsCall}
use Rattle.register.proofs.Calls.{over, turned, withdraws, hands_in}
use Rattle.sheet_format.specs.Read.{Reading}
use Rattle.sheet_format.specs.Rows.{ItemRow, Doc, Valid, render, setup_of}
use Rattle.sheet_format.specs.Read.{read_sheet}
use Rattle.sheet_lines.specs.declared.item_keys.Keys.{Keys}
use Rattle.sheet_lines.specs.Inner.Keys.{SheetKeys}
use Rattle.sheet_lines.proofs.Accepted.{accepts-of, rows-of-text}
use Rattle.handin_format.specs.Calls.{LineAnswer}
use Rattle.handin_format.specs.Lines.{LineNo, line_no, line_call}
use Rattle.handin_format.specs.Calls.{answer_of, handed_of, with_sets, unread_line, line_refused, TellsCall, ReadLineCall, EnterCall}
use Rattle.handin_lines.specs.Inner.Lines.{LineFound}
use Rattle.handin_lines.specs.Inner.Splitting.{split_from}
use Rattle.handin_lines.specs.Inner.Sets.{sets_from, PutsSets}
use Rattle.handin_lines.specs.Inner.Lines.{call_read, SaysCall, ChecksLine}
use Rattle.handin_lines.specs.Inner.Tasks.{TaskFor, TaskOfLine}
use Rattle.handin_lines.proofs.Entering.{keys-are, sets-many}

-- ---- a line by itself

-- What is told of a line that was read.
abbrev pub told_of : LineFound → LineAnswer
told_of r = record { number = 0; text = 0; place = 0; withdraws = r.withdraws; student = r.student; target = r.target; loss = r.loss; count = r.count }

module _ (items : List ItemRow) (l : List ℕ) (r : LineFound) (s : SaysCall items l r) where
  answer-is : answer_of (line_call items l) ≡ told_of r
  unfolding call_read
  answer-is =
      by_test r.withdraws
      (λ w. let a = s.alone w in ap answer_of s.call ∙ rw (w, a.0, a.1, a.2))
      (λ w. ap answer_of s.call ∙ rw (w, sets-many items r.start l, s.counted w))

  -- no sets are written of a withdrawal
  tells-none : r.withdraws ≡ true → (lent : List ℕ) → TellsCall (line_call items l) lent (with_sets (told_of r) lent)
  unfolding Asks call_read
  tells-none w lent =
      let none : handed_of (line_call items l) ≡ [] = ap handed_of s.call ∙ rw w in
      inr (
        let m = ap length none in omega arith,
        ap (λ (b : LineAnswer). with_sets b lent) (sym answer-is) ∙ ap (λ (xs : List ℕ). with_sets (answer_of (line_call items l)) (written xs lent)) (sym none),
      )

  module _ (w : r.withdraws ≡ false) where
    handed-is : handed_of (line_call items l) ≡ sets_from items r.start l
    unfolding call_read
    handed-is = ap handed_of s.call ∙ rw w

    many : length (handed_of (line_call items l)) ≡ r.count
    many = ap length handed-is ∙ sets-many items r.start l ∙ sym (s.counted w)

    tells-short : (lent : List ℕ) (a : LineAnswer) (exit : List ℕ) → length lent < r.count → a ≡ unread_line 15 0 0 → exit ≡ lent → TellsCall (line_call items l) lent (with_sets a exit)
    unfolding Asks
    tells-short lent a exit h e u =
        inl (λ y. let m = many in omega arith, ap (with_sets a) u ∙ ap (λ (b : LineAnswer). with_sets b lent) e)

    tells_all : (lent exit : List ℕ) → r.count ≤ length lent → exit ≡ written (sets_from items r.start l) lent → TellsCall (line_call items l) lent (with_sets (told_of r) exit)
    unfolding Asks
    tells_all lent exit h u =
        inr (
          let m = many in omega arith,
          ap (with_sets (told_of r)) (u ∙ ap (λ (xs : List ℕ). written xs lent) (sym handed-is)) ∙ ap (λ (b : LineAnswer). with_sets b (written (handed_of (line_call items l)) lent)) (sym answer-is),
        )

module _ (sheet line lent : List ℕ) (r : Reading) (is : r ≡ read_sheet sheet) where
  number_is : r.number ≡ (read_sheet sheet).number
  number_is = ap (λ (x : Reading). x.number) is

  pub read-no-sheet : (a : LineAnswer) (exit : List ℕ) → (r.number ≡ 0 → ⊥) → a ≡ unread_line r.number 1 r.line → exit ≡ lent → ReadLineCall sheet line a lent exit
  unfolding Asks
  read-no-sheet a exit n e u =
      inl (λ z. n (number_is ∙ z), ap (with_sets a) u ∙ ap (λ (b : LineAnswer). with_sets b lent) e ∙ ap (λ (x : Reading). line_refused 1 x.line lent x.number) is)

  module _ (zero : r.number ≡ 0) (keys : Keys) (has : SheetKeys sheet r.setup.count keys) (read : LineFound) (c : ChecksLine keys.keys.low keys.keys.high keys.keys.count line read) where
    read_told : (a : LineAnswer) (exit : List ℕ)
        → ((d : Doc) → Valid d → sheet ≡ render d
        → (((line_no d.items line).number ≡ 0 → ⊥) × (with_sets a exit ≡ line_refused 2 (line_no d.items line).place lent (line_no d.items line).number))
        ⊎ (((line_no d.items line).number ≡ 0) × TellsCall (line_call d.items line) lent (with_sets a exit)))
        → ReadLineCall sheet line a lent exit
    unfolding Asks
    read_told a exit told =
        let d = rows-of-text sheet r.setup (accepts-of sheet r is zero) in
        inr (sym number_is ∙ zero, record { d = d.doc; valid = d.valid; is = d.text; told = told d.doc d.valid d.text })

    pub read-no-line : (a : LineAnswer) (exit : List ℕ) → (read.number ≡ 0 → ⊥) → a ≡ unread_line read.number 2 read.place → exit ≡ lent → ReadLineCall sheet line a lent exit
    read-no-line a exit n e u =
        read_told a exit (λ d v t.
        let q = c.first d.items (keys-are sheet line r is zero keys has d v t) in
        inl (
          λ z. n (sym (ap (λ (x : LineNo). x.number) q) ∙ z),
          ap (with_sets a) u ∙ ap (λ (b : LineAnswer). with_sets b lent) e ∙ ap (λ (x : LineNo). line_refused 2 x.place lent x.number) (sym q),
        ))

    module _ (z : read.number ≡ 0) where
      says : (d : Doc) → Valid d → sheet ≡ render d → ((line_no d.items line).number ≡ 0) × SaysCall d.items line read
      says d v t =
          let k = keys-are sheet line r is zero keys has d v t in
          (ap (λ (x : LineNo). x.number) (c.first d.items k) ∙ z, c.says z d.items k)

      -- a withdrawal
      pub read-none : read.withdraws ≡ true → ReadLineCall sheet line (told_of read) lent lent
      read-none w = read_told (told_of read) lent (λ d v t. let y = says d v t in inr (y.0, tells-none d.items line read y.1 w lent))

      pub read_short : read.withdraws ≡ false → (a : LineAnswer) (exit : List ℕ) → length lent < read.count → a ≡ unread_line 15 0 0 → exit ≡ lent → ReadLineCall sheet line a lent exit
      read_short w a exit h e u =
          read_told a exit (λ d v t. let y = says d v t in inr (y.0, tells-short d.items line read y.1 w lent a exit h e u))

      -- the sets are as many as were counted
      pub read-counted : read.withdraws ≡ false → read.count ≡ length (split_from 32 read.start line)
      read-counted w = let d = rows-of-text sheet r.setup (accepts-of sheet r is zero) in (says d.doc d.valid d.text).1.counted w

      pub read_all : read.withdraws ≡ false → (n : ℕ) (exit : List ℕ) → read.count ≤ length lent → PutsSets keys.keys.low keys.keys.high keys.keys.count line read.start n lent exit
          → ReadLineCall sheet line (told_of read) lent exit
      read_all w n exit h p =
          read_told (told_of read) exit (λ d v t.
          let y = says d v t in
          let m = sets-many d.items read.start line in
          let k = y.1.counted w in
          inr (
            y.0,
            tells_all d.items line read y.1 w lent exit h
                (wrote-front lent (sets_from d.items read.start line) exit n (omega arith) (p.each d.items (keys-are sheet line r is zero keys has d v t))),
          ))

-- ---- a line taken to the register

module _ (used : ℕ) (t : Task) (a : Registered) (ys zs : List Record) (h : Leaves a zs (outcome_of ys used t)) where
  made : (s : Setup) (c : RegisterCall) → TaskFor s c t → MeetsCall s c used ys a zs
  made s (HandIn x) k = hands_in s used x.student x.target x.loss x.handed t a ys zs k h
  made s (Withdraw k) e = withdraws used k a ys zs (h ∙ ap (outcome_of ys used) e)

  refused-with : (q : ℕ) → used ≤ length ys → (q ≡ 0 → ⊥) → refused_by t ≡ q → with_slice a zs ≡ hands_back used ys q
  refused-with q l n e = h ∙ turned ys used t l (λ z. n (sym e ∙ z)) ∙ ap (hands_back used ys) e

  pub line-entered : (sheet line : List ℕ) → TaskOfLine sheet line t → EnterCall sheet line used a ys zs
  unfolding Asks
  line-entered sheet line k =
      ⊎_elim
      (λ l. inl (λ n. omega (arith, l, n), h ∙ over ys used t l))
      (λ l. inr (
        l,
        ⊎_elim
            (λ z. inr (
              z,
              let d = rows-of-text sheet (read_sheet sheet).setup (accepts-of sheet (read_sheet sheet) refl z) in
                  record {
                    d = d.doc;
                    valid = d.valid;
                    is = d.text;
                    told = ⊎_elim
                        (λ y. inr (y, made (setup_of d.doc) (line_call d.doc.items line) (k.says d.doc d.valid d.text y)))
                        (λ y. inl (y, refused-with (line_no d.doc.items line).number l y (k.no_line d.doc d.valid d.text y)))
                        (same_or (line_no d.doc.items line).number 0);
                  },
            ))
            (λ z. inl (z, refused-with (read_sheet sheet).number l z (k.no_sheet z)))
            (same_or (read_sheet sheet).number 0),
      ))
      (less-or (length ys) used)
