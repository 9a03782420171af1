-- The histories hold: each call's answer is computed, and the contracts leave no other.
-- Assumes nothing.
use mathlib.Core.Path.{◌≡◌, refl, sym, ap, subst, ◌∙◌}
use mathlib.Core.Bool.{Bool, true, false}
use mathlib.Core.List.{List, [], ◌∷◌}
use mathlib.Core.Logic.{◌⊎◌, inl, inr, ⊎_elim}
use Prim.Native.Nat.{ℕ, ◌-◌, ◌^◌, ◌≤◌, ◌<◌}
use native.Mathlib.Omega.{arith}
use lib.Count.{ones}
use Rattle.vertex_set.specs.Set.{Member}
use Rattle.vertex_set.proofs.Cases.{false-true}
use Rattle.vertex_set.proofs.Decisions.{iff-refl}
use Rattle.vertex_set.proofs.Sets.{in_one, none-in-zero}
use Rattle.vertex_set.proofs.Places.{in-removed}
use Rattle.setup.specs.Bounds.{most_edges}
use Rattle.setup.specs.declared.Graph.{Graph}
use Rattle.setup.specs.declared.Setup.{Setup}
use Rattle.setup.specs.Setup.{row, Edge, edge_count, no_items}
use Rattle.setup.specs.Inner.{graph_with_row}
use Rattle.formed.specs.WellFormed.{WellFormed}
use Rattle.questions.specs.Asks.{Asks}
use Rattle.questions.specs.Questions.{asks12, asks13}
use Rattle.questions.proofs.Asks.{AllYes, ask-all, first-no}
use Rattle.living.specs.Calls.{Call, TakeIn, TakeOut, AddEdge, RemoveEdge, drawing_of, after, Redrawn, asks_of, back, Done, CallOf}
use Rattle.living.specs.Inner.{RowPlace, EdgeMore, EdgeLess, MarkMore, Placed}
use Rattle.living.proofs.Drawing.{let-go-other, row-place, more-shaped, more_edges, less-shaped, less-edges, add-redrawn, remove-redrawn}
use Rattle.living.proofs.Kept.{step}
use Rattle.reference.specs.Graphs.{GraphOf}
use Rattle.reference.specs.Tests.{lowest, some, every, is_member, is_within, is_meeting, with_vertex}
use Rattle.reference.specs.Closures.{is_complete, is_broken, colour_of, is_added, pass_of, passes_of, closure_of}
use Rattle.reference.proofs.Graphs.{own-graph}
use Rattle.reference.proofs.Closures.{closure-of}
use Rattle.reference.proofs.Tests.{in-with}
use Rattle.histories.proofs.Reaching.{with_held}
use Rattle.sheet_format.specs.Read.{Reading}
use Rattle.sheet_format.specs.Read.{read_sheet}
use Rattle.sheet_format.proofs.Meaning.{empty-setup}
use Rattle.worked_examples.specs.Sheets.{Yields, lines_text, bench, ordpw, mailpw, token, mail, order}
use Rattle.worked_examples.specs.Living.{LeadsTo, AllLive, MarkComesAndGoes, twice, RefusedSheetTwelve, spoiled, SpoiledTwelve}
use Rattle.worked_examples.proofs.Reading.{◌&◌, reads-well, read-bench, all-refused}

-- ---- answers, computed

-- The setup with other graphs.
abbrev pub draws : Setup → Graph → Graph → Setup
draws s g r =
    record {
      count = s.count;
      vertices = s.vertices;
      graph = g;
      recovery = r;
      held = s.held;
      opened = record { 0 = closure_of false s.count g s.held.0 };
    }

-- an accepted call: a yes to each question, and the setup that it leaves
pub taken : (c : Call) (s t : Setup) → AllYes (asks_of c s) → Redrawn s (after c (drawing_of s)) t → CallOf c s (back t 0)
taken c s t y r = ask-all (back s) (Done c s) (asks_of c s) (back t 0) y (record { numbered = refl; redrawn = r })

pub formed-after : (c : Call) (s t : Setup) → CallOf c s (back t 0) → WellFormed t
formed-after c s t a = ⊎_elim (λ k. k.formed) (λ k. absurd (k.number refl)) (step c s (back t 0) a)

-- The graph with an edge more, and the marks with it; the graph without an edge, and the marks where it has none, or where it goes with it.
unfoldable pub more : Setup → ℕ → ℕ → ℕ → Graph
more s f v c = graph_with_row s.graph v c (with_vertex (row s.graph v c) f)

unfoldable pub less : Setup → ℕ → ℕ → ℕ → Graph
less s f v c = graph_with_row s.graph v c (row s.graph v c - 2 ^ f)

unfoldable pub unmarked : Setup → ℕ → ℕ → ℕ → Graph
unmarked s f v c = graph_with_row s.recovery v c (row s.recovery v c)

unfoldable pub marked : Setup → ℕ → ℕ → ℕ → Graph
marked s f v c = graph_with_row s.recovery v c (with_vertex (row s.recovery v c) f)

unfoldable pub mark_less : Setup → ℕ → ℕ → ℕ → Graph
mark_less s f v c = graph_with_row s.recovery v c (row s.recovery v c - 2 ^ f)

module _ (s : Setup) (w : WellFormed s) where
  takes-in : (v : ℕ) → v < s.count → CallOf (TakeIn v) s (back (with_held s (with_vertex s.held.0 v)) 0)
  takes-in v l =
      taken (TakeIn v) s (with_held s (with_vertex s.held.0 v)) (w, (l, tt))
      (record {
        count = refl;
        vertices = refl;
        shaped = record { places = w.shaped.places; graph = w.shaped.graph; recovery = w.shaped.recovery };
        edges = λ f u c. iff-refl;
        marks = λ f u c. iff-refl;
        held = in-with s.held.0 v;
        opened = closure-of false s s.graph w (own-graph s w) (with_vertex s.held.0 v);
      })

  takes_out : (v : ℕ) → v < s.count → Member s.held.0 v → CallOf (TakeOut v) s (back (with_held s (s.held.0 - 2 ^ v)) 0)
  takes_out v l m =
      taken (TakeOut v) s (with_held s (s.held.0 - 2 ^ v)) (w, (l, tt))
      (record {
        count = refl;
        vertices = refl;
        shaped = record { places = w.shaped.places; graph = w.shaped.graph; recovery = w.shaped.recovery };
        edges = λ f u c. iff-refl;
        marks = λ f u c. iff-refl;
        held = λ i. in-removed s.held.0 v i m;
        opened = closure-of false s s.graph w (own-graph s w) (s.held.0 - 2 ^ v);
      })

  -- what is not held is taken out, and nothing changes
  takes_none : (v : ℕ) → v < s.count → (Member s.held.0 v → ⊥) → CallOf (TakeOut v) s (back s 0)
  takes_none v l n =
      taken (TakeOut v) s s (w, (l, tt))
      (record {
        count = refl;
        vertices = refl;
        shaped = w.shaped;
        edges = λ f u c. iff-refl;
        marks = λ f u c. iff-refl;
        held = (let-go-other s.held.0 v n).each;
        opened = w.opens;
      })

  beyond : (v : ℕ) → s.count ≤ v → CallOf (TakeIn v) s (back s 13)
  unfolding Asks
  beyond v l = inr (w, inl (λ k. omega arith, refl))

  module _ (f v c : ℕ) (q : Placed s f v c) where
    place : RowPlace v c
    place = row-place s f v c w q

    is-more : EdgeMore s.graph f v c (more s f v c)
    unfolding more
    is-more = record { needed = with_vertex (row s.graph v c) f; each = in-with (row s.graph v c) f; is = refl }

    more-graph : GraphOf s (more s f v c)
    more-graph =
        record {
          shaped = more-shaped s.graph f v c w.shaped.graph place (more s f v c) is-more;
          ends = λ a u b m. ⊎_elim (w.ends a u b) (λ e. let x = e.from in let y = e.to in let k = q.from in let l = q.to in (omega arith, omega arith))
              ((more_edges s.graph f v c w.shaped.graph place (more s f v c) is-more a u b).to m);
        }

    -- r has the edge's mark, if it gets one
    pub adds : (mark : Bool) (r : Graph) → MarkMore s.recovery f v c mark r → (Edge s.graph f v c → ⊥) → edge_count s.graph < most_edges
        → CallOf (AddEdge f v c mark) s (back (draws s (more s f v c) r) 0)
    adds mark r m n l =
        taken (AddEdge f v c mark) s (draws s (more s f v c) r) (w, (q.from, (q.to, (q.colour, (n, (l, tt))))))
        (add-redrawn s (draws s (more s f v c) r) f v c w q (more s f v c) r
        (record { count = refl; vertices = refl; is_graph = refl; is_recovery = refl; held = refl; opened = closure-of false s (more s f v c) w more-graph s.held.0 })
        mark is-more m)

    pub no-mark-more : MarkMore s.recovery f v c false s.recovery
    no-mark-more = record { marked = λ e. absurd (false-true e); unmarked = λ e. refl }

    pub mark-more : MarkMore s.recovery f v c true (marked s f v c)
    unfolding marked
    mark-more =
        record {
          marked = λ e. record { needed = with_vertex (row s.recovery v c) f; each = in-with (row s.recovery v c) f; is = refl };
          unmarked = λ e. absurd (false-true (sym e));
        }

    pub is-unmarked : (Edge s.recovery f v c → ⊥) → EdgeLess s.recovery f v c (unmarked s f v c)
    unfolding unmarked
    is-unmarked n = record { needed = row s.recovery v c; each = (let-go-other (row s.recovery v c) f n).each; is = refl }

    mark-less : Edge s.recovery f v c → EdgeLess s.recovery f v c (mark_less s f v c)
    unfolding mark_less
    mark-less e = record { needed = row s.recovery v c - 2 ^ f; each = λ i. in-removed (row s.recovery v c) f i e; is = refl }

    module _ (e : Edge s.graph f v c) where
      is-less : EdgeLess s.graph f v c (less s f v c)
      unfolding less
      is-less = record { needed = row s.graph v c - 2 ^ f; each = λ i. in-removed (row s.graph v c) f i e; is = refl }

      less-graph : GraphOf s (less s f v c)
      less-graph =
          record {
            shaped = less-shaped s.graph f v c w.shaped.graph place (less s f v c) is-less;
            ends = λ a u b m. w.ends a u b ((less-edges s.graph f v c w.shaped.graph place (less s f v c) is-less a u b).to m).0;
          }

      -- r is without the edge's mark, if it had one
      pub removes : (r : Graph) → EdgeLess s.recovery f v c r → CallOf (RemoveEdge f v c) s (back (draws s (less s f v c) r) 0)
      removes r l =
          taken (RemoveEdge f v c) s (draws s (less s f v c) r) (w, (q.from, (q.to, (q.colour, (e, tt)))))
          (remove-redrawn s (draws s (less s f v c) r) f v c w q (less s f v c) r
          (record { count = refl; vertices = refl; is_graph = refl; is_recovery = refl; held = refl; opened = closure-of false s (less s f v c) w less-graph s.held.0 })
          is-less l)

-- ---- document 01's sheet, redrawn

abbrev pub fresh : Setup
fresh = bench.setup

pub well : WellFormed fresh
well = reads-well bench read-bench

-- the mail password is held
abbrev pub one : Setup
one = with_held fresh (with_vertex 0 mailpw)

pub first : CallOf (TakeIn mailpw) fresh (back one 0)
first = takes-in fresh well mailpw (omega arith)

one-well : WellFormed one
one-well = formed-after (TakeIn mailpw) fresh one first

placed : (s : Setup) → s.count ≡ 5 → Placed s ordpw mail 0
placed s e = record { from = omega arith; to = omega arith; colour = omega arith }

-- and mail needs the order password too
abbrev two : Setup
two = draws one (more one ordpw mail 0) one.recovery

no_edge : Edge one.graph ordpw mail 0 → ⊥
no_edge m = let e : ◌≡◌ {A = ℕ} 0 1 = (in_one 1 0).to m in omega arith

pub few : edge_count one.graph < most_edges
unfolding edge_count ones
few = let e : edge_count one.graph ≡ 4 = refl in omega arith

second : CallOf (AddEdge ordpw mail 0 false) one (back two 0)
second = adds one one-well ordpw mail 0 (placed one refl) false one.recovery (no-mark-more one one-well ordpw mail 0 (placed one refl)) no_edge few

two-well : WellFormed two
two-well = formed-after (AddEdge ordpw mail 0 false) one two second

-- .. and no longer
abbrev three : Setup
three = draws two (less two ordpw mail 0) (unmarked two ordpw mail 0)

there : Edge two.graph ordpw mail 0
unfolding more graph_with_row
there = (in-with 2 ordpw ordpw).from (inr refl)

no-mark : Edge two.recovery ordpw mail 0 → ⊥
no-mark m = none-in-zero ordpw m

third : CallOf (RemoveEdge ordpw mail 0) two (back three 0)
third = removes two two-well ordpw mail 0 (placed two refl) there (unmarked two ordpw mail 0) (is-unmarked two two-well ordpw mail 0 (placed two refl) no-mark)

-- mail, which is open, is taken in, and its opener out
abbrev four : Setup
four = with_held one (with_vertex (with_vertex 0 mailpw) mail)

fourth : CallOf (TakeIn mail) one (back four 0)
fourth = takes-in one one-well mail (omega arith)

four-well : WellFormed four
four-well = formed-after (TakeIn mail) one four fourth

abbrev five : Setup
five = with_held four (with_vertex (with_vertex 0 mailpw) mail - 2 ^ mailpw)

fifth : CallOf (TakeOut mailpw) four (back five 0)
fifth = takes_out four four-well mailpw (omega arith) ((in-with (with_vertex 0 mailpw) mail mailpw).from (inl ((in-with 0 mailpw mailpw).from (inr refl))))

-- .. or taken out itself
abbrev six : Setup
six = with_held four (with_vertex (with_vertex 0 mailpw) mail - 2 ^ mail)

sixth : CallOf (TakeOut mail) four (back six 0)
sixth = takes_out four four-well mail (omega arith) ((in-with (with_vertex 0 mailpw) mail mail).from (inr refl))

-- held already
abbrev seven : Setup
seven = with_held one (with_vertex (with_vertex 0 mailpw) mailpw)

seventh : CallOf (TakeIn mailpw) one (back seven 0)
seventh = takes-in one one-well mailpw (omega arith)

-- refused
colour-eight : CallOf (AddEdge ordpw mail 8 false) one (back one 18)
unfolding Asks
colour-eight = inr (one-well, inr (omega arith, inr (omega arith, inl (λ k. omega arith, refl))))

not_there : CallOf (RemoveEdge ordpw mail 0) one (back one 20)
unfolding Asks
not_there = inr (one-well, inr (omega arith, inr (omega arith, inr (omega arith, inl (no_edge, refl)))))

same-edge : CallOf (AddEdge mailpw mail 0 true) fresh (back fresh 19)
unfolding Asks
same-edge = inr (well, inr (omega arith, inr (omega arith, inr (omega arith, inl (λ n. n ((in_one 1 1).from refl), refl)))))

sixth-item : CallOf (TakeIn 5) one (back one 13)
sixth-item = beyond one one-well 5 (omega arith)

-- the token is not held
not-held : CallOf (TakeOut token) one (back one 0)
not-held = takes_none one one-well token (omega arith) (λ m. no-token ((in-with 0 mailpw token).to m))
  where
    no-token : Member 0 token ⊎ (token ≡ mailpw) → ⊥
    no-token (inl z) = none-in-zero token z
    no-token (inr e) = omega arith

-- ---- what is held and opened then, computed

pub all_live : AllLive
unfolding lowest some every is_member is_within is_meeting with_vertex is_complete is_broken colour_of is_added pass_of passes_of closure_of more less unmarked graph_with_row
all_live =
    led (record { setup = one; ran = (one, first, refl); is_held = refl; is_opened = refl })
    & led (record { setup = two; ran = (one, first, (two, second, refl)); is_held = refl; is_opened = refl })
    & led (record { setup = three; ran = (one, first, (two, second, (three, third, refl))); is_held = refl; is_opened = refl })
    & led (record { setup = five; ran = (one, first, (four, fourth, (five, fifth, refl))); is_held = refl; is_opened = refl })
    & led (record { setup = six; ran = (one, first, (four, fourth, (six, sixth, refl))); is_held = refl; is_opened = refl })
    & led (record { setup = seven; ran = (one, first, (seven, seventh, refl)); is_held = refl; is_opened = refl })
    & led (record { setup = one; ran = (one, first, (one, colour-eight, (one, not_there, refl))); is_held = refl; is_opened = refl })
    & led (record { setup = one; ran = (fresh, same-edge, (one, first, (one, sixth-item, refl))); is_held = refl; is_opened = refl })
    & led (record { setup = one; ran = (one, first, (one, not-held, refl)); is_held = refl; is_opened = refl })
    & tt
  where
    led : {calls : List Call} {numbers : List ℕ} {held opened : ℕ} → LeadsTo calls numbers held opened fresh → Yields bench (LeadsTo calls numbers held opened)
    led l = record { setup = fresh; reading = read-bench; holds = l }

-- ---- a mark that comes and goes

abbrev pub marking : Setup
marking = draws one (more one token mail 1) (marked one token mail 1)

pub placed-token : (s : Setup) → s.count ≡ 5 → Placed s token mail 1
placed-token s e = record { from = omega arith; to = omega arith; colour = omega arith }

pub add-mark : CallOf (AddEdge token mail 1 true) one (back marking 0)
add-mark =
    adds one one-well token mail 1 (placed-token one refl) true (marked one token mail 1) (mark-more one one-well token mail 1 (placed-token one refl)) (none-in-zero token) few

pub marking-well : WellFormed marking
marking-well = formed-after (AddEdge token mail 1 true) one marking add-mark

abbrev unmarking : Setup
unmarking = draws marking (less marking token mail 1) (mark_less marking token mail 1)

edge-there : Edge marking.graph token mail 1
unfolding more graph_with_row
edge-there = (in-with 0 token token).from (inr refl)

mark-there : Edge marking.recovery token mail 1
unfolding marked graph_with_row
mark-there = (in-with 0 token token).from (inr refl)

remove-mark : CallOf (RemoveEdge token mail 1) marking (back unmarking 0)
remove-mark =
    removes marking marking-well token mail 1 (placed-token marking refl) edge-there (mark_less marking token mail 1) (mark-less marking marking-well token mail 1 (placed-token marking refl) mark-there)

pub mark-comes-and-goes : MarkComesAndGoes
unfolding lowest some every is_member is_within is_meeting with_vertex is_complete is_broken colour_of is_added pass_of passes_of closure_of more less marked mark_less graph_with_row
mark-comes-and-goes =
    record {
      setup = fresh;
      reading = read-bench;
      holds = record {
        with = marking;
        without = unmarking;
        added = (one, first, (marking, add-mark, refl));
        removed = (unmarking, remove-mark, refl);
        marks = refl;
        edges = refl;
        marks_back = refl;
        edges_back = refl;
      };
    }

-- ---- setups that are refused with 12

pub refused-sheet : RefusedSheetTwelve
refused-sheet r c =
    let s = (read_sheet (lines_text twice)).setup in
    first-no (back s) (Done (TakeIn 0) s) [] (asks12 s) (asks13 s 0 ∷ []) r c tt (λ w. let l = subst (λ (t : Setup). 0 < t.count) empty w.some in omega arith)
    ∙ ap (λ (t : Setup). back t 12) empty
  where
    empty : (read_sheet (lines_text twice)).setup ≡ no_items
    empty = ap (λ (r : Reading). r.setup) all-refused.1.1.1.1.1.1.1.1.1.1.1.1.1.1.1.1.1.1.1.1.1.1.1.1.1.0 ∙ empty-setup

nothing-opens : closure_of false 5 fresh.graph 0 ≡ 0
unfolding lowest some every is_member is_within is_meeting with_vertex is_complete is_broken colour_of is_added pass_of passes_of closure_of
nothing-opens = refl

pub spoiled-setup : SpoiledTwelve
spoiled-setup r c =
    first-no (back spoiled) (Done (TakeIn mailpw) spoiled) [] (asks12 spoiled) (asks13 spoiled mailpw ∷ []) r c tt
    (λ w.
    let a = closure-of false fresh fresh.graph well (own-graph fresh well) 0 in
    let m : Member (closure_of false 5 fresh.graph 0) order = (a.each order).from ((w.opens.each order).to ((in_one order order).from refl)) in
    none-in-zero order (subst (λ (x : ℕ). Member x order) nothing-opens m))
