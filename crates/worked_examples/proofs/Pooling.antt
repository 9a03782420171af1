-- The storeroom's sheets are pooled as the example says, and one loss is not kept.
-- Assumes nothing.
use mathlib.Core.Path.{◌≡◌, refl, sym, ap, ◌∙◌}
use mathlib.Core.Bool.{true, false}
use mathlib.Core.List.{List, [], map}
use Prim.Native.Nat.{ℕ, ◌<◌}
use native.Mathlib.Omega.{arith}
use lib.ListN.{length, get_or}
use Rattle.setup.specs.Setup.{empty_graph}
use Rattle.sheet_format.specs.Read.{Reading}
use Rattle.sheet_format.specs.Text.{same_text}
use Rattle.sheet_format.specs.Fields.{digits_in, decimal}
use Rattle.sheet_format.specs.Rows.{ItemRow, Valid, first_header, second_header, start_count, loss_count, item_lines, edge_lines, render, number_in, with_edge, with_edges, setup_of}
use Rattle.sheet_format.specs.Questions.{is_known}
use Rattle.sheet_format.specs.Read.{read_sheet, accepted}
use Rattle.sheet_format.proofs.Tests.{text-decided}
use Rattle.sheet_format.proofs.Meaning.{accepted-of-valid}
use Rattle.sheet_format.proofs.Question12Yielded.{well-formed-of-valid}
use Rattle.sheet.proofs.Names.{item-there, names-of-rows}
use Rattle.bases.specs.Base.{Derives}
use Rattle.reference.specs.Tests.{lowest, some, every, is_member, is_within, is_meeting, with_vertex}
use Rattle.reference.specs.Closures.{is_complete, is_broken, colour_of, is_added, pass_of, passes_of, closure_of, derives_of}
use Rattle.reference.proofs.Graphs.{own-graph}
use Rattle.reference.proofs.Meaning.{meaning}
use Rattle.pool_format.specs.Rows.{Agree, remaining, uses_colour, lowest_free, is_taken, new_colour, recoloured, pooled, Fits}
use Rattle.pool_format.specs.Meaning.{SameItem}
use Rattle.pool_format.proofs.PooledRows.{pooled-valid}
use Rattle.worked_examples.specs.Sheets.{lines_text}
use Rattle.worked_examples.specs.Pooling.{first_lab, both_labs, Storeroom, LossNotKept}
use Rattle.worked_examples.proofs.PoolingRows.{first, second, labs-read}

-- two texts that are not the same
pub differ : (s t : List ℕ) → same_text s t ≡ false → s ≡ t → ⊥
differ s t h = (text-decided s t).no h

valid-first : Valid first
valid-first = labs-read.first.valid

text-first : lines_text first_lab ≡ render first
text-first = labs-read.first.is

pub text-both : lines_text both_labs ≡ render (pooled first second)
unfolding render first_header second_header item_lines edge_lines decimal digits_in pooled remaining recoloured new_colour is_taken lowest_free uses_colour is_known same_text
text-both = refl

pub agree : Agree first.items second.items
unfolding same_text
agree = (
  (λ s. absurd (differ _ _ refl s), (λ s. absurd (differ _ _ refl s), (λ s. absurd (differ _ _ refl s), tt))),
  (
    (λ s. refl, (λ s. absurd (differ _ _ refl s), (λ s. absurd (differ _ _ refl s), tt))),
    ((λ s. absurd (differ _ _ refl s), (λ s. absurd (differ _ _ refl s), (λ s. absurd (differ _ _ refl s), tt))), tt),
  ),
)

pub fits : Fits (pooled first second)
unfolding pooled remaining recoloured new_colour is_taken lowest_free uses_colour is_known same_text start_count loss_count
fits =
    record {
      most = omega arith;
      starts = omega arith;
      losses = omega arith;
      many = omega arith;
      colours = (omega arith, (omega arith, (omega arith, (omega arith, (omega arith, tt)))));
    }

pub storeroom : Storeroom
storeroom =
    record {
      first = first;
      second = second;
      valid_first = valid-first;
      valid_second = labs-read.second.valid;
      is_first = text-first;
      is_second = labs-read.second.is;
      agree = agree;
      fits = fits;
      text = text-both;
    }

-- ---- a loss that is not kept

valid-both : Valid (pooled first second)
valid-both = pooled-valid first second valid-first labs-read.second.valid agree fits

graph-first : (read_sheet (lines_text first_lab)).setup.graph ≡ (setup_of first).graph
graph-first = ap (λ (r : Reading). r.setup.graph) (ap read_sheet text-first ∙ accepted-of-valid first valid-first)

graph-both : (read_sheet (lines_text both_labs)).setup.graph ≡ (setup_of (pooled first second)).graph
graph-both = ap (λ (r : Reading). r.setup.graph) (ap read_sheet text-both ∙ accepted-of-valid (pooled first second) valid-both)

lost : Derives true (setup_of first).graph 1 1
unfolding setup_of with_edges with_edge empty_graph number_in same_text lowest some every is_member is_within is_meeting with_vertex is_complete is_broken colour_of is_added pass_of passes_of closure_of derives_of
lost =
    ((meaning (setup_of first) (setup_of first).graph (well-formed-of-valid first valid-first) (own-graph (setup_of first) (well-formed-of-valid first valid-first))
    ).derives true 1 1).yes refl

stays : Derives true (setup_of (pooled first second)).graph 1 1 → ⊥
unfolding setup_of with_edges with_edge empty_graph number_in same_text lowest some every is_member is_within is_meeting with_vertex is_complete is_broken colour_of is_added pass_of passes_of closure_of derives_of pooled remaining recoloured new_colour is_taken lowest_free uses_colour is_known
stays =
    ((meaning (setup_of (pooled first second)) (setup_of (pooled first second)).graph (well-formed-of-valid (pooled first second) valid-both)
    (own-graph (setup_of (pooled first second)) (well-formed-of-valid (pooled first second) valid-both))
    ).derives true 1 1).no refl

both-items : (i : ℕ) → i < length first.items → i < length (pooled first second).items
    → get_or (map (λ (x : ItemRow). x.name) first.items) i [] ≡ get_or (map (λ (x : ItemRow). x.name) (pooled first second).items) i []
    → SameItem (lines_text first_lab) (lines_text both_labs) i i
unfolding setup_of
both-items i l k e =
    rw (text-first, text-both)
    (record {
      has = item-there (render first) i (accepted (setup_of first)) (sym (accepted-of-valid first valid-first)) refl l;
      has_too = item-there (render (pooled first second)) i (accepted (setup_of (pooled first second))) (sym (accepted-of-valid (pooled first second) valid-both)) refl k;
      name = names-of-rows first valid-first i l ∙ e ∙ sym (names-of-rows (pooled first second) valid-both i k);
    })

pub loss-not-kept : LossNotKept
unfolding pooled remaining is_known same_text
loss-not-kept =
    record {
      pooled = storeroom;
      badge = both-items 0 (omega arith) (omega arith) refl;
      store = both-items 1 (omega arith) (omega arith) refl;
      lost = rw graph-first lost;
      stays = rw graph-both stays;
    }
