-- `save_text::put_sheet` meets its contract: five parts, one behind the other.
use borrow.Author.Rules.{rules}
use mathlib.Core.List.{[], ◌∷◌}
use Rattle.sheet_format.specs.Rows.{first_header, second_header}
use Rattle.sheet_format.specs.Names.{name_of}
use Rattle.writing.specs.Inner.{ended}
use Rattle.writing.proofs.Pens.{start_wrote}
use Rattle.save_format.specs.Inner.{items_text, edges_text, saved_text}
use Rattle.save_text.proofs.Writing.{five-parts, penned-parts}
use Rattle.save_text.proofs.put_sheet.Goals as goal

pub returns : goal.returns
unfolding first_header second_header
returns c =
    let name = (name_of c.args.names.sheet.now) in
    let s = c.args.s.now in
    let w = penned-parts (saved_text name s) (ended first_header 10) (items_text name s.vertices s.count) (10 ∷ []) (ended second_header 10) (edges_text name s.graph s.recovery)
    (five-parts name s) _ _ _ _ _ _ c.put_field.ensures c.put_items.ensures c.put_byte.ensures c.put_field-2.ensures c.put_edges.ensures in
    let out = start_wrote _ _ c.new-pen.ensures _ _ w in
    search (rules, out)
