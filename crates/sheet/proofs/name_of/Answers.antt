use mathlib.Core.Path.{refl}
use Rattle.questions.proofs.Refusals.{number_some}
use Rattle.sheet.proofs.Names.{refused_none, beyond-none, item-there, name-none, start_none, RowThere, row-there, span-order, span-inside, span-name, span-start}
use Rattle.sheet.proofs.name_of.Goals as goal

pub returns-in_default : goal.returns-in_default
returns-in_default c =
    let a = c.args in
    let n = refused_none a.sheet.now a.item _ c.in_default.ensures (number_some _) in
    record { name = name-none a.sheet.now a.item n; within = refl; place = start_none a.sheet.now a.item a.sheet.ref_ptr.1 n }

pub returns-then-setup-item : goal.returns-then-setup-item
returns-then-setup-item c =
    let a = c.args in
    let n = beyond-none a.sheet.now a.item _ c.in-Ok.ensures c.if-setup-item.true in
    record { name = name-none a.sheet.now a.item n; within = refl; place = start_none a.sheet.now a.item a.sheet.ref_ptr.1 n }

pub name_span-span-requires : goal.name_span-span-requires
name_span-span-requires c =
    let a = c.args in
    let there : RowThere a.sheet.now a.item = row-there a.sheet.now a.item _ c.in-Ok.ensures refl c.if-setup-item.false in
    there.few

pub slice_bounds-result-end-2 : goal.slice_bounds-result-end-2
slice_bounds-result-end-2 c =
    let a = c.args in
    let there : RowThere a.sheet.now a.item = row-there a.sheet.now a.item _ c.in-Ok.ensures refl c.if-setup-item.false in
    span-inside a.sheet.now a.item there c.name_span-span.result c.name_span-span.ensures

pub slice_bounds-result-count : goal.slice_bounds-result-count
slice_bounds-result-count c =
    let a = c.args in
    let there : RowThere a.sheet.now a.item = row-there a.sheet.now a.item _ c.in-Ok.ensures refl c.if-setup-item.false in
    span-order a.sheet.now a.item there c.name_span-span.result c.name_span-span.ensures

pub slice_bounds-result-start : goal.slice_bounds-result-start
slice_bounds-result-start c =
    let a = c.args in
    let there : RowThere a.sheet.now a.item = row-there a.sheet.now a.item _ c.in-Ok.ensures refl c.if-setup-item.false in
    span-order a.sheet.now a.item there c.name_span-span.result c.name_span-span.ensures

pub returns : goal.returns
returns c =
    let a = c.args in
    let there : RowThere a.sheet.now a.item = row-there a.sheet.now a.item _ c.in-Ok.ensures refl c.if-setup-item.false in
    let h = item-there a.sheet.now a.item _ c.in-Ok.ensures refl c.if-setup-item.false in
    record {
      name = span-name a.sheet.now a.item there c.name_span-span.result c.name_span-span.ensures h;
      within = refl;
      place = span-start a.sheet.now a.item there c.name_span-span.result c.name_span-span.ensures a.sheet.ref_ptr.1 h;
    }
