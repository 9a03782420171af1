use mathlib.Core.Path.{sym, ◌∙◌}
use Rattle.std.proofs.lemmas.Result.{err_from_is_err_and}
use Rattle.sheet_rows.proofs.Items.{ok_or-some, ok_or-none}
use Rattle.handin_lines.proofs.Naming.{item-unnamed, item-known, item-unknown}
use Rattle.handin_lines.proofs.by_name.item_of.Goals as goal

pub returns-in_err-key : goal.returns-in_err-key
returns-in_err-key c =
    let a = c.args in
    let p = err_from_is_err_and c.from_residual.result c.from_residual.ensures.1 in
    let n = ok_or-none c.read_name.result _ _ c.in_err-key.ensures.value in
    rw (p.1, p.2, n.1) (item-unnamed a.l.now a.low.now a.high.now a.count (sym n.0 ∙ c.read_name.ensures))

pub returns-in_err-item : goal.returns-in_err-item
returns-in_err-item c =
    let a = c.args in
    let p = err_from_is_err_and c.from_residual-in_err-item.result c.from_residual-in_err-item.ensures.1 in
    let n = ok_or-none c.find_name.result _ _ c.in_err-item.ensures.value in
    let k = ok_or-some c.read_name.result _ _ c.in_ok-key.ensures.value in
    rw (p.1, p.2, n.1) (item-unknown a.l.now a.low.now a.high.now a.count c.in_ok-key.key (sym k ∙ c.read_name.ensures) (sym n.0 ∙ c.find_name.ensures))

pub returns : goal.returns
returns c =
    let a = c.args in
    let k = ok_or-some c.read_name.result _ _ c.in_ok-key.ensures.value in
    let i = ok_or-some c.find_name.result _ _ c.in_ok-item.ensures.value in
    item-known a.l.now a.low.now a.high.now a.count c.in_ok-key.key (sym k ∙ c.read_name.ensures) c.in_ok-item.item (sym i ∙ c.find_name.ensures)
