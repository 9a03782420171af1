use mathlib.Core.Path.{refl}
use mathlib.Core.Logic.{◌⊎◌, inl, inr}
use Prim.Native.Nat.{◌≤◌}
use native.Mathlib.Omega.{arith}
use Rattle.std.proofs.lemmas.Result.{err_from_is_err_and}
use Rattle.sheet_rows.proofs.Items.{line-yes}
use Rattle.sheet_rows.proofs.Tables.{place-within}
use Rattle.sheet_rows.proofs.Taking.{edge-unread, edge-unknown, edge-inside, edge-taken}
use Rattle.sheet_rows.proofs.take_edge.Goals as goal
use Rattle.sheet_rows.proofs.take_edge.Goals.{then-keys-from-via-then-keys-from, then-keys-from-via-else-keys-from+then-keys-to}

pub returns-in_err-edge : goal.returns-in_err-edge
returns-in_err-edge c =
    let p = err_from_is_err_and c.from_residual.result c.from_residual.ensures.1 in
    rw (p.1, p.2) (edge-unread c.args.l.now c.args.keys.now.low c.args.keys.now.high c.args.keys.now.count _ c.in_err-edge.ensures)

pub returns-then-keys-from : goal.returns-then-keys-from
returns-then-keys-from c =
    let k = c.args.keys.now in
    let n : (k.count ≤ c.unwrap_or-from.result) ⊎ (k.count ≤ c.unwrap_or-to.result) = elim c.then-keys-from.branch [
      | then-keys-from-via-then-keys-from w ↦ inl (let h = w.if-keys-from.true in omega arith)
      | then-keys-from-via-else-keys-from+then-keys-to w ↦ inr (let h = w.if-keys-to.true in omega arith)
    ] in
    edge-unknown c.args.l.now k.low k.high k.count c.in_ok-edge.edge (line-yes _ _ _ _ c.in_ok-edge.ensures)
    c.find.result c.find.ensures c.unwrap_or-from.result c.unwrap_or-from.ensures
    c.find-2.result c.find-2.ensures c.unwrap_or-to.result c.unwrap_or-to.ensures n

pub invariant_of-result : goal.invariant_of-result
invariant_of-result c =
    let k = c.args.keys.now in
    record {
      inside = edge-inside c.args.l.now k.low k.high k.count c.in_ok-edge.edge (line-yes _ _ _ _ c.in_ok-edge.ensures)
          c.unwrap_or-from.result (place-within k.low k.high k.count _ _ c.find.ensures _ c.unwrap_or-from.ensures (let h = c.if-keys-from.false in omega arith)) k.few
          c.unwrap_or-to.result (place-within k.low k.high k.count _ _ c.find-2.ensures _ c.unwrap_or-to.ensures (let h = c.if-keys-to.false in omega arith));
    }

pub returns : goal.returns
returns c =
    let k = c.args.keys.now in
    edge-taken c.args.l.now k.low k.high k.count c.in_ok-edge.edge (line-yes _ _ _ _ c.in_ok-edge.ensures)
    c.unwrap_or-from.result (place-within k.low k.high k.count _ _ c.find.ensures _ c.unwrap_or-from.ensures (let h = c.if-keys-from.false in omega arith))
    c.unwrap_or-to.result (place-within k.low k.high k.count _ _ c.find-2.ensures _ c.unwrap_or-to.ensures (let h = c.if-keys-to.false in omega arith)) _ refl refl refl refl
