use Prim.Native.Nat.{◌+◌}
use Rattle.sheet_fields.proofs.Slices.{rest_part}
use Rattle.sheet_rows.proofs.Items.{none-no, some-yes, ends-from, ends-to, ends-number, ends-no-colour, ends-mark, ends-no-mark, ends-yes}
use Rattle.sheet_rows.proofs.read_ends.Goals as goal

pub returns-in_err-from : goal.returns-in_err-from
returns-in_err-from c = rw c.from_residual.ensures (ends-from _ _ _ _ (none-no _ _ c.in_err-from.ensures))

pub returns-in_err-to : goal.returns-in_err-to
returns-in_err-to c =
    rw c.from_residual-in_err-to.ensures (ends-to _ _ _ _ (some-yes _ _ _ c.in_ok-from.ensures).0 (none-no _ _ c.in_err-to.ensures))

pub returns-in_err-colour : goal.returns-in_err-colour
returns-in_err-colour c =
    rw c.from_residual-in_err-colour.ensures
    (ends-number _ _ _ _ (some-yes _ _ _ c.in_ok-from.ensures).0 (some-yes _ _ _ c.in_ok-to.ensures).0 (none-no _ _ c.in_err-colour.ensures))

pub returns-in_err-rec : goal.returns-in_err-rec
returns-in_err-rec c =
    rw c.from_residual-in_err-rec.ensures
    (ends-mark _ _ _ _ (some-yes _ _ _ c.in_ok-from.ensures).0 (some-yes _ _ _ c.in_ok-to.ensures).0 (some-yes _ _ _ c.in_ok-colour.ensures).0
    (none-no _ _ (rw (rest_part c.args.l.now (c.args.cut.third + 1)) at c.in_err-rec.ensures)))

pub returns-then-colour-gt-MAX_COLOUR : goal.returns-then-colour-gt-MAX_COLOUR
returns-then-colour-gt-MAX_COLOUR c =
    let n = some-yes _ _ _ c.in_ok-colour.ensures in
    ends-no-colour _ _ _ _ (some-yes _ _ _ c.in_ok-from.ensures).0 (some-yes _ _ _ c.in_ok-to.ensures).0 n.0 (rw n.1 at c.if-colour-gt-MAX_COLOUR.true)

pub returns-then-rec-gt1 : goal.returns-then-rec-gt1
returns-then-rec-gt1 c =
    let n = some-yes _ _ _ c.in_ok-colour.ensures in
    let m = some-yes _ _ _ (rw (rest_part c.args.l.now (c.args.cut.third + 1)) at c.in_ok-rec.ensures) in
    ends-no-mark _ _ _ _ (some-yes _ _ _ c.in_ok-from.ensures).0 (some-yes _ _ _ c.in_ok-to.ensures).0 n.0 (rw n.1 at c.if-colour-gt-MAX_COLOUR.false) m.0 (rw m.1 at c.if-rec-gt1.true)

pub returns : goal.returns
returns c =
    let f = some-yes _ _ _ c.in_ok-from.ensures in
    let t = some-yes _ _ _ c.in_ok-to.ensures in
    let n = some-yes _ _ _ c.in_ok-colour.ensures in
    let m = some-yes _ _ _ (rw (rest_part c.args.l.now (c.args.cut.third + 1)) at c.in_ok-rec.ensures) in
    rw (f.1, t.1, n.1, m.1) (ends-yes _ _ _ _ f.0 t.0 n.0 (rw n.1 at c.if-colour-gt-MAX_COLOUR.false) m.0 (rw m.1 at c.if-rec-gt1.false))
