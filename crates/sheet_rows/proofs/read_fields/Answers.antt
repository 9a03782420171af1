use Prim.Native.Nat.{◌+◌}
use Rattle.sheet_fields.proofs.Slices.{rest_part}
use Rattle.sheet_rows.proofs.Items.{none-no, some-yes, form-kind, form-start, form-loss, form-number, form-rank, form-yes}
use Rattle.sheet_rows.proofs.read_fields.Goals as goal

pub returns-in_err-kind : goal.returns-in_err-kind
returns-in_err-kind c = rw c.from_residual.ensures (form-kind _ _ _ _ (none-no _ _ c.in_err-kind.ensures))

pub returns-in_err-start : goal.returns-in_err-start
returns-in_err-start c =
    rw c.from_residual-in_err-start.ensures (form-start _ _ _ _ (some-yes _ _ _ c.in_ok-kind.ensures).0 (none-no _ _ c.in_err-start.ensures))

pub returns-in_err-loss : goal.returns-in_err-loss
returns-in_err-loss c =
    rw c.from_residual-in_err-loss.ensures
    (form-loss _ _ _ _ (some-yes _ _ _ c.in_ok-kind.ensures).0 (some-yes _ _ _ c.in_ok-start.ensures).0 (none-no _ _ c.in_err-loss.ensures))

pub returns-in_err-rank : goal.returns-in_err-rank
returns-in_err-rank c =
    rw c.from_residual-in_err-rank.ensures
    (form-number _ _ _ _ (some-yes _ _ _ c.in_ok-kind.ensures).0 (some-yes _ _ _ c.in_ok-start.ensures).0 (some-yes _ _ _ c.in_ok-loss.ensures).0
    (none-no _ _ (rw (rest_part c.args.l.now (c.args.cut.third + 1)) at c.in_err-rank.ensures)))

pub returns-then-rank-gt-MAX_RANK : goal.returns-then-rank-gt-MAX_RANK
returns-then-rank-gt-MAX_RANK c =
    let n = some-yes _ _ _ (rw (rest_part c.args.l.now (c.args.cut.third + 1)) at c.in_ok-rank.ensures) in
    form-rank _ _ _ _ (some-yes _ _ _ c.in_ok-kind.ensures).0 (some-yes _ _ _ c.in_ok-start.ensures).0 (some-yes _ _ _ c.in_ok-loss.ensures).0 n.0
    (rw n.1 at c.if-rank-gt-MAX_RANK.true)

pub returns : goal.returns
returns c =
    let k = some-yes _ _ _ c.in_ok-kind.ensures in
    let s = some-yes _ _ _ c.in_ok-start.ensures in
    let l = some-yes _ _ _ c.in_ok-loss.ensures in
    let n = some-yes _ _ _ (rw (rest_part c.args.l.now (c.args.cut.third + 1)) at c.in_ok-rank.ensures) in
    rw (k.1, s.1, l.1, n.1) (form-yes _ _ _ _ k.0 s.0 l.0 n.0 (rw n.1 at c.if-rank-gt-MAX_RANK.false))
