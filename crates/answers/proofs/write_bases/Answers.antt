use mathlib.Core.Path.{sym, ◌∙◌}
use Rattle.answers.proofs.Calls.{fits-behind, both-fit, bases-short, bases-room, short-first, short-second}
use borrow.Author.Rules.{rules}
use Rattle.answers.proofs.write_bases.Goals as goal

pub returns-then-out-n : goal.returns-then-out-n
returns-then-out-n c =
    let o = c.base_family-n.ensures in
    let l = c.base_family-m.ensures in
    bases-short _ _ (record { opening = o.base; lockout = l.base }) _ (record { is_opening = o.is_base; is_lockout = l.is_base })
    (short-first o.base l.base _ _ o.counted c.if-out-n.true)

pub returns-then-out-n-2 : goal.returns-then-out-n-2
returns-then-out-n-2 c =
    let o = c.base_family-n.ensures in
    let l = c.base_family-m.ensures in
    bases-short _ _ (record { opening = o.base; lockout = l.base }) _ (record { is_opening = o.is_base; is_lockout = l.is_base })
    (short-second o.base l.base _ _ _ o.counted l.counted c.if-out-n.false c.if-out-n-2.true)

-- what is known of the lent list's length lies too far back for `search`
pub offset_bounds-out-first : goal.offset_bounds-out-first
offset_bounds-out-first c = let out = c.well_formed.1.1.0 in search rules

pub write_sets-second-requires : goal.write_sets-second-requires
write_sets-second-requires c =
    let o = c.base_family-n.ensures in
    let l = c.base_family-m.ensures in
    let h = c.write_sets-first.ensures in
    record {
      words = l.words;
      few = l.few;
      exact = l.exact;
      room = fits-behind c.write_sets-first.new.out c.base_family-m.new.out _ _ _ _ c.write_sets-first.auto.out l.count (h.count ∙ sym h.all ∙ o.count) c.if-out-n.false c.if-out-n-2.false;
    }

pub returns : goal.returns
returns c =
    let o = c.base_family-n.ensures in
    let l = c.base_family-m.ensures in
    let h = c.write_sets-first.ensures in
    let k = c.write_sets-second.ensures in
    bases-room _ _ (record { opening = h.list; lockout = k.list }) _ _ _ _ _ (record { is_opening = o.each h.list h.is; is_lockout = l.each k.list k.is })
    h.count k.count
    (both-fit c.base_family-n.new.out c.base_family-m.new.out h.list k.list o.count l.count h.all k.all c.if-out-n.false c.if-out-n-2.false)
    h.wrote k.wrote
