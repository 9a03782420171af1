use Rattle.std.proofs.Common.{arith, rules, tests}
use Rattle.std.proofs.lemmas.Iterator.{YieldsList-from_slice}
use Rattle.std.proofs.lemmas.Iterator.Search.{all_from_yields_List}
use Rattle.sheet_format.specs.Questions.{is_text_byte}
use Rattle.sheet_lines.proofs.Texts.{text-none, text-all, text-open}
use Rattle.sheet_lines.proofs.is_text.Goals as goal

pub returns-in_default : goal.returns-in_default
returns-in_default c = let h = c.in_default.ensures.item.3 in text-none c.args.s.now (omega arith)

pub returns-then-last-eq-LF : goal.returns-then-last-eq-LF
returns-then-last-eq-LF c =
    let h = c.in-Some.ensures.item.3 in
    text-all c.args.s.now c.in-Some.last.now c.all.result h.0 (h.1 0) c.if-last-eq-LF.true
    (all_from_yields_List is_text_byte _ _ c.all.result c.all.ensures.ran (YieldsList-from_slice c.args.s.now cc) (λ x b q k. search (rules, tests)))

pub returns-else-last-eq-LF : goal.returns-else-last-eq-LF
returns-else-last-eq-LF c =
    let h = c.in-Some.ensures.item.3 in
    text-open c.args.s.now c.in-Some.last.now h.0 (h.1 0) c.if-last-eq-LF.false
