use Rattle.std.proofs.Common.{◌≡◌, sym, ap, ◌∙◌, ℕ, List, ◌+◌, length, take, drop, ◌-◌, arith, rules, length-drop}
use Rattle.std.proofs.lemmas.List.{get_or-drop}
use Rattle.setup.specs.declared.Rows.{Rows}
use Rattle.portal_words.specs.Words.{word_at}
use Rattle.portal_words.proofs.Saying.{tabulate-front}
use Rattle.portal_words.proofs.rows_in.Goals as goal

abbrev the-rows : List ℕ → Rows
the-rows l = record { needs = l }

pub returns : goal.returns
returns c =
    let words = c.args.words.now in
    let at = c.args.at in
    let r = c.requires in
    let long : length words ≡ 1283 = search rules in
    let said = tabulate-front (λ (k : ℕ). word_at words (at + k)) (drop at words) 0 8 (omega (arith, length-drop at words)) (λ k h. sym (get_or-drop at words k 0)) in
    let eight : (at + 8) - at ≡ 8 = omega arith in
    ap the-rows (c.copy_from_slice.ensures.after ∙ (ap (λ (n : ℕ). take n (drop at words)) eight ∙ sym said))
