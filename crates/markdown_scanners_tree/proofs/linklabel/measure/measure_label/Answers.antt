-- A bracket at the front leaves no label; words before a closing bracket are one.
use Rattle.std.proofs.Common.{◌≡◌, ◌∙◌, ◌==◌, refl, sym, ap, true, drop}
use Rattle.markdown_scanners_tree.specs.Ascii.{left_bracket, right_bracket}
use Rattle.markdown_scanners_tree.specs.Bytes.{begins_with}
use Rattle.markdown_scanners_tree.proofs.linklabel.SourceSteps.{at_start, none_at_opening, rest_is}
use Rattle.markdown_scanners_tree.proofs.linklabel.WordSteps.{bracket_first, measured_words}
use Rattle.markdown_scanners_tree.proofs.linklabel.measure.measure_label.Goals as goal

pub returns-then-is_opened-clause-none : goal.returns-then-is_opened-clause-none
returns-then-is_opened-clause-none g c =
    none_at_opening _ _ _ _ _ _ (at_start _ _)
    (refl, bracket_first left_bracket c.args.bytes.now (sym c.is_opened.ensures ∙ c.if-is_opened.true)) _

pub returns-then-is_closed-clause-found : goal.returns-then-is_closed-clause-found
returns-then-is_closed-clause-found g c =
    let bytes = c.args.bytes.now in
    let words = c.leading_words-words.result in
    let closes : begins_with (λ b. b == right_bracket) (drop words bytes) ≡ true =
    ap (begins_with (λ b. b == right_bracket)) (sym (rest_is bytes words)) ∙ sym c.is_closed.ensures ∙ c.if-is_closed.true in
    measured_words _ c.args.is_in_table bytes words c.leading_words-words.ensures.words c.if-words-gt0.true
    c.if-words-le-MOST_CHARACTERS.true closes
