use Rattle.std.proofs.Common.{◌≡◌, true, sym, ap, ◌∙◌}
use Rattle.std.specs.Bool.{one_answer}
use Rattle.std.proofs.lemmas.Bool.{false≢true}
use Rattle.markdown_scanners_tree.specs.Bytes.{is_at_line_end}
use Rattle.markdown_scanners_tree.specs.line.State.{unscanned, space_within}
use Rattle.markdown_scanners_tree.proofs.line.ItemLemmas.{follows-end}
use Rattle.markdown_scanners_tree.proofs.line.LineStart.scan_space_or_end.Goals as goal

pub returns-else-scan_column-clause-answer : goal.returns-else-scan_column-clause-answer
returns-else-scan_column-clause-answer c =
    let few = λ (one : space_within 1 c.args.self.now ≡ 1). false≢true (sym c.if-scan_column.false
    ∙ c.scan_column.ensures.answer.1 one) in
    let here : c.is_at_eol.result ≡ is_at_line_end (unscanned c.scan_column.new.self) =
    one_answer {P = is_at_line_end (unscanned c.scan_column.new.self) ≡ true} c.is_at_eol.result
    (is_at_line_end (unscanned c.scan_column.new.self)) c.is_at_eol.ensures.answer (λ yes. yes, λ yes. yes) in
    follows-end c.args.self.now c.is_at_eol.result few (here
    ∙ ap (λ s. is_at_line_end (unscanned s)) c.scan_column.ensures.state)
