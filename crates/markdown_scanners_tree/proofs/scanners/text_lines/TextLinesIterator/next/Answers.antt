use Rattle.std.proofs.Common.{rules, ◌∷◌, length, drop, arith, sym, ap, ◌∙◌}
use Rattle.std.specs.Prelude.{ℕ, List}
use Rattle.markdown_scanners_tree.specs.scanners.TextLines.{lines_of}
use Rattle.markdown_scanners_tree.proofs.scanners.text_lines.LineSteps.{first_line-taken}
use Rattle.markdown_scanners_tree.proofs.scanners.text_lines.TextLinesIterator.next.Goals as goal

pub returns-clause-steps : goal.returns-clause-steps
returns-clause-steps c =
    rw (← c.self.view_is) (
    first_line-taken c.self.inside.rest.now c.scan_line.result (search rules) c.scan_line.ensures.line
    ∙ ap (λ (l : List ℕ). l ∷ lines_of (drop c.scan_line.result c.self.inside.rest.now)) (sym c.split_at.ensures.front)
    ∙ ap (λ (l : List ℕ). c.split_at.result.0.now ∷ lines_of l) (sym c.split_at.ensures.back)
    )

pub returns-clause-goes : goal.returns-clause-goes
returns-clause-goes c =
    record { on = λ _. (tt, tt, omega (arith, ap length (returns-clause-steps c))); keeps = tt; rests = λ _. tt }
