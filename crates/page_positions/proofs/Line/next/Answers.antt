use Rattle.std.proofs.Common.{◌≡◌, ◌∙◌, ◌-◌, ap, arith, drop, length, take}
use Rattle.std.proofs.lemmas.List.{length-drop, take_all}
use Rattle.markdown_scanners_tree.specs.Bytes.{line_length}
use Rattle.page_positions.proofs.PositionLemmas.{next_is_line}
use Rattle.page_positions.proofs.Line.next.Goals as goal

pub returns-clause-line : goal.returns-clause-line
returns-clause-line c =
    let page = c.args.page.now in
    let counted = length-drop c.args.self.end page in
    let all : take (length page - c.args.self.end) (drop c.args.self.end page) ≡ drop c.args.self.end page =
    take_all (length page - c.args.self.end) (drop c.args.self.end page) (omega (arith, counted)) in
    next_is_line page c.args.self c.requires.line c.requires.more c.scan_line.result
    (c.scan_line.ensures.line ∙ ap line_length all) (omega (arith, c.scan_line.ensures.within, ap length all, counted))
