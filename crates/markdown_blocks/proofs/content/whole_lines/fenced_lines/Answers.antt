use Rattle.std.proofs.Common.{◌≡◌, sym, ap, ◌∙◌, arith}
use Rattle.markdown_scanners_tree.specs.line.ItemRules.{start_of}
use Rattle.markdown_scanners_tree.specs.line.State.{space_within}
use Rattle.markdown_blocks.proofs.content.WholeLines.{fenced_is}
use Rattle.markdown_blocks.proofs.content.parts.FirstLemmas.{first_bytes, first_lines}
use Rattle.markdown_blocks.proofs.content.whole_lines.fenced_lines.Goals as goal

pub returns : goal.returns
returns c =
    let lines = c.args.lines.now in
    let line = c.in_ok-line.line.now in
    let first = c.in_ok-line.first in
    let nothing = c.nothing.result in
    let read = c.read_inner-read.ensures in
    let none : space_within 4 c.new-start.result ≡ 0 = omega (arith, c.if-scan_space_upto-gt0.false, c.scan_space_upto.ensures.answer) in
    let plain : space_within 4 (start_of line) ≡ 0 = ap (space_within 4) (sym c.new-start.ensures) ∙ none in
    fenced_is c.args.kind c.requires.fenced.0 c.requires.fenced.1 c.args.outer.now.containers lines line first c.read_inner-read.result read.inner.0
    c.requires.none (sym c.has_return.ensures ∙ c.if-has_return.false) c.requires.fenced.2
    (first_lines lines line nothing first c.nothing.ensures c.in_ok-line.ensures.line)
    (first_bytes lines line nothing first c.nothing.ensures c.in_ok-line.ensures.line) plain read.inner.1 read.inner.3 read.forward read.within
