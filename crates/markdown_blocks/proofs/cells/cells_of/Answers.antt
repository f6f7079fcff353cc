use Rattle.std.specs.List.{prefix_len}
use Rattle.std.proofs.Common.{◌+◌, ◌-◌, take, drop, arith, length, sym, ap, subst, ◌∙◌}
use mir.Val.{bool_byte}
use Rattle.markdown_scanners_tree.specs.Ascii.{space}
use Rattle.markdown_scanners_tree.specs.Bytes.{begins_with, is_space_or_tab}
use Rattle.markdown_scanners_tree.specs.scanners.tables.DelimiterRow.{is_pipe}
use Rattle.markdown_blocks.specs.info.Info.{without_end, without_front}
use Rattle.markdown_blocks.specs.cells.Cells.{AreBetween, cells_at, cells_of_row, pieces}
use Rattle.markdown_blocks.proofs.cells.CellLemmas.{cells_none, cells_some, one_byte}
use Rattle.markdown_blocks.proofs.cells.LawLemmas.{between, cells-le, length-cells_of}
use Rattle.markdown_blocks.proofs.cells.cells_of.Goals as goal

pub returns-then-inner-offset-clause-cells : goal.returns-then-inner-offset-clause-cells
returns-then-inner-offset-clause-cells c =
    let line = c.without_end-line.result.now in
    let row = c.without_front-row.result.now in
    let from = prefix_len is_space_or_tab line in
    sym (ap (λ l. cells_of_row (prefix_len is_space_or_tab l) (without_front l)) (sym (c.without_end-line.ensures ∙ ap without_end c.line_head.ensures.head))
    ∙ ap (cells_of_row from) (sym c.without_front-row.ensures)
    ∙ cells_none from row c.without_pipe_at_end-inner.result.now c.from-offset.result c.without_pipe_at_end-inner.ensures
    (c.from-offset.ensures ∙ ap bool_byte c.begins_with_pipe.ensures ∙ one_byte (begins_with is_pipe row)) c.if-inner-offset.true)

pub returns-clause-cells : goal.returns-clause-cells
returns-clause-cells c =
    let line = c.without_end-line.result.now in
    let row = c.without_front-row.result.now in
    let from = prefix_len is_space_or_tab line in
    let inner = c.without_pipe_at_end-inner.result.now in
    sym (ap (λ l. cells_of_row (prefix_len is_space_or_tab l) (without_front l)) (sym (c.without_end-line.ensures ∙ ap without_end c.line_head.ensures.head))
    ∙ ap (cells_of_row from) (sym c.without_front-row.ensures)
    ∙ cells_some from row c.without_pipe_at_end-inner.result.now c.from-offset.result c.without_pipe_at_end-inner.ensures
    (c.from-offset.ensures ∙ ap bool_byte c.begins_with_pipe.ensures ∙ one_byte (begins_with is_pipe row)) c.if-inner-offset.false
    ∙ ap (λ n. cells_at (n + c.from-offset.result) (pieces space (take (length inner - c.from-offset.result) (drop c.from-offset.result inner))))
    (sym c.scan_spaces_and_tabs-front.ensures.run))

pub returns-then-inner-offset-clause-counted : goal.returns-then-inner-offset-clause-counted
returns-then-inner-offset-clause-counted c =
    ap length (returns-then-inner-offset-clause-cells c) ∙ length-cells_of c.args.text.now

pub returns-clause-counted : goal.returns-clause-counted
returns-clause-counted c = ap length (returns-clause-cells c) ∙ length-cells_of c.args.text.now

pub returns-clause-between : goal.returns-clause-between
returns-clause-between c = subst (AreBetween 0 (length c.args.text.now)) (sym (returns-clause-cells c)) (between c.args.text.now)

pub returns-clause-fits : goal.returns-clause-fits
returns-clause-fits c = omega (arith, ap length (returns-clause-cells c), cells-le c.args.text.now, c.line_head.ensures.within)
