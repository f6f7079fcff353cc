use Rattle.std.specs.Prelude.{true, false, length}
use Rattle.std.proofs.lemmas.Bool.{eq-eqb}
use Rattle.markdown_blocks.specs.cells.Contents.{escape_at}
use Rattle.std.proofs.Common.{sym, ◌∙◌, subst, arith}
use Rattle.std.proofs.lemmas.Result.{IfOk-weaker}
use Rattle.markdown_blocks.specs.content.Bytes.{AreBytesOf}
use Rattle.markdown_blocks.proofs.content.cell.EscapeLemmas.{cell_bytes, content_is, escaped_apart, not_same}
use Rattle.markdown_blocks.proofs.content.cell.cell_content.Goals as goal

pub returns-then-escape_at-text-clause-content : goal.returns-then-escape_at-text-clause-content
returns-then-escape_at-text-clause-content c =
    c.lent.ensures ∙ content_is c.args.row.now c.args.cell c.min-offset.result c.bytes_of_cell-text.result.now true c.bytes_of_cell-text.ensures.bytes
    c.min-offset.ensures c.bytes_of_cell-text.ensures.none
    (eq-eqb (escape_at c.bytes_of_cell-text.result.now) (length c.bytes_of_cell-text.result.now)
    (omega (arith, c.escape_at.ensures.length, c.if-escape_at-text.true)))

pub returns-then-escape_at-text-clause-bytes : goal.returns-then-escape_at-text-clause-bytes
returns-then-escape_at-text-clause-bytes c =
    subst (AreBytesOf c.args.row.now) (sym (returns-then-escape_at-text-clause-content c)) (cell_bytes c.args.row.now c.args.cell)

pub returns-clause-content : goal.returns-clause-content
returns-clause-content c =
    IfOk-weaker c.built.result _ _ (λ content is. is ∙ content_is c.args.row.now c.args.cell c.min-offset.result c.bytes_of_cell-text.result.now false
    c.bytes_of_cell-text.ensures.bytes c.min-offset.ensures c.bytes_of_cell-text.ensures.none
    (escaped_apart c.bytes_of_cell-text.result.now c.escape_at.result c.escape_at.ensures.length c.if-escape_at-text.false)) c.built.ensures

pub returns-clause-lent : goal.returns-clause-lent
returns-clause-lent c = λ same. absurd (not_same c.bytes_of_cell-text.result.now _ c.escape_at.result c.bytes_of_cell-text.ensures.bytes
    c.escape_at.ensures.length c.escape_at.ensures.within c.if-escape_at-text.false same)

pub returns-clause-bytes : goal.returns-clause-bytes
returns-clause-bytes c =
    IfOk-weaker c.built.result _ _ (λ content is. subst (AreBytesOf c.args.row.now) (sym is) (cell_bytes c.args.row.now c.args.cell))
    (returns-clause-content c)
