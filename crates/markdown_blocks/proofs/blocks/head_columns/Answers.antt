use Rattle.std.proofs.Common.{sym, ◌∙◌}
use Rattle.std.proofs.lemmas.Bool.{not-false}
use Rattle.markdown_blocks.proofs.kinds.KindLemmas.{not_given}
use Rattle.markdown_blocks.proofs.tables.TableLemmas.{no_delimiter, no_head}
use Rattle.markdown_blocks.proofs.blocks.head_columns.Goals as goal

pub returns-in_err-columns : goal.returns-in_err-columns
returns-in_err-columns c =
    rw c.from_residual.ensures (no_delimiter c.args.line.now.outer c.args.words.now c.args.line.now.bytes c.in_err-columns.ensures)

pub returns-then-columns-count_cells : goal.returns-then-columns-count_cells
returns-then-columns-count_cells c =
    no_head c.args.line.now.outer c.args.words.now c.args.line.now.bytes c.in_ok-columns.columns c.in_ok-columns.ensures
    (λ same. absurd (c.if-columns-count_cells.true (sym same ∙ sym c.count_cells.ensures)))

pub returns-then-ends : goal.returns-then-ends
returns-then-ends c =
    no_head c.args.line.now.outer c.args.words.now c.args.line.now.bytes c.in_ok-columns.columns c.in_ok-columns.ensures
    (λ same. c.ends.ensures.0 c.if-ends.true)

pub returns : goal.returns
returns c = (
  not-false _ (rw (c.extensions.ensures, c.outer.ensures) at c.if-not-extensions.false),
  not_given c.if-ends.false c.ends.ensures.1,
  c.in_ok-columns.ensures,
  sym c.count_cells.ensures ∙ sym c.if-columns-count_cells.false,
)
