use Rattle.std.proofs.Common.{◌∷◌, IsTrue, ap, subst, ◌∙◌, drop}
use Rattle.markdown_scanners_tree.specs.SomeExactly.{SomeExactly}
use Rattle.markdown_scanners_tree.specs.scanners.TextLines.{lines_of}
use Rattle.markdown_blocks.specs.containers.Containers.{Rest}
use Rattle.markdown_blocks.specs.blocks.Leaves.{BeginTable, In}
use Rattle.markdown_blocks.specs.info.Info.{without_front}
use Rattle.markdown_blocks.specs.delimiter_rows.DelimiterRows.{IsDelimiter}
use Rattle.markdown_blocks.proofs.blocks.RestLemmas.{none_found}
use Rattle.markdown_blocks.proofs.tables.TableLemmas.{begin_given, no_begin, same_line}
use Rattle.markdown_blocks.proofs.blocks.begins_table.Goals as goal

pub returns-then-is_none : goal.returns-then-is_none
returns-then-is_none c = λ line lines two. (
  λ t. cc,
  λ table. absurd (no_begin c.args.next.now.outer line c.args.next.now.bytes lines
      (subst (SomeExactly (λ columns. In c.args.next.now.outer.containers (IsDelimiter columns) c.args.next.now.bytes))
      (none_found c.delimiter_columns.result c.is_none.result c.is_none.ensures c.if-is_none.true) c.delimiter_columns.ensures) table),
)

pub returns : goal.returns
returns c = λ line lines two.
    let outer = c.args.next.now.outer in
    let next = c.args.next.now.bytes in
    let same = same_line (lines_of (drop c.args.before.bytes c.args.text.now)) c.in-Some.line.now line _ (next ∷ lines) c.in-Some.ensures.line.parts two in
    subst (λ l. (IsTrue c.is_some.result → BeginTable outer (l ∷ next ∷ lines)) × (BeginTable outer (l ∷ next ∷ lines) → IsTrue c.is_some.result)) same
    (begin_given outer c.in-Some.line.now next lines c.without_front.result.now c.head_columns.result c.is_some.result
    (c.without_front.ensures ∙ ap (λ (r : Rest). without_front r.text) (c.behind-line.view_is ∙ (rw (c.new-line.ensures, c.outer.ensures) at c.rest.ensures)))
    c.head_columns.ensures c.is_some.ensures)
