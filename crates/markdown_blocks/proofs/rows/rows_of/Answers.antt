use Rattle.std.proofs.Common.{◌∷◌, drop, sym, ap, ◌∙◌}
use Rattle.markdown_scanners_tree.specs.scanners.TextLines.{lines_of}
use Rattle.markdown_blocks.specs.containers.Containers.{OpenContainers}
use Rattle.markdown_blocks.specs.content.Parts.{first_offset}
use Rattle.markdown_blocks.specs.rows.Rows.{body_rows, later_rows, row_at, rows_of}
use Rattle.markdown_blocks.proofs.rows.RowLemmas.{first_bytes, first_line}
use Rattle.markdown_blocks.proofs.rows.rows_of.Goals as goal

pub returns : goal.returns
returns c = record {
  rows =
      let lines = c.args.lines.now in
      let outer = c.args.containers.now in
      let line = c.in-Some.line.now in
      let left = lines_of (drop c.with_next.result.bytes lines) in
      let here = row_at 0 (first_offset c.args.kept outer line) in
      ap (λ r. r ∷ later_rows c.new-outer.result.containers c.with_next.result.bytes left)
      (c.row_at-head.ensures ∙ ap (row_at 0) c.first_offset.ensures.offset)
      ∙ ap (λ (o : OpenContainers). here ∷ later_rows o.containers c.with_next.result.bytes left) c.new-outer.ensures
      ∙ ap (λ rs. here ∷ rs) (c.with_next.ensures outer)
      ∙ ap (λ b. here ∷ body_rows outer b (lines_of (drop c.in-Some.read.bytes lines)))
      (first_bytes lines c.nothing.result c.in-Some.read line c.nothing.ensures c.in-Some.ensures.line)
      ∙ sym (ap (rows_of c.args.kept outer) (first_line lines c.nothing.result c.in-Some.read line c.nothing.ensures c.in-Some.ensures.line));
}
