use Rattle.std.proofs.Common.{arith}
use Rattle.markdown_blocks.proofs.content.WholeLines.{no_container}
use Rattle.markdown_blocks.proofs.content.whole_lines.whole_lines.Goals as goal

pub html_lines-requires : goal.html_lines-requires
html_lines-requires c = record {
  none = no_container c.args.outer.now.containers (omega (arith, c.count.ensures, c.if-count-gt0.false));
  html = (c.in-Html.field-0, c.in-Html.is);
}
