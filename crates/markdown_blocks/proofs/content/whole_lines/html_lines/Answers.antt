use Rattle.std.proofs.Common.{sym, ◌∙◌}
use Rattle.markdown_blocks.proofs.content.WholeLines.{html_is}
use Rattle.markdown_blocks.proofs.content.whole_lines.html_lines.Goals as goal

pub returns : goal.returns
returns c =
    html_is c.args.kind c.requires.html.0 c.args.outer.now.containers c.args.lines.now c.requires.none c.requires.html.1
    (sym c.has_return.ensures ∙ c.if-has_return.false)
