use Rattle.std.proofs.Common.{◌∙◌}
use Rattle.markdown_scanners_tree.proofs.ScanLemmas.{list_any-searched}
use Rattle.markdown_blocks.proofs.content.line_endings.has_return.Goals as goal

pub returns : goal.returns
returns c = c.is_some.ensures ∙ list_any-searched 13 c.args.bytes.now c.memchr.result c.memchr.ensures
