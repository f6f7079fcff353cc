-- The key of an ASCII label is the label in lower case.
use Rattle.std.proofs.Common.{sym, ◌∙◌}
use Rattle.markdown_scanners_tree.proofs.linklabel.AsciiKeys.{key_bytes-ascii}
use Rattle.markdown_blocks.proofs.link_definitions.ascii_key.Goals as goal

pub returns-then-label-le-SHORT : goal.returns-then-label-le-SHORT
returns-then-label-le-SHORT c = c.lower.ensures ∙ sym (key_bytes-ascii c.args.label.now c.requires)

pub returns : goal.returns
returns c = c.new.ensures ∙ c.in_ok-to_ascii_lowercase.ensures.ok ∙ sym (key_bytes-ascii c.args.label.now c.requires)
