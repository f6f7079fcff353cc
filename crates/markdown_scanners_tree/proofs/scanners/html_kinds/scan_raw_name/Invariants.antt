-- No name before the index stands at the front.
use Rattle.std.proofs.Common.{◌≡◌, drop}
use Rattle.markdown_scanners_tree.specs.scanners.html_block.private.BlockRows.{texts}
use Rattle.markdown_scanners_tree.specs.scanners.html_kinds.HtmlKinds.{name_among, raw_text_names}
use Rattle.markdown_scanners_tree.proofs.scanners.html_kinds.scan_raw_name.Given as goal

abbrev pub invariant-loop-name : goal.invariant-loop-name
invariant-loop-name l = name_among (texts (drop l.name-index l.name-items)) l.bytes ≡ name_among raw_text_names l.bytes
