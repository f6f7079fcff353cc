use Rattle.markdown_scanners_tree.proofs.scanners.metadata.OneMetadata.{one_block}
use Rattle.markdown_scanners_tree.proofs.scanners.metadata.scan_metadata_block.Goals as goal

pub returns-then-is_enabled_block-clause-only : goal.returns-then-is_enabled_block-clause-only
returns-then-is_enabled_block-clause-only c =
    λ other is. one_block c.args.bytes.now other 45 is.block
    (c.is_enabled_block.ensures.found.0 c.if-is_enabled_block.true).1
