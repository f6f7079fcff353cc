use Rattle.markdown_scanners_tree.proofs.scanners.html_block.BlockStart.{starts_where_ended, starts_not_unended}
use Rattle.markdown_scanners_tree.proofs.scanners.html_block.starts_html_block_type_6.Goals as goal

pub returns-then-ends_name : goal.returns-then-ends_name
returns-then-ends_name c =
    starts_where_ended c.args.bytes.now c.without_slash-after.result.now c.scan_alphanumerics-length.result
    c.ends_name.result c.without_slash-after.ensures c.scan_alphanumerics-length.ensures.run c.ends_name.ensures
    c.is_block_name.result c.is_block_name.ensures c.if-ends_name.true

pub returns-else-ends_name : goal.returns-else-ends_name
returns-else-ends_name c =
    starts_not_unended c.args.bytes.now c.without_slash-after.result.now c.scan_alphanumerics-length.result
    c.ends_name.result c.without_slash-after.ensures c.scan_alphanumerics-length.ensures.run c.ends_name.ensures
    c.if-ends_name.false
