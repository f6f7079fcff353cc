use Rattle.markdown_scanners_tree.proofs.scanners.html_kinds.NameCut.{given_by_front}
use Rattle.markdown_scanners_tree.proofs.scanners.html_kinds.begins_block_name.Goals as goal

pub returns : goal.returns
returns c =
    given_by_front c.args.rest.now c.starts_html_block_type_6.result c.first_bytes.result.now c.first_bytes.ensures.first
    c.starts_html_block_type_6.ensures
