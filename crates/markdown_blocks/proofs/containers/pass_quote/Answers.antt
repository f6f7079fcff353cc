use Rattle.std.proofs.Common.{◌∙◌}
use Rattle.markdown_blocks.proofs.containers.ContainerLemmas.{quote_passed, blank_at}
use Rattle.markdown_blocks.proofs.containers.pass_quote.Goals as goal

pub returns-then-scan_blockquote_marker-clause-passed :
    goal.returns-then-scan_blockquote_marker-clause-passed
returns-then-scan_blockquote_marker-clause-passed c =
    quote_passed c.args.start.now c.scan_space_upto.new.self c.scan_blockquote_marker.new.self c.scan_space_upto.result c.is_blank.result
    c.scan_space_upto.ensures.answer c.scan_space_upto.ensures.state c.if-scan_space_upto-lt4.true
    (c.scan_blockquote_marker.ensures.answer.0 c.if-scan_blockquote_marker.true) c.scan_blockquote_marker.ensures.state
    (blank_at c.args.line.now c.scan_blockquote_marker.new.self c.bytes_scanned.result c.is_blank.result
    (c.scan_blockquote_marker.ensures.bytes ∙ c.scan_space_upto.ensures.bytes ∙ c.requires) c.bytes_scanned.ensures.offset c.is_blank.ensures)
