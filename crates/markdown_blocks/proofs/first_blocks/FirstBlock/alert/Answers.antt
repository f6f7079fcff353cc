use Rattle.std.proofs.Common.{sym, ap, ◌∙◌}
use Rattle.markdown_blocks.specs.events.Events.{seen_leaf}
use Rattle.markdown_blocks.proofs.first_blocks.AlertLemmas.{alert_some}
use Rattle.markdown_blocks.proofs.first_blocks.FirstBlock.alert.Goals as goal

pub returns : goal.returns
returns c =
    let scan = c.scan_blockquote_tag in
    rw (c.in-Quote-Paragraph.is-0, c.in-Quote-Paragraph.is-1)
    (alert_some (seen_leaf c.args.self.now.leaf) _ c.new-start.ensures _ _ (sym c.in_ok-kind.was ∙ scan.ensures.answer)
    (c.bytes_scanned.ensures.offset ∙ ap (λ s. s.offset) scan.ensures.state))
