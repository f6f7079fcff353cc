use Rattle.std.proofs.Common.{◌≡◌, ◌∙◌, ap}
use Rattle.markdown_blocks.proofs.taken.TakenLemmas.{slice_after}
use Rattle.page_positions.specs.Positions.{text_offset, text_position}
use Rattle.page_positions.proofs.OffsetLemmas.{text_offset_back}
use Rattle.page_positions.proofs.text_position_at.Goals as goal

pub returns-clause-back : goal.returns-clause-back
returns-clause-back c = λ begun within.
    let page = c.args.page.now in
    let at : c.position_at.result ≡ text_position page c.args.offset =
    rw (slice_after page c.text_start-start.result, c.saturating_sub.ensures, c.text_start-start.ensures.start) at c.position_at.ensures.position in
    ap (text_offset page) at ∙ text_offset_back page c.args.offset begun within
