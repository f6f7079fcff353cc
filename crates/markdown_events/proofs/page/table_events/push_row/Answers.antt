use Rattle.std.proofs.Common.{map}
use Rattle.std.proofs.lemmas.Result.{on_ok_weaker}
use Rattle.markdown_blocks.specs.rows.Rows.{seen_row}
use Rattle.markdown_events.specs.InlineEvents.{EventSetting, seen_event}
use Rattle.markdown_events.specs.page.Readings.{seen_reading}
use Rattle.markdown_events.proofs.page.table_events.AddedLemmas.{row_added}
use Rattle.markdown_events.proofs.page.table_events.push_row.Goals as goal

pub returns : goal.returns
returns g c =
    let setting : EventSetting = seen_reading g.D.Definitions.targets c.args.reading.now in
    on_ok_weaker c.push_event-2.result (λ ended.
    row_added setting c.args.columns c.args.before c.args.is_head (seen_row c.args.row) (map seen_event c.args.events.now.items)
    (map seen_event c.push_event.new.events.items) (map seen_event c.push_cells.new.events.items) (map seen_event c.push_event-2.new.events.items)
    (rw (c.row_len.ensures.length, c.row_tags-tag.ensures.tag) at c.in_ok-push_event.ensures) c.in_ok-push_cells.ensures
    (rw (c.row_len.ensures.length, c.row_tags-tag.ensures.end) at ended)) c.push_event-2.ensures
