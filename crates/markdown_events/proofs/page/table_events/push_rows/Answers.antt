use Rattle.std.proofs.Common.{◌-◌, ◌^◌, map, refl, arith}
use Rattle.markdown_blocks.specs.rows.Rows.{seen_row}
use Rattle.markdown_events.specs.page.Readings.{seen_reading}
use Rattle.markdown_events.specs.InlineEvents.{EventSetting, seen_event}
use Rattle.markdown_events.proofs.page.table_events.AddedLemmas.{all_added, more_added, none_added}
use Rattle.markdown_events.proofs.page.table_events.RowLemmas.{row_first, row_text, rows_done, rows_more}
use Rattle.markdown_events.proofs.page.table_events.push_rows.Goals as goal

pub loop-row-init : goal.loop-row-init
loop-row-init g c = record {
  complete = none_added _ _ (map seen_event c.args.events.now.items) (λ later are. are);
  end_within = c.requires.within;
  are_utf8 = c.requires.utf8;
}

pub push_row-requires : goal.push_row-requires
push_row-requires g c κs =
    let first = row_first c.args.before c.args.columns (seen_row c.in-Some.row) c.loop-row.rows c.next.new.self c.in-Some.ensures.steps
    (2 ^ 64 - 1) c.loop-row.invariant.end_within in
    let utf8 = row_text c.args.before c.args.columns (seen_row c.in-Some.row) c.loop-row.rows c.next.new.self c.in-Some.ensures.steps
    c.loop-row.invariant.are_utf8 in
    ((refl, tt), (omega (arith, first.0), utf8.0))

pub loop-row-preserved : goal.loop-row-preserved
loop-row-preserved g c =
    let setting : EventSetting = seen_reading g.D.Definitions.targets c.args.reading.now in
    let before = c.args.before in
    let columns = c.args.columns in
    let row = seen_row c.in-Some.row in
    let steps = c.in-Some.ensures.steps in record {
      complete = more_added _ _ (map seen_event c.args.events.now.items) _ _ (map seen_event c.loop-row.events.items)
          (map seen_event c.push_row.new.events.items) c.in_ok-push_row.ensures
          (rows_more before columns row c.loop-row.rows c.next.new.self steps setting c.loop-row.is_head) c.loop-row.invariant.complete;
      end_within = (row_first before columns row c.loop-row.rows c.next.new.self steps (2 ^ 64 - 1) c.loop-row.invariant.end_within).1;
      are_utf8 = (row_text before columns row c.loop-row.rows c.next.new.self steps c.loop-row.invariant.are_utf8).1;
    }

pub returns : goal.returns
returns g c =
    let setting : EventSetting = seen_reading g.D.Definitions.targets c.args.reading.now in
    all_added _ _ (map seen_event c.args.events.now.items) (map seen_event c.loop-row.events.items)
    (rows_done setting c.args.columns c.args.before c.loop-row.is_head c.loop-row.rows c.in_default.ensures.steps.0) c.loop-row.invariant.complete
