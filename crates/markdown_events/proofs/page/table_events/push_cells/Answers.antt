use Rattle.std.proofs.Common.{◌-◌, length, map, refl, arith}
use Rattle.markdown_events.specs.page.Readings.{seen_reading}
use Rattle.markdown_events.specs.InlineEvents.{EventSetting, seen_event}
use Rattle.markdown_events.proofs.page.table_events.AddedLemmas.{all_added, more_added, none_added}
use Rattle.markdown_events.proofs.page.table_events.CellLemmas.{cells_begin, cells_done, cells_end, cells_more, cut_more, row_cells_cut, shown_between}
use Rattle.markdown_events.proofs.page.table_events.CellLemmas.{stand_more}
use Rattle.markdown_events.proofs.page.table_events.push_cells.Goals as goal

pub loop-left-init : goal.loop-left-init
loop-left-init g c =
    let setting : EventSetting = seen_reading g.D.Definitions.targets c.args.reading.now in
    let text = c.args.text.now in
    let end = c.row_len-end.result in
    let columns = c.args.columns in
    let cells = c.cells_of-cells.result in record {
      complete = none_added _ _ (map seen_event c.args.events.now.items)
          (cells_begin setting c.args.before text columns.are_filled columns.count end cells c.row_len-end.ensures.length c.cells_of-cells.ensures.cells);
      stand = shown_between columns.are_filled columns.count end (length text) cells c.row_len-end.ensures.within c.cells_of-cells.ensures.between;
      cut = row_cells_cut text columns.are_filled columns.count end cells c.requires.utf8 c.row_len-end.ensures.length c.cells_of-cells.ensures.cells;
    }

pub push_cell-requires : goal.push_cell-requires
push_cell-requires g c κs =
    let text = c.args.text.now in
    let left = c.loop-left.left in
    let next = c.in-Some.ensures.next (left - 1) in
    let stand = stand_more c.args.columns.are_filled left c.row_len-end.result c.loop-left.cells c.next_cell.new.cells c.in-Some.cell c.loop-left-test.true next
    (length text) c.loop-left.invariant.stand in
    let cut = cut_more c.args.columns.are_filled left c.row_len-end.result c.loop-left.cells c.next_cell.new.cells c.in-Some.cell c.loop-left-test.true next
    text c.loop-left.invariant.cut in (
      (refl, tt),
      (c.requires.fits, (stand.0, (stand.1, (c.requires.utf8, (cut.0, cut.1))))),
    )

pub loop-left-preserved : goal.loop-left-preserved
loop-left-preserved g c =
    let setting : EventSetting = seen_reading g.D.Definitions.targets c.args.reading.now in
    let text = c.args.text.now in
    let left = c.loop-left.left in
    let next = c.in-Some.ensures.next (left - 1) in record {
      complete = more_added _ _ (map seen_event c.args.events.now.items) _ _ (map seen_event c.loop-left.events.items)
          (map seen_event c.push_cell.new.events.items) c.in_ok-push_cell.ensures
          (cells_more c.args.columns.are_filled left c.row_len-end.result c.loop-left.cells c.next_cell.new.cells c.in-Some.cell c.loop-left-test.true next
          setting c.args.before text) c.loop-left.invariant.complete;
      stand = (stand_more c.args.columns.are_filled left c.row_len-end.result c.loop-left.cells c.next_cell.new.cells c.in-Some.cell c.loop-left-test.true next
          (length text) c.loop-left.invariant.stand).2;
      cut = (cut_more c.args.columns.are_filled left c.row_len-end.result c.loop-left.cells c.next_cell.new.cells c.in-Some.cell c.loop-left-test.true next
          text c.loop-left.invariant.cut).2;
    }

pub returns : goal.returns
returns g c =
    let setting : EventSetting = seen_reading g.D.Definitions.targets c.args.reading.now in
    all_added _ _ (map seen_event c.args.events.now.items) (map seen_event c.loop-left.events.items)
    (cells_end setting c.args.before c.args.text.now c.args.columns.are_filled c.loop-left.left c.row_len-end.result c.loop-left.cells
    (omega (arith, c.loop-left-test.false)))
    c.loop-left.invariant.complete

pub returns-in_default : goal.returns-in_default
returns-in_default g c =
    let setting : EventSetting = seen_reading g.D.Definitions.targets c.args.reading.now in
    all_added _ _ (map seen_event c.args.events.now.items) (map seen_event c.loop-left.events.items)
    (cells_done setting c.args.before c.args.text.now _ (c.in_default.ensures.none c.loop-left.left)) c.loop-left.invariant.complete
