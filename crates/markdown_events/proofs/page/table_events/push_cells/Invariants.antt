-- Whatever the events of the cells that are left, with them those that are added are the events of all. The cells that are left stand
-- in the row.
use Rattle.std.proofs.Common.{length, map}
use Rattle.markdown_blocks.specs.cells.Cells.{cells_of}
use Rattle.markdown_events.specs.page.Readings.{seen_reading}
use Rattle.markdown_events.specs.InlineEvents.{EventSetting, seen_event}
use Rattle.markdown_events.specs.page.TableEvents.{AreCellEvents, row_len, shown_cells}
use Rattle.markdown_events.proofs.page.table_events.AddedLemmas.{Completes}
use Rattle.markdown_events.proofs.page.table_events.CellLemmas.{AreCutFrom, StandWithin}
use Rattle.markdown_events.proofs.page.table_events.push_cells.Given as goal

abbrev pub invariant-loop-left : goal.invariant-loop-left
invariant-loop-left g l =
    let setting : EventSetting = seen_reading g.D.Definitions.targets l.reading in
    record {
      complete : Completes (AreCellEvents setting l.before l.text (shown_cells l.columns.are_filled l.columns.count (row_len l.text) (cells_of l.text)))
          (AreCellEvents setting l.before l.text (shown_cells l.columns.are_filled l.left l.end l.cells)) (map seen_event l.fn.events.items)
          (map seen_event l.events.items);
      stand : StandWithin (length l.text) (shown_cells l.columns.are_filled l.left l.end l.cells);
      cut : AreCutFrom l.text (shown_cells l.columns.are_filled l.left l.end l.cells);
    }

abbrev pub decreases-loop-left : goal.decreases-loop-left
decreases-loop-left g l = l.left
