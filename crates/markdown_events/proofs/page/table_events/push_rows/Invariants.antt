-- Whatever the events of the rows that are left, with them those that are added are the events of all.
use Rattle.std.proofs.Common.{◌-◌, ◌^◌, true, length, map}
use Rattle.markdown_events.specs.page.Readings.{seen_reading}
use Rattle.markdown_events.specs.InlineEvents.{EventSetting, seen_event}
use Rattle.markdown_events.specs.page.TableEvents.{AreRowEvents, AreUtf8, RowsEndBy}
use Rattle.markdown_events.proofs.page.table_events.AddedLemmas.{Completes}
use Rattle.markdown_events.proofs.page.table_events.push_rows.Given as goal

abbrev pub invariant-loop-row : goal.invariant-loop-row
invariant-loop-row g l =
    let setting : EventSetting = seen_reading g.D.Definitions.targets l.reading in
    record {
      complete : Completes (AreRowEvents setting l.columns l.before true l.fn.rows) (AreRowEvents setting l.columns l.before l.is_head l.rows)
          (map seen_event l.fn.events.items) (map seen_event l.events.items);
      end_within : RowsEndBy l.before (2 ^ 64 - 1) l.rows;
      are_utf8 : AreUtf8 l.rows;
    }

abbrev pub decreases-loop-row : goal.decreases-loop-row
decreases-loop-row g l = length l.rows
