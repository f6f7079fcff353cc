-- No more cells are missing in the rows that are left than are left, exactly if no more are in all rows than in all.
use Rattle.std.proofs.Common.{◌≡◌}
use Rattle.markdown_events.specs.page.TableEvents.{are_filled}
use Rattle.markdown_events.proofs.page.table_events.miss_few.Given as goal

abbrev pub invariant-loop-row : goal.invariant-loop-row
invariant-loop-row l = are_filled l.left l.columns l.rows ≡ are_filled l.fn.cells l.columns l.fn.rows
