-- How many events a page has, by its bytes.
use Rattle.std.specs.Prelude.{ℕ, ◌+◌, ◌*◌, ◌≤◌, List, length}
use Rattle.markdown_events.specs.InlineEvents.{RangedEvent}

-- A page has no more events than these. For each byte four are for a container that it begins and for the list of that, two for the
-- leaf block that it is of, and three for what stands in that; two more are for a cell, of which a page may have as many as bytes, and as
-- many or 100000 that rows are filled in with.
abbrev pub EventsFit : List ℕ → List RangedEvent → Type 0
EventsFit page events = length events ≤ 13 * length page + 200000
