-- Line starts in the caller's storage, and what C learns of calls on them. (CommonMark 0.31.2, sections 2.2, tabs, and
-- 5.1 to 5.3)
use Rattle.std.specs.Prelude.{ℕ, Bool, false, List, ◌≤◌, Option, None, Some, if◌then◌else◌}
use Rattle.markdown_values.specs.declared.values.BlockQuoteKind.{BlockQuoteKind}
use Rattle.markdown_values.specs.values.Alerts.{alert_number}
use Rattle.markdown_scanners_tree.specs.line.KnownBreaks.{AreTrueBreaks}
use Rattle.markdown_scanners_tree.specs.line.State.{LineState, IsLineState}
use Rattle.markdown_scanners_tree.specs.declared.line.known_breaks.KnownBreaks.{KnownBreaks}
use Rattle.markdown_scanners_c.specs.Status.{ok, nothing}
use Rattle.markdown_scanners_c.specs.declared.line_starts.Alert.{Alert}
use Rattle.markdown_scanners_c.specs.declared.line_starts.Columns.{Columns}
use Rattle.markdown_scanners_c.specs.declared.line_starts.LineItem.{LineItem}
use Rattle.markdown_scanners_c.specs.declared.line_starts.Start.{Start}
use Rattle.markdown_scanners_c.specs.declared.line_starts.Task.{Task}

-- the offset in these bytes
abbrev pub state_on : List ℕ → Start → LineState
state_on bytes start =
    record { bytes = bytes; offset = start.offset; pending = start.pending; phase = start.phase }

-- what is known of the thematic breaks
abbrev pub known_breaks : Start → KnownBreaks
known_breaks start = record { none_before = start.none_before; after_break = start.after_break }

-- it is true of the bytes from the offset on
abbrev pub IsTrueStart : List ℕ → Start → Type 0
IsTrueStart bytes start = AreTrueBreaks bytes (known_breaks start) start.offset

-- Where the numbers are those of an offset in these bytes, the offset has the property.
abbrev pub OfState : List ℕ → Start → (LineState → Type 0) → Type 0
OfState bytes start P = IsLineState (state_on bytes start) → P (state_on bytes start)

-- The new numbers are those of an offset in these bytes, which is not before the old one; and what was true stays true.
pub record IsNext (bytes : List ℕ) (old new : Start) : Type 0 where
  pub is_state : IsLineState (state_on bytes new)
  pub forward : old.offset ≤ new.offset
  pub truth : IsTrueStart bytes old → IsTrueStart bytes new

-- found or not, as a status
abbrev pub found_status : Bool → ℕ
found_status found = if found then ok else nothing

-- a status, and no columns
abbrev pub no_columns : ℕ → Columns
no_columns status = record { status = status; columns = 0 }

-- columns, if there are any
abbrev pub columns_returned : Option ℕ → Columns
columns_returned None = no_columns nothing
columns_returned (Some columns) = record { status = ok; columns = columns }

-- a status, and no item
abbrev pub no_item : ℕ → LineItem
no_item status = record { status = status; delimiter = 0; start = 0; indent = 0 }

-- a list item's marker, if there is one
abbrev pub item_returned : Option (ℕ × ℕ × ℕ) → LineItem
item_returned None = no_item nothing
item_returned (Some item) = record { status = ok; delimiter = item.0; start = item.1; indent = item.2 }

-- a status, and no box
abbrev pub no_task : ℕ → Task
no_task status = record { status = status; checked = false }

-- a task's box, if there is one
abbrev pub task_returned : Option Bool → Task
task_returned None = no_task nothing
task_returned (Some checked) = record { status = ok; checked = checked }

-- a status, and no alert
abbrev pub no_alert : ℕ → Alert
no_alert status = record { status = status; kind = 0 }

-- an alert, if there is one
abbrev pub alert_returned : Option BlockQuoteKind → Alert
alert_returned None = no_alert nothing
alert_returned (Some kind) = record { status = ok; kind = alert_number kind }
