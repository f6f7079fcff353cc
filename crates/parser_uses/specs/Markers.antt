-- What lines begin with, in the words of the line starts. Callers take these words as they are; the function that answers one opens it.
use Rattle.std.specs.Prelude.{ℕ, Bool, List, Option}
use Rattle.markdown_scanners_tree.specs.line.State.{LineState, after_space}
use Rattle.markdown_scanners_tree.specs.line.Outcome.{after_quote, item_outcome, task_outcome}

-- the start of a line
abbrev pub start_of : List ℕ → LineState
start_of line = record { bytes = line; offset = 0; pending = 0; phase = 0 }

-- the offset after at most three spaces and the marker of a block quote
unfoldable pub past_quote : LineState → LineState
past_quote start = after_quote (after_space 3 start)

-- the list item after at most three spaces: its bullet or delimiter, its start number and the indent of its text
unfoldable pub item_after : LineState → Option (ℕ × ℕ × ℕ)
item_after start = (item_outcome 0 (after_space 3 start)).answer

-- the offset after at most three spaces and the marker of a list item
unfoldable pub after_item : LineState → LineState
after_item start = (item_outcome 0 (after_space 3 start)).state

-- whether the box of a task list item, after at most three spaces, is ticked
unfoldable pub box_after : LineState → Option Bool
box_after start = (task_outcome start).answer
