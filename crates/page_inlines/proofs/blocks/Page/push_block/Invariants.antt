use Rattle.std.proofs.Common.{List, ℕ, ◌++◌, string_bytes}
use Rattle.markdown_blocks.specs.events.Events.{Event}
use Rattle.markdown_blocks.specs.events.Given.{GivesBlock, block_events_left}
use Rattle.page_inlines.specs.BlockTexts.{HasPrinted, IsEventsText}
use Rattle.page_inlines.specs.Labels.{setting_of}
use Rattle.page_inlines.proofs.blocks.Page.push_block.Given as goal

-- whatever is printed of the events that are left, with it those of the whole block are printed
abbrev pub invariant-loop-event : goal.invariant-loop-event
invariant-loop-event l =
    (later : List Event) (more : List ℕ) → GivesBlock l.containers l.content l.events later
    → IsEventsText (setting_of l.self) l.self.bytes.now l.containers l.going_on later more
    → HasPrinted (setting_of l.self) l.self.bytes.now l.containers l.kept l.content l.fn.events
    (string_bytes l.fn.out.text) (string_bytes l.out.text ++ more)

abbrev pub decreases-loop-event : goal.decreases-loop-event
decreases-loop-event l = block_events_left l.containers l.events
