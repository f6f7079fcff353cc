use Rattle.std.proofs.Common.{List, ◌++◌, ◌≡◌, drop, string_bytes}
use Rattle.markdown_blocks.specs.events.Events.{Event}
use Rattle.markdown_blocks.specs.events.Given.{GivesBlock, block_events_left}
use Rattle.markdown_blocks.specs.events.Shown.{AreShown, Shown}
use Rattle.page_blocks.specs.Printed.{lines_of_events, after_all}
use Rattle.page_blocks.specs.Printers.{printed_of}
use Rattle.page_blocks.proofs.printer.Printer.print_block.Given as goal

-- whatever events are left, and what is written in them, with their lines those of all the block's are printed
abbrev pub invariant-loop-event : goal.invariant-loop-event
invariant-loop-event l = record {
  lines : (later : List Event) (more : List Shown) → GivesBlock l.containers l.content l.events later → AreShown (drop l.events.used l.content) later more
      → (all : List Event) × (shown : List Shown) × GivesBlock l.containers l.content l.fn.events all
      × AreShown (drop l.fn.events.used l.content) all shown
      × (string_bytes l.self.text ++ lines_of_events l.self.form (printed_of l.self) more
      ≡ string_bytes l.fn.self.text ++ lines_of_events l.fn.self.form (printed_of l.fn.self) shown)
      × (after_all (printed_of l.self) more ≡ after_all (printed_of l.fn.self) shown);
  left : l.left ≡ drop l.events.used l.content;
  form : l.self.form ≡ l.fn.self.form;
}

abbrev pub decreases-loop-event : goal.decreases-loop-event
decreases-loop-event l = block_events_left l.containers l.events
