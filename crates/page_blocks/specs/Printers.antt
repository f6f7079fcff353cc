-- What a printer has printed.
use Rattle.std.specs.Prelude.{ℕ, ◌≡◌, List, ◌++◌, drop, string_bytes}
use Rattle.markdown_blocks.specs.declared.containers.Container.{Container}
use Rattle.markdown_blocks.specs.events.Events.{Event}
use Rattle.markdown_blocks.specs.events.Given.{BlockLeft, GivesBlock}
use Rattle.markdown_blocks.specs.events.Shown.{AreShown, Shown}
use Rattle.page_blocks.specs.declared.printer.Printer.{Printer}
use Rattle.page_blocks.specs.Printed.{Printed, position_of, lines_of_events, after_all}

-- how far it has printed the page
abbrev pub printed_of : Printer → Printed
printed_of printer = record { at = position_of printer.at; lists = printer.lists }

-- it has printed the events that are left of a block, in these containers and with this content
pub record HasPrinted (old : Printer) (outer : List Container) (content : List ℕ) (left : BlockLeft) (new : Printer) : Type 0 where
  pub events : List Event
  pub given : GivesBlock outer content left events
  pub shown : List Shown
  pub are_shown : AreShown (drop left.used content) events shown
  pub lines : string_bytes new.text ≡ string_bytes old.text ++ lines_of_events old.form (printed_of old) shown
  pub so_far : printed_of new ≡ after_all (printed_of old) shown
