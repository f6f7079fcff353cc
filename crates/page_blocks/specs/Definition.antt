-- What is written in a definition, as the code has it.
use Rattle.std.specs.Prelude.{Option}
use Rattle.std.specs.Option.{option_map}
use Rattle.markdown_blocks.specs.declared.events.BlockEvent.{BlockEvent}
use Rattle.markdown_blocks.specs.events.Events.{seen_event}
use Rattle.markdown_blocks.specs.events.Shown.{Shown, Written}
use Rattle.page_blocks.specs.declared.definition.Definition.{Definition}

abbrev pub seen_definition : Definition → Written
seen_definition d = record {
  label = d.label.now;
  target = record { destination = d.destination.now; title = option_map (λ title. title.now) d.title };
}

abbrev pub shown_of : BlockEvent → Option Definition → Shown
shown_of event written = record { event = seen_event event; written = option_map seen_definition written }
