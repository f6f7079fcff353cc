-- The first blocks of containers as they are followed, event by event.
use Rattle.std.specs.Prelude.{List, [], ◌∷◌, ◌++◌, Option, Some, None, if◌then◌else◌}
use Rattle.std.specs.Option.{option_map, option_to_list}
use Rattle.markdown_blocks.specs.declared.containers.Container.{Container}
use Rattle.markdown_blocks.specs.events.Events.{Event, starts, leaf, ends}
use Rattle.markdown_blocks.specs.first_blocks.FirstBlocks.{First}
use Rattle.markdown_blocks.specs.blocks.Pages.{is_blank_kind}

-- the innermost container after an event, where it has no block yet, and before the event this one had none
abbrev pub waiting_next : Option Container → Event → Option Container
waiting_next waiting (starts container offset) = Some container
waiting_next waiting (leaf block) = if is_blank_kind block.kind then waiting else None
waiting_next waiting ends = None

-- the first block that the event is
abbrev pub first_at : Option Container → Event → Option First
first_at waiting (leaf block) =
    if is_blank_kind block.kind then None else option_map (λ container. record { container = container; block = block }) waiting
first_at waiting event = None

-- the first blocks among the events that follow
abbrev pub firsts_after : Option Container → List Event → List First
firsts_after waiting [] = []
firsts_after waiting (event ∷ later) =
    option_to_list (first_at waiting event) ++ firsts_after (waiting_next waiting event) later
