-- What blocks are read with, and where they stand, as the code has them.
use Rattle.markdown_events.specs.InlineEvents.{EventSetting}
use Rattle.markdown_events.specs.Targets.{Targets}
use Rattle.markdown_events.specs.declared.page.reading.Place.{Place as PlaceOfCode}
use Rattle.markdown_events.specs.declared.page.reading.Reading.{Reading}
use Rattle.markdown_events.specs.page.LeafEvents.{Place}

-- what they are read with, where labels lead so by the definitions
abbrev pub seen_reading : {D : Type 0} → (D → Targets) → Reading D → EventSetting
seen_reading targets reading = record {
  asked = reading.asked;
  targets = targets reading.definitions.now;
  cells = reading.room.cells;
}

abbrev pub seen_place : PlaceOfCode → Place
seen_place here = record { containers = here.containers.now; kept = here.kept; is_tight = here.is_tight }
