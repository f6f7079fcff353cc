-- What the command that prints events in a form says of itself.
use Rattle.std.specs.Prelude.{ℕ, List}
use Rattle.page_events.specs.declared.help.TheConstants.{HELP, JSON_HELP, JSON_USAGE, USAGE}
use Rattle.page_events.specs.declared.page.EventForm.{EventForm}
use Rattle.page_events.specs.declared.page.EventForm.TheVariants.{Words, Json}

-- what is written after an option that is not known
abbrev pub usage_of : EventForm → List ℕ
usage_of Words = USAGE.now
usage_of Json = JSON_USAGE.now

-- what `--help` prints
abbrev pub help_of : EventForm → List ℕ
help_of Words = HELP.now
help_of Json = JSON_HELP.now
