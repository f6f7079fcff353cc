-- What a command comes to, as the program keeps it.
use Rattle.std.specs.Prelude.{ℕ, List}
use Rattle.markdown_values.specs.strings.Text.{cow_text}
use Rattle.cmark_scan.specs.printing.Outcome.{Outcome}
use Rattle.cmark_scan.specs.declared.report.Ended.{Ended}
use Rattle.cmark_scan.specs.declared.report.Ended.TheVariants.{Done, Stopped, NotText}
use Rattle.cmark_scan.specs.declared.report.Report.{Report}

-- the status that an end stands for
abbrev pub status_of : Ended → ℕ
status_of Done = 0
status_of Stopped = 1
status_of NotText = 1

-- a text that is printed, and an end
abbrev pub outcome_of : List ℕ → Ended → Outcome
outcome_of text ended = record { printed = text; status = status_of ended }

abbrev pub outcome_view : Report → Outcome
outcome_view report = outcome_of (cow_text report.text) report.ended
