-- What is written and the rest of the text make all.
use Rattle.std.proofs.Common.{◌≡◌, ◌++◌, length, string_bytes}
use denote.Shadow.{shadow}
use denote.Text.{Utf8}
use Rattle.markdown_events.specs.LineFeeds.{with_line_feeds}
use Rattle.markdown_events.proofs.line_feeds.push_lines.Given as goal

abbrev pub invariant-loop-rest : goal.invariant-loop-rest
invariant-loop-rest l =
    shadow (Utf8 l.rest) × (string_bytes l.out ++ with_line_feeds l.rest ≡ string_bytes l.initial.out ++ with_line_feeds l.text)

abbrev pub decreases-loop-rest : goal.decreases-loop-rest
decreases-loop-rest l = length l.rest
