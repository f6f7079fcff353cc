-- How long HTML is at most, by the events that it is of, and by the page.
use Rattle.std.specs.Prelude.{ℕ, ◌+◌, ◌*◌, ◌≤◌, List, [], ◌∷◌, length, Some}
use Rattle.std.specs.Fmt.{decimal}
use Rattle.markdown_values.specs.values.Events.{EventView, start, text, code, inline_math, display_math, html, inline_html, footnote_reference}
use Rattle.markdown_values.specs.values.Tags.{TagView, code_block, list, link, image}

-- how many bytes stand in a tag that may be written: an info string, the number of a list, or an address and a title
abbrev pub tag_bytes : TagView (List ℕ) → ℕ
tag_bytes (code_block (Some info)) = length info
tag_bytes (list (Some first)) = length (decimal first)
tag_bytes (link kind address title label) = length address + length title
tag_bytes (image kind address title label) = length address + length title
tag_bytes tag = 0

-- and in an event: those of its tag, or of its text
abbrev pub event_bytes : EventView (List ℕ) → ℕ
event_bytes (start tag) = tag_bytes tag
event_bytes (text words) = length words
event_bytes (code words) = length words
event_bytes (inline_math words) = length words
event_bytes (display_math words) = length words
event_bytes (html words) = length words
event_bytes (inline_html words) = length words
event_bytes (footnote_reference words) = length words
event_bytes event = 0

abbrev pub bytes_of : List (EventView (List ℕ)) → ℕ
bytes_of [] = 0
bytes_of (event ∷ later) = event_bytes event + bytes_of later

-- The HTML of events has no more than 55 bytes for each of them, as the tags of an image that is written as a link to an e-mail address
-- have, and six for each byte of their texts, as `&quot;` has.
abbrev pub FitsEvents : List (EventView (List ℕ)) → List ℕ → Type 0
FitsEvents events written = length written ≤ 55 * length events + 6 * bytes_of events

-- The HTML of a page has no more than so many bytes for each of its bytes, and so many more for what references and cells that rows are
-- filled in with add to a short one. For each byte 53 are for a container that it begins and for the list of that, 45 for the leaf block
-- that it is of, and 65 for what stands in that, of which 36 are for inlines, as of the entity `&nLt;`. 25 are for each cell, of which a
-- page has no more than it has bytes, and those that are filled in, which are as many or 100000; and 6 for each byte of references, which
-- are no more.
abbrev pub FitsPage : List ℕ → List ℕ → Type 0
FitsPage page written = length written ≤ 219 * length page + 3100000
