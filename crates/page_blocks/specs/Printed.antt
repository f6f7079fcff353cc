-- What the program prints of a page: a line for each of its events, and for each of its lists.
use Rattle.std.specs.Prelude.{ℕ, Bool, true, false, nat_lt, ◌+◌, ◌-◌, ◌≡◌, List}
use Rattle.std.specs.Prelude.{[], ◌∷◌, ◌++◌, length, replicate, codes, encode_utf8, Option, Some, None}
use Rattle.std.specs.Prelude.{if◌then◌else◌}
use Rattle.std.specs.Fmt.{decimal}
use Rattle.std.specs.Io.KnownBytes.{Appends, Consumes}
use Rattle.markdown_values.specs.values.Headings.{heading_number}
use Rattle.markdown_scanners_tree.specs.Ascii.{line_feed}
use Rattle.markdown_scanners_tree.specs.scanners.html_kinds.HtmlKinds.{condition_number}
use Rattle.markdown_blocks.specs.declared.blocks.BlockKind.{BlockKind}
use Rattle.markdown_blocks.specs.declared.blocks.BlockKind.TheVariants.{Blank, Break, Heading, Setext, Indented}
use Rattle.markdown_blocks.specs.declared.blocks.BlockKind.TheVariants.{Fenced, Html, Table, Definition, Paragraph}
use Rattle.markdown_values.specs.declared.values.extensions.Extensions.{Extensions}
use Rattle.markdown_blocks.specs.declared.containers.Container.{Container}
use Rattle.markdown_blocks.specs.declared.containers.Container.TheVariants.{Quote, Item, Footnote, TermDefinition}
use Rattle.markdown_blocks.specs.declared.lists.ListBlock.{ListBlock}
use Rattle.markdown_blocks.specs.events.Events.{Event, starts, leaf, ends, LeafBlock}
use Rattle.markdown_blocks.specs.events.Shown.{AreShownOf, IsShownOf, Shown, Written, end_shown, events_in}
use Rattle.markdown_blocks.specs.lists.Lists.{AreListsOf}
use Rattle.markdown_blocks.specs.lists.Tracked.{Tracked, at_start, read, closed, lists_given}
use Rattle.page_blocks.specs.declared.arguments.Form.{Form}
use Rattle.page_blocks.specs.declared.arguments.Form.TheVariants.{Words, Json}
use Rattle.markdown_blocks.specs.blocks.Pages.{Piece, IsFront}
use Rattle.markdown_blocks.specs.byte_order_mark.ByteOrderMark.{text_of, text_start}
use Rattle.markdown_blocks.specs.info.Info.{info_of}
use Rattle.markdown_blocks.specs.declared.taken.Extent.{Extent}
use Rattle.page_blocks.specs.Info.{bytes_text}
use Rattle.page_blocks.specs.Json.{kind_json, container_json, front_json, size_json, end_json, list_json, page_json}
use Rattle.page_blocks.specs.declared.printing.Front.{Front}

-- an info string after a space, or nothing
abbrev pub info_text : List ℕ → List ℕ
info_text [] = []
info_text (b ∷ info) = codes " " ++ bytes_text (b ∷ info)

-- fenced code: how many bytes of which its fence has, and its info string
abbrev pub fence_text : ℕ → ℕ → List ℕ → List ℕ
fence_text count byte info = codes "fenced " ++ decimal count ++ codes " " ++ encode_utf8 byte ++ info_text info

-- the word for a kind, with what is known of a block whose first line has this text after its containers: the level of a
-- heading, the fence of code, the number of the conditions of an HTML block, and how many columns a table has
abbrev pub kind_text : BlockKind → List ℕ → List ℕ
kind_text Blank first = codes "blank"
kind_text Break first = codes "break"
kind_text (Heading level) first = codes "heading " ++ decimal (heading_number level)
kind_text (Setext level) first = codes "setext " ++ decimal (heading_number level)
kind_text Indented first = codes "indented"
kind_text (Fenced count byte) first = fence_text count byte (info_of byte first)
kind_text (Html kind) first = codes "html " ++ decimal (condition_number kind)
kind_text (Table columns) first = codes "table " ++ decimal columns
kind_text Definition first = codes "definition"
kind_text Paragraph first = codes "paragraph"

-- the word for a container, with an item's bullet or delimiter and the number that it starts at
abbrev pub container_text : Container → List ℕ
container_text Quote = codes "quote"
container_text Footnote = codes "footnote"
container_text (TermDefinition definition) = codes "term_definition"
container_text (Item item) = codes "item " ++ encode_utf8 item.delimiter ++ codes " " ++ decimal item.start

-- the same in a form: words, or JSON, which has what is written in a definition
abbrev pub kind_printed : Form → BlockKind → List ℕ → Option Written → List ℕ
kind_printed Words kind first written = kind_text kind first
kind_printed Json kind first written = kind_json kind first written

abbrev pub container_printed : Form → Container → List ℕ
container_printed Words container = container_text container
container_printed Json container = container_json container

-- what stands in a line before that; by words no offset
abbrev pub front_printed : Form → Front → List ℕ
front_printed Words front =
    decimal front.first ++ codes " " ++ decimal front.last ++ codes " " ++ decimal front.depth ++ codes " "
front_printed Json front = front_json front

-- what stands after it of a block: how many bytes its lines have
abbrev pub size_printed : Form → ℕ → List ℕ
size_printed Words bytes = []
size_printed Json bytes = size_json bytes

-- and at the end
abbrev pub line_end : Form → List ℕ
line_end Words = line_feed ∷ []
line_end Json = codes "}" ++ line_feed ∷ []

-- how much of a page stands before what comes next
pub record Place : Type 0 where
  pub lines : ℕ
  pub bytes : ℕ

abbrev pub position_of : Extent → Place
position_of taken = record { lines = taken.lines; bytes = taken.bytes }

-- with which byte of its line an offset of the page begins, counted from 1, where so many bytes stand before the line
abbrev pub column_of : ℕ → ℕ → ℕ
column_of start position = position - start + 1

-- the line of a leaf block in so many containers
abbrev pub leaf_front : ℕ → LeafBlock → Front
leaf_front depth block = record {
  first = block.line + 1;
  last = block.line + block.lines;
  depth = depth;
  offset = block.start;
  column = column_of block.start block.offset;
}

abbrev pub leaf_line : Form → ℕ → LeafBlock → Option Written → List ℕ
leaf_line form depth block written =
    front_printed form (leaf_front depth block) ++ kind_printed form block.kind block.text written ++ size_printed form block.bytes
    ++ line_end form

-- the line of a container in so many others, whose marker stands after so many bytes of the page, and its first line after so
-- much of it
abbrev pub container_front : Place → ℕ → ℕ → Front
container_front at depth marker = record {
  first = at.lines + 1;
  last = at.lines + 1;
  depth = depth;
  offset = at.bytes;
  column = column_of at.bytes marker;
}

abbrev pub container_line : Form → Place → ℕ → Container → ℕ → List ℕ
container_line form at depth container marker =
    front_printed form (container_front at depth marker) ++ container_printed form container ++ line_end form

-- as JSON a line for the end of a container in so many others, after so much of the page
abbrev pub end_line : Form → Place → ℕ → List ℕ
end_line Words at depth = []
end_line Json at depth = end_json at.lines depth at.bytes ++ line_end Json

-- the word for a list that is loose, or is not
abbrev pub tightness : Bool → List ℕ
tightness true = codes "loose"
tightness false = codes "tight"

-- the line of a list: its bullet or delimiter, the number that it starts at, and whether it is tight
abbrev pub list_text : ListBlock → List ℕ
list_text list =
    decimal (list.line + 1) ++ codes " " ++ decimal list.end ++ codes " " ++ decimal list.depth ++ codes " list " ++ encode_utf8 list.delimiter
    ++ codes " " ++ decimal list.start ++ codes " " ++ tightness list.is_loose

abbrev pub list_line : Form → ListBlock → List ℕ
list_line Words list = list_text list ++ line_end Words
list_line Json list = list_json list ++ line_end Json

abbrev pub ended_line : Form → Option ListBlock → List ℕ
ended_line form None = []
ended_line form (Some list) = list_line form list

-- how far a page is printed: how much of it stands before what comes next, and how its lists are followed
pub record Printed : Type 0 where
  pub at : Place
  pub lists : Tracked

-- nothing of it, where its text begins after so many bytes
abbrev pub front_of : ℕ → Printed
front_of start = record { at = record { lines = 0; bytes = start }; lists = at_start }

-- how much of the page stands before what follows an event
abbrev pub position_after : Place → Event → Place
position_after at (starts container marker) = at
position_after at (leaf block) = record { lines = block.line + block.lines; bytes = block.start + block.bytes }
position_after at ends = at

abbrev pub after : Printed → Event → Printed
after p event = record { at = position_after p.at event; lists = (read p.lists event).state }

-- the line of an event, in so many containers
abbrev pub event_line : Form → Place → ℕ → Event → Option Written → List ℕ
event_line form at depth (starts container marker) written = container_line form at depth container marker
event_line form at depth (leaf block) written = leaf_line form depth block written
event_line form at depth ends written = end_line form at (depth - 1)

-- and before it that of the list that the event shows to have ended, if it shows one
abbrev pub event_lines : Form → Printed → Shown → List ℕ
event_lines form p shown =
    ended_line form (read p.lists shown.event).list ++ event_line form p.at (length p.lists.outer) shown.event shown.written

-- the lines of events, one after the other
abbrev pub lines_of_events : Form → Printed → List Shown → List ℕ
lines_of_events form p [] = []
lines_of_events form p (shown ∷ later) = event_lines form p shown ++ lines_of_events form (after p shown.event) later

-- how far the page is printed after them
abbrev pub after_all : Printed → List Shown → Printed
after_all p [] = p
after_all p (shown ∷ later) = after_all (after p shown.event) later

-- the lines of the last events of a page that is printed so far, and that of the list that its end ends
abbrev pub lines_to_end : Form → Printed → List Shown → List ℕ
lines_to_end form p shown = lines_of_events form p shown ++ ended_line form (closed (after_all p shown).lists)

-- where so many containers are open at its end
abbrev pub last_lines : Form → Printed → ℕ → List ℕ
last_lines form p depth = lines_to_end form p (replicate depth end_shown)

-- the lines of the events of a page whose text begins after so many bytes, and of its lists
abbrev pub page_lines : Form → ℕ → List Shown → List ℕ
page_lines form start shown = lines_to_end form (front_of start) shown

-- what is printed before the lines of a page of this name, of so many pages: as JSON its name, where there are two or more
abbrev pub title_of : Form → ℕ → List ℕ → List ℕ
title_of Words pages name = []
title_of Json pages name = if nat_lt 1 pages then page_json name ++ line_end Json else []

-- With these extensions on, the text has the lines of the events of the page in this form, and of its lists. (chapter 3, and sections 4.7 and 5.3)
pub record PrintsPage (asked : Extensions) (form : Form) (input text : List ℕ) : Type 0 where
  pub shown : List Shown
  pub are_its_events : IsShownOf asked input shown
  pub are_its_lists : AreListsOf asked input (lists_given at_start (events_in shown))
  pub lines : text ≡ page_lines form (text_start input) shown

-- known bytes grow by the title and by a text that has the lines of the page
abbrev pub IsPrintedTo : Extensions → Form → List ℕ → List ℕ → Option (List ℕ) → Option (List ℕ) → Type 0
IsPrintedTo asked form title input old new = (text : List ℕ) × PrintsPage asked form input text × Appends old new (title ++ text)

-- with these extensions on, the text has the lines of the events of blocks at the front of the page
pub record PrintsFront (asked : Extensions) (form : Form) (input text : List ℕ) : Type 0 where
  pub pieces : List Piece
  pub rest : List (List ℕ)
  pub shown : List Shown
  pub are_its_blocks : IsFront asked (text_of input) pieces rest
  pub are_their_events : AreShownOf [] 0 (text_start input) pieces shown
  pub lines : text ≡ lines_of_events form (front_of (text_start input)) shown

-- Known bytes grow by the title and by a text that has the lines of blocks at the front of what was read of the input, whatever
-- bytes follow that.
abbrev pub IsBegunTo : Extensions → Form → List ℕ → Option (List ℕ) → Option (List ℕ) → Option (List ℕ) → Option (List ℕ) → Type 0
IsBegunTo asked form title input left old new =
    (read : List ℕ) × Consumes input left read
    × (text : List ℕ) × ((more : List ℕ) → PrintsFront asked form (read ++ more) text) × Appends old new (title ++ text)
