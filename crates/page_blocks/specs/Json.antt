-- The blocks of a page as JSON Lines.
use Rattle.std.specs.Prelude.{ℕ, Bool, true, false, not, ◌+◌, List, [], ◌++◌, Option, None, Some, codes, encode_utf8}
use Rattle.std.specs.Fmt.{decimal}
use Rattle.markdown_values.specs.values.Headings.{heading_number}
use Rattle.markdown_scanners_tree.specs.scanners.html_kinds.HtmlKinds.{condition_number}
use Rattle.markdown_blocks.specs.declared.blocks.BlockKind.{BlockKind}
use Rattle.markdown_blocks.specs.declared.blocks.BlockKind.TheVariants.{Blank, Break, Heading, Setext, Indented}
use Rattle.markdown_blocks.specs.declared.blocks.BlockKind.TheVariants.{Fenced, Html, Table, Definition, Paragraph}
use Rattle.markdown_blocks.specs.declared.containers.Container.{Container}
use Rattle.markdown_blocks.specs.declared.containers.Container.TheVariants.{Quote, Item, Footnote, TermDefinition}
use Rattle.markdown_blocks.specs.declared.lists.ListBlock.{ListBlock}
use Rattle.markdown_blocks.specs.events.Shown.{Written}
use Rattle.markdown_blocks.specs.info.Info.{info_of}
use Rattle.page_blocks.specs.declared.printing.Front.{Front}
use Rattle.page_blocks.specs.Info.{byte_text, json_text, text_json}

-- the first line, the last one, how many containers stand around, how many bytes of the page before the first line, and which of
-- its bytes the text or the marker begins with, at the front of an object, and the name of its kind
abbrev pub front_json : Front → List ℕ
front_json front =
    codes "{\"first\":" ++ decimal front.first ++ codes ",\"last\":" ++ decimal front.last ++ codes ",\"depth\":" ++ decimal front.depth
    ++ codes ",\"offset\":" ++ decimal front.offset ++ codes ",\"column\":" ++ decimal front.column ++ codes ",\"kind\":"

-- the end of a container: its last line, how many containers stand around it, and how many bytes of the page before what follows it
abbrev pub end_json : ℕ → ℕ → ℕ → List ℕ
end_json last depth end =
    codes "{\"last\":" ++ decimal last ++ codes ",\"depth\":" ++ decimal depth ++ codes ",\"end\":" ++ decimal end ++ codes ",\"kind\":\"end\""

-- what holds, or does not
abbrev pub truth : Bool → List ℕ
truth true = codes "true"
truth false = codes "false"

-- a bullet or delimiter, and the number that it starts at
abbrev pub marker_json : ℕ → ℕ → List ℕ
marker_json delimiter start =
    codes ",\"delimiter\":\"" ++ encode_utf8 delimiter ++ codes "\",\"start\":" ++ decimal start

-- a list: its lines, how many containers stand around it, its bullet or delimiter, the number that it starts at, and whether it is tight
abbrev pub list_json : ListBlock → List ℕ
list_json list =
    codes "{\"first\":" ++ decimal (list.line + 1) ++ codes ",\"last\":" ++ decimal list.end ++ codes ",\"depth\":" ++ decimal list.depth
    ++ codes ",\"kind\":\"list\"" ++ marker_json list.delimiter list.start ++ codes ",\"tight\":" ++ truth (not list.is_loose)

-- the name of a page
abbrev pub page_json : List ℕ → List ℕ
page_json name = codes "{\"page\":\"" ++ json_text name ++ codes "\""

-- how many bytes a block's lines have, at the end of its object
abbrev pub size_json : ℕ → List ℕ
size_json bytes = codes ",\"bytes\":" ++ decimal bytes

-- a definition's label, destination and title, if it has one, as they are written
abbrev pub title_json : Option (List ℕ) → List ℕ
title_json None = []
title_json (Some title) = text_json (codes "title") title

abbrev pub written_json : Written → List ℕ
written_json written =
    text_json (codes "label") written.label ++ text_json (codes "destination") written.target.destination
    ++ title_json written.target.title

abbrev pub definition_json : Option Written → List ℕ
definition_json None = []
definition_json (Some written) = written_json written

-- the kind, and what is known of a block whose first line has this text after its containers; of a definition what is written in it
abbrev pub kind_json : BlockKind → List ℕ → Option Written → List ℕ
kind_json Blank first written = codes "\"blank\""
kind_json Break first written = codes "\"break\""
kind_json (Heading level) first written = codes "\"heading\",\"level\":" ++ decimal (heading_number level)
kind_json (Setext level) first written = codes "\"setext\",\"level\":" ++ decimal (heading_number level)
kind_json Indented first written = codes "\"indented\""
kind_json (Fenced count byte) first written =
    codes "\"fenced\",\"count\":" ++ decimal count ++ codes ",\"fence\":\"" ++ byte_text byte ++ codes "\""
    ++ text_json (codes "info") (info_of byte first)
kind_json (Html kind) first written = codes "\"html\",\"condition\":" ++ decimal (condition_number kind)
kind_json (Table columns) first written = codes "\"table\",\"columns\":" ++ decimal columns
kind_json Definition first written = codes "\"definition\"" ++ definition_json written
kind_json Paragraph first written = codes "\"paragraph\""

-- the kind of a container; of an item its marker too; and by how many columns its text is indented, or that of a definition
abbrev pub container_json : Container → List ℕ
container_json Quote = codes "\"quote\""
container_json Footnote = codes "\"footnote\""
container_json (TermDefinition definition) = codes "\"term_definition\",\"indent\":" ++ decimal definition.width
container_json (Item item) =
    codes "\"item\"" ++ marker_json item.delimiter item.start ++ codes ",\"indent\":" ++ decimal item.width
