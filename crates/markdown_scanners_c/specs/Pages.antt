-- The blocks of a page, and the content of a leaf block. (CommonMark 0.31.2, chapters 3, 4 and 5)
use Rattle.std.specs.Prelude.{ℕ, Bool, false, true, List, ◌≡◌, ◌≤◌, ◌+◌, ◌==◌, ◌||◌, ◌⊎◌}
use Rattle.std.specs.Prelude.{drop, length, map, take, if◌then◌else◌}
use Rattle.std.specs.List.{list_all}
use Rattle.markdown_values.specs.values.Headings.{heading_number}
use Rattle.markdown_scanners_tree.specs.scanners.TextLines.{lines_of}
use Rattle.markdown_scanners_tree.specs.scanners.html_kinds.HtmlKinds.{condition_number}
use Rattle.markdown_blocks.specs.content.Content.{IsContent, Placed}
use Rattle.markdown_blocks.specs.declared.blocks.BlockKind.{BlockKind}
use Rattle.markdown_blocks.specs.declared.blocks.BlockKind.TheVariants.{Blank, Break, Heading, Setext, Indented, Fenced, Html, Table}
use Rattle.markdown_blocks.specs.declared.blocks.BlockKind.TheVariants.{Definition, Paragraph}
use Rattle.markdown_blocks.specs.declared.containers.Container.{Container}
use Rattle.markdown_blocks.specs.declared.containers.Container.TheVariants.{Quote, Item, Footnote, TermDefinition}
use Rattle.markdown_blocks.specs.events.Events.{Event, starts, leaf, ends, LeafBlock, IsEventsOf}
use Rattle.markdown_scanners_c.specs.Buffer.{IsWritten}
use Rattle.markdown_scanners_c.specs.Extensions.{AreExtensions, extensions_of}
use Rattle.markdown_scanners_c.specs.Status.{bad_kind, no_memory, past_end}
use Rattle.markdown_scanners_c.specs.Texts.{IsNoText}
use Rattle.markdown_scanners_c.specs.declared.pages.Block.{Block}
use Rattle.markdown_scanners_c.specs.declared.pages.Kind.{Kind}
use Rattle.markdown_scanners_c.specs.declared.pages.BlockCount.{BlockCount}
use Rattle.markdown_scanners_c.specs.declared.texts.Text.{Text}

-- the numbers of `enum mds_block_kind` that no leaf block has: a container ends, or one begins
abbrev pub container_end : ℕ
container_end = 0

abbrev pub block_quote : ℕ
block_quote = 1

abbrev pub list_item : ℕ
list_item = 2

-- a footnote definition, which begins only where the extension is on
abbrev pub footnote : ℕ
footnote = 13

-- a definition of the term before it, which begins only where the extension is on
abbrev pub term_definition : ℕ
term_definition = 14

-- of a leaf block the number of its kind; the level of a heading, or the start condition of HTML; the byte of a fence; and how many
-- of it a fence has, or a table columns
abbrev pub kind_returned : BlockKind → Kind
kind_returned Blank = record { kind = 3; number = 0; byte = 0; count = 0 }
kind_returned Break = record { kind = 4; number = 0; byte = 0; count = 0 }
kind_returned (Heading level) = record { kind = 5; number = heading_number level; byte = 0; count = 0 }
kind_returned (Setext level) = record { kind = 6; number = heading_number level; byte = 0; count = 0 }
kind_returned Indented = record { kind = 7; number = 0; byte = 0; count = 0 }
kind_returned (Fenced count byte) = record { kind = 8; number = 0; byte = byte; count = count }
kind_returned (Html kind) = record { kind = 9; number = condition_number kind; byte = 0; count = 0 }
kind_returned (Table columns) = record { kind = 10; number = 0; byte = 0; count = columns }
kind_returned Definition = record { kind = 11; number = 0; byte = 0; count = 0 }
kind_returned Paragraph = record { kind = 12; number = 0; byte = 0; count = 0 }

-- these numbers in a block, which stands nowhere
abbrev pub of_kind : Kind → Block
of_kind it = record {
  kind = it.kind;
  number = it.number;
  byte = it.byte;
  width = 0;
  count = it.count;
  indent = 0;
  line = 0;
  lines = 0;
  start = 0;
  bytes = 0;
  offset = 0;
}

-- a container whose marker stands at the offset: of a list item its bullet or delimiter, its start, and the indent of its text; and that of
-- a definition of a term
abbrev pub container_returned : Container → ℕ → Block
container_returned Quote offset = record (of_kind (record { kind = block_quote; number = 0; byte = 0; count = 0 })) { offset = offset }
container_returned Footnote offset = record (of_kind (record { kind = footnote; number = 0; byte = 0; count = 0 })) { offset = offset }
container_returned (TermDefinition definition) offset = record (of_kind (record { kind = term_definition; number = 0; byte = 0; count = 0 })) {
  width = definition.width;
  offset = offset;
}
container_returned (Item item) offset = record (of_kind (record { kind = list_item; number = item.start; byte = item.delimiter; count = 0 })) {
  width = item.width;
  offset = offset;
}

abbrev pub leaf_returned : LeafBlock → Block
leaf_returned b = record (of_kind (kind_returned b.kind)) {
  indent = b.indent;
  line = b.line;
  lines = b.lines;
  start = b.start;
  bytes = b.bytes;
  offset = b.offset;
}

abbrev pub event_returned : Event → Block
event_returned (starts container offset) = container_returned container offset
event_returned (leaf b) = leaf_returned b
event_returned ends = of_kind (record { kind = container_end; number = 0; byte = 0; count = 0 })

-- Some bit is no extension; or memory was refused; or the events of the page are written.
abbrev pub IsPageAnswer : List ℕ → ℕ → List Block → List Block → BlockCount → Type 0
IsPageAnswer page bits old new answer =
    ((answer.status ≡ bad_kind) × (answer.count ≡ 0) × (new ≡ old) × ¬ AreExtensions bits)
    ⊎ ((answer.status ≡ no_memory) × (answer.count ≡ 0) × (new ≡ old) × AreExtensions bits)
    ⊎ ((events : List Event) × AreExtensions bits × IsEventsOf (extensions_of bits) page events
    × IsWritten (map event_returned events) old new answer.status answer.count)

-- the kind that a block's numbers name
abbrev pub kind_in : Block → Kind
kind_in block = record { kind = block.kind; number = block.number; byte = block.byte; count = block.count }

abbrev pub HasKind : Block → BlockKind → Type 0
HasKind block kind = kind_returned kind ≡ kind_in block

-- a block begins a container, which is this, where a second line of it is read
abbrev pub is_container : Block → Bool
is_container block =
    block.kind == block_quote || block.kind == list_item || block.kind == footnote || block.kind == term_definition

abbrev pub container_in : Block → Container
container_in block =
    if block.kind == block_quote then Quote
    else if block.kind == footnote then Footnote
    else if block.kind == term_definition then TermDefinition (record { starts_blank = false; width = block.width })
    else Item (record { delimiter = block.byte; starts_blank = false; width = block.width; start = block.number })

-- the block's lines stand in the page, and these are they
abbrev pub StandsIn : List ℕ → Block → Type 0
StandsIn page block = block.start + block.bytes ≤ length page

abbrev pub lines_in : List ℕ → Block → List (List ℕ)
lines_in page block = lines_of (take block.bytes (drop block.start page))

-- the numbers are those of no leaf block, or of no container that begins
abbrev pub IsNoLeaf : Block → List Block → Type 0
IsNoLeaf block containers =
    ((kind : BlockKind) → ¬ HasKind block kind) ⊎ (list_all is_container containers ≡ false)

-- The content of a leaf block is written, which stands in these containers and whose first line goes on with so many of them; or why
-- it can't be had.
unfoldable pub IsContentReturned : List ℕ → Block → List Block → ℕ → List ℕ → List ℕ → Text → Type 0
IsContentReturned page block containers kept old new text =
    (IsNoText past_end text × (new ≡ old) × ¬ StandsIn page block)
    ⊎ (IsNoText bad_kind text × (new ≡ old) × StandsIn page block × IsNoLeaf block containers)
    ⊎ (IsNoText no_memory text × (new ≡ old) × StandsIn page block × ¬ IsNoLeaf block containers)
    ⊎ ((kind : BlockKind) × (content : Placed) × StandsIn page block × HasKind block kind
    × (list_all is_container containers ≡ true)
    × IsContent kind (map container_in containers) kept (lines_in page block) content
    × (text.taken ≡ block.bytes) × IsWritten content.text old new text.status text.length)
