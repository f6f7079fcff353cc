-- Blocks of a page stand in order: where each begins and ends, and where containers do. (CommonMark 0.31.2, chapter 3, "Blocks and
-- inlines", and chapter 5)
use Rattle.std.specs.Prelude.{ℕ, suc, ◌+◌, ◌-◌, ◌≤◌, ◌<◌, ◌≡◌, ◌≢◌, List, [], ◌∷◌, ◌++◌, length, take, drop, slice_index, ⊤}
use Rattle.std.specs.List.{prefix_len}
use Rattle.markdown_scanners_tree.specs.Bytes.{is_space_or_tab}
use Rattle.markdown_scanners_tree.specs.scanners.TextLines.{lines_of}
use Rattle.markdown_blocks.specs.byte_order_mark.ByteOrderMark.{text_start}
use Rattle.markdown_blocks.specs.containers.Containers.{past_first_line}
use Rattle.markdown_blocks.specs.content.Content.{IsContent, Placed}
use Rattle.markdown_blocks.specs.content.Parts.{AreParts, one_part}
use Rattle.markdown_blocks.specs.declared.blocks.BlockKind.{BlockKind}
use Rattle.markdown_blocks.specs.declared.blocks.BlockKind.TheVariants.{Indented, Html, Paragraph}
use Rattle.markdown_blocks.specs.declared.containers.Container.{Container}
use Rattle.markdown_blocks.specs.events.Events.{Event, starts, leaf, ends, LeafBlock, block_end, first_of}
use Rattle.markdown_blocks.specs.lists.Lists.{Nodes, nothing, leaf_then, container_then}
use Rattle.markdown_blocks.specs.rows.Rows.{TextAt, rows_of}

-- how many bytes of a page stand before the end of the line that begins after so many
abbrev pub line_end : List ℕ → ℕ → ℕ
line_end page line = line + length (first_of (lines_of (drop line page)))

-- The leaf block begins with the line before which so many bytes of the page stand. Its text stands in that line, after so many
-- bytes of the page, and the whole line is of the block.
pub record BeginsIn (page : List ℕ) (line passed : ℕ) (block : LeafBlock) : Type 0 where
  pub start : block.start ≡ line
  pub after : passed ≤ block.offset
  pub in_line : block.offset ≤ line_end page line
  pub whole : line_end page line ≤ block_end block

-- Events of a page from the line on before which so many of its bytes stand, where so many are passed with what begins in that line.
-- A container begins in the line, after those that begin there before it; a leaf block has its first line from there, and the next
-- block begins where it ends. After the last of them the whole page is passed.
abbrev pub Follow : List ℕ → ℕ → ℕ → List Event → Type 0
Follow page line passed [] = (line ≡ length page) × (passed ≡ length page)
Follow page line passed (starts container offset ∷ later) =
    (passed ≤ offset) × (offset < line_end page line) × Follow page line (suc offset) later
Follow page line passed (leaf block ∷ later) =
    BeginsIn page line passed block × Follow page (block_end block) (block_end block) later
Follow page line passed (ends ∷ later) = Follow page line passed later

-- the events of a page stand in it in order, from the start of its text
abbrev pub StandInOrder : List ℕ → List Event → Type 0
StandInOrder page events = Follow page (text_start page) (text_start page) events

-- ---- the same of what stands in a container

-- how many bytes of the page stand before what follows nodes, with blank lines at their end, where so many are passed before them
abbrev pub passed_after : ℕ → Nodes → ℕ
passed_after passed nothing = passed
passed_after passed (leaf_then block later) = passed_after (block_end block) later
passed_after passed (container_then container offset inner later) = passed_after (passed_after (suc offset) inner) later

-- The nodes stand one after the other, where so many bytes of the page are passed before them: the text of a leaf block in it, and
-- what is in a container after the first byte of its marker.
abbrev pub NodesStand : ℕ → Nodes → Type 0
NodesStand passed nothing = ⊤
NodesStand passed (leaf_then block later) =
    (passed ≤ block.offset) × (block.offset ≤ block_end block) × NodesStand (block_end block) later
NodesStand passed (container_then container offset inner later) =
    (passed ≤ offset) × NodesStand (suc offset) inner × NodesStand (passed_after (suc offset) inner) later

-- each container among the nodes holds something
abbrev pub HoldSome : Nodes → Type 0
HoldSome nothing = ⊤
HoldSome (leaf_then block later) = HoldSome later
HoldSome (container_then container offset inner later) = (inner ≢ nothing) × HoldSome inner × HoldSome later

-- ---- contents

-- Where the content of a block of this kind begins in the page, or after that, where so many bytes are passed before the block and
-- its text begins at this offset: that of indented code and of HTML may have the block's indent, or a part of it. (4.4, 4.6)
abbrev pub content_from : BlockKind → ℕ → ℕ → ℕ
content_from Indented passed offset = passed
content_from (Html kind) passed offset = passed
content_from kind passed offset = offset

-- The content of a leaf block in these containers, of which its first line goes on with so many, stands there, byte by byte.
abbrev pub HoldsContent : List ℕ → List Container → ℕ → ℕ → LeafBlock → Type 0
HoldsContent page outer kept passed block =
    (content : Placed) → IsContent block.kind outer kept (lines_of (take block.bytes (drop block.start page))) content
    → (offset : ℕ) → offset < length content.offsets
    → content_from block.kind passed block.offset ≤ block.start + slice_index content.offsets offset

-- The text of a leaf block in these containers stands in its lines from its offset on. If it is a table, so does the first of its rows; if
-- it is a paragraph whose text begins with neither a space nor a tab, the content begins with that text, and with one line has no other
-- part. (4.8)
pub record HoldsText (page : List ℕ) (outer : List Container) (kept : ℕ) (block : LeafBlock) : Type 0 where
  pub within : block.offset + length block.text ≤ block_end block
  pub row : (row : TextAt) (later : List TextAt) → rows_of kept outer (lines_of (take block.bytes (drop block.start page))) ≡ row ∷ later
      → block.start + row.offset ≡ block.offset
  pub front : block.kind ≡ Paragraph → prefix_len is_space_or_tab block.text ≡ 0 → (content : Placed)
      → IsContent block.kind outer kept (lines_of (take block.bytes (drop block.start page))) content → (offset : ℕ)
      → offset < length content.text → offset < length block.text → slice_index content.text offset ≡ slice_index block.text offset
  pub line : block.kind ≡ Paragraph → prefix_len is_space_or_tab block.text ≡ 0 → block.lines ≡ 1
      → AreParts block.kind outer kept (lines_of (take block.bytes (drop block.start page))) (one_part (block.offset - block.start) block.text)

-- the same of each leaf block among nodes in these containers, of which the line goes on with so many, and where so many bytes of the
-- page are passed before them
abbrev pub ContentsStand : List ℕ → List Container → ℕ → ℕ → Nodes → Type 0
ContentsStand page outer kept passed nothing = ⊤
ContentsStand page outer kept passed (leaf_then block later) =
    HoldsContent page outer kept passed block × HoldsText page outer kept block × ContentsStand page outer (length outer) (block_end block) later
ContentsStand page outer kept passed (container_then container offset inner later) =
    ContentsStand page (outer ++ past_first_line container ∷ []) kept (suc offset) inner
    × ContentsStand page outer (length outer) (passed_after (suc offset) inner) later
