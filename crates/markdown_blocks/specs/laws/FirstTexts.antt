-- How the text of a paragraph begins that is the first block of a container.
use Rattle.std.specs.Prelude.{◌≡◌, List, [], ◌∷◌, Option, Some, None, ⊤}
use Rattle.std.specs.List.{prefix_len}
use Rattle.markdown_scanners_tree.specs.Bytes.{is_space_or_tab}
use Rattle.markdown_blocks.specs.declared.blocks.BlockKind.TheVariants.{Paragraph}
use Rattle.markdown_blocks.specs.declared.containers.Container.{Container}
use Rattle.markdown_blocks.specs.events.Events.{Event, starts, leaf, ends, LeafBlock}
use Rattle.markdown_blocks.specs.first_blocks.Waiting.{waiting_next}

-- If the block is a paragraph, and the first block of this container, its text begins with neither a space nor a tab: four columns of
-- space would be indented code. (4.4)
abbrev pub BeginsPlain : Option Container → LeafBlock → Type 0
BeginsPlain None block = ⊤
BeginsPlain (Some container) block = block.kind ≡ Paragraph → prefix_len is_space_or_tab block.text ≡ 0

-- so does each block among the events, before which this container has no block yet
abbrev pub FirstsBeginPlain : Option Container → List Event → Type 0
FirstsBeginPlain waiting [] = ⊤
FirstsBeginPlain waiting (starts container offset ∷ later) = FirstsBeginPlain (Some container) later
FirstsBeginPlain waiting (leaf block ∷ later) = BeginsPlain waiting block × FirstsBeginPlain (waiting_next waiting (leaf block)) later
FirstsBeginPlain waiting (ends ∷ later) = FirstsBeginPlain None later
