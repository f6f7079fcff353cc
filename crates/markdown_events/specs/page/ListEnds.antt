-- Where the lists of a page end, by its bytes and by its lines. (CommonMark 0.31.2, section 5.3)
use Rattle.std.specs.Prelude.{ℕ, true, ◌≡◌, ◌⊎◌}
use Rattle.markdown_blocks.specs.blocks.Pages.{is_blank_kind}
use Rattle.markdown_blocks.specs.events.Events.{LeafBlock, block_end}
use Rattle.markdown_blocks.specs.lists.Lists.{Nodes, nothing, leaf_then, container_then, next_line}

-- the leaf block is one of the nodes, or stands in one
abbrev pub IsLeafOf : Nodes → LeafBlock → Type 0
IsLeafOf nothing leaf = ⊥
IsLeafOf (leaf_then block later) leaf = (leaf ≡ block) ⊎ IsLeafOf later leaf
IsLeafOf (container_then container offset inner later) leaf = IsLeafOf inner leaf ⊎ IsLeafOf later leaf

-- Here a leaf block ends; or it is blank, and begins here: what ends with the blank rest of its first line ends before that.
abbrev pub EndsAt : LeafBlock → ℕ → Type 0
EndsAt leaf offset = (offset ≡ block_end leaf) ⊎ ((is_blank_kind leaf.kind ≡ true) × (offset ≡ leaf.offset))

-- What ends after so many bytes of the page ends after so many of its lines: with one of these leaf blocks, and with its last line.
abbrev pub EndAlike : (LeafBlock → Type 0) → ℕ → ℕ → Type 0
EndAlike IsOf offset line = (leaf : LeafBlock) × IsOf leaf × EndsAt leaf offset × (line ≡ next_line leaf)
