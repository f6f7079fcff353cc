-- The lines of a leaf block, and the definitions of the page's events.
use Rattle.std.proofs.Common.{ℕ, List, ◌≡◌, drop}
use Rattle.markdown_blocks.specs.declared.taken.Extent.{Extent}
use Rattle.markdown_blocks.specs.events.Events.{LeafBlock}
use Rattle.markdown_blocks.specs.taken.Lines.{IsTaken}
use Rattle.page_links.specs.definitions.Definitions.{AreLinesOf}

-- so many lines of so many bytes are taken
pub lines_taken : (page : List ℕ) (block : LeafBlock) (lines : List (List ℕ)) (taken : Extent) → taken.bytes ≡ block.bytes → taken.lines ≡ block.lines
    → AreLinesOf page block lines → IsTaken (drop block.start page) taken lines
lines_taken page block lines taken bytes count are = record {
  within = rw bytes are.within;
  parts = rw bytes are.parts;
  counted = rw count are.counted;
}
