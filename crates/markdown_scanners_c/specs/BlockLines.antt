-- The block at the front of a text, where the caller's containers are open. (CommonMark 0.31.2, chapters 3, 4 and 5)
use Rattle.std.specs.Prelude.{ℕ, Bool, true, false, ◌≡◌, ◌≤◌, ◌+◌, ◌-◌, ◌%◌, ◌==◌, ◌⊎◌, nat_le, if◌then◌else◌, IsTrue, MatchBool}
use Rattle.std.specs.Prelude.{List, [], ◌∷◌, ◌++◌, length, map, take, drop}
use Rattle.std.specs.List.{list_all}
use Rattle.markdown_scanners_tree.specs.line.State.{LineState}
use Rattle.markdown_blocks.specs.blocks.Pages.{NoneIsOver}
use Rattle.markdown_blocks.specs.containers.Containers.{Between, after_marker, marker_start}
use Rattle.markdown_blocks.specs.declared.containers.Container.{Container}
use Rattle.markdown_blocks.specs.declared.containers.Container.TheVariants.{Quote, Item, Footnote, TermDefinition}
use Rattle.markdown_blocks.specs.declared.step.Step.{Step}
use Rattle.markdown_blocks.specs.taken.Whole.{AreWhole}
use Rattle.markdown_blocks.specs.walk.Walk.{IsStep}
use Rattle.markdown_scanners_c.specs.Buffer.{IsWritten}
use Rattle.markdown_scanners_c.specs.Extensions.{AreExtensions, extensions_of}
use Rattle.markdown_scanners_c.specs.Pages.{block_quote, container_returned, footnote, is_container, kind_returned, of_kind, term_definition}
use Rattle.markdown_scanners_c.specs.Status.{ok, nothing, no_memory, bad_kind, bad_state}
use Rattle.markdown_scanners_c.specs.declared.block_lines.LineBlock.{LineBlock}
use Rattle.markdown_scanners_c.specs.declared.block_lines.OpenBlocks.{OpenBlocks}
use Rattle.markdown_scanners_c.specs.declared.pages.Block.{Block}

-- the container that is open: of an item or a definition of a term whose first line alone is read, and is blank after its marker, `count`
-- is 1
abbrev pub open_in : Block → Container
open_in block =
    if block.kind == block_quote then Quote
    else if block.kind == footnote then Footnote
    else if block.kind == term_definition then TermDefinition (record { starts_blank = block.count == 1; width = block.width })
    else Item (record { delimiter = block.byte; starts_blank = block.count == 1; width = block.width; start = block.number })

-- a container that is open, whose marker stands at the offset, as C has it
abbrev pub open_returned : Container → ℕ → Block
open_returned Quote offset = container_returned Quote offset
open_returned Footnote offset = container_returned Footnote offset
open_returned (TermDefinition definition) offset =
    record (container_returned (TermDefinition definition) offset) { count = if definition.starts_blank then 1 else 0 }
open_returned (Item item) offset = record (container_returned (Item item) offset) { count = if item.starts_blank then 1 else 0 }

-- containers that the rest of a line begins, one in the other, each with the offset of its marker
abbrev pub begun_returned : LineState → List Container → List Block
begun_returned s [] = []
begun_returned s (c ∷ inner) = open_returned c (marker_start s) ∷ begun_returned (after_marker s) inner

-- those that are open after a step: the ones that its line goes on with have no offset, and after them are those that it begins
abbrev pub opened_returned : Step → List Container → List Block
opened_returned step containers =
    map (λ c. open_returned c 0) (take step.kept containers) ++ begun_returned step.start (drop step.kept containers)

-- so many of the caller's containers are open, each of these is one, and the state is two bits
abbrev pub AreOpen : List Block → OpenBlocks → Type 0
AreOpen containers page =
    (page.depth ≤ length containers) × (list_all is_container (take page.depth containers) ≡ true) × (page.state ≤ 3)

-- what stands after a block as C has it: 1 for a term, and 2 for a paragraph
abbrev pub state_of : Bool → Bool → ℕ
state_of term paragraph = (if term then 1 else 0) + (if paragraph then 2 else 0)

-- what is open, the extensions that are on, and what stands there
abbrev pub outer_in : List Block → OpenBlocks → Between
outer_in containers page = record {
  extensions = extensions_of page.extensions;
  containers = map open_in (take page.depth containers);
  term = page.state % 2 == 1;
  paragraph = nat_le 2 page.state;
}

-- of the text all is read where the input has ended, and else its lines that are whole, whatever bytes follow
abbrev pub AreLinesRead : List ℕ → Bool → List ℕ → Type 0
AreLinesRead text has_ended lines =
    (count : ℕ) × MatchBool has_ended (count ≡ length text) (AreWhole text count) × (lines ≡ take count text)

-- a block whose lines stand at the front of the text, as C has it
abbrev pub step_returned : Step → Block
step_returned step = record (of_kind (kind_returned step.block.kind)) {
  indent = step.indent;
  lines = step.block.taken.lines;
  bytes = step.block.taken.bytes;
  offset = length step.line.now - length step.text.now;
}

-- no block, but a status
abbrev pub no_line : ℕ → LineBlock
no_line status = record { status = status; kept = 0; depth = 0 }

-- what is written, where the status is that of an answer
abbrev pub if_returned : {A : Type 0} → LineBlock → A → A → A
if_returned returned new old = if returned.status == ok then new else old

-- what the caller keeps for the next call, if the block is returned: how many containers are open now, and what stands there
abbrev pub page_after : OpenBlocks → LineBlock → Between → OpenBlocks
page_after page returned after =
    if_returned returned (record page { depth = returned.depth; state = state_of after.term after.paragraph }) page

-- The block at the front of the lines is returned, whatever lines follow, and the containers that are open then are written, with the
-- block; or there is no room for these.
abbrev pub IsStepReturned : Between → List ℕ → Bool → OpenBlocks → OpenBlocks → List Block → List Block → Block → Block → LineBlock → Type 0
IsStepReturned outer lines has_ended page kept old new before block returned =
    (step : Step) × (after : Between)
    × ((more : List (List ℕ)) → (IsTrue has_ended → more ≡ []) → IsStep outer lines more step after)
    × (returned.kept ≡ step.kept) × (block ≡ if_returned returned (step_returned step) before) × (kept ≡ page_after page returned after)
    × IsWritten (opened_returned step after.containers) old new returned.status returned.depth

-- Of the lines that are read the block at the front is returned, or none of them is over; or memory was refused.
abbrev pub IsLineOf : Between → List ℕ → Bool → OpenBlocks → OpenBlocks → List Block → List Block → Block → Block → LineBlock → Type 0
IsLineOf outer lines has_ended page kept old new before block returned =
    ((returned ≡ no_line no_memory) × (kept ≡ page) × (new ≡ old) × (block ≡ before))
    ⊎ ((returned ≡ no_line nothing) × (kept ≡ page) × (new ≡ old) × (block ≡ before) × NoneIsOver outer lines has_ended)
    ⊎ IsStepReturned outer lines has_ended page kept old new before block returned

-- Some bit is no extension; or what is given as open can't be, or begins no container; or the block is returned.
unfoldable pub IsLineReturned : List ℕ → Bool → OpenBlocks → OpenBlocks → List Block → List Block → Block → Block → LineBlock → Type 0
IsLineReturned text has_ended page kept old new before block returned =
    ((returned ≡ no_line bad_kind) × (kept ≡ page) × (new ≡ old) × (block ≡ before) × ¬ AreExtensions page.extensions)
    ⊎ ((returned ≡ no_line bad_state) × (kept ≡ page) × (new ≡ old) × (block ≡ before) × AreExtensions page.extensions
    × ¬ AreOpen old page)
    ⊎ (AreExtensions page.extensions × AreOpen old page
    × (lines : List ℕ) × AreLinesRead text has_ended lines
    × IsLineOf (outer_in old page) lines has_ended page kept old new before block returned)
