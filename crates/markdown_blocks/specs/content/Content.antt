-- The content of leaf blocks, with the offset of each byte. (CommonMark 0.31.2, sections 2.1, 2.2, 4.2 to 4.6 and 4.8)
use Rattle.std.specs.Prelude.{ℕ, Bool, ◌||◌, ◌==◌, ◌+◌, ◌-◌, ◌<◌, ◌≤◌, List, ◌++◌, ◌≡◌, ⊤, length, take, replicate, slice_index}
use Rattle.std.specs.List.{flat_map, range_with_len, suffix_len}
use Rattle.markdown_scanners_tree.specs.Ascii.{carriage_return}
use Rattle.markdown_scanners_tree.specs.Bytes.{is_line_ending, is_space_or_tab}
use Rattle.markdown_blocks.specs.content.Parts.{Part, AreParts, is_one_run}
use Rattle.markdown_blocks.specs.declared.blocks.BlockKind.{BlockKind}
use Rattle.markdown_blocks.specs.declared.blocks.BlockKind.TheVariants.{Indented, Fenced, Html}
use Rattle.markdown_blocks.specs.declared.containers.Container.{Container}
use Rattle.markdown_blocks.specs.declared.content.Run.{Run}

-- bytes, of each its offset in the block's lines, and whether all are lent from these
pub record Placed : Type 0 where
  pub text : List ℕ
  pub offsets : List ℕ
  pub is_lent : Bool

-- the bytes stand in the block's lines one directly after another, from this offset on
abbrev pub StandsFrom : ℕ → Placed → Type 0
StandsFrom source content = (offset : ℕ) → offset < length content.text → slice_index content.offsets offset ≡ source + offset

-- they do so from some offset on: the content is one run of the block's lines
abbrev pub IsOneRun : Placed → Type 0
IsOneRun content = (offset : ℕ) × StandsFrom offset content

-- the bytes of the run stand in the block's lines one directly after another, the first of them at its offset
pub record IsRunOf (content : Placed) (run : Run) : Type 0 where
  pub within : run.end ≤ length content.text
  pub offsets : (offset : ℕ) → run.start ≤ offset → offset < run.end → slice_index content.offsets offset ≡ run.source + (offset - run.start)

-- columns of spaces or a line feed, and the bytes
abbrev pub text_of : Part → List ℕ
text_of p = replicate p.columns p.filler ++ p.bytes

-- columns stand where the byte does that they replace, directly before the bytes
abbrev pub offsets_of : Part → List ℕ
offsets_of p = replicate p.columns (p.offset - 1) ++ range_with_len p.offset (length p.bytes)

-- the parts, joined; they are lent where they are one run of the lines
abbrev pub joined : List Part → Placed
joined parts = record { text = flat_map text_of parts; offsets = flat_map offsets_of parts; is_lent = is_one_run parts }

-- without the spaces, tabs and line endings at its end
abbrev pub words_len : List ℕ → ℕ
words_len text = length text - suffix_len (λ b. is_space_or_tab b || is_line_ending b) text

-- how much of what is joined is content: of code and HTML all (4.4 to 4.6), of other text what stands before white space at its
-- end (4.8)
abbrev pub content_len : BlockKind → List ℕ → ℕ
content_len Indented text = length text
content_len (Fenced count byte) text = length text
content_len (Html kind) text = length text
content_len kind text = words_len text

abbrev pub IsCodeOrHtml : BlockKind → Type 0
IsCodeOrHtml Indented = ⊤
IsCodeOrHtml (Fenced count byte) = ⊤
IsCodeOrHtml (Html kind) = ⊤
IsCodeOrHtml kind = ⊥

-- no carriage return stands there
abbrev pub HasNoReturn : List ℕ → Type 0
HasNoReturn text = (offset : ℕ) → offset < length text → ¬ (slice_index text offset ≡ carriage_return)

-- so many of its first bytes; no bytes at all are lent too
abbrev pub front : ℕ → Placed → Placed
front n content = record { text = take n content.text; offsets = take n content.offsets; is_lent = content.is_lent || n == 0 }

abbrev pub content_with : BlockKind → List Part → Placed
content_with kind parts = front (content_len kind (joined parts).text) (joined parts)

-- the content of these lines, which are a block of this kind in these containers; its first line goes on with so many of them
pub record IsContent (kind : BlockKind) (outer : List Container) (kept : ℕ) (lines : List (List ℕ)) (content : Placed) : Type 0 where
  pub parts : List Part
  pub are_parts : AreParts kind outer kept lines parts
  pub is_content : content ≡ content_with kind parts
