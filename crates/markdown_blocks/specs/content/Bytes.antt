-- Where the bytes of a content stand in the lines of its block. (CommonMark 0.31.2, sections 2.1 and 2.2)
use Rattle.std.specs.Prelude.{ℕ, ◌<◌, ◌≡◌, ◌⊎◌, List, length, slice_index}
use Rattle.markdown_scanners_tree.specs.Ascii.{carriage_return, line_feed, space, tab}
use Rattle.markdown_blocks.specs.content.Content.{Placed}

-- The byte stands at this offset in the lines. Or it is a space, and the tab whose column it is stands there (2.2); or a line feed, and
-- there stands the carriage return that ends a line (2.1).
abbrev pub IsByteAt : List ℕ → ℕ → ℕ → Type 0
IsByteAt lines byte offset =
    (offset < length lines)
    × ((byte ≡ slice_index lines offset)
    ⊎ (((byte ≡ space) × (slice_index lines offset ≡ tab))
    ⊎ ((byte ≡ line_feed) × (slice_index lines offset ≡ carriage_return))))

-- each byte of a content at its offset
abbrev pub AreBytesOf : List ℕ → Placed → Type 0
AreBytesOf lines content =
    (offset : ℕ) → offset < length content.text → IsByteAt lines (slice_index content.text offset) (slice_index content.offsets offset)
