-- The metadata block that a page begins with: YAML between `---`, or text between `+++`. (No part of CommonMark.)
use Rattle.std.specs.Prelude.{ℕ, Bool, ◌+◌, ◌-◌, ◌<◌, ◌==◌, ◌≡◌, List, drop, get_or, if◌then◌else◌}
use Rattle.markdown_scanners_tree.specs.Ascii.{hyphen, line_feed}
use Rattle.markdown_scanners_tree.specs.Bytes.{line_length}
use Rattle.markdown_scanners_tree.specs.scanners.Lines.{next_line}
use Rattle.markdown_scanners_tree.specs.scanners.Metadata.{IsClosingMetadataBlock, IsMetadataBlock}
use Rattle.markdown_values.specs.declared.values.MetadataBlockKind.{MetadataBlockKind}
use Rattle.markdown_values.specs.declared.values.MetadataBlockKind.TheVariants.{YamlStyle, PlusesStyle}
use Rattle.markdown_blocks.specs.byte_order_mark.ByteOrderMark.{text_of, text_start}
use Rattle.markdown_blocks.specs.declared.metadata.Metadata.{Metadata}

-- the style of a block that the byte opens
abbrev pub style_of : ℕ → MetadataBlockKind
style_of byte = if byte == hyphen then YamlStyle else PlusesStyle

-- A line begins at this offset, directly after an LF, that closes a block which the byte opens.
abbrev pub ClosesAt : List ℕ → ℕ → ℕ → Type 0
ClosesAt page byte offset = (get_or page (offset - 1) 0 ≡ line_feed) × (n : ℕ) × IsClosingMetadataBlock (drop offset page) byte n

-- The metadata block that a text begins with, of a style that is enabled: its content stands between its first line and the first
-- line after the next that closes it, and the page's blocks begin after that.
pub record IsTextMetadata (text : List ℕ) (yaml pluses : Bool) (m : Metadata) : Type 0 where
  pub byte : ℕ
  pub block : IsMetadataBlock text yaml pluses byte
  pub kind : m.kind ≡ style_of byte
  pub start : m.start ≡ next_line text
  pub later : m.start < m.end
  pub closed : ClosesAt text byte m.end
  pub first : (offset : ℕ) → m.start < offset → offset < m.end → ¬ ClosesAt text byte offset
  pub len : m.len ≡ m.end + line_length (drop m.end text)

-- the same after so many bytes
abbrev pub moved : ℕ → Metadata → Metadata
moved count m = record { kind = m.kind; start = count + m.start; end = count + m.end; len = count + m.len }

-- the metadata block that a page begins with: that of its text, in bytes of the page
abbrev pub IsMetadata : List ℕ → Bool → Bool → Metadata → Type 0
IsMetadata page yaml pluses m = (found : Metadata) × IsTextMetadata (text_of page) yaml pluses found × (m ≡ moved (text_start page) found)
