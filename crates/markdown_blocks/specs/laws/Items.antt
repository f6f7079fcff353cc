-- List items as rules say them, of lines and blocks alone, with whatever extensions on.
-- (CommonMark 0.31.2, section 5.2, list items)
use Rattle.std.specs.Prelude.{ℕ, true, false, not, ◌≡◌, ◌≤◌, ◌<◌, ◌+◌, ◌⊎◌, ◌++◌, List, [], ◌∷◌, length, replicate, IsTrue}
use Rattle.std.specs.List.{list_all, AllZip}
use Rattle.markdown_scanners_tree.specs.Ascii.{space}
use Rattle.markdown_scanners_tree.specs.Bytes.{begins_with, is_line_ending, is_space_or_tab}
use Rattle.markdown_scanners_tree.specs.line.ItemRules.{start_of}
use Rattle.markdown_scanners_tree.specs.scanners.Breaks.{is_thematic_break}
use Rattle.markdown_scanners_tree.specs.scanners.list_items.ListItem.{IsListMarker}
use Rattle.markdown_blocks.specs.blank_lines.BlankLines.{is_blank}
use Rattle.markdown_blocks.specs.containers.Containers.{rest_at, without_terms}
use Rattle.markdown_blocks.specs.declared.blocks.BlockKind.TheVariants.{Blank}
use Rattle.markdown_values.specs.declared.values.extensions.Extensions.{Extensions}
use Rattle.markdown_blocks.specs.declared.containers.Container.{Container}
use Rattle.markdown_blocks.specs.declared.containers.Container.TheVariants.{Item}
use Rattle.markdown_blocks.specs.blocks.Leaves.{HasIndent, IsLazy, OnFirst}
use Rattle.markdown_blocks.specs.blocks.Pages.{Piece, lines_in}
use Rattle.markdown_blocks.specs.laws.Held.{KeepsTabs, IsHeldIn, AreIn}

-- a list marker, with its bullet or delimiter and its start number, and how many spaces stand before and after it
pub record Lead : Type 0 where
  pub indent : ℕ
  pub marker : List ℕ
  pub delimiter : ℕ
  pub start : ℕ
  pub gap : ℕ

-- at most three spaces before the marker, and one to four after it
pub record IsLead (lead : Lead) : Type 0 where
  pub few : lead.indent ≤ 3
  pub is_marker : IsListMarker lead.marker lead.delimiter lead.start
  pub some : 1 ≤ lead.gap
  pub most : lead.gap ≤ 4

-- how wide they are together, and the item with its text so far in
abbrev pub width_of : Lead → ℕ
width_of lead = lead.indent + length lead.marker + lead.gap

abbrev pub item_by : Lead → Container
item_by lead = Item (record { delimiter = lead.delimiter; starts_blank = false; width = width_of lead; start = lead.start })

-- the marker with what stands after it, before the line
abbrev pub marked_line : Lead → List ℕ → List ℕ
marked_line lead line = lead.marker ++ (replicate lead.gap space ++ line)

-- The first line of an item, which is not blank. It begins with no space and no tab (rule 1), or with the indent of indented code,
-- and one space stands after the marker (rule 2). With the marker it is no thematic break.
pub record IsItemLine (lead : Lead) (line changed : List ℕ) : Type 0 where
  pub parts : changed ≡ replicate lead.indent space ++ marked_line lead line
  pub text : IsTrue (not (is_blank line))
  pub after : IsTrue (not (begins_with is_space_or_tab line)) ⊎ ((lead.gap ≡ 1) × HasIndent (rest_at (start_of line)))
  pub no_break : IsTrue (not (is_thematic_break (marked_line lead line)))
  pub tabs : KeepsTabs (width_of lead) line

-- A later line: after so many spaces, or a blank line as it is.
abbrev pub IsIndentedLine : ℕ → List ℕ → List ℕ → Type 0
IsIndentedLine width line changed =
    (IsTrue (not (is_blank line)) × (changed ≡ replicate width space ++ line) × KeepsTabs width line)
    ⊎ (IsTrue (is_blank line) × (changed ≡ line))

-- A later line with fewer spaces, as paragraph continuation text. (rule 5)
pub record IsLessIndented (asked : Extensions) (width : ℕ) (line bare : List ℕ) : Type 0 where
  pub spaces : ℕ
  pub left : ℕ
  pub rest : List ℕ
  pub parts : line ≡ replicate spaces space ++ rest
  pub bare_parts : bare ≡ replicate left space ++ rest
  pub fewer : left < width
  pub text : IsTrue (not (begins_with is_space_or_tab rest))
  pub some : IsTrue (not (is_blank rest))
  pub goes_on : IsLazy (without_terms asked) (start_of bare)

-- The blocks are one list item of these: their lines after a marker and its spaces, which stand before the first line, and as many
-- spaces before the others. (rules 1, 2, 4 and 5)
abbrev pub AreInItem : Extensions → Lead → List Piece → List Piece → Type 0
AreInItem asked lead =
    AreIn (item_by lead) (IsItemLine lead) (IsIndentedLine (width_of lead)) (IsLessIndented asked (width_of lead))

-- the item where its first line alone is read, which is blank after the marker
abbrev pub begun_by : Lead → Container
begun_by lead = Item (record { delimiter = lead.delimiter; starts_blank = true; width = width_of lead; start = lead.start })

-- The first line of an item that begins with a blank line: after the marker stands a line ending, or nothing.
pub record IsMarkerAlone (lead : Lead) (line changed : List ℕ) : Type 0 where
  pub parts : changed ≡ replicate lead.indent space ++ (lead.marker ++ line)
  pub empty : IsTrue (list_all is_line_ending line)
  pub no_break : IsTrue (not (is_thematic_break (lead.marker ++ line)))

-- a single blank line, in no container
pub record IsSingleBlank (piece : Piece) (pieces : List Piece) : Type 0 where
  pub kind : piece.kind ≡ Blank
  pub outside : piece.begun ≡ []
  pub alone : piece.later ≡ []
  pub text_follows : OnFirst (λ line. IsTrue (not (is_blank line))) (lines_in pieces)

-- The blocks are one list item of these, which begin with a single blank line: a marker stands before that, and one more space than
-- the marker is wide before the others. (rule 3)
abbrev pub AreInBlankItem : Extensions → Lead → List Piece → List Piece → Type 0
AreInBlankItem asked lead [] others = ⊥
AreInBlankItem asked lead (piece ∷ pieces) [] = ⊥
AreInBlankItem asked lead (piece ∷ pieces) (held ∷ others) =
    (lead.gap ≡ 1) × IsSingleBlank piece pieces
    × IsHeldIn (IsMarkerAlone lead) (IsIndentedLine (width_of lead)) (IsLessIndented asked (width_of lead)) []
    (begun_by lead ∷ piece.begun) piece held
    × AllZip (λ p q. IsHeldIn (IsIndentedLine (width_of lead)) (IsIndentedLine (width_of lead))
    (IsLessIndented asked (width_of lead)) (item_by lead ∷ p.kept) p.begun p q) pieces others
