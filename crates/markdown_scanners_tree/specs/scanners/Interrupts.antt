-- Lines that interrupt a paragraph. (CommonMark 0.31.2, section 4.8, paragraphs, and the sections that are named)
use Rattle.std.specs.Prelude.{ℕ, Bool, ◌||◌, ◌&&◌, ◌==◌, not, nat_le, List, ◌++◌, ◌≡◌, ◌⊎◌, drop, take, IsTrue}
use Rattle.std.specs.List.{prefix_len}
use Rattle.markdown_values.specs.declared.values.HeadingLevel.{HeadingLevel}
use Rattle.markdown_scanners_tree.specs.declared.scanners.html_kinds.HtmlBlockKind.{HtmlBlockKind}
use Rattle.markdown_scanners_tree.specs.Ascii.{space}
use Rattle.markdown_scanners_tree.specs.Bytes.{begins_with, is_space_or_tab, line_head, is_blank}
use Rattle.markdown_scanners_tree.specs.scanners.Breaks.{IsThematicBreak}
use Rattle.markdown_scanners_tree.specs.scanners.Fences.{IsCodeFence}
use Rattle.markdown_scanners_tree.specs.scanners.Headings.{IsAtxHeading}
use Rattle.markdown_scanners_tree.specs.scanners.Lines.{IsBlockQuoteStart}
use Rattle.markdown_scanners_tree.specs.scanners.html_kinds.HtmlKinds.{IsHtmlBlockStart, condition_number}
use Rattle.markdown_scanners_tree.specs.scanners.list_items.ListItem.{IsListMarker}
use Rattle.markdown_scanners_tree.specs.scanners.list_items.ListMarker.{is_bullet}

-- a bullet, or the number 1, before a space or a tab and a rest that is not blank
abbrev pub item_interrupts : ℕ → ℕ → List ℕ → Bool
item_interrupts delimiter start rest =
    (is_bullet delimiter || start == 1) && (begins_with is_space_or_tab rest && not (is_blank rest))

-- A list item that can interrupt a paragraph begins here. (5.2, list items)
pub record IsInterruptingItem (bytes : List ℕ) : Type 0 where
  pub marker : List ℕ
  pub rest : List ℕ
  pub delimiter : ℕ
  pub start : ℕ
  pub parts : bytes ≡ marker ++ rest
  pub is_marker : IsListMarker marker delimiter start
  pub interrupts : IsTrue (item_interrupts delimiter start rest)

-- an ATX heading (4.2)
abbrev pub IsSomeHeading : List ℕ → Type 0
IsSomeHeading bytes = (level : HeadingLevel) × IsAtxHeading bytes level

-- an opening code fence, in its line (4.5)
abbrev pub IsSomeFence : List ℕ → Type 0
IsSomeFence bytes = (fence : ℕ × ℕ) × IsCodeFence (line_head bytes) fence.0 fence.1

-- a block quote marker (5.1)
abbrev pub IsSomeQuote : List ℕ → Type 0
IsSomeQuote bytes = (n : ℕ) × IsBlockQuoteStart bytes n

-- an HTML block by the start conditions 1 to 6 (4.6)
abbrev pub IsInterruptingHtml : List ℕ → Type 0
IsInterruptingHtml bytes =
    (kind : HtmlBlockKind) × IsHtmlBlockStart bytes kind × IsTrue (nat_le (condition_number kind) 6)

-- One of them begins here, or a thematic break does. (4.1)
abbrev pub Interrupts : List ℕ → Type 0
Interrupts bytes =
    IsThematicBreak bytes ⊎ (IsSomeHeading bytes ⊎ (IsSomeFence bytes ⊎ (IsSomeQuote bytes
    ⊎ (IsInterruptingItem bytes ⊎ IsInterruptingHtml bytes))))

-- the line after at most three spaces
abbrev pub after_indent : List ℕ → List ℕ
after_indent line = drop (prefix_len (λ b. b == space) (take 3 line)) line

-- The line can interrupt a paragraph.
abbrev pub InterruptsParagraph : List ℕ → Type 0
InterruptsParagraph line = Interrupts (after_indent line)
