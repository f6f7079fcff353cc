-- What a scan for the end of a block looks for in a line.
use Rattle.std.specs.Prelude.{ℕ, Bool, not, ◌||◌, ◌==◌, List, Option, Some, None, IsTrue, ◌↔◌}
use Rattle.markdown_scanners_tree.specs.Ascii.{greater_than_sign}
use Rattle.markdown_scanners_tree.specs.Bytes.{is_white_space}
use Rattle.markdown_values.specs.declared.values.HeadingLevel.{HeadingLevel}
use Rattle.markdown_blocks.specs.containers.Containers.{OpenContainers, Rest, rest_in}
use Rattle.markdown_blocks.specs.declared.blocks.Ending.{Ending}
use Rattle.markdown_blocks.specs.declared.blocks.Ending.TheVariants.{Text, Paragraph, Fence, Html}
use Rattle.markdown_blocks.specs.declared.blocks.NextLine.{NextLine}
use Rattle.markdown_blocks.specs.declared.blocks.NextLine.TheVariants as next
use Rattle.markdown_blocks.specs.declared.blocks.TextEnd.{TextEnd}
use Rattle.markdown_values.specs.declared.values.extensions.Extensions.{Extensions}
use Rattle.markdown_blocks.specs.blocks.Leaves.{IsBlank, EndsParagraph, ClosesFence, EndsHtml, In, Interrupts, OutOr, IsUnderline, DefinesTerm}
use Rattle.markdown_blocks.specs.blocks.Leaves.{LeavesParagraph, LeavesAfter, Underlines}

-- what a line has in the open containers where it ends the block
abbrev pub Ends : Extensions → Ending → Rest → Type 0
Ends asked Text rest = ¬ IsBlank rest
Ends asked Paragraph rest = EndsParagraph asked rest
Ends asked (Fence count byte) rest = ClosesFence count byte rest
Ends asked (Html kind) rest = EndsHtml kind rest

-- the line ends it: by that, or since it does not stand in them and is no lazy line of a paragraph
abbrev pub IsEnd : OpenContainers → Ending → List ℕ → Type 0
IsEnd outer Paragraph line = LeavesParagraph outer line
IsEnd outer ending line = OutOr outer.containers (Ends outer.extensions ending) line

-- the rest of a line is an underline of this level, or without one the marker of a definition
abbrev pub IsUnderOrDefines : Extensions → Option HeadingLevel → Rest → Type 0
IsUnderOrDefines asked (Some level) rest = IsUnderline level rest
IsUnderOrDefines asked None rest = DefinesTerm asked rest

-- the line ends a paragraph with text so in the containers, and interrupts a paragraph where it is said
pub record EndsText (outer : OpenContainers) (found : TextEnd) (line : List ℕ) : Type 0 where
  pub ends : In outer.containers (IsUnderOrDefines outer.extensions found.level) line
  pub interrupts : IsTrue found.interrupts ↔ Interrupts outer.extensions (rest_in outer.containers line).text

-- what the line is to a paragraph whose first line has this text, with these later lines before it
abbrev pub IsNextLine : OpenContainers → List ℕ → List (List ℕ) → List ℕ → NextLine → Type 0
IsNextLine outer text before line next.GoesOn = ¬ LeavesAfter outer text before line
IsNextLine outer text before line (next.Underlines level) = Underlines outer.containers text before level line
IsNextLine outer text before line next.Ends =
    LeavesAfter outer text before line × ((level : HeadingLevel) → ¬ Underlines outer.containers text before level line)

-- a byte of text: neither white space nor the marker of a block quote
abbrev pub is_text_byte : ℕ → Bool
is_text_byte b = not (is_white_space b || b == greater_than_sign)
