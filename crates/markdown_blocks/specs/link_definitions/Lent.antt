-- Which texts of a link reference definition are lent from the lines that it stands in.
use Rattle.std.specs.Prelude.{ℕ, Bool, true, false, ◌-◌, ◌==◌, nat_lt, List, [], ◌∷◌, Option, Some, None, length, drop, if◌then◌else◌}
use Rattle.std.specs.List.{concat, starts_with}
use Rattle.std.specs.declared.borrow.CowSlice.{CowSlice}
use Rattle.std.specs.declared.borrow.CowSlice.TheVariants.{Borrowed, Owned}
use Rattle.std.specs.declared.ops.Range.{Range}
use Rattle.markdown_scanners_tree.specs.declared.scanners.reference_definitions.ReferenceDefinition.{ReferenceDefinition}
use Rattle.markdown_scanners_tree.specs.scanners.TextLines.{lines_of}
use Rattle.markdown_blocks.specs.link_definitions.LinkDefinitions.{LentTarget, slice, target_of}

abbrev pub is_lent : {X Z : Type 0} → CowSlice X Z → Bool
is_lent (Borrowed lent) = true
is_lent (Owned copy) = false

-- there is one, and it is such
abbrev pub is_some_such : {X : Type 0} → (X → Bool) → Option X → Bool
is_some_such test None = false
is_some_such test (Some x) = test x

-- What of a block's lines begins with the byte at this offset of its content, each line of which is the end of one of these, in their
-- order.
abbrev pub from_byte : ℕ → (content lines : List (List ℕ)) → List ℕ
from_byte offset [] lines = concat lines
from_byte offset (words ∷ content) [] = []
from_byte offset (words ∷ content) (line ∷ lines) =
    if nat_lt offset (length words) then drop (length line - (length words - offset)) (concat (line ∷ lines))
    else from_byte (offset - length words) content lines

-- the bytes of the content in this range stand in the block's lines one directly after another
abbrev pub is_run_in : (lines content : List ℕ) → Range ℕ → Bool
is_run_in lines content range =
    starts_with (λ a b. a == b) (from_byte range.start (lines_of content) (lines_of lines)) (slice range content)

-- Where the definition at the front of a content leads: its texts are lent exactly where they stand so in these lines.
abbrev pub lent_target : (lines content : List ℕ) → ReferenceDefinition → LentTarget
lent_target lines content definition = record {
  target = target_of content definition;
  is_destination_lent = is_run_in lines content definition.destination;
  is_title_lent = is_some_such (is_run_in lines content) definition.title;
}
