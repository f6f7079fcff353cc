-- Which lines show that a block ends before them.
use Rattle.std.specs.Prelude.{ℕ, List, [], ◌≢◌, ◌⊎◌, Bool, IsTrue}
use Rattle.std.specs.List.{AllByRecursion}
use Rattle.markdown_blocks.specs.declared.blocks.BlockKind.{BlockKind}
use Rattle.markdown_blocks.specs.declared.blocks.BlockKind.TheVariants.{Indented}
use Rattle.markdown_blocks.specs.declared.containers.Container.{Container}
use Rattle.markdown_blocks.specs.blocks.Leaves.{IsBlankIn}

-- One of the lines shows that a block of this kind ends before them, whatever lines follow: after indented code one that is not
-- blank, and after other blocks any.
abbrev pub ShowEnd : List Container → BlockKind → List (List ℕ) → Type 0
ShowEnd outer Indented rest = ¬ AllByRecursion (IsBlankIn outer) rest
ShowEnd outer kind rest = rest ≢ []

-- the block ends before these lines: they show it, or no line follows them
abbrev pub IsOver : List Container → BlockKind → Bool → List (List ℕ) → Type 0
IsOver outer kind has_ended rest = IsTrue has_ended ⊎ ShowEnd outer kind rest
