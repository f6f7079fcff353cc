-- Lines that are taken from the front of a text.
use Rattle.std.specs.Prelude.{ℕ, ◌+◌, ◌≤◌, ◌<◌, ◌≡◌, List, ◌∷◌, ◌++◌, length, drop}
use Rattle.markdown_scanners_tree.specs.scanners.TextLines.{lines_of}
use Rattle.markdown_blocks.specs.declared.taken.Extent.{Extent}

-- these lines, so many of so many bytes, stand at the front of the text
pub record IsTaken (text : List ℕ) (taken : Extent) (lines : List (List ℕ)) : Type 0 where
  pub within : taken.bytes ≤ length text
  pub parts : lines_of text ≡ lines ++ lines_of (drop taken.bytes text)
  pub counted : taken.lines ≡ length lines

-- the line after those that are taken, and what is taken with it
pub record IsNext (text : List ℕ) (taken : Extent) (line : List ℕ) (more : Extent) : Type 0 where
  pub within : more.bytes ≤ length text
  pub further : taken.bytes < more.bytes
  pub parts : lines_of (drop taken.bytes text) ≡ line ∷ lines_of (drop more.bytes text)
  pub counted : more.lines ≡ taken.lines + 1
