-- Block quotes as rules say them, of lines and blocks alone, with whatever extensions on.
-- (CommonMark 0.31.2, section 5.1, block quotes)
use Rattle.std.specs.Prelude.{ℕ, not, ◌≡◌, ◌≤◌, ◌+◌, ◌⊎◌, ◌++◌, List, ◌∷◌, replicate, IsTrue}
use Rattle.markdown_scanners_tree.specs.Ascii.{space, greater_than_sign}
use Rattle.markdown_scanners_tree.specs.Bytes.{begins_with, is_space_or_tab}
use Rattle.markdown_scanners_tree.specs.line.ItemRules.{start_of}
use Rattle.markdown_blocks.specs.containers.Containers.{without_terms}
use Rattle.markdown_values.specs.declared.values.extensions.Extensions.{Extensions}
use Rattle.markdown_blocks.specs.declared.containers.Container.TheVariants.{Quote}
use Rattle.markdown_blocks.specs.blocks.Leaves.{IsLazy}
use Rattle.markdown_blocks.specs.blocks.Pages.{Piece}
use Rattle.markdown_blocks.specs.laws.Held.{KeepsTabs, AreIn}

-- The line with a block quote marker before it: after at most three spaces `>`, and a space, which may be left out where the line
-- begins with no space and no tab.
pub record IsQuoted (line quoted : List ℕ) : Type 0 where
  pub indent : ℕ
  pub gap : ℕ
  pub few : indent ≤ 3
  pub marked : (gap ≡ 1) ⊎ ((gap ≡ 0) × IsTrue (not (begins_with is_space_or_tab line)))
  pub parts : quoted ≡ replicate indent space ++ greater_than_sign ∷ (replicate gap space ++ line)
  pub tabs : KeepsTabs (indent + 1 + gap) line

-- the line without a marker, as paragraph continuation text: at most three spaces are left before it
pub record IsBare (asked : Extensions) (line bare : List ℕ) : Type 0 where
  pub indent : ℕ
  pub few : indent ≤ 3
  pub parts : bare ≡ replicate indent space ++ line
  pub goes_on : IsLazy (without_terms asked) (start_of bare)

-- The blocks are one block quote of these: their lines with a marker before each, which may be left out before a paragraph's later
-- lines, where they are paragraph continuation text. (rules 1 and 2)
abbrev pub AreInQuote : Extensions → List Piece → List Piece → Type 0
AreInQuote asked = AreIn Quote IsQuoted IsQuoted (IsBare asked)
