-- The link reference definitions that are known, one after another.
use Rattle.std.specs.Prelude.{ℕ, ◌≡◌, List, Some}
use Rattle.std.specs.Cmp.Lexicographic.{slice_cmp}
use Rattle.std.specs.List.{All, IsAmong}
use Rattle.std.specs.List.Sorted.{IsStrictlySortedBy}
use Rattle.std.specs.Map.{keys_of}
use Rattle.std.specs.Ordering.{nat_cmp}
use Rattle.markdown_scanners_tree.specs.linklabel.Key.{key_bytes}
use Rattle.markdown_blocks.specs.link_definitions.LinkDefinitions.{Known, LentTarget, Target, known_as}

-- a key is the case folding of a label
abbrev pub IsFolding : List ℕ → Type 0
IsFolding key = (label : List ℕ) × (key ≡ key_bytes label)

-- Before each definition stands the case folding of a label that finds it. Each that a label finds is there. None is there twice, since
-- the case foldings rise.
pub record AreListed (known : Known) : Type 0 where
  pub each : All (λ item. (label : List ℕ) × (item.0 ≡ key_bytes label) × (known_as known label ≡ Some item.1.target)) known
  pub all : (label : List ℕ) (target : Target) → known_as known label ≡ Some target
      → (found : LentTarget) × IsAmong known (key_bytes label, found) × (found.target ≡ target)
  pub once : IsStrictlySortedBy (slice_cmp nat_cmp) (keys_of known)
