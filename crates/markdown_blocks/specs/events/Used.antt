-- How much of a block's content its leaf blocks have. (CommonMark 0.31.2, section 4.7)
use Rattle.std.specs.Prelude.{ℕ, ◌+◌, ◌≡◌, ◌⊎◌, List, drop}
use Rattle.markdown_scanners_tree.specs.declared.scanners.reference_definitions.ReferenceDefinition.{ReferenceDefinition}
use Rattle.markdown_blocks.specs.definitions.Definitions.{IsDefinition}
use Rattle.markdown_blocks.specs.events.Events.{Event, starts, leaf, ends}

-- with the definition that what is left of the content begins with they have more of it, if one stands there
abbrev pub IsUsed : List ℕ → ℕ → ℕ → Type 0
IsUsed content old new =
    ((definition : ReferenceDefinition) × IsDefinition (drop old content) definition × (new ≡ old + definition.len))
    ⊎ (((definition : ReferenceDefinition) → ¬ IsDefinition (drop old content) definition) × (new ≡ old))

-- a leaf block has that of it, and no other event has any
abbrev pub IsUsedBy : List ℕ → ℕ → Event → ℕ → Type 0
IsUsedBy content old (starts container offset) new = new ≡ old
IsUsedBy content old (leaf block) new = IsUsed content old new
IsUsedBy content old ends new = new ≡ old
