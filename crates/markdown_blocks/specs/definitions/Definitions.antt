-- Link reference definitions at the front of a paragraph's content. (CommonMark 0.31.2, section 4.7)
use Rattle.std.specs.Prelude.{ℕ, List, [], ◌∷◌, ◌≡◌, ◌≢◌, drop}
use Rattle.markdown_scanners_tree.specs.declared.scanners.reference_definitions.ReferenceDefinition.{ReferenceDefinition}
use Rattle.markdown_scanners_tree.specs.scanners.reference_definitions.ReferenceDefinition.{IsReferenceDefinition}

-- how deep parentheses nest in a destination at most
abbrev pub most_nested : ℕ
most_nested = 32

abbrev pub IsDefinition : List ℕ → ReferenceDefinition → Type 0
IsDefinition text definition = IsReferenceDefinition most_nested text definition

-- The text begins with these definitions, one after another, and the rest of it begins with none.
abbrev pub AreDefinitions : List ℕ → List ReferenceDefinition → List ℕ → Type 0
AreDefinitions text [] rest = (rest ≡ text) × ((definition : ReferenceDefinition) → ¬ IsDefinition text definition)
AreDefinitions text (definition ∷ more) rest = IsDefinition text definition × AreDefinitions (drop definition.len text) more rest

-- the content has more than the definitions that it begins with
pub record HasText (content : List ℕ) : Type 0 where
  pub definitions : List ReferenceDefinition
  pub rest : List ℕ
  pub after : AreDefinitions content definitions rest
  pub some : rest ≢ []
