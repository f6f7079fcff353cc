-- Answers that are Some exactly where there is something to find.
use Rattle.std.specs.Prelude.{◌≡◌, Option, Some, None, ⊤}

-- Some holds a value that has the property, and None says that no value has it.
abbrev pub SomeExactly : {A : Type 0} → (A → Type 0) → Option A → Type 0
SomeExactly P (Some a) = P a
SomeExactly P None = (a : _) → ¬ P a

-- The value in Some is the only one that has the property.
abbrev pub IsOnly : {A : Type 0} → (A → Type 0) → Option A → Type 0
IsOnly P (Some a) = (other : _) → P other → other ≡ a
IsOnly P None = ⊤
