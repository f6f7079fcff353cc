-- How C learns whether something was found.
use Rattle.std.specs.Prelude.{ℕ, List, ◌≡◌, ◌≤◌, ◌<◌, ◌-◌, ◌^◌, ◌⊎◌, length}
use Rattle.markdown_values.specs.values.Headings.{heading_number}
use Rattle.markdown_values.specs.declared.values.HeadingLevel.{HeadingLevel}
use Rattle.markdown_scanners_tree.specs.declared.scanners.html_kinds.HtmlBlockKind.{HtmlBlockKind}
use Rattle.markdown_scanners_tree.specs.scanners.html_kinds.HtmlKinds.{condition_number}

-- `MDS_NONE`, which is no length of a text and no offset in one
abbrev pub none : ℕ
none = 2 ^ 64 - 1

-- Below `MDS_NONE` stands a length or offset of an answer that has the property, and `MDS_NONE` says that no answer has it.
abbrev pub FoundExactly : {A : Type 0} → (A → Type 0) → ℕ → A → Type 0
FoundExactly P length answer =
    ((length < none) × P answer) ⊎ ((length ≡ none) × ((other : _) → ¬ P other))

-- `MDS_NONE`, or a length or offset that the bytes have.
abbrev pub IsWithin : List ℕ → ℕ → Type 0
IsWithin bytes found = (found ≡ none) ⊎ (found ≤ length bytes)

-- A number of a level that has the property, or 0 where no level has it.
abbrev pub FoundLevel : (HeadingLevel → Type 0) → ℕ → Type 0
FoundLevel P number =
    ((level : HeadingLevel) × P level × (number ≡ heading_number level))
    ⊎ ((number ≡ 0) × ((level : HeadingLevel) → ¬ P level))

-- A length and the number of a level that go together, or `MDS_NONE` where none do.
abbrev pub FoundWithLevel : (ℕ → HeadingLevel → Type 0) → ℕ → ℕ → Type 0
FoundWithLevel P length number =
    ((length < none) × ((level : HeadingLevel) × P length level × (number ≡ heading_number level)))
    ⊎ ((length ≡ none) × ((other : ℕ × HeadingLevel) → ¬ P other.0 other.1))

-- A number of a kind of HTML block that has the property, or 0 where no kind has it.
abbrev pub FoundKind : (HtmlBlockKind → Type 0) → ℕ → Type 0
FoundKind P number =
    ((kind : HtmlBlockKind) × P kind × (number ≡ condition_number kind))
    ⊎ ((number ≡ 0) × ((kind : HtmlBlockKind) → ¬ P kind))
