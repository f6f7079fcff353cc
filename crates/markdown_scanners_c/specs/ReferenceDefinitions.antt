-- Link reference definitions that begin at an offset of bytes. (CommonMark 0.31.2, section 4.7, link reference definitions)
use Rattle.std.specs.Prelude.{ℕ, List, Option, None, Some, ◌≡◌, ◌≢◌, ◌⊎◌, ◌+◌, drop}
use Rattle.std.specs.Str.{IsCharBoundary}
use Rattle.std.specs.declared.ops.Range.{Range}
use Rattle.markdown_scanners_tree.specs.declared.scanners.reference_definitions.ReferenceDefinition.{ReferenceDefinition}
use Rattle.markdown_scanners_tree.specs.scanners.reference_definitions.ReferenceDefinition.{IsReferenceDefinition}
use Rattle.markdown_scanners_c.specs.Answers.{none}
use Rattle.markdown_scanners_c.specs.Status.{ok, nothing}
use Rattle.markdown_scanners_c.specs.TextPlace.{IsTextPlace}
use Rattle.markdown_scanners_c.specs.declared.reference_definitions.Definition.{Definition}

-- a status, and no definition
abbrev pub IsNoDefinition : ℕ → Definition → Type 0
IsNoDefinition status returned =
    (returned.status ≡ status) × (returned.end ≡ 0) × (returned.label_start ≡ 0) × (returned.label_length ≡ 0)
    × (returned.destination_start ≡ 0) × (returned.destination_length ≡ 0) × (returned.title_start ≡ 0) × (returned.title_length ≡ 0)

-- Of a range of what stands from the offset on: where it begins in all bytes, and how long it is.
abbrev pub IsRangeAt : ℕ → Range ℕ → ℕ → ℕ → Type 0
IsRangeAt offset range start length = (start ≡ offset + range.start) × (start + length ≡ offset + range.end)

-- the same of a title, and `MDS_NONE` and 0 of none
abbrev pub IsTitleAt : ℕ → Option (Range ℕ) → ℕ → ℕ → Type 0
IsTitleAt offset None start length = (start ≡ none) × (length ≡ 0)
IsTitleAt offset (Some title) start length = IsRangeAt offset title start length

-- a definition, which begins at the offset with at most so many parentheses in each other, or none
unfoldable pub IsReturnedDefinition : ℕ → List ℕ → ℕ → Definition → Type 0
IsReturnedDefinition most bytes offset returned =
    (IsNoDefinition nothing returned
    × ((definition : ReferenceDefinition) → ¬ IsReferenceDefinition most (drop offset bytes) definition))
    ⊎ ((definition : ReferenceDefinition) × IsReferenceDefinition most (drop offset bytes) definition
    × (returned.status ≡ ok) × (returned.end ≡ offset + definition.len)
    × IsRangeAt offset definition.label returned.label_start returned.label_length
    × IsRangeAt offset definition.destination returned.destination_start returned.destination_length
    × IsTitleAt offset definition.title returned.title_start returned.title_length)

-- A text may be cut where so many bytes from the offset on begin, and where they end.
abbrev pub IsCutOut : List ℕ → ℕ → ℕ → Type 0
IsCutOut bytes start length = IsCharBoundary bytes start × IsCharBoundary bytes (start + length)

-- Where the bytes are a text and the offset is between two of its characters, so are both ends of each part, and the end of
-- all.
abbrev pub AreCutFromText : List ℕ → ℕ → Definition → Type 0
AreCutFromText bytes offset returned =
    IsTextPlace bytes offset → returned.status ≡ ok
    → IsCutOut bytes returned.label_start returned.label_length × IsCutOut bytes returned.destination_start returned.destination_length
    × (returned.title_start ≢ none → IsCutOut bytes returned.title_start returned.title_length) × IsCharBoundary bytes returned.end
