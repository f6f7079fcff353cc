-- Parts of bytes that are found at an offset of them: their own bytes, and where what belongs to them ends.
-- (CommonMark 0.31.2, sections 6.1, code spans, 6.3, links, and 6.5, autolinks)
use Rattle.std.specs.Prelude.{ℕ, List, None, Some, ◌≡◌, ◌⊎◌, ◌+◌, ◌-◌, ◌==◌, drop, take}
use Rattle.std.specs.List.{position}
use Rattle.std.specs.Str.{IsCharBoundary}
use Rattle.markdown_scanners_tree.specs.Ascii.{vertical_line}
use Rattle.markdown_scanners_tree.specs.scanners.links.LinkDestination.{IsLinkDestination}
use Rattle.markdown_scanners_tree.specs.scanners.titles.LinkTitle.{IsLinkTitle}
use Rattle.markdown_inlines.specs.CodeSpans.{IsCodeSpan}
use Rattle.markdown_inlines.specs.declared.code_spans.CodeSpan.{CodeSpan}
use Rattle.markdown_scanners_c.specs.Status.{ok, nothing}
use Rattle.markdown_scanners_c.specs.TextPlace.{IsTextPlace}
use Rattle.markdown_scanners_c.specs.declared.inline.Part.{Part}

-- a status, and no part
abbrev pub IsNoPart : ℕ → Part → Type 0
IsNoPart status part =
    (part.status ≡ status) × (part.end ≡ 0) × (part.start ≡ 0) × (part.length ≡ 0)

-- the bytes that are the part's own
abbrev pub part_of : List ℕ → Part → List ℕ
part_of bytes part = take part.length (drop part.start bytes)

-- an absolute URI or an email address, as it is said of these, which begins at the offset and which `>` ends, or none
unfoldable pub IsAutolinkPart : (List ℕ → List ℕ → Type 0) → List ℕ → ℕ → Part → Type 0
IsAutolinkPart IsOne bytes offset part =
    (IsNoPart nothing part × ((address : List ℕ) → ¬ IsOne (drop offset bytes) address))
    ⊎ ((part.status ≡ ok) × IsOne (drop offset bytes) (part_of bytes part)
    × (part.start ≡ offset) × (part.end ≡ offset + part.length + 1))

-- a code span, which begins at the offset, with its content between its backtick strings, or none
unfoldable pub IsCodePart : List ℕ → ℕ → Part → Type 0
IsCodePart bytes offset part =
    (IsNoPart nothing part × ((span : CodeSpan) → ¬ IsCodeSpan (drop offset bytes) span))
    ⊎ ((span : CodeSpan) × IsCodeSpan (drop offset bytes) span
    × (part.status ≡ ok) × (part.end ≡ offset + span.len)
    × (part.start ≡ offset + span.content.start) × (part.start + part.length ≡ offset + span.content.end))

-- what stands before the first pipe of so many bytes from the offset on, or no pipe
unfoldable pub IsPipePart : List ℕ → ℕ → ℕ → Part → Type 0
IsPipePart bytes offset count part =
    (IsNoPart nothing part
    × (position (λ b. b == vertical_line) (take count (drop offset bytes)) ≡ None))
    ⊎ ((part.status ≡ ok)
    × (position (λ b. b == vertical_line) (take count (drop offset bytes)) ≡ Some part.length)
    × (part.start ≡ offset) × (part.end ≡ offset + part.length + 1))

-- The part's own bytes stand from the offset up to the end, or between two bytes that stand there, its brackets.
abbrev pub StandsFrom : ℕ → Part → Type 0
StandsFrom offset part =
    ((part.start ≡ offset) × (part.end ≡ offset + part.length))
    ⊎ ((part.start ≡ offset + 1) × (part.end ≡ offset + part.length + 2))

-- a link destination, which begins at the offset with at most so many parentheses in each other, or none
unfoldable pub IsDestinationPart : ℕ → List ℕ → ℕ → Part → Type 0
IsDestinationPart most bytes offset part =
    (IsNoPart nothing part
    × ((r : ℕ × List ℕ) → ¬ IsLinkDestination most (drop offset bytes) r.0 r.1))
    ⊎ ((part.status ≡ ok) × StandsFrom offset part
    × IsLinkDestination most (drop offset bytes) (part.end - offset) (part_of bytes part))

-- a link title, which begins at the offset, with its own bytes between the two around it, or none
unfoldable pub IsTitlePart : List ℕ → ℕ → Part → Type 0
IsTitlePart bytes offset part =
    (IsNoPart nothing part × ((n : ℕ) → ¬ IsLinkTitle (drop offset bytes) n))
    ⊎ ((part.status ≡ ok) × IsLinkTitle (drop offset bytes) (part.length + 2)
    × (part.start ≡ offset + 1) × (part.end ≡ offset + part.length + 2))

-- Where the bytes are a text and the offset is between two of its characters, so are both ends of the part's own bytes, and
-- the end of what belongs to it.
abbrev pub IsCutFromText : List ℕ → ℕ → Part → Type 0
IsCutFromText bytes offset part =
    IsTextPlace bytes offset → part.status ≡ ok
    → IsCharBoundary bytes part.start × IsCharBoundary bytes (part.start + part.length)
    × IsCharBoundary bytes part.end
