-- Tags over lines of which something is left out. (CommonMark 0.31.2, section 6.6, raw HTML)
use Rattle.std.specs.Prelude.{ℕ, List, [], ◌≡◌, ◌≢◌, ◌⊎◌, ◌+◌, drop}
use Rattle.markdown_scanners_tree.specs.Kept.{KeptByte}
use Rattle.markdown_scanners_tree.specs.scanners.html_tag.KeptTag.{IsKeptTag, offset_after, tag_buffer}
use Rattle.markdown_scanners_c.specs.Buffer.{IsWritten}
use Rattle.markdown_scanners_c.specs.Skips.{LeavesOut}
use Rattle.markdown_scanners_c.specs.Status.{nothing, past_end, no_memory}
use Rattle.markdown_scanners_c.specs.TextPlace.{IsAnswerAt}
use Rattle.markdown_scanners_c.specs.declared.html.Tag.{Tag}
use Rattle.markdown_scanners_c.specs.declared.skips.Skip.{Skip}

-- a status, and no tag
abbrev pub IsNoTag : ℕ → Tag → Type 0
IsNoTag status tag = (tag.status ≡ status) × (tag.end ≡ 0) × (tag.length ≡ 0)

-- the kept bytes from the offset on are a tag
abbrev pub IsTagOver : List Skip → List ℕ → ℕ → List KeptByte → Type 0
IsTagOver skips bytes start tag = IsKeptTag (LeavesOut skips bytes) (drop start bytes) tag

-- No tag at the offset; or one inside which bytes are left out, and memory for its text was refused; or one, whose text
-- is written where bytes inside it are left out, and else no text, since it stands in the bytes.
unfoldable pub IsTagText : List Skip → List ℕ → ℕ → List ℕ → List ℕ → Tag → Type 0
IsTagText skips bytes start old new found =
    (IsNoTag nothing found × (new ≡ old) × ((tag : List KeptByte) → ¬ (IsTagOver skips bytes start tag)))
    ⊎ (IsNoTag no_memory found × (new ≡ old)
    × ((tag : List KeptByte) × IsTagOver skips bytes start tag × (tag_buffer tag ≢ [])))
    ⊎ ((tag : List KeptByte) × IsTagOver skips bytes start tag × (found.end ≡ start + offset_after 0 tag)
    × IsWritten (tag_buffer tag) old new found.status found.length)

-- The offset is past the end; or the tag is returned.
abbrev pub IsScannedTag : List Skip → List ℕ → ℕ → List ℕ → List ℕ → Tag → Type 0
IsScannedTag skips bytes start old new found =
    IsAnswerAt bytes start (IsNoTag past_end found × (new ≡ old)) (IsTagText skips bytes start old new found)
