-- What is left of a line, written into a buffer of the caller's. (CommonMark 0.31.2, section 2.2, tabs)
use Rattle.std.specs.Prelude.{ℕ, List, ◌≡◌, ◌≤◌, ◌<◌, length}
use Rattle.markdown_scanners_c.specs.Answers.{none}
use Rattle.markdown_scanners_c.specs.Buffer.{IsWritten}
use Rattle.markdown_scanners_c.specs.Status.{too_short}

-- The text is written as any other where a `size_t` holds its length; else no buffer holds it, nothing has changed, and
-- the largest length is returned.
abbrev pub IsWrittenRest : List ℕ → List ℕ → List ℕ → ℕ → ℕ → Type 0
IsWrittenRest text old new status needed =
    (length text ≤ none → IsWritten text old new status needed)
    × (none < length text → (status ≡ too_short) × (needed ≡ none) × (new ≡ old))
