-- The lines of a text. (CommonMark 0.31.2, section 2.1, characters and lines)
use Rattle.std.specs.Prelude.{ℕ, Bool, false, ◌||◌, ◌&&◌, ◌==◌, not, List, [], ◌∷◌, if◌then◌else◌}
use Rattle.markdown_scanners_tree.specs.Ascii.{line_feed, carriage_return}
use Rattle.markdown_scanners_tree.specs.Bytes.{begins_with}

-- a line ends with the first byte: it is LF, or a CR that no LF follows
abbrev pub ends_line : List ℕ → Bool
ends_line [] = false
ends_line (b ∷ bs) =
    b == line_feed || (b == carriage_return && not (begins_with (λ c. c == line_feed) bs))

-- the byte at the front of the first line, or as a line where there is none
abbrev pub with_first : ℕ → List (List ℕ) → List (List ℕ)
with_first b [] = (b ∷ []) ∷ []
with_first b (line ∷ lines) = (b ∷ line) ∷ lines

-- the lines of a text, each with its ending, if it has one: what ends a line is its last byte, and each other byte
-- belongs to the line that goes on after it
abbrev pub lines_of : List ℕ → List (List ℕ)
lines_of [] = []
lines_of (b ∷ bs) =
    if ends_line (b ∷ bs) then (b ∷ []) ∷ lines_of bs
    else with_first b (lines_of bs)
