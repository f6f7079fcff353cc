-- What the content of a code span means. (CommonMark 0.31.2, section 6.1, code spans)
use Rattle.std.specs.Prelude.{ℕ, Bool, ◌&&◌, ◌==◌, not, ◌-◌, List, [], ◌∷◌, length, slice_index, slice_range, if◌then◌else◌}
use Rattle.std.specs.List.{list_all}
use Rattle.markdown_scanners_tree.specs.Ascii.{carriage_return, line_feed, space}
use Rattle.markdown_scanners_tree.specs.Bytes.{begins_with, is_line_ending}

-- the byte, or the space that it is converted to where it ends a line
abbrev pub as_space : ℕ → ℕ
as_space b = if is_line_ending b then space else b

-- the text with each line ending converted to a space: LF, CR, or CR LF, of which the CR is left out
abbrev pub with_spaces : List ℕ → List ℕ
with_spaces [] = []
with_spaces (b ∷ bs) =
    let later = with_spaces bs in
    if b == carriage_return && begins_with (λ c. c == line_feed) bs then later else as_space b ∷ later

-- The text both begins and ends with a space, but does not consist entirely of spaces.
abbrev pub is_padded : List ℕ → Bool
is_padded text =
    slice_index text 0 == space && slice_index text (length text - 1) == space
    && not (list_all (λ b. b == space) text)

-- a single space is removed from the front and the back then
abbrev pub without_padding : List ℕ → List ℕ
without_padding text = if is_padded text then slice_range text 1 (length text - 1) else text

-- The text of a code span with this content between its backtick strings.
abbrev pub code_text : List ℕ → List ℕ
code_text content = without_padding (with_spaces content)
