-- Line endings, each written as a line feed. (CommonMark 0.31.2, section 2.1)
use Rattle.std.specs.Prelude.{ℕ, ◌==◌, List, [], ◌∷◌, if◌then◌else◌}
use Rattle.markdown_scanners_tree.specs.Ascii.{carriage_return, line_feed}
use Rattle.markdown_scanners_tree.specs.Bytes.{begins_with}

-- The text with each line ending written as a line feed. A line ending is a line feed, a carriage return not followed by a line feed, or a
-- carriage return and a following line feed.
abbrev pub with_line_feeds : List ℕ → List ℕ
with_line_feeds [] = []
with_line_feeds (b ∷ bs) =
    let later = with_line_feeds bs in
    if b == carriage_return then (if begins_with (λ c. c == line_feed) bs then later else line_feed ∷ later) else b ∷ later
