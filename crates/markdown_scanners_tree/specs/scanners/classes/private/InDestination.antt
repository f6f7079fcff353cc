-- Bytes of bare link destinations. (CommonMark 0.31.2, section 6.3, Links)
use Rattle.std.specs.Prelude.{ℕ, Bool, ◌&&◌, ◌==◌, not, nat_lt}
use Rattle.markdown_scanners_tree.specs.Ascii.{space, left_parenthesis, right_parenthesis, backslash}

-- a byte of a bare link destination that neither nests nor escapes
abbrev pub is_in_destination : ℕ → Bool
is_in_destination b =
    nat_lt space b && (not (b == left_parenthesis) && (not (b == right_parenthesis) && not (b == backslash)))
