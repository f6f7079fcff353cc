-- The classes of bytes as bits of one number.
use Rattle.std.specs.Prelude.{ℕ, Bool, ◌+◌, if◌then◌else◌}
use Rattle.markdown_scanners_tree.specs.Bytes.{is_white_space, is_white_space_in_line, is_punctuation, is_letter, is_digit, is_unquoted}

abbrev pub bit_if : Bool → ℕ → ℕ
bit_if b bit = if b then bit else 0

-- 1 white space, 2 white space that ends no line, 4 punctuation, 8 letter, 16 digit, 32 byte of an unquoted value
abbrev pub class_bits : ℕ → ℕ
class_bits b =
    bit_if (is_white_space b) 1 + bit_if (is_white_space_in_line b) 2 + bit_if (is_punctuation b) 4
    + bit_if (is_letter b) 8 + bit_if (is_digit b) 16 + bit_if (is_unquoted b) 32
