-- Bytes of thematic breaks, by their markers. (CommonMark 0.31.2, section 4.1)
use Rattle.std.specs.Prelude.{ℕ, ◌+◌}
use Rattle.markdown_scanners_tree.specs.Ascii.{asterisk, hyphen, underscore}
use Rattle.markdown_scanners_tree.specs.scanners.Breaks.{is_break_byte}
use Rattle.markdown_scanners_tree.specs.scanners.classes.private.ClassBits.{bit_if}

-- 1 a byte of a break of `*`, 2 of `-`, 4 of `_`
abbrev pub break_bits : ℕ → ℕ
break_bits b =
    bit_if (is_break_byte asterisk b) 1 + bit_if (is_break_byte hyphen b) 2 + bit_if (is_break_byte underscore b) 4
