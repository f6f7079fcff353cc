-- Sets of bytes by the halves of a byte.
use Rattle.std.specs.Prelude.{ℕ, Bool, ◌==◌, ◌/◌, bit_and, get_or, not}
use Rattle.markdown_scanners_tree.specs.declared.byte_sets.ByteSet.{ByteSet}

-- Whether a byte is in a set: the bits of its low half and those of its high half have one in common.
abbrev pub has_byte : ByteSet → ℕ → Bool
has_byte set b = not (bit_and (get_or set.low (bit_and b 15) 0) (get_or set.high (b / 16) 0) == 0)
