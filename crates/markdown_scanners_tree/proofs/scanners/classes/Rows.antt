-- Rows of the tables of bytes, and how many bytes are in each class, computed from the definitions. (CommonMark 0.31.2, sections 2.1 and 6.3)
use Rattle.std.proofs.Common.{◌≡◌, ℕ, zero, suc, ◌+◌, Bool, true, false, refl}
use Rattle.markdown_scanners_tree.specs.Bytes.{is_white_space, is_white_space_in_line, is_punctuation, is_letter, is_digit, is_unquoted}
use Rattle.markdown_scanners_tree.specs.scanners.classes.private.ClassBits.{bit_if, class_bits}
use Rattle.markdown_scanners_tree.specs.scanners.classes.private.InDestination.{is_in_destination}

how_many : (ℕ → Bool) → ℕ → ℕ
how_many test zero = 0
how_many test (suc n) = bit_if (test n) 1 + how_many test n

white_space : how_many is_white_space 256 ≡ 6
unfolding how_many
white_space = refl

white_space_in_line : how_many is_white_space_in_line 256 ≡ 4
unfolding how_many
white_space_in_line = refl

punctuation : how_many is_punctuation 256 ≡ 32
unfolding how_many
punctuation = refl

letters : how_many is_letter 256 ≡ 52
unfolding how_many
letters = refl

digits : how_many is_digit 256 ≡ 10
unfolding how_many
digits = refl

unquoted : how_many is_unquoted 256 ≡ 247
unfolding how_many
unquoted = refl

-- all 256 but the 33 up to space, two parentheses and `\`
in_destinations : how_many is_in_destination 256 ≡ 220
unfolding how_many
in_destinations = refl

nul : class_bits 0x00 ≡ 32
nul = refl

tab : class_bits 0x09 ≡ 35
tab = refl

line_feed : class_bits 0x0A ≡ 1
line_feed = refl

vertical_tab : class_bits 0x0B ≡ 35
vertical_tab = refl

carriage_return : class_bits 0x0D ≡ 1
carriage_return = refl

space : class_bits 0x20 ≡ 3
space = refl

hyphen : class_bits 0x2D ≡ 36
hyphen = refl

digit_zero : class_bits 0x30 ≡ 48
digit_zero = refl

less_than_sign : class_bits 0x3C ≡ 4
less_than_sign = refl

capital_a : class_bits 0x41 ≡ 40
capital_a = refl

largest_byte : class_bits 0xFF ≡ 32
largest_byte = refl

space_in_destination : is_in_destination 0x20 ≡ false
space_in_destination = refl

exclamation_mark_in_destination : is_in_destination 0x21 ≡ true
exclamation_mark_in_destination = refl

left_parenthesis_in_destination : is_in_destination 0x28 ≡ false
left_parenthesis_in_destination = refl

right_parenthesis_in_destination : is_in_destination 0x29 ≡ false
right_parenthesis_in_destination = refl

backslash_in_destination : is_in_destination 0x5C ≡ false
backslash_in_destination = refl

largest_byte_in_destination : is_in_destination 0xFF ≡ true
largest_byte_in_destination = refl
