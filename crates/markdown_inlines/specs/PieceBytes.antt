-- The bytes that the pieces of a text begin with. (CommonMark 0.31.2, chapter 6)
use Rattle.std.specs.Prelude.{ℕ, suc, Bool, ◌&&◌, ◌||◌, ◌==◌, not, List, [], ◌∷◌, drop, if◌then◌else◌}
use Rattle.std.specs.List.{prefix_len}
use Rattle.markdown_scanners_tree.specs.Ascii.{ampersand, asterisk, backslash, backtick, exclamation_mark, left_bracket, less_than_sign}
use Rattle.markdown_scanners_tree.specs.Ascii.{right_bracket, space, tilde, underscore}
use Rattle.markdown_scanners_tree.specs.Bytes.{begins_with, is_line_ending}

-- a line break begins with a backslash, a space or a line ending
abbrev pub opens_break : ℕ → Bool
opens_break b = b == backslash || b == space || is_line_ending b

abbrev pub opens_bracket : ℕ → Bool
opens_bracket b = b == exclamation_mark || b == left_bracket || b == right_bracket

-- code, an autolink, raw HTML, a delimiter run and a run of tildes, which may take many bytes
abbrev pub opens_long : ℕ → Bool
opens_long b = b == less_than_sign || b == backtick || b == asterisk || b == underscore || b == tilde

-- a byte with which no piece but text begins, whatever is asked for
abbrev pub is_plain : ℕ → Bool
is_plain b = not (opens_break b || opens_bracket b || opens_long b || b == ampersand)

-- plain, or a space
abbrev pub is_plain_or_space : ℕ → Bool
is_plain_or_space b = is_plain b || b == space

-- the spaces at the front are followed by a line ending
abbrev pub is_before_ending : List ℕ → Bool
is_before_ending bytes = begins_with is_line_ending (drop (prefix_len (λ b. b == space) bytes) bytes)

-- a space begins no piece where no line ending follows the spaces
abbrev pub is_word_space : ℕ → List ℕ → Bool
is_word_space b after = b == space && not (is_before_ending after)

-- how many bytes at the front are plain, or spaces that begin no piece
abbrev pub plain_length : List ℕ → ℕ
plain_length [] = 0
plain_length (b ∷ bs) = if is_plain b || is_word_space b bs then suc (plain_length bs) else 0

-- how many bytes at the front are passed over where none of them begins a piece: a backtick string, spaces, or another byte
abbrev pub run_length : List ℕ → ℕ
run_length [] = 0
run_length (b ∷ bs) =
    if b == backtick then prefix_len (λ c. c == backtick) (b ∷ bs)
    else if b == space then prefix_len (λ c. c == space) (b ∷ bs)
    else 1
