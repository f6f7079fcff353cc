-- Classes of bytes, and lines. (CommonMark 0.31.2, section 2.1, characters and lines)
use Rattle.std.specs.Prelude.{ℕ, Bool, true, false, ◌||◌, ◌&&◌, ◌==◌, not, nat_le, List, [], ◌∷◌, ◌++◌, ◌≡◌, length, take_while, drop, ◌+◌, Option, Some, None, IsTrue, unwrap_or, if◌then◌else◌}
use Rattle.std.specs.List.{list_all}
use Rattle.markdown_scanners_tree.specs.Ascii.{tab, line_feed, carriage_return, space, quotation_mark, apostrophe, less_than_sign, equals_sign, greater_than_sign, backtick}

-- b lies from low to high
abbrev pub is_between : ℕ → ℕ → ℕ → Bool
is_between low high b = nat_le low b && nat_le b high

-- white space: tab, LF, vertical tab, form feed, CR, space
abbrev pub is_white_space : ℕ → Bool
is_white_space b = is_between tab carriage_return b || b == space

-- white space that ends no line: tab, vertical tab, form feed, space
abbrev pub is_white_space_in_line : ℕ → Bool
is_white_space_in_line b = b == tab || is_between 11 12 b || b == space

-- ASCII punctuation
abbrev pub is_punctuation : ℕ → Bool
is_punctuation b =
    is_between 33 47 b || is_between 58 64 b || is_between 91 96 b || is_between 123 126 b

abbrev pub is_letter : ℕ → Bool
is_letter b = is_between 65 90 b || is_between 97 122 b

abbrev pub is_digit : ℕ → Bool
is_digit b = is_between 48 57 b

abbrev pub is_alphanumeric : ℕ → Bool
is_alphanumeric b = is_letter b || is_digit b

-- a space or a tab
abbrev pub is_space_or_tab : ℕ → Bool
is_space_or_tab b = b == space || b == tab

-- LF or CR
abbrev pub is_line_ending : ℕ → Bool
is_line_ending b = b == line_feed || b == carriage_return

-- a byte of an unquoted attribute value: none of quotes, space, `=`, `<`, `>`, backtick, LF, CR; a
-- tab is taken too (6.6, raw HTML)
abbrev pub is_unquoted : ℕ → Bool
is_unquoted b =
    not (b == apostrophe || b == quotation_mark || b == space || b == equals_sign
    || b == greater_than_sign || b == less_than_sign || b == backtick || is_line_ending b)

-- the first element, if there is one, passes the test
abbrev pub begins_with : {A : Type 0} → (A → Bool) → List A → Bool
begins_with test [] = false
begins_with test (b ∷ bs) = test b

-- the list is at its end, or the first element passes the test
abbrev pub ends_or_begins_with : {A : Type 0} → (A → Bool) → List A → Bool
ends_or_begins_with test [] = true
ends_or_begins_with test (b ∷ bs) = test b

-- the head of a line: what stands before its first LF or CR, or all of it
abbrev pub line_head : List ℕ → List ℕ
line_head = take_while (λ b. not (is_line_ending b))

-- a line ending, or the end of the text, stands at the front
abbrev pub is_at_line_end : List ℕ → Bool
is_at_line_end = ends_or_begins_with is_line_ending

-- the length of the line ending at the front, where the end of the text counts as one of length 0
abbrev pub line_ending : List ℕ → Option ℕ
line_ending [] = Some 0
line_ending (b ∷ bs) =
    if b == line_feed then Some 1
    else if b == carriage_return
    then (if begins_with (λ c. c == line_feed) bs then Some 2 else Some 1)
    else None

-- the length of a prefix of the bytes, with the line ending that follows it, if one does
abbrev pub length_with_ending : List ℕ → List ℕ → ℕ
length_with_ending prefix bytes =
    length prefix + unwrap_or (line_ending (drop (length prefix) bytes)) 0

-- the length of the first line: the bytes before the first line ending, and that ending, if there is one
abbrev pub line_length : List ℕ → ℕ
line_length bytes = length_with_ending (line_head bytes) bytes

-- A line is blank up to offset n: white space that ends no line, and a line ending, n bytes
-- together.
pub record IsBlankLine (bytes : List ℕ) (n : ℕ) : Type 0 where
  pub space : List ℕ
  pub rest : List ℕ
  pub ending : ℕ
  pub parts : bytes ≡ space ++ rest
  pub spaces : IsTrue (list_all is_white_space_in_line space)
  pub ends : line_ending rest ≡ Some ending
  pub counted : n ≡ length space + ending

-- the same as a test: nothing but white space stands before the line ending
abbrev pub is_blank : List ℕ → Bool
is_blank bytes = list_all is_white_space_in_line (line_head bytes)

-- the length of the blank line at the front with its line ending, if the line is blank
abbrev pub blank_line : List ℕ → Option ℕ
blank_line bytes = if is_blank bytes then Some (line_length bytes) else None

-- no blank line stands at the front
abbrev pub NoBlankLine : List ℕ → Type 0
NoBlankLine bytes = (n : ℕ) → ¬ IsBlankLine bytes n
