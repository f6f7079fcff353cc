-- The bytes that the rules of CommonMark name.
use Rattle.std.specs.Prelude.{ℕ}

-- b'\t'
abbrev pub tab : ℕ
tab = 9

-- b'\n'
abbrev pub line_feed : ℕ
line_feed = 10

-- the form feed
abbrev pub form_feed : ℕ
form_feed = 12

-- b'\r'
abbrev pub carriage_return : ℕ
carriage_return = 13

-- b' '
abbrev pub space : ℕ
space = 32

-- b'!'
abbrev pub exclamation_mark : ℕ
exclamation_mark = 33

-- b'"'
abbrev pub quotation_mark : ℕ
quotation_mark = 34

-- b'#'
abbrev pub number_sign : ℕ
number_sign = 35

-- b'&'
abbrev pub ampersand : ℕ
ampersand = 38

-- b'\''
abbrev pub apostrophe : ℕ
apostrophe = 39

-- b'('
abbrev pub left_parenthesis : ℕ
left_parenthesis = 40

-- b')'
abbrev pub right_parenthesis : ℕ
right_parenthesis = 41

-- b'*'
abbrev pub asterisk : ℕ
asterisk = 42

-- b'+'
abbrev pub plus_sign : ℕ
plus_sign = 43

-- b'-'
abbrev pub hyphen : ℕ
hyphen = 45

-- b'.'
abbrev pub full_stop : ℕ
full_stop = 46

-- b'/'
abbrev pub slash : ℕ
slash = 47

-- b':'
abbrev pub colon : ℕ
colon = 58

-- b';'
abbrev pub semicolon : ℕ
semicolon = 59

-- b'<'
abbrev pub less_than_sign : ℕ
less_than_sign = 60

-- b'='
abbrev pub equals_sign : ℕ
equals_sign = 61

-- b'>'
abbrev pub greater_than_sign : ℕ
greater_than_sign = 62

-- b'?'
abbrev pub question_mark : ℕ
question_mark = 63

-- b'X'
abbrev pub capital_x : ℕ
capital_x = 88

-- b'['
abbrev pub left_bracket : ℕ
left_bracket = 91

-- b'\\'
abbrev pub backslash : ℕ
backslash = 92

-- b']'
abbrev pub right_bracket : ℕ
right_bracket = 93

-- b'_'
abbrev pub underscore : ℕ
underscore = 95

-- b'`'
abbrev pub backtick : ℕ
backtick = 96

-- b'x'
abbrev pub small_x : ℕ
small_x = 120

-- b'|'
abbrev pub vertical_line : ℕ
vertical_line = 124

-- b'~'
abbrev pub tilde : ℕ
tilde = 126
