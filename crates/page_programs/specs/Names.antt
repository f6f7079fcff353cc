-- How the name of a page is printed.
use Rattle.std.specs.Prelude.{ℕ, false, List, ◌==◌, ◌++◌, codes, encode_utf8, if◌then◌else◌}
use Rattle.std.specs.Char.{is_control}
use Rattle.std.specs.Fmt.{digits}
use Rattle.std.specs.List.{flat_map}
use Rattle.std.specs.Str.{bytes_eq, chars}
use Rattle.page_programs.specs.Arguments.{dash}

-- A character of a name: a control character (Unicode, Cc) is an escape, as Rust writes it, and any other stands for itself.
abbrev pub shown_char : ℕ → List ℕ
shown_char c =
    if c == 9 then codes "\\t"
    else if c == 10 then codes "\\n"
    else if c == 13 then codes "\\r"
    else if is_control c then codes "\\u{" ++ digits 16 false c ++ codes "}"
    else encode_utf8 c

-- a name that is printed
abbrev pub shown : List ℕ → List ℕ
shown name = flat_map shown_char (chars name)

-- how a page is called
abbrev pub shown_name : List ℕ → List ℕ
shown_name name = if bytes_eq name dash then codes "standard input" else shown name
