-- The byte order mark that a page may begin with, and the text after it. (The Unicode Standard, section 23.8, "Byte Order Mark (BOM)";
-- Encoding Standard, "UTF-8 decode")
use Rattle.std.specs.Prelude.{ℕ, List, [], ◌∷◌, length, drop, nat_eq, if◌then◌else◌}
use Rattle.std.specs.List.{starts_with}

-- U+FEFF in UTF-8
abbrev pub byte_order_mark : List ℕ
byte_order_mark = 0xEF ∷ 0xBB ∷ 0xBF ∷ []

-- how many bytes of a page stand before its text: those of the mark that it begins with, or none
abbrev pub text_start : List ℕ → ℕ
text_start page = if starts_with nat_eq page byte_order_mark then length byte_order_mark else 0

abbrev pub text_of : List ℕ → List ℕ
text_of page = drop (text_start page) page
