-- The entities of HTML. (CommonMark 0.31.2, section 2.5, entity references)
use Rattle.std.specs.Prelude.{ℕ, suc, ◌<◌, IsTrue, List, [], ◌∷◌, ◌++◌, map, length, get_or, Option, Some, None, codes, if◌then◌else◌}
use Rattle.std.specs.Str.{bytes_eq, encode_utf8_all}
use Rattle.std.specs.Ordering.{is_lt, nat_cmp}
use Rattle.std.specs.Cmp.Lexicographic.{slice_cmp}
use Rattle.html_entities.specs.Row.{Row}
use Rattle.html_entities.specs.Rows1.{rows_1}
use Rattle.html_entities.specs.Rows2.{rows_2}
use Rattle.html_entities.specs.Rows3.{rows_3}
use Rattle.html_entities.specs.Rows4.{rows_4}
use Rattle.html_entities.specs.Rows5.{rows_5}

-- every name of HTML that ends in `;`
unfoldable pub html_rows : List Row
html_rows = rows_1 ++ (rows_2 ++ (rows_3 ++ (rows_4 ++ rows_5)))

-- the names and the meanings of rows, in UTF-8
unfoldable pub names_of : List Row → List (List ℕ)
names_of rows = map (λ row. codes row.0) rows

unfoldable pub meanings_of : List Row → List (List ℕ)
meanings_of rows = map (λ row. encode_utf8_all row.1) rows

-- the meaning in the first row with the name, or none
unfoldable pub meaning_in : List Row → List ℕ → Option (List ℕ)
meaning_in [] name = None
meaning_in (row ∷ rows) name =
    if bytes_eq (codes row.0) name then Some (encode_utf8_all row.1) else meaning_in rows name

-- the text of an entity of HTML with this name
unfoldable pub html_entity : List ℕ → Option (List ℕ)
html_entity name = meaning_in html_rows name

-- each text stands before the next, byte by byte
abbrev pub IsRising : List (List ℕ) → Type 0
IsRising texts =
    (k : ℕ) → suc k < length texts
    → IsTrue (is_lt (slice_cmp nat_cmp (get_or texts k []) (get_or texts (suc k) [])))
