-- Small tables of entities. (CommonMark 0.31.2, section 2.5, entity references)
use Rattle.std.specs.Prelude.{ℕ, List, [], ◌∷◌, Option, None, Some, if◌then◌else◌}
use Rattle.std.specs.Str.{bytes_eq}

-- the text in the first row with the name, if there is one; a row has a name, without its `&` and
-- `;`, and a text
abbrev pub text_of_name : List (List ℕ × List ℕ) → List ℕ → Option (List ℕ)
text_of_name [] name = None
text_of_name (row ∷ rows) name =
    if bytes_eq row.0 name then Some row.1 else text_of_name rows name
