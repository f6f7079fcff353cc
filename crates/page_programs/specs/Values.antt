-- Words that take the word after them.
use Rattle.std.specs.Prelude.{ℕ, Bool, ◌||◌, List, [], ◌∷◌, ◌++◌, codes, if◌then◌else◌}
use Rattle.std.specs.Option.{option_map_or}
use Rattle.std.specs.Str.{bytes_eq}
use Rattle.page_programs.specs.Arguments.{after, is_last}

abbrev pub takes_value : List ℕ → Bool
takes_value word = bytes_eq word (codes "-e") || (bytes_eq word (codes "--to") || bytes_eq word (codes "--root"))

-- an option and its value in one word
abbrev pub with_value : List ℕ → List ℕ → List ℕ
with_value option value = option ++ (codes " " ++ value)

-- A word in which an option has one of its values, as after `--to=` and `-e`, with a space between them.
abbrev pub spelled : List ℕ → List ℕ
spelled word =
    if bytes_eq word (codes "--to=html") then codes "--to html"
    else if bytes_eq word (codes "--to=events") then codes "--to events"
    else if bytes_eq word (codes "--to=json") then codes "--to json"
    -- packages/extensions
    else if bytes_eq word (codes "-etables") then codes "-e tables"
    else if bytes_eq word (codes "-efootnotes") then codes "-e footnotes"
    else if bytes_eq word (codes "-estrikethrough") then codes "-e strikethrough"
    else if bytes_eq word (codes "-etasks") then codes "-e tasks"
    else if bytes_eq word (codes "-edefinition-lists") then codes "-e definition-lists"
    else if bytes_eq word (codes "-ewikilinks") then codes "-e wikilinks"
    -- end
    else word

-- The same of an option that has any value, too.
abbrev pub respelled : List ℕ → List ℕ
respelled word = option_map_or (with_value (codes "--root")) (after (codes "--root=") word) (spelled word)

-- The arguments, where up to `--` each option and its value are one word, and a space stands between them.
abbrev pub joined : List (List ℕ) → List (List ℕ)
joined [] = []
joined (word ∷ []) = if is_last word then word ∷ [] else respelled word ∷ []
joined (word ∷ value ∷ arguments) =
    if is_last word then word ∷ value ∷ arguments
    else if takes_value word then with_value word value ∷ joined arguments
    else respelled word ∷ joined (value ∷ arguments)
