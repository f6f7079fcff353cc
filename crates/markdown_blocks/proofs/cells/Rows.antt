-- Cells of rows, by the examples of GitHub Flavored Markdown 0.29, section 4.10, and as cmark-gfm 0.29.0 has them.
use Rattle.std.proofs.Common.{ℕ, List, true, false, [], ◌∷◌, ◌≡◌, refl, map}
use Rattle.std.specs.Prelude.{codes}
use Rattle.markdown_blocks.specs.blocks.Tables.{cells}
use Rattle.markdown_blocks.specs.cells.Cells.{cells_of}
use Rattle.markdown_blocks.specs.cells.Contents.{content_of_cell}
use Rattle.markdown_blocks.specs.content.Content.{Placed}

-- the content of each cell
abbrev contents : List ℕ → List Placed
contents row = map (content_of_cell row) (cells_of row)

abbrev texts : List ℕ → List (List ℕ)
texts row = map (λ (c : Placed). c.text) (contents row)

-- examples 198 to 200, 202 and 204
piped : texts (codes "| baz | bim |\n") ≡ codes "baz" ∷ codes "bim" ∷ []
piped = refl

bare : texts (codes "bar | baz") ≡ codes "bar" ∷ codes "baz" ∷ []
bare = refl

escaped_in_text : texts (codes "| f\\|oo  |\n") ≡ codes "f|oo" ∷ []
escaped_in_text = refl

escaped_in_code : texts (codes "| b `\\|` az |\n") ≡ codes "b `|` az" ∷ []
escaped_in_code = refl

without_pipe : texts (codes "bar\n") ≡ codes "bar" ∷ []
without_pipe = refl

three : texts (codes "| bar | baz | boo |\r\n") ≡ codes "bar" ∷ codes "baz" ∷ codes "boo" ∷ []
three = refl

-- after further spaces and tabs
indented : texts (codes "  \t| a | b |\n") ≡ codes "a" ∷ codes "b" ∷ []
indented = refl

indented_bare : texts (codes "   a | b\n") ≡ codes "a" ∷ codes "b" ∷ []
indented_bare = refl

-- empty cells
one_empty : texts (codes "||\n") ≡ [] ∷ []
one_empty = refl

empty_between : texts (codes "c||d") ≡ codes "c" ∷ [] ∷ codes "d" ∷ []
empty_between = refl

blank_first : texts (codes "| |\tc") ≡ [] ∷ codes "c" ∷ []
blank_first = refl

-- backslashes before pipes, and the offsets of what is left
two_backslashes : texts (codes "`\\\\|`|c\\\\\\|d") ≡ codes "`\\|`" ∷ codes "c\\\\|d" ∷ []
two_backslashes = refl

escaped_last : texts (codes "|b\\|\n") ≡ codes "b|" ∷ []
escaped_last = refl

placed : contents (codes "\\|c\\|| \\")
    ≡ record { text = codes "|c|"; offsets = 1 ∷ 2 ∷ 4 ∷ []; is_lent = false } ∷ record { text = codes "\\"; offsets = 7 ∷ []; is_lent = true } ∷ []
placed = refl

-- a pipe alone, and nothing
no_cell : texts (codes "|\n") ≡ []
no_cell = refl

counted : cells (codes "| a |") ≡ 1
counted = refl
