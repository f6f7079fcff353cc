-- The lines that are written of a page, as editors take them.
use Rattle.std.specs.Prelude.{ℕ, List, [], ◌∷◌, ◌++◌, codes}
use Rattle.std.specs.Fmt.{decimal}
use Rattle.std.specs.List.{flat_map}
use Rattle.markdown_scanners_tree.specs.Ascii.{line_feed}
use Rattle.page_positions.specs.declared.Position.{Position}
use Rattle.page_positions.specs.Positions.{text_position}
use Rattle.page_tables.specs.declared.misfits.Misfit.{Misfit}
use Rattle.page_tables.specs.declared.misfits.Unfit.{Unfit}
use Rattle.page_tables.specs.declared.misfits.Unfit.TheVariants.{TooManyCells, NoCell, TooWide}

-- a line that says something of a position in the page of this name
abbrev pub line_at : List ℕ → Position → List ℕ → List ℕ
line_at name position words =
    name ++ codes ":" ++ decimal position.line ++ codes ":" ++ decimal position.column ++ codes ": " ++ words ++ line_feed ∷ []

-- of a table that changes
abbrev pub change_line : List ℕ → List ℕ → ℕ → List ℕ
change_line name page offset = line_at name (text_position page offset) (codes "table is not laid out")

abbrev pub change_lines : List ℕ → List ℕ → List ℕ → List ℕ
change_lines name page heads = flat_map (change_line name page) heads

-- why a table is left as it is
abbrev pub misfit_words : Unfit → List ℕ
misfit_words TooManyCells = codes "row has more cells than its table has columns, and the table is left as it is"
misfit_words NoCell = codes "row has no cell, and its table is left as it is"
misfit_words TooWide = codes "table would be wider than 2000 columns, and is left as it is"

abbrev pub misfit_line : List ℕ → List ℕ → Misfit → List ℕ
misfit_line name page it = line_at name (text_position page it.start) (misfit_words it.why)

abbrev pub misfit_lines : List ℕ → List ℕ → List Misfit → List ℕ
misfit_lines name page rows = flat_map (misfit_line name page) rows

-- of a page that is left as it is
abbrev pub left_line : List ℕ → List ℕ
left_line name = name ++ (codes ":1:1: tables would not stay the same, and the page is left as it is" ++ line_feed ∷ [])
