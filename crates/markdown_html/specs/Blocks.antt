-- How blocks are written: each begins a line, and ends it. (CommonMark 0.31.2, chapters 4 and 5)
use Rattle.std.specs.Prelude.{ℕ, Bool, true, false, not, ◌==◌, List, [], ◌∷◌, ◌++◌, codes, drop, take, Option, Some, None, if◌then◌else◌}
use Rattle.std.specs.Fmt.{decimal}
use Rattle.std.specs.List.{prefix_len}
use Rattle.markdown_values.specs.declared.values.Alignment.{Alignment}
use Rattle.markdown_values.specs.declared.values.Alignment.TheVariants as Aligned
use Rattle.markdown_values.specs.declared.values.HeadingLevel.{HeadingLevel}
use Rattle.markdown_values.specs.values.Headings.{heading_name}
use Rattle.markdown_scanners_tree.specs.Bytes.{is_white_space}
use Rattle.markdown_html.specs.Escapes.{escaped}
use Rattle.markdown_html.specs.States.{HtmlState, ended_text, on_line, written}

-- ---- headings (4.2, 4.3)

abbrev pub heading_start : HeadingLevel → List ℕ
heading_start level = codes "<" ++ heading_name level ++ codes ">"

abbrev pub heading_end : HeadingLevel → List ℕ
heading_end level = codes "</" ++ heading_name level ++ codes ">\n"

-- ---- code (4.4, 4.5)

-- "The first word of the info string is typically used to specify the language of the code sample."
abbrev pub language : List ℕ → List ℕ
language info = take (prefix_len (λ b. not (is_white_space b)) info) info

abbrev pub named_start : List ℕ → List ℕ
named_start name = codes "<pre><code class=\"language-" ++ escaped name ++ codes "\">"

abbrev pub language_start : List ℕ → List ℕ
language_start [] = codes "<pre><code>"
language_start (b ∷ name) = named_start (b ∷ name)

-- code with this info string, or with none
abbrev pub code_start : Option (List ℕ) → List ℕ
code_start None = language_start []
code_start (Some info) = language_start (language info)

-- The last line of code ends, also where the page ends in it.
abbrev pub code_ended : HtmlState → HtmlState
code_ended s = record s { output = ended_text s.output ++ codes "</code></pre>\n" }

-- ---- lists (5.3)

-- a list whose items are numbered from so many on, or have bullets
abbrev pub numbered_start : ℕ → List ℕ
numbered_start first = codes "<ol start=\"" ++ decimal first ++ codes "\">\n"

abbrev pub list_start : Option ℕ → List ℕ
list_start None = codes "<ul>\n"
list_start (Some first) = if first == 1 then codes "<ol>\n" else numbered_start first

abbrev pub list_end : Bool → List ℕ
list_end is_numbered = if is_numbered then codes "</ol>\n" else codes "</ul>\n"

-- the box of a task (GFM 5.3)
abbrev pub task_box : Bool → List ℕ
task_box is_checked =
    if is_checked then codes "<input checked=\"\" disabled=\"\" type=\"checkbox\"> " else codes "<input disabled=\"\" type=\"checkbox\"> "

-- ---- tables (GFM 4.10)

abbrev pub table_started : List Alignment → HtmlState → HtmlState
table_started columns s = record (on_line (codes "<table>\n") s) { columns = columns; cells = columns; has_body = false }

-- "The header row" is a part of the table.
abbrev pub head_started : HtmlState → HtmlState
head_started s = record (on_line (codes "<thead>\n<tr>\n") s) { cells = s.columns; is_head = true }

abbrev pub head_end : List ℕ
head_end = codes "</tr>\n</thead>\n"

-- The other rows are a second part, which begins with the first of them: "If there are no rows in the body, no `<tbody>` is generated".
abbrev pub row_start : Bool → List ℕ
row_start has_body = if has_body then codes "<tr>\n" else codes "<tbody>\n<tr>\n"

abbrev pub row_started : HtmlState → HtmlState
row_started s = record (on_line (row_start s.has_body) s) { cells = s.columns; is_head = false; has_body = true }

abbrev pub table_end : Bool → List ℕ
table_end has_body = if has_body then codes "</tbody>\n</table>\n" else codes "</table>\n"

abbrev pub cell_name : Bool → List ℕ
cell_name is_head = if is_head then codes "th" else codes "td"

-- how a cell is aligned
abbrev pub align_attribute : Alignment → List ℕ
align_attribute Aligned.None = []
align_attribute Aligned.Left = codes " align=\"left\""
align_attribute Aligned.Center = codes " align=\"center\""
align_attribute Aligned.Right = codes " align=\"right\""

-- the same of the first of these cells, if there is one
abbrev pub cell_align : List Alignment → List ℕ
cell_align [] = []
cell_align (alignment ∷ later) = align_attribute alignment

abbrev pub cell_started : HtmlState → HtmlState
cell_started s =
    record (written (codes "<" ++ cell_name s.is_head ++ cell_align s.cells ++ codes ">") s) { cells = drop 1 s.cells }

abbrev pub cell_end : Bool → List ℕ
cell_end is_head = codes "</" ++ cell_name is_head ++ codes ">\n"
