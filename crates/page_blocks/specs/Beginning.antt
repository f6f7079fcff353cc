-- How a page is printed whose first bytes are read one after another: a byte order mark may be cut in two by a read.
use Rattle.std.specs.Prelude.{◌≡◌, ℕ, List, [], ◌++◌, MatchBool, string_bytes}
use Rattle.markdown_scanners_tree.specs.scanners.TextLines.{lines_of}
use Rattle.markdown_blocks.specs.blocks.Pages.{root}
use Rattle.markdown_blocks.specs.lists.Tracked.{at_start}
use Rattle.page_blocks.specs.declared.beginning.PagePrinting.{PagePrinting}
use Rattle.page_blocks.specs.declared.page.Printing.{Printing}
use Rattle.page_blocks.specs.Going.{HasPrinted}

-- nothing is written and nothing printed: no list has begun, and no container is open
abbrev pub IsFresh : List ℕ → Printing → Type 0
IsFresh written printing =
    (written ++ string_bytes printing.printer.text ≡ []) × (printing.printer.lists ≡ at_start) × (printing.walk ≡ root printing.walk.extensions)

-- What was written, and then the lines that are not yet written, print the page as far as these bytes that are left: where its text has
-- not begun, that is the whole page.
abbrev pub HasPrintedPage : List ℕ → List ℕ → PagePrinting → List ℕ → Type 0
HasPrintedPage page written printing left =
    MatchBool printing.has_begun (HasPrinted page written printing.text (lines_of left)) ((page ≡ left) × IsFresh written printing.text)

-- of each page that is printed as far as the ones, it goes on to print it as far as the others
abbrev pub PrintsMore : PagePrinting → List ℕ → PagePrinting → List ℕ → Type 0
PrintsMore old left new rest = (page written : List ℕ) → HasPrintedPage page written old left → HasPrintedPage page written new rest
