-- How a page is printed block by block.
use Rattle.std.specs.Prelude.{ℕ, ◌≡◌, List, [], ◌++◌, length, string_bytes}
use Rattle.markdown_blocks.specs.blocks.Pages.{Piece, AreBlocks, IsFront, lines_in}
use Rattle.markdown_blocks.specs.byte_order_mark.ByteOrderMark.{text_of, text_start}
use Rattle.markdown_blocks.specs.containers.Containers.{Between}
use Rattle.markdown_values.specs.declared.values.extensions.Extensions.{Extensions}
use Rattle.markdown_blocks.specs.events.Events.{open_after}
use Rattle.markdown_blocks.specs.events.Shown.{AreShownOf, Shown}
use Rattle.page_blocks.specs.declared.page.Printing.{Printing}
use Rattle.page_blocks.specs.declared.arguments.Form.{Form}
use Rattle.page_blocks.specs.Printed.{Printed, lines_of_events, after_all, front_of}
use Rattle.page_blocks.specs.Printers.{printed_of}

-- With these extensions on, the text has the lines of the events of blocks at the front of the page, and these lines follow them. So far the page is printed
-- then, and so many containers are open.
pub record IsPrinted (asked : Extensions) (form : Form) (page text : List ℕ) (p : Printed) (depth : ℕ) (rest : List (List ℕ)) : Type 0 where
  pub pieces : List Piece
  pub shown : List Shown
  pub are_its_blocks : IsFront asked (text_of page) pieces rest
  pub are_their_events : AreShownOf [] 0 (text_start page) pieces shown
  pub lines : text ≡ lines_of_events form (front_of (text_start page)) shown
  pub so_far : p ≡ after_all (front_of (text_start page)) shown
  pub open_now : depth ≡ open_after 0 pieces

-- The text prints a page as far as these lines, before which the page is printed so far and these containers are open: whatever
-- blocks the first of them are, with the lines of their events it prints blocks at the front of the page.
unfoldable pub GoesOnPrinting : Form → List ℕ → List ℕ → Printed → Between → List (List ℕ) → Type 0
GoesOnPrinting form page text p outer lines =
    (later : List Piece) (shown : List Shown) (rest : List (List ℕ)) → lines ≡ lines_in later ++ rest → AreBlocks outer later rest
    → AreShownOf outer.containers p.at.lines p.at.bytes later shown
    → IsPrinted outer.extensions form page (text ++ lines_of_events form p shown) (after_all p shown) (open_after (length outer.containers) later) rest

-- what was written, and then the lines that are not yet written, print the page as far as these lines
abbrev pub HasPrinted : List ℕ → List ℕ → Printing → List (List ℕ) → Type 0
HasPrinted page written printing lines =
    GoesOnPrinting printing.printer.form page (written ++ string_bytes printing.printer.text) (printed_of printing.printer) printing.walk lines

-- of each page that is printed as far as the ones, it goes on to print it as far as the others
abbrev pub Prints : Printing → List (List ℕ) → Printing → List (List ℕ) → Type 0
Prints old lines new rest = (page written : List ℕ) → HasPrinted page written old lines → HasPrinted page written new rest
