-- What is made and said of a page.
use Rattle.std.proofs.Common.{ℕ, Bool, List}
use Rattle.page_tables.specs.Looks.{IsLook}
use Rattle.page_tables.specs.Printed.{IsPrinted}
use Rattle.page_tables.specs.Sizes.{IsBounded}
use Rattle.page_tables.specs.Widths.{display_width}
use Rattle.page_tables.proofs.SettledLemmas.{made_formatted, made_same}
use Rattle.page_tables.proofs.SizeLemmas.{formatted_bounded}

-- the text is what a formatter makes of the page
pub look_printed : (checks : Bool) (name page text notes lines : List ℕ) → IsLook checks name page text notes lines → IsPrinted page text
look_printed checks name page text notes lines look = record {
  is_text = look.is_text;
  is_formatted = made_formatted display_width page look.marks look.are_marks text look.left look.is_made;
  same = made_same display_width page look.marks look.are_marks text look.left look.is_made;
}

-- and it is bounded
pub look_bounded : (checks : Bool) (name page text notes lines : List ℕ) → IsLook checks name page text notes lines → IsBounded page text
look_bounded checks name page text notes lines look =
    formatted_bounded display_width page text (look_printed checks name page text notes lines look).is_formatted
