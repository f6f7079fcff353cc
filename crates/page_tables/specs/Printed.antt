-- What the program makes of a page.
use Rattle.std.specs.Prelude.{ℕ, List}
use Rattle.std.specs.Str.{IsUtf8}
use Rattle.page_tables.specs.Formatted.{HaveSameTables, IsFormatted}
use Rattle.page_tables.specs.Widths.{display_width}

-- The text is what is made of the page: what a formatter makes of it, with the same tables.
pub record IsPrinted (page text : List ℕ) : Type 0 where
  pub is_text : IsUtf8 page
  pub is_formatted : IsFormatted display_width page text
  pub same : HaveSameTables page text
