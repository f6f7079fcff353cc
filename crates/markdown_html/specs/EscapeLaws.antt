-- What holds of texts in HTML, without the table by which they are written.
use Rattle.std.specs.Prelude.{ℕ, true, ◌≡◌, List}
use Rattle.markdown_html.specs.SafeHtml.{is_text, read_after}

-- A text is read back as it was. No byte begins or ends a tag, or ends a quoted value, and each ampersand begins a reference.
pub record IsTextOf (text html : List ℕ) : Type 0 where
  pub reads : read_after 0 html ≡ text
  pub stands : is_text html ≡ true
