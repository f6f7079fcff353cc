-- What is written, and what of it is open.
use Rattle.std.specs.Prelude.{ℕ, Bool, true, false, not, ◌==◌, ◌&&◌, ◌-◌, List, [], ◌∷◌, ◌++◌, length, slice_get, Option, Some, None}
use Rattle.std.specs.Prelude.{if◌then◌else◌}
use Rattle.markdown_values.specs.declared.values.Alignment.{Alignment}
use Rattle.markdown_scanners_tree.specs.Ascii.{greater_than_sign, line_feed}

-- What is written so far. The links and images that are open, the innermost first: an image by its title, which is written after what
-- it holds. Of the table that is open, or was last: how its columns are aligned, how the cells are that its row does not have yet,
-- whether that is its head, and whether it has other rows. And whether the writer is spent: memory was refused, and no event is taken
-- any more.
pub record HtmlState : Type 0 where
  pub output : List ℕ
  pub links : List (Option (List ℕ))
  pub columns : List Alignment
  pub cells : List Alignment
  pub is_head : Bool
  pub has_body : Bool
  pub is_spent : Bool

-- before the first event
abbrev pub nothing_written : HtmlState
nothing_written = record { output = []; links = []; columns = []; cells = []; is_head = false; has_body = false; is_spent = false }

-- after memory was refused: what was written is given back
abbrev pub spent : HtmlState
spent = record nothing_written { is_spent = true }

-- with more written
abbrev pub written : List ℕ → HtmlState → HtmlState
written more s = record s { output = s.output ++ more }

-- ---- lines

-- whether a line has begun that ends with this byte, or that is none
abbrev pub is_begun : Option ℕ → Bool
is_begun None = false
is_begun (Some b) = not (b == line_feed)

abbrev pub last_byte : List ℕ → Option ℕ
last_byte output = slice_get output (length output - 1)

-- with the line ended that has begun
abbrev pub ended_line : List ℕ → List ℕ
ended_line output = if is_begun (last_byte output) then output ++ line_feed ∷ [] else output

-- with more written on a line of its own
abbrev pub on_line : List ℕ → HtmlState → HtmlState
on_line more s = record s { output = ended_line s.output ++ more }

-- Whether a line of a text has begun: the last byte is none that ends a line, or a tag. Texts hold no `>` that is not written as a
-- reference.
abbrev pub is_text_begun : Option ℕ → Bool
is_text_begun None = false
is_text_begun (Some b) = not (b == line_feed) && not (b == greater_than_sign)

abbrev pub ended_text : List ℕ → List ℕ
ended_text output = if is_text_begun (last_byte output) then output ++ line_feed ∷ [] else output

-- ---- links and images

-- whether an image is open: of what it holds only the text is written
abbrev pub is_in_image : List (Option (List ℕ)) → Bool
is_in_image (Some title ∷ outer) = true
is_in_image links = false
