-- What is made and said of a page.
use Rattle.std.specs.Prelude.{ℕ, Bool, true, false, ◌≡◌, ◌⊎◌, List, [], ◌++◌, string_bytes, if◌then◌else◌}
use Rattle.std.specs.Str.{IsUtf8}
use Rattle.page_tables.specs.Changes.{changes_of}
use Rattle.page_tables.specs.Formatted.{IsSettled}
use Rattle.page_tables.specs.Layout.{laid_out}
use Rattle.page_tables.specs.Marks.{AreMarksOf, MarkView}
use Rattle.page_tables.specs.Misfits.{misfits}
use Rattle.page_tables.specs.Reports.{change_lines, left_line, misfit_lines}
use Rattle.page_tables.specs.Widths.{display_width}
use Rattle.page_tables.specs.declared.formatted.Made.{Made}
use Rattle.page_tables.specs.declared.formatted.Made.TheVariants.{Stays, Becomes, IsLeft}

-- the text that a page becomes
abbrev pub made_text : List ℕ → Made → List ℕ
made_text page Stays = page
made_text page (Becomes text) = string_bytes text
made_text page IsLeft = page

abbrev pub is_left : Made → Bool
is_left Stays = false
is_left (Becomes text) = false
is_left IsLeft = true

abbrev pub becomes_other : Made → Bool
becomes_other Stays = false
becomes_other (Becomes text) = true
becomes_other IsLeft = false

module _ (width : List ℕ → ℕ) where
  -- The text of a page with these tables: the page with them laid out, if they are the same tables then and laid out. Else it is left.
  abbrev pub IsMade : List ℕ → List MarkView → List ℕ → Bool → Type 0
  IsMade page marks text left =
      (IsSettled width page (laid_out width page marks) × (text ≡ laid_out width page marks) × (left ≡ false))
      ⊎ ((¬ IsSettled width page (laid_out width page marks)) × (text ≡ page) × (left ≡ true))

-- What becomes of the page of this name, with what is said of what is left as it is; if it is checked the lines name the rows for which tables
-- are, and then the tables that change.
pub record IsLook (checks : Bool) (name page text notes lines : List ℕ) : Type 0 where
  pub is_text : IsUtf8 page
  pub marks : List MarkView
  pub are_marks : AreMarksOf page marks
  pub left : Bool
  pub is_made : IsMade display_width page marks text left
  pub are_notes : notes ≡ (if checks then [] else misfit_lines name page (misfits display_width page marks)) ++ (if left then left_line name else [])
  pub are_lines : lines ≡
      (if checks then misfit_lines name page (misfits display_width page marks) ++ change_lines name page (changes_of display_width page marks text) else [])
