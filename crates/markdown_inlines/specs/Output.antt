-- The inlines of a text in order, by its cut. (CommonMark 0.31.2, chapter 6)
use Rattle.std.specs.Prelude.{ℕ, Bool, ◌+◌, ◌-◌, List, [], ◌∷◌, ◌++◌, ◌≡◌, get_or, Option, None, if◌then◌else◌}
use Rattle.std.specs.List.{flat_map, range_with_len}
use Rattle.std.specs.Option.{is_some}
use Rattle.markdown_inlines.specs.Inlines.{Setting, IsCut}
use Rattle.markdown_inlines.specs.Marks.{ends_link, marks_by}
use Rattle.markdown_inlines.specs.declared.emphasis.Emphasis.{Emphasis}
use Rattle.markdown_inlines.specs.declared.inlines.Inline.{Inline}
use Rattle.markdown_inlines.specs.declared.inlines.Inline.TheVariants as I
use Rattle.markdown_inlines.specs.declared.links.Link.{Link}
use Rattle.markdown_inlines.specs.declared.marks.Mark.{Mark}
use Rattle.markdown_inlines.specs.declared.marks.Mark.TheVariants as M
use Rattle.markdown_inlines.specs.declared.pieces.Piece.{Piece}
use Rattle.markdown_inlines.specs.declared.pieces.PieceKind.{PieceKind}
use Rattle.markdown_inlines.specs.declared.pieces.PieceKind.TheVariants as K

-- the byte at an offset, as text
abbrev pub byte_at : ℕ → Inline
byte_at offset = I.Leaf (record { kind = K.Text; start = offset; end = offset + 1 })

-- what a delimiter with this mark is: the second of two is part of the first
abbrev pub delimiter_with : Mark → ℕ → List Inline
delimiter_with M.OpensEmphasis offset = I.StartEmphasis offset 1 ∷ []
delimiter_with M.OpensStrong offset = I.StartEmphasis offset 2 ∷ []
delimiter_with M.ClosesEmphasis offset = I.EndEmphasis offset 1 ∷ []
delimiter_with M.ClosesStrong offset = I.EndEmphasis offset 2 ∷ []
delimiter_with M.OpensStrikethrough offset = I.StartStrikethrough offset 1 ∷ []
delimiter_with M.OpensStrikethroughOfTwo offset = I.StartStrikethrough offset 2 ∷ []
delimiter_with M.ClosesStrikethrough offset = I.EndStrikethrough offset 1 ∷ []
delimiter_with M.ClosesStrikethroughOfTwo offset = I.EndStrikethrough offset 2 ∷ []
delimiter_with M.Second offset = []
delimiter_with mark offset = byte_at offset ∷ []

abbrev pub delimiter_at : List Emphasis → ℕ → List Inline
delimiter_at emphasis offset = delimiter_with (marks_by emphasis offset) offset

-- the delimiters from one offset up to another
abbrev pub delimiters_between : List Emphasis → ℕ → ℕ → List Inline
delimiters_between emphasis from to = flat_map (delimiter_at emphasis) (range_with_len from (to - from))

-- the opener with this number begins a link
abbrev pub begins_link : List (Option Link) → ℕ → Bool
begins_link links number = is_some (get_or links number None)

abbrev pub opener_as : List (Option Link) → ℕ → Piece → Inline
opener_as links number piece = if begins_link links number then I.StartLink number else I.Leaf piece

-- the right bracket after a link text ends the link
abbrev pub closer_as : List (Option Link) → Piece → Inline
closer_as links piece = if ends_link links piece.start then I.EndLink piece else I.Leaf piece

-- what a piece is, before which this number of openers stand
abbrev pub inlines_at : PieceKind → List (Option Link) → List Emphasis → ℕ → Piece → List Inline
inlines_at (K.Delimiters run) links emphasis number piece = delimiters_between emphasis piece.start piece.end
inlines_at K.LinkOpener links emphasis number piece = opener_as links number piece ∷ []
inlines_at K.ImageOpener links emphasis number piece = opener_as links number piece ∷ []
inlines_at K.Closer links emphasis number piece = closer_as links piece ∷ []
inlines_at kind links emphasis number piece = I.Leaf piece ∷ []

-- one more opener, if the piece is one
abbrev pub counted : PieceKind → ℕ → ℕ
counted K.LinkOpener number = number + 1
counted K.ImageOpener number = number + 1
counted kind number = number

abbrev pub inlines_from : List (Option Link) → List Emphasis → ℕ → List Piece → List Inline
inlines_from links emphasis number [] = []
inlines_from links emphasis number (piece ∷ later) =
    inlines_at piece.kind links emphasis number piece ++ inlines_from links emphasis (counted piece.kind number) later

-- These are the inlines of a text, and the links that its openers begin.
pub record AreInlines (text : List ℕ) (setting : Setting) (inlines : List Inline) (links : List (Option Link)) : Type 0 where
  pub pieces : List Piece
  pub emphasis : List Emphasis
  pub cut : IsCut text setting pieces links emphasis
  pub inlines_are : inlines ≡ inlines_from links emphasis 0 pieces

-- what has been found of a text: its inlines, and the links that its openers begin
pub record FoundInlines : Type 0 where
  pub inlines : List Inline
  pub links : List (Option Link)

abbrev pub none_found : FoundInlines
none_found = record { inlines = []; links = [] }
