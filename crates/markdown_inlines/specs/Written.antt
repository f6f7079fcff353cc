-- Inlines as they are written while a text is read. What begins in it is put in at its end.
use Rattle.std.specs.Prelude.{ℕ, Bool, true, false, ◌≤◌, ◌<◌, List, [], ◌∷◌, ◌≡◌, ⊤, map, Option}
use Rattle.std.specs.List.{AllByRecursion, list_any}
use Rattle.markdown_inlines.specs.Marks.{ends_link}
use Rattle.markdown_inlines.specs.Output.{closer_as, counted, delimiters_between, opener_as}
use Rattle.markdown_inlines.specs.Readings.{AreFree}
use Rattle.markdown_inlines.specs.declared.emphasis.Emphasis.{Emphasis}
use Rattle.markdown_inlines.specs.declared.inlines.Inline.{Inline}
use Rattle.markdown_inlines.specs.declared.inlines.Inline.TheVariants as I
use Rattle.markdown_inlines.specs.declared.links.Link.{Link}
use Rattle.markdown_inlines.specs.declared.pieces.Piece.{Piece}
use Rattle.markdown_inlines.specs.declared.pieces.PieceKind.{PieceKind}
use Rattle.markdown_inlines.specs.declared.pieces.PieceKind.TheVariants as K
use Rattle.markdown_inlines.specs.declared.reading.Opener.{Opener}

-- a right bracket after a link text ends the link; all else is a leaf
abbrev pub written_as : PieceKind → List (Option Link) → Piece → Inline
written_as K.Closer links piece = closer_as links piece
written_as kind links piece = I.Leaf piece

abbrev pub written : List (Option Link) → List Piece → List Inline
written links pieces = map (λ (piece : Piece). written_as piece.kind links piece) pieces

-- the piece that an inline was written for
abbrev pub piece_of : Inline → Piece
piece_of (I.Leaf piece) = piece
piece_of (I.EndLink piece) = piece
piece_of inline = record { kind = K.Text; start = 0; end = 0 }

abbrev pub pieces_of : List Inline → List Piece
pieces_of inlines = map piece_of inlines

-- a delimiter run is among the pieces
abbrev pub is_run : PieceKind → Bool
is_run (K.Delimiters run) = true
is_run kind = false

abbrev pub have_runs : List Piece → Bool
have_runs pieces = list_any (λ (piece : Piece). is_run piece.kind) pieces

-- what has been written of a text up to some byte, in which these links have ended and these openers begin none yet
pub record AreWritten (links : List (Option Link)) (openers : List Opener) (inlines : List Inline) (to : ℕ) : Type 0 where
  pub are : inlines ≡ written links (pieces_of inlines)
  pub ended : (k : ℕ) → to ≤ k → ends_link links k ≡ false
  pub free : AreFree links openers
  pub before : AllByRecursion (λ (inline : Inline). (piece_of inline).start < to) inlines

-- ---- the starts of links

abbrev pub started_as : PieceKind → List (Option Link) → ℕ → Piece → Inline
started_as K.LinkOpener links number piece = opener_as links number piece
started_as K.ImageOpener links number piece = opener_as links number piece
started_as kind links number piece = I.Leaf piece

-- a bracket that may begin a link or an image
abbrev pub opens : PieceKind → Bool
opens K.LinkOpener = true
opens K.ImageOpener = true
opens kind = false

abbrev pub is_opener : Inline → Bool
is_opener (I.Leaf piece) = opens piece.kind
is_opener inline = false

-- the opener with this number is the start of its link, if it begins one
abbrev pub started : List (Option Link) → ℕ → Inline → Inline
started links number (I.Leaf piece) = started_as piece.kind links number piece
started links number inline = inline

-- one more opener, if it is one
abbrev pub counted_in : Inline → ℕ → ℕ
counted_in (I.Leaf piece) number = counted piece.kind number
counted_in inline number = number

abbrev pub with_starts : List (Option Link) → ℕ → List Inline → List Inline
with_starts links number [] = []
with_starts links number (inline ∷ later) = started links number inline ∷ with_starts links (counted_in inline number) later

-- ---- delimiters

abbrev pub spread_as : PieceKind → List Emphasis → Piece → List Inline
spread_as (K.Delimiters run) emphasis piece = delimiters_between emphasis piece.start piece.end
spread_as kind emphasis piece = I.Leaf piece ∷ []

-- a delimiter run is its delimiters
abbrev pub spread : List Emphasis → Inline → List Inline
spread emphasis (I.Leaf piece) = spread_as piece.kind emphasis piece
spread emphasis inline = inline ∷ []

-- it stands within so many bytes
abbrev pub IsWithin : ℕ → Inline → Type 0
IsWithin len (I.Leaf piece) = (piece.start < piece.end) × (piece.end ≤ len)
IsWithin len inline = ⊤
