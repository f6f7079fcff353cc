-- A text cut into its inlines, from left to right. (CommonMark 0.31.2, chapter 6, and "Parsing strategy", phase 2)
use Rattle.std.specs.Prelude.{ℕ, Bool, true, false, ◌||◌, not, nat_lt, ◌+◌, ◌<◌, List, [], ◌∷◌, ◌++◌, ◌≡◌, ◌⊎◌, length, take, drop}
use Rattle.std.specs.Prelude.{codes, slice_set, Option, Some, None, IsTrue, if◌then◌else◌}
use Rattle.std.specs.declared.ops.Range.{Range}
use Rattle.memchr.specs.Find.{occurs_at}
use Rattle.markdown_inlines.specs.Emphasis.{emphasis_of}
use Rattle.markdown_inlines.specs.Links.{Known, IsTarget}
use Rattle.markdown_inlines.specs.Pieces.{BeginsAt, HasOnlyText}
use Rattle.markdown_inlines.specs.WikiLinks.{IsHead}
use Rattle.markdown_inlines.specs.declared.delimiter_runs.DelimiterRun.{DelimiterRun}
use Rattle.markdown_inlines.specs.declared.emphasis.Delimiters.{Delimiters}
use Rattle.markdown_inlines.specs.declared.emphasis.Emphasis.{Emphasis}
use Rattle.markdown_values.specs.declared.values.extensions.Extensions.{Extensions}
use Rattle.markdown_inlines.specs.declared.links.Link.{Link}
use Rattle.markdown_inlines.specs.declared.links.LinkTarget.{LinkTarget}
use Rattle.markdown_inlines.specs.declared.links.LinkTarget.TheVariants.{Wiki}
use Rattle.markdown_inlines.specs.declared.pieces.Piece.{Piece}
use Rattle.markdown_inlines.specs.declared.pieces.PieceKind.{PieceKind}
use Rattle.markdown_inlines.specs.declared.pieces.PieceKind.TheVariants as K
use Rattle.markdown_inlines.specs.declared.reading.Opener.{Opener}

-- What is known of the pieces of a text that have been read: the openers that may begin a link, innermost first; the delimiter runs that are in
-- no link text; where the last link begins; of each opener the link that it begins; and the emphasis in link texts.
pub record Reading : Type 0 where
  pub text : List ℕ
  pub openers : List Opener
  pub runs : List Delimiters
  pub last_link : ℕ
  pub links : List (Option Link)
  pub emphasis : List Emphasis

abbrev pub at_start : List ℕ → Reading
at_start text = record { text = text; openers = []; runs = []; last_link = 0; links = []; emphasis = [] }

-- with a delimiter run
abbrev pub with_run : DelimiterRun → Piece → Reading → Reading
with_run run piece reading =
    record reading { runs = reading.runs ++ record { start = piece.start; end = piece.end; run = run } ∷ [] }

-- with an opener, which begins no link yet
abbrev pub opener_at : Bool → Piece → Reading → Opener
opener_at is_image piece reading = record {
  start = piece.start;
  text = piece.end;
  is_image = is_image;
  runs = length reading.runs;
  number = length reading.links;
}

abbrev pub with_opener : Bool → Piece → Reading → Reading
with_opener is_image piece reading = record reading {
  openers = opener_at is_image piece reading ∷ reading.openers;
  links = reading.links ++ None ∷ [];
}

-- with any piece but a right bracket
abbrev pub with_piece : PieceKind → Piece → Reading → Reading
with_piece (K.Delimiters run) piece reading = with_run run piece reading
with_piece K.LinkOpener piece reading = with_opener false piece reading
with_piece K.ImageOpener piece reading = with_opener true piece reading
with_piece kind piece reading = reading

-- An opener may begin an image, and a link if none begins after it: links may not contain other links.
abbrev pub may_begin : Opener → Reading → Bool
may_begin opener reading = opener.is_image || not (nat_lt opener.start reading.last_link)

-- where the left bracket of an opener stands
abbrev pub bracket_of : Opener → ℕ
bracket_of opener = if opener.is_image then opener.start + 1 else opener.start

-- The link of an opener that is the head of a wikilink leads to the target in it, and ends with two right brackets.
abbrev pub IsWikiTarget : List ℕ → ℕ → ℕ → ℕ → LinkTarget → ℕ → Type 0
IsWikiTarget text bracket head_end close target end =
    (range : Range ℕ) × (target ≡ Wiki range) × IsHead text bracket range head_end
    × (occurs_at text (codes "]]") close ≡ true) × (end ≡ close + 2)

-- Where the link of an opener leads whose link text ends at a right bracket.
abbrev pub LeadsTo : List ℕ → Known → Opener → ℕ → LinkTarget → ℕ → Type 0
LeadsTo text known opener close target end =
    ((opener.text ≡ bracket_of opener + 1) × IsTarget text known opener.text close target end)
    ⊎ IsWikiTarget text (bracket_of opener) opener.text close target end

-- A link from an opener, whose link text ends at a right bracket.
pub record IsLink (text : List ℕ) (known : Known) (opener : Opener) (close : ℕ) (link : Link) : Type 0 where
  pub is_image : link.is_image ≡ opener.is_image
  pub begins : link.source.start ≡ opener.start
  pub text_begins : link.text.start ≡ opener.text
  pub text_ends : link.text.end ≡ close
  pub target : LeadsTo text known opener close link.target link.source.end

-- With the link of an opener, around which the others stand: emphasis is found among the runs in its link text.
abbrev pub with_link : Link → Opener → List Opener → Reading → Reading
with_link link opener outer reading = record reading {
  openers = outer;
  runs = take opener.runs reading.runs;
  last_link = if link.is_image then reading.last_link else link.source.start;
  links = slice_set reading.links opener.number (Some link);
  emphasis = reading.emphasis ++ emphasis_of (drop opener.runs reading.runs);
}

-- It ends the link of the innermost opener, if this may begin one.
pub record EndsLink (known : Known) (opener : Opener) (outer : List Opener) (reading : Reading) (close end : ℕ)
    (next : Reading) : Type 0 where
  pub link : Link
  pub may_begin : IsTrue (may_begin opener reading)
  pub is_link : IsLink reading.text known opener close link
  pub end_is : end ≡ link.source.end
  pub next_is : next ≡ with_link link opener outer reading

-- it ends no link; then its opener begins none
pub record EndsNone (known : Known) (opener : Opener) (outer : List Opener) (reading : Reading) (close end : ℕ)
    (next : Reading) : Type 0 where
  pub no_link : IsTrue (may_begin opener reading) → (link : Link) → ¬ IsLink reading.text known opener close link
  pub end_is : end ≡ close + 1
  pub next_is : next ≡ record reading { openers = outer }

-- What a right bracket at an offset does, with these openers.
abbrev pub IsClosed : Known → List Opener → Reading → ℕ → ℕ → Reading → Type 0
IsClosed known [] reading close end next = (end ≡ close + 1) × (next ≡ reading)
IsClosed known (opener ∷ outer) reading close end next =
    EndsLink known opener outer reading close end next ⊎ EndsNone known opener outer reading close end next

-- Text stands from one offset up to another, and ends where another piece begins, or with the whole.
pub record IsTextPiece (asked : Extensions) (text : List ℕ) (from to : ℕ) : Type 0 where
  pub some : from < to
  pub only_text : HasOnlyText asked text from to
  pub ends : (to ≡ length text) ⊎ ((kind : PieceKind) × (len : ℕ) × BeginsAt asked text from to kind len)

-- what a text is read with: the extensions that are asked for, and the labels that are defined
pub record Setting : Type 0 where
  pub asked : Extensions
  pub known : Known

-- a piece that begins where it is read
pub record IsPieceAt (asked : Extensions) (text : List ℕ) (piece : Piece) : Type 0 where
  pub len : ℕ
  pub begins : BeginsAt asked text piece.start piece.start piece.kind len
  pub end_is : piece.end ≡ piece.start + len

-- The piece is read, and this is known then.
abbrev pub IsRead : PieceKind → Setting → Reading → Piece → Reading → Type 0
IsRead K.Text setting reading piece next = IsTextPiece setting.asked reading.text piece.start piece.end × (next ≡ reading)
IsRead K.Closer setting reading piece next =
    (occurs_at reading.text (codes "]") piece.start ≡ true) × IsClosed setting.known reading.openers reading piece.start piece.end next
IsRead kind setting reading piece next = IsPieceAt setting.asked reading.text piece × (next ≡ with_piece kind piece reading)

-- From an offset on these pieces are read, each where the one before it ends, up to the end of the text.
abbrev pub AreRead : Setting → ℕ → Reading → List Piece → Reading → Type 0
AreRead setting offset reading [] last = (offset ≡ length reading.text) × (last ≡ reading)
AreRead setting offset reading (piece ∷ later) last =
    (piece.start ≡ offset) × (next : Reading) × IsRead piece.kind setting reading piece next × AreRead setting piece.end next later last

-- In a setting a text is cut into these pieces, of whose openers these links begin at some, with this emphasis.
pub record IsCut (text : List ℕ) (setting : Setting) (pieces : List Piece) (links : List (Option Link)) (emphasis : List Emphasis)
    : Type 0 where
  pub last : Reading
  pub read : AreRead setting 0 (at_start text) pieces last
  pub links_are : links ≡ last.links
  pub emphasis_is : emphasis ≡ last.emphasis ++ emphasis_of last.runs

-- the text from one offset up to another, as a piece, if there is any
abbrev pub text_between : ℕ → ℕ → List Piece
text_between from to = if nat_lt from to then record { kind = K.Text; start = from; end = to } ∷ [] else []
