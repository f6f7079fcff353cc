-- How many bytes the searches for the ends of code spans and of raw HTML pass over. (CommonMark 0.31.2, sections 6.1 and 6.6)
use Rattle.std.specs.Prelude.{ℕ, zero, suc, ◌+◌, ◌-◌, ◌*◌, ◌<◌, ◌≤◌, ◌^◌, ◌≡◌, ◌≢◌, ◌⊎◌, List, [], ◌∷◌, length, get_or, is_none, Option, None, Some, IfSome}
use Rattle.std.specs.Prelude.{if◌then◌else◌}
use Rattle.markdown_scanners_tree.specs.inline_html.InlineHtml.{opener_before}
use Rattle.markdown_scanners_tree.specs.inline_html.run.Run.{Run, new_run, run_step}
use Rattle.markdown_inlines.specs.CodeSpans.{is_backtick}
use Rattle.markdown_inlines.specs.declared.pieces.Piece.{Piece}
use Rattle.markdown_inlines.specs.declared.pieces.PieceKind.{PieceKind}
use Rattle.markdown_inlines.specs.declared.pieces.PieceKind.TheVariants as K

-- The bytes passed over for code spans, the offset from which on the text has been read to its end if it has been, and the run of
-- searches for the ends of comments and the like.
pub record Searched : Type 0 where
  pub codes : ℕ
  pub read : Option ℕ
  pub html : Run

-- at first nothing is searched or read
abbrev pub unsearched : List ℕ → Searched
unsearched text = record { codes = 0; read = None; html = new_run text }

-- So many backticks of text at an offset are passed over once. Where they are the first that are text, all from the offset to the end of
-- the text has been passed over before: no code span was found to begin there.
abbrev pub backticks_searched : List ℕ → ℕ → ℕ → Searched → Searched
backticks_searched text offset n searched =
    if is_none searched.read then record searched { codes = searched.codes + (length text - offset) + n; read = Some offset }
    else record searched { codes = searched.codes + n }

-- where `<!` or `<?` stands at an offset, the end of what begins there is searched for
abbrev pub html_searched : List ℕ → ℕ → Searched → Searched
html_searched text offset searched =
    if is_none (opener_before text (offset + 2)) then searched
    else record searched { html = run_step searched.html (offset + 2) }

-- a byte of text
abbrev pub byte_searched : List ℕ → ℕ → Searched → Searched
byte_searched text offset searched =
    if is_backtick (get_or text offset 0) then backticks_searched text offset 1 searched
    else html_searched text offset searched

-- so many bytes of text from an offset on
abbrev pub text_searched : List ℕ → ℕ → ℕ → Searched → Searched
text_searched text offset zero searched = searched
text_searched text offset (suc n) searched = text_searched text (suc offset) n (byte_searched text offset searched)

-- a piece of a kind: a code span is passed over once, and raw HTML as often as its run says
abbrev pub kind_searched : PieceKind → List ℕ → ℕ → ℕ → Searched → Searched
kind_searched K.Text text start end searched = text_searched text start (end - start) searched
kind_searched (K.Code backticks) text start end searched = record searched { codes = searched.codes + (end - start) }
kind_searched K.Html text start end searched = html_searched text start searched
kind_searched kind text start end searched = searched

-- the text from an offset on before a piece, and the piece
abbrev pub next_searched : List ℕ → ℕ → Piece → Searched → Searched
next_searched text from piece searched =
    kind_searched piece.kind text piece.start piece.end (text_searched text from (piece.start - from) searched)

-- pieces, one after another
abbrev pub pieces_searched : List ℕ → List Piece → Searched → Searched
pieces_searched text [] searched = searched
pieces_searched text (piece ∷ later) searched =
    pieces_searched text later (kind_searched piece.kind text piece.start piece.end searched)

abbrev pub bytes_passed : Searched → ℕ
bytes_passed searched = searched.codes + searched.html.passed

-- the bytes that the searches pass over in a text that is cut into these pieces
abbrev pub bytes_searched : List ℕ → List Piece → ℕ
bytes_searched text pieces = bytes_passed (pieces_searched text pieces (unsearched text))

-- how many bytes were passed over as the text was read
abbrev pub bytes_read : List ℕ → Option ℕ → ℕ
bytes_read text None = 0
bytes_read text (Some from) = length text - from

-- What has been searched up to an offset: the openers that were tried don't overlap, and none is within what was found.
pub record IsSearchedTo (offset : ℕ) (searched : Searched) : Type 0 where
  pub fits : length searched.html.text < 2 ^ 63
  pub codes_once : searched.codes ≤ bytes_read searched.html.text searched.read + offset
  pub read_before : IfSome searched.read (λ from. from ≤ offset)
  pub last_before : searched.html.last ≤ offset + 1
  pub found_before : searched.html.find_end ≤ offset
  pub apart : 2 * searched.html.steps ≤ searched.html.last
  pub opener : (searched.html.last ≡ 0) ⊎ (opener_before searched.html.text searched.html.last ≢ None)
