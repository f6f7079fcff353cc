-- What begins at an offset of a text, and the text that stands between. (CommonMark 0.31.2, chapter 6)
use Rattle.std.specs.Prelude.{ℕ, true, false, ◌+◌, ◌-◌, ◌<◌, ◌≤◌, List, ◌∷◌, ◌++◌, ◌≡◌, ◌≢◌, ◌⊎◌, length, drop, codes, get_or}
use Rattle.std.specs.Prelude.{Some, IsTrue}
use Rattle.memchr.specs.Find.{occurs_at}
use Rattle.html_entities.specs.Entities.{html_entity}
use Rattle.markdown_scanners_tree.specs.Ascii.{ampersand, backslash, backtick, less_than_sign}
use Rattle.markdown_scanners_tree.specs.Bytes.{is_punctuation}
use Rattle.markdown_scanners_tree.specs.inline_html.InlineHtml.{find_at}
use Rattle.markdown_scanners_tree.specs.scanners.entities.CharacterReference.{StartsWithReference}
use Rattle.markdown_scanners_tree.specs.scanners.html_tag.HtmlTag.{IsTag}
use Rattle.markdown_scanners_tree.specs.scanners.links.Autolink.{IsUriAutolink}
use Rattle.markdown_inlines.specs.CodeSpans.{IsCodeSpan}
use Rattle.markdown_inlines.specs.DelimiterRuns.{IsRunOf}
use Rattle.markdown_inlines.specs.Emails.{IsEmailAutolink}
use Rattle.markdown_inlines.specs.LineBreaks.{IsLineBreak}
use Rattle.markdown_inlines.specs.Searches.{Searched}
use Rattle.markdown_inlines.specs.WikiLinks.{IsOpenerEnd}
use Rattle.markdown_inlines.specs.declared.code_spans.CodeSpan.{CodeSpan}
use Rattle.markdown_values.specs.declared.values.extensions.Extensions.{Extensions}
use Rattle.markdown_inlines.specs.declared.pieces.Piece.{Piece}
use Rattle.markdown_inlines.specs.declared.pieces.PieceKind.{PieceKind}
use Rattle.markdown_inlines.specs.declared.pieces.PieceKind.TheVariants.{Text, Escape, HardBreak, SoftBreak, Reference, Code, Uri, Email, Html}
use Rattle.markdown_inlines.specs.declared.pieces.PieceKind.TheVariants.{Delimiters, LinkOpener, ImageOpener, Closer}

-- A backslash and the ASCII punctuation that it escapes. (2.4)
pub record IsEscape (rest : List ℕ) (len : ℕ) : Type 0 where
  pub escaped : ℕ
  pub after : List ℕ
  pub parts : rest ≡ backslash ∷ escaped ∷ after
  pub punctuation : IsTrue (is_punctuation escaped)
  pub counted : len ≡ 2

-- A character reference. (2.5)
pub record IsReferencePiece (rest : List ℕ) (len : ℕ) : Type 0 where
  pub after : List ℕ
  pub meaning : List ℕ
  pub opens : rest ≡ ampersand ∷ after
  pub is_reference : StartsWithReference html_entity rest len meaning

-- A code span with so many backticks on each side. (6.1)
pub record IsCodePiece (rest : List ℕ) (backticks len : ℕ) : Type 0 where
  pub span : CodeSpan
  pub is_span : IsCodeSpan rest span
  pub strings : backticks ≡ span.content.start
  pub counted : len ≡ span.len

-- An absolute URI in angle brackets. (6.5)
pub record IsUriPiece (rest : List ℕ) (len : ℕ) : Type 0 where
  pub after : List ℕ
  pub uri : List ℕ
  pub opens : rest ≡ less_than_sign ∷ after
  pub is_uri : IsUriAutolink after uri
  pub counted : len ≡ length uri + 2

-- An email address in angle brackets. (6.5)
pub record IsEmailPiece (rest : List ℕ) (len : ℕ) : Type 0 where
  pub after : List ℕ
  pub address : List ℕ
  pub opens : rest ≡ less_than_sign ∷ after
  pub is_address : IsEmailAutolink after address
  pub counted : len ≡ length address + 2

-- An open tag or a closing tag. (6.6)
pub record IsTagPiece (rest : List ℕ) (len : ℕ) : Type 0 where
  pub tag : List ℕ
  pub after : List ℕ
  pub parts : rest ≡ tag ++ after
  pub is_tag : IsTag tag
  pub counted : len ≡ length tag

-- Raw HTML: a tag, or a comment, a processing instruction, a declaration or a CDATA section, which ends where the find after its
-- `<!` or `<?` does. (6.6)
abbrev pub IsHtmlPiece : List ℕ → ℕ → ℕ → Type 0
IsHtmlPiece text offset len = IsTagPiece (drop offset text) len ⊎ (find_at text (offset + 2) ≡ Some (offset + len))

abbrev pub IsNoUri : List ℕ → Type 0
IsNoUri rest = (len : ℕ) → ¬ IsUriPiece rest len

abbrev pub IsNoEmail : List ℕ → Type 0
IsNoEmail rest = (len : ℕ) → ¬ IsEmailPiece rest len

-- With these extensions, a piece of this kind and length begins at an offset of a text, of which what stands before `from` is in other
-- pieces. Of a code span the backtick string isn't preceded by a backtick from there on.
abbrev pub BeginsAt : Extensions → List ℕ → ℕ → ℕ → PieceKind → ℕ → Type 0
BeginsAt asked text from offset Text len = ⊥
BeginsAt asked text from offset Escape len = IsEscape (drop offset text) len
BeginsAt asked text from offset HardBreak len = IsLineBreak (drop offset text) (record { is_hard = true; len = len })
BeginsAt asked text from offset SoftBreak len = IsLineBreak (drop offset text) (record { is_hard = false; len = len })
BeginsAt asked text from offset Reference len = IsReferencePiece (drop offset text) len
BeginsAt asked text from offset (Code backticks) len =
    (from < offset → get_or text (offset - 1) 0 ≢ backtick) × IsCodePiece (drop offset text) backticks len
BeginsAt asked text from offset Uri len = IsUriPiece (drop offset text) len
BeginsAt asked text from offset Email len = IsNoUri (drop offset text) × IsEmailPiece (drop offset text) len
BeginsAt asked text from offset Html len =
    IsNoUri (drop offset text) × IsNoEmail (drop offset text) × IsHtmlPiece text offset len
BeginsAt asked text from offset (Delimiters run) len = IsRunOf asked text offset run × (len ≡ run.count)
BeginsAt asked text from offset LinkOpener len = (occurs_at text (codes "[") offset ≡ true) × IsOpenerEnd asked text offset (offset + len)
BeginsAt asked text from offset ImageOpener len =
    (occurs_at text (codes "![") offset ≡ true) × IsOpenerEnd asked text (offset + 1) (offset + len)
BeginsAt asked text from offset Closer len = (occurs_at text (codes "]") offset ≡ true) × (len ≡ 1)

-- nothing but text begins from one offset up to another
abbrev pub HasOnlyText : Extensions → List ℕ → ℕ → ℕ → Type 0
HasOnlyText asked text from to =
    (offset : ℕ) → from ≤ offset → offset < to → (kind : PieceKind) (len : ℕ) → ¬ BeginsAt asked text from offset kind len

-- This is the next piece that is not text.
pub record IsNext (asked : Extensions) (text : List ℕ) (from : ℕ) (piece : Piece) : Type 0 where
  pub len : ℕ
  pub later : from ≤ piece.start
  pub only_text : HasOnlyText asked text from piece.start
  pub begins : BeginsAt asked text from piece.start piece.kind len
  pub ends : piece.end ≡ piece.start + len

-- a text, the extensions that are asked for, an offset up to which it has been read, and what has been searched up to there
pub record ReadText : Type 0 where
  pub text : List ℕ
  pub asked : Extensions
  pub offset : ℕ
  pub searched : Searched
