-- Pieces read one after another.
use Rattle.std.proofs.Common.{sym, subst, ℕ, Bool, true, false, List, [], ◌∷◌, ◌++◌}
use Rattle.std.proofs.Common.{◌≡◌, ◌≤◌, ◌∙◌, if◌then◌else◌, nat_lt, length, arith, refl, ap, inl, inr}
use Rattle.std.proofs.lemmas.List.{append_assoc}
use Rattle.std.proofs.lemmas.Bool.{ltb-true, ltb-false}
use Rattle.markdown_inlines.specs.Links.{Known}
use Rattle.markdown_inlines.specs.Readings.{AreBefore}
use Rattle.markdown_values.specs.declared.values.extensions.Extensions.{Extensions}
use Rattle.markdown_inlines.specs.declared.reading.Opener.{Opener}
use Rattle.markdown_inlines.specs.Inlines.{IsClosed, with_opener, with_piece, Setting, Reading, at_start, AreRead, IsRead, IsPieceAt, text_between}
use Rattle.markdown_inlines.specs.Pieces.{BeginsAt, HasOnlyText, IsNext}
use Rattle.markdown_inlines.specs.declared.pieces.Piece.{Piece}
use Rattle.markdown_inlines.specs.declared.pieces.PieceKind.{PieceKind}
use Rattle.markdown_inlines.specs.declared.pieces.PieceKind.TheVariants as K

-- What is read on from an offset, with these pieces before it, is read from the beginning.
abbrev pub ReadsOn : Setting → List ℕ → ℕ → Reading → List Piece → Type 0
ReadsOn setting text offset reading pieces =
    (later : List Piece) (last : Reading) → AreRead setting offset reading later last
    → AreRead setting 0 (at_start text) (pieces ++ later) last

-- a piece that begins at an offset begins there where the text before it has been read
begins_here : (asked : Extensions) (text : List ℕ) (from offset : ℕ) (kind : PieceKind) (len : ℕ) → BeginsAt asked text from offset kind len
    → BeginsAt asked text offset offset kind len
begins_here asked text from offset K.Text len is = is
begins_here asked text from offset K.Escape len is = is
begins_here asked text from offset K.HardBreak len is = is
begins_here asked text from offset K.SoftBreak len is = is
begins_here asked text from offset K.Reference len is = is
begins_here asked text from offset (K.Code backticks) len is = (λ before. absurd (omega (arith, before)), is.1)
begins_here asked text from offset K.Uri len is = is
begins_here asked text from offset K.Email len is = is
begins_here asked text from offset K.Html len is = is
begins_here asked text from offset (K.Delimiters run) len is = is
begins_here asked text from offset K.LinkOpener len is = is
begins_here asked text from offset K.ImageOpener len is = is
begins_here asked text from offset K.Closer len is = is

pub next_piece_at : (asked : Extensions) (text : List ℕ) (from : ℕ) (piece : Piece) → IsNext asked text from piece → IsPieceAt asked text piece
next_piece_at asked text from piece is = record {
  len = is.len;
  begins = begins_here asked text from piece.start piece.kind is.len is.begins;
  end_is = is.ends;
}

-- a piece that is no right bracket is read
pub is_read : (setting : Setting) (reading next : Reading) (piece : Piece) (kind : PieceKind) → piece.kind ≡ kind → ¬ (kind ≡ K.Closer)
    → IsPieceAt setting.asked reading.text piece → next ≡ with_piece kind piece reading → IsRead kind setting reading piece next
is_read setting reading next piece K.Text same other at is =
    absurd (subst (λ k. BeginsAt setting.asked reading.text piece.start piece.start k at.len) same at.begins)
is_read setting reading next piece K.Escape same other at is = (at, is)
is_read setting reading next piece K.HardBreak same other at is = (at, is)
is_read setting reading next piece K.SoftBreak same other at is = (at, is)
is_read setting reading next piece K.Reference same other at is = (at, is)
is_read setting reading next piece (K.Code backticks) same other at is = (at, is)
is_read setting reading next piece K.Uri same other at is = (at, is)
is_read setting reading next piece K.Email same other at is = (at, is)
is_read setting reading next piece K.Html same other at is = (at, is)
is_read setting reading next piece (K.Delimiters run) same other at is = (at, is)
is_read setting reading next piece K.LinkOpener same other at is = (at, is)
is_read setting reading next piece K.ImageOpener same other at is = (at, is)
is_read setting reading next piece K.Closer same other at is = absurd (other refl)

-- the next piece is read, and the text before it
pub read_next : (setting : Setting) (from end : ℕ) (reading next : Reading) (piece : Piece) → IsNext setting.asked reading.text from piece
    → IsRead piece.kind setting reading (record piece { end = end }) next → (later : List Piece) (last : Reading)
    → AreRead setting end next later last
    → AreRead setting from reading (text_between from piece.start ++ record piece { end = end } ∷ later) last
read_next setting from end reading next piece is read later last rest = by (nat_lt from piece.start) refl
  where
    by : (test : Bool) → nat_lt from piece.start ≡ test
        → AreRead setting from reading
        ((if test then record { kind = K.Text; start = from; end = piece.start } ∷ [] else []) ++ record piece { end = end } ∷ later) last
    by true some = (
      refl,
      reading,
      (
        record {
          some = ltb-true from piece.start some;
          only_text = is.only_text;
          ends = inr (piece.kind, is.len, is.begins);
        },
        refl,
      ),
      (refl, next, read, rest),
    )
    by false none = (omega (arith, ltb-false from piece.start none, is.later), next, read, rest)

-- text alone is read up to the end
pub read_out : (setting : Setting) (from : ℕ) (reading : Reading) → from ≤ length reading.text
    → HasOnlyText setting.asked reading.text from (length reading.text)
    → AreRead setting from reading (text_between from (length reading.text)) reading
read_out setting from reading within only = by (nat_lt from (length reading.text)) refl
  where
    by : (test : Bool) → nat_lt from (length reading.text) ≡ test
        → AreRead setting from reading
        (if test then record { kind = K.Text; start = from; end = length reading.text } ∷ [] else []) reading
    by true some = (
      refl,
      reading,
      (record { some = ltb-true from (length reading.text) some; only_text = only; ends = inl refl }, refl),
      (refl, refl),
    )
    by false none = (omega (arith, ltb-false from (length reading.text) none, within), refl)

-- pieces after others, and more after these
pub added : (pieces between later : List Piece) (piece : Piece) (all : List Piece)
    → all ≡ (pieces ++ between) ++ piece ∷ [] → all ++ later ≡ pieces ++ (between ++ piece ∷ later)
added pieces between later piece all is =
    ap (λ (l : List Piece). l ++ later) is ∙ (append_assoc (pieces ++ between) (piece ∷ []) later ∙ append_assoc pieces between (piece ∷ later))

-- openers that begin at an offset or before it begin at a later one or before it
pub before_later : (openers : List Opener) (offset later : ℕ) → offset ≤ later → AreBefore openers offset → AreBefore openers later
before_later [] offset later is before = tt
before_later (opener ∷ outer) offset later is before = (omega (arith, is, before.0), before_later outer offset later is before.1)

closed_before : (known : Known) (openers : List Opener) (reading next : Reading) (close end offset : ℕ)
    → IsClosed known openers reading close end next → AreBefore openers offset → AreBefore reading.openers offset
    → AreBefore next.openers offset
closed_before known [] reading next close end offset is before all =
    subst (λ (r : Reading). AreBefore r.openers offset) (sym is.1) all
closed_before known (opener ∷ outer) reading next close end offset (inl link) before all =
    subst (λ (r : Reading). AreBefore r.openers offset) (sym link.next_is) before.1
closed_before known (opener ∷ outer) reading next close end offset (inr none) before all =
    subst (λ (r : Reading). AreBefore r.openers offset) (sym none.next_is) before.1

module _ (setting : Setting) (reading next : Reading) (piece : Piece) (some : piece.start ≤ piece.end)
    (before : AreBefore reading.openers piece.start) where
  stays : next ≡ reading → AreBefore next.openers piece.end
  stays same = subst (λ (r : Reading). AreBefore r.openers piece.end) (sym same) (before_later reading.openers piece.start piece.end some before)

  begun : (is_image : Bool) → next ≡ with_opener is_image piece reading → AreBefore next.openers piece.end
  begun is_image same =
      subst (λ (r : Reading). AreBefore r.openers piece.end) (sym same)
      (omega arith, before_later reading.openers piece.start piece.end some before)

  -- the openers that are left when a piece is read begin at its end or before it
  pub read_before : (kind : PieceKind) → IsRead kind setting reading piece next → AreBefore next.openers piece.end
  read_before K.Text is = stays is.1
  read_before K.Escape is = stays is.1
  read_before K.HardBreak is = stays is.1
  read_before K.SoftBreak is = stays is.1
  read_before K.Reference is = stays is.1
  read_before (K.Code backticks) is = stays is.1
  read_before K.Uri is = stays is.1
  read_before K.Email is = stays is.1
  read_before K.Html is = stays is.1
  read_before (K.Delimiters run) is =
      subst (λ (r : Reading). AreBefore r.openers piece.end) (sym is.1) (before_later reading.openers piece.start piece.end some before)
  read_before K.LinkOpener is = begun false is.1
  read_before K.ImageOpener is = begun true is.1
  read_before K.Closer is =
      before_later next.openers piece.start piece.end some
      (closed_before setting.known reading.openers reading next piece.start piece.end piece.start is.1 before before)
