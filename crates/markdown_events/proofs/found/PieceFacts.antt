-- What is known of a piece that begins at an offset of a text.
use Rattle.std.proofs.Common.{ℕ, suc, List, [], ◌∷◌, ◌++◌, ◌≡◌, ◌<◌, ◌≤◌, ◌+◌, ◌-◌, ◌==◌, ◌∙◌, inl, inr, length, drop, get_or, true}
use Rattle.std.proofs.Common.{arith, refl, sym, ap, subst}
use Rattle.std.proofs.Common.{eqb-true}
use Rattle.std.specs.Prelude.{⊤}
use Rattle.std.specs.List.{prefix_len}
use Rattle.std.specs.Str.{IsUtf8, IsCharBoundary}
use Rattle.std.proofs.lemmas.Bool.Decides.{nat_tests}
use Rattle.std.proofs.lemmas.List.{get_or-drop}
use Rattle.std.proofs.lemmas.List.Sums.{prefix_len_passes}
use Rattle.markdown_scanners_tree.specs.Bytes.{is_punctuation}
use Rattle.markdown_scanners_tree.proofs.ForCallers.{cut_after_ascii}
use Rattle.markdown_inlines.specs.DelimiterRuns.{IsRunOf}
use Rattle.markdown_inlines.specs.Pieces.{BeginsAt, IsCodePiece}
use Rattle.markdown_inlines.specs.Sources.{IsSource}
use Rattle.markdown_inlines.specs.declared.delimiter_runs.DelimiterRun.{DelimiterRun}
use Rattle.markdown_values.specs.declared.values.extensions.Extensions.{Extensions}
use Rattle.markdown_inlines.specs.declared.pieces.Piece.{Piece}
use Rattle.markdown_inlines.specs.declared.pieces.PieceKind.{PieceKind}
use Rattle.markdown_inlines.specs.declared.pieces.PieceKind.TheVariants as K
use Rattle.markdown_inlines.proofs.pieces.PieceEnds.{piece_part, starts_cut}
use Rattle.markdown_events.specs.Found.{HasParts}

-- before an ASCII byte a text may be cut
pub low_cut : (text : List ℕ) (offset : ℕ) → offset ≤ length text → get_or text offset 0 < 128 → IsCharBoundary text offset
low_cut text offset within low = (within, λ inside high. absurd (omega (arith, low, high)))

-- the byte so many bytes after an offset
byte_in : (text : List ℕ) (offset k : ℕ) (rest : List ℕ) → drop offset text ≡ rest → get_or text (offset + k) 0 ≡ get_or rest k 0
byte_in text offset k rest parts = sym (get_or-drop offset text k 0) ∙ ap (λ (t : List ℕ). get_or t k 0) parts

pub byte_after : (front : List ℕ) (b : ℕ) (after : List ℕ) → get_or (front ++ b ∷ after) (length front) 0 ≡ b
byte_after [] b after = refl
byte_after (x ∷ front) b after = byte_after front b after

-- each delimiter is ASCII
abbrev pub HasDelimiters : PieceKind → List ℕ → Piece → Type 0
HasDelimiters (K.Delimiters run) text piece = (offset : ℕ) → piece.start ≤ offset → offset < piece.end → get_or text offset 0 < 128
HasDelimiters kind text piece = ⊤

-- what is known of a piece
pub record IsKnown (text : List ℕ) (piece : Piece) : Type 0 where
  pub source : IsSource text piece
  pub parts : HasParts piece.kind text piece
  pub delimiters : HasDelimiters piece.kind text piece

module _ (text : List ℕ) (piece : Piece) (len : ℕ) (utf8 : IsUtf8 text) (end_is : piece.end ≡ piece.start + len)
    (within : piece.start + len ≤ length text) where
  -- an address between two ASCII bytes
  angled : (address after : List ℕ) → drop piece.start text ≡ 60 ∷ (address ++ 62 ∷ after) → len ≡ length address + 2
      → (piece.start + 1 ≤ piece.end - 1) × IsCharBoundary text (piece.start + 1) × IsCharBoundary text (piece.end - 1)
  angled address after parts counted =
      let first : get_or text piece.start 0 ≡ 60 =
      ap (λ n. get_or text n 0) (let same : piece.start ≡ piece.start + 0 = omega arith in same) ∙ byte_in text piece.start 0 _ parts in
      let at : piece.end - 1 ≡ piece.start + (1 + length address) = omega (arith, end_is, counted) in
      let shown : get_or (60 ∷ (address ++ 62 ∷ after)) (1 + length address) 0 ≡ 62 =
      ap (λ n. get_or (60 ∷ (address ++ 62 ∷ after)) n 0) (let same : 1 + length address ≡ suc (length address) = omega arith in same)
      ∙ byte_after address 62 after in
      let last : get_or text (piece.end - 1) 0 ≡ 62 = ap (λ n. get_or text n 0) at ∙ (byte_in text piece.start (1 + length address) _ parts ∙ shown) in
      let before : get_or text (piece.start + 1 - 1) 0 ≡ 60 =
      ap (λ n. get_or text n 0) (let same : piece.start + 1 - 1 ≡ piece.start = omega arith in same) ∙ first in (
        omega (arith, end_is, counted),
        cut_after_ascii text (piece.start + 1) utf8 (omega (arith, within, counted)) (omega arith) (omega (arith, before)),
        low_cut text (piece.end - 1) (omega (arith, within, end_is)) (omega (arith, last)),
      )

  code : (backticks : ℕ) → IsCodePiece (drop piece.start text) backticks len
      → (piece.start + backticks ≤ piece.end - backticks) × (backticks ≤ piece.end)
      × IsCharBoundary text (piece.start + backticks) × IsCharBoundary text (piece.end - backticks)
  code backticks is =
      let span = is.span in
      let some = is.is_span.closes.some in
      let opening = is.is_span.opens.backticks (span.content.start - 1) (omega (arith, some)) in
      let closing = is.is_span.closes.backticks 0 some in
      let start_at : piece.start + backticks - 1 ≡ piece.start + (0 + (span.content.start - 1)) = omega (arith, is.strings, some) in
      let end_at : piece.end - backticks ≡ piece.start + (span.content.end + 0) =
      omega (arith, end_is, is.counted, is.is_span.counted, is.strings) in
      let first : get_or text (piece.start + backticks - 1) 0 ≡ 96 =
      ap (λ n. get_or text n 0) start_at ∙ (byte_in text piece.start (0 + (span.content.start - 1)) _ refl ∙ opening) in
      let last : get_or text (piece.end - backticks) 0 ≡ 96 =
      ap (λ n. get_or text n 0) end_at ∙ (byte_in text piece.start (span.content.end + 0) _ refl ∙ closing) in (
        omega (arith, end_is, is.counted, is.is_span.counted, is.strings, is.is_span.in_order),
        omega (arith, end_is, is.counted, is.is_span.counted, is.strings),
        cut_after_ascii text (piece.start + backticks) utf8
            (omega (arith, within, is.counted, is.is_span.counted, is.strings, is.is_span.in_order))
            (omega (arith, some, is.strings)) (omega (arith, first)),
        low_cut text (piece.end - backticks) (omega (arith, within, end_is)) (omega (arith, last)),
      )

  parts_of : (asked : Extensions) (kind : PieceKind) → BeginsAt asked text piece.start piece.start kind len → HasParts kind text piece
  parts_of asked K.Text begins = tt
  parts_of asked K.Escape begins =
      let second : get_or text (piece.start + 1) 0 ≡ begins.escaped = byte_in text piece.start 1 _ begins.parts in
      let ascii : begins.escaped < 128 = (let is = begins.punctuation in punctuation_low begins.escaped is) in
      low_cut text (piece.start + 1) (omega (arith, within, begins.counted)) (omega (arith, second, ascii))
    where
      punctuation_low : (b : ℕ) → is_punctuation b ≡ true → b < 128
      punctuation_low b is = grind (arith, nat_tests, is)
  parts_of asked K.HardBreak begins = tt
  parts_of asked K.SoftBreak begins = tt
  parts_of asked K.Reference begins = (len, begins.meaning, begins.is_reference)
  parts_of asked (K.Code backticks) begins = code backticks begins.1
  parts_of asked K.Uri begins =
      angled begins.uri begins.is_uri.rest (begins.opens ∙ ap (λ t. 60 ∷ t) begins.is_uri.parts) begins.counted
  parts_of asked K.Email begins =
      let is = begins.1 in
      angled is.address is.is_address.rest (is.opens ∙ ap (λ t. 60 ∷ t) is.is_address.parts) is.counted
  parts_of asked K.Html begins = tt
  parts_of asked (K.Delimiters run) begins = tt
  parts_of asked K.LinkOpener begins = tt
  parts_of asked K.ImageOpener begins = tt
  parts_of asked K.Closer begins = tt

  run_low : (asked : Extensions) (run : DelimiterRun) → IsRunOf asked text piece.start run → len ≡ run.count
      → (offset : ℕ) → piece.start ≤ offset → offset < piece.end → get_or text offset 0 < 128
  run_low asked run is counted offset least less =
      let there = longest is in
      let passes = prefix_len_passes (λ b. b == run.byte) (drop piece.start text) (offset - piece.start) 0
      (omega (arith, there, counted, end_is, least, less)) in
      let byte = eqb-true _ run.byte passes in
      let same : get_or text (piece.start + (offset - piece.start)) 0 ≡ run.byte = byte_in text piece.start (offset - piece.start) _ refl ∙ byte in
      let at : piece.start + (offset - piece.start) ≡ offset = omega (arith, least) in
      let here : get_or text offset 0 ≡ run.byte = ap (λ n. get_or text n 0) (sym at) ∙ same in
      omega (arith, here, low is)
    where
      longest : IsRunOf asked text piece.start run → run.count ≡ prefix_len (λ b. b == run.byte) (drop piece.start text)
      longest (inl it) = it.longest
      longest (inr it) = it.1.longest

      low : IsRunOf asked text piece.start run → run.byte < 128
      low (inl it) = elim it.delimiter [ inl b ↦ omega (arith, b) | inr b ↦ omega (arith, b) ]
      low (inr it) = omega (arith, it.1.delimiter)

  delimiters_of : (asked : Extensions) (kind : PieceKind) → BeginsAt asked text piece.start piece.start kind len
      → HasDelimiters kind text piece
  delimiters_of asked K.Text begins = tt
  delimiters_of asked K.Escape begins = tt
  delimiters_of asked K.HardBreak begins = tt
  delimiters_of asked K.SoftBreak begins = tt
  delimiters_of asked K.Reference begins = tt
  delimiters_of asked (K.Code backticks) begins = tt
  delimiters_of asked K.Uri begins = tt
  delimiters_of asked K.Email begins = tt
  delimiters_of asked K.Html begins = tt
  delimiters_of asked (K.Delimiters run) begins = run_low asked run begins.0 begins.1
  delimiters_of asked K.LinkOpener begins = tt
  delimiters_of asked K.ImageOpener begins = tt
  delimiters_of asked K.Closer begins = tt

-- a piece that begins where it is read, and is no right bracket
pub known_other : (asked : Extensions) (text : List ℕ) (piece : Piece) (len : ℕ) → IsUtf8 text → piece.start ≤ length text
    → piece.end ≡ piece.start + len → BeginsAt asked text piece.start piece.start piece.kind len → IsKnown text piece
known_other asked text piece len utf8 inside end_is begins =
    let part = piece_part asked text piece.start piece.start piece.kind len inside begins in
    record {
      source = record {
        some = omega (arith, part.some, end_is);
        begins = starts_cut asked text piece.start piece.start piece.kind len begins inside;
        ends = subst (IsCharBoundary text) (sym end_is) (part.cut utf8);
      };
      parts = parts_of text piece len utf8 end_is part.within asked piece.kind begins;
      delimiters = delimiters_of text piece len utf8 end_is part.within asked piece.kind begins;
    }
