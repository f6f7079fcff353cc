-- Each inline of a text has some bytes of it, of whatever bytes the text is.
use Rattle.std.proofs.Common.{ℕ, zero, suc, true, false, Bool, List, [], ◌∷◌, ◌≡◌, ◌<◌, ◌≤◌, ◌+◌, ◌-◌, ◌∙◌, inl, inr, length, get_or, arith}
use Rattle.std.proofs.Common.{refl, sym, ap, subst, length-append, Option, Some, None, if◌then◌else◌}
use Rattle.std.specs.Prelude.{⊤, slice_get}
use Rattle.std.specs.List.{AllByRecursion, flat_map, range_with_len}
use Rattle.std.proofs.lemmas.Bool.{cases_lt}
use Rattle.std.proofs.Math.ListN.{get_or-eq_default}
use Rattle.std.proofs.lemmas.Option.{slice_get-get_or}
use Rattle.markdown_scanners_tree.specs.Ascii.{colon}
use Rattle.markdown_inlines.specs.Emails.{at_sign}
use Rattle.markdown_inlines.specs.Inlines.{Reading, Setting, AreRead, at_start}
use Rattle.markdown_inlines.specs.Links.{Known, IsTarget}
use Rattle.markdown_inlines.specs.Marks.{ends_link, marks_by}
use Rattle.markdown_inlines.specs.Output.{AreInlines, begins_link, counted, delimiter_at, delimiter_with, inlines_at, inlines_from}
use Rattle.markdown_inlines.specs.Pieces.{BeginsAt}
use Rattle.markdown_inlines.specs.declared.emphasis.Emphasis.{Emphasis}
use Rattle.markdown_values.specs.declared.values.extensions.Extensions.{Extensions}
use Rattle.markdown_inlines.specs.declared.inlines.Inline.{Inline}
use Rattle.markdown_inlines.specs.declared.inlines.Inline.TheVariants as I
use Rattle.markdown_inlines.specs.declared.links.Link.{Link}
use Rattle.markdown_inlines.specs.declared.links.LinkTarget.{LinkTarget}
use Rattle.markdown_inlines.specs.declared.links.LinkTarget.TheVariants.{Inline as Within, Full, Collapsed, Shortcut, Wiki}
use Rattle.markdown_inlines.specs.declared.marks.Mark.{Mark}
use Rattle.markdown_inlines.specs.declared.marks.Mark.TheVariants as M
use Rattle.markdown_inlines.specs.declared.pieces.Piece.{Piece}
use Rattle.markdown_inlines.specs.declared.pieces.PieceKind.{PieceKind}
use Rattle.markdown_inlines.specs.declared.pieces.PieceKind.TheVariants as K
use Rattle.markdown_inlines.proofs.cut.OneCut.{ReadAs, begins_within, read_as}
use Rattle.markdown_inlines.proofs.pieces.PieceEnds.{piece_part}
use Rattle.markdown_events.specs.Found.{IsAimed}
use Rattle.markdown_events.proofs.found.CutFacts.{closer_some, links_aimed, links_opened}
use Rattle.markdown_events.proofs.found.InlineFacts.{all_both, defined}

-- ---- pieces

-- an address of some bytes stands between its angle brackets
abbrev pub HasInner : PieceKind → Piece → Type 0
HasInner K.Uri piece = piece.start + 1 < piece.end - 1
HasInner K.Email piece = piece.start + 1 < piece.end - 1
HasInner kind piece = ⊤

-- a piece has some bytes
pub record HasBytes (piece : Piece) : Type 0 where
  pub some : piece.start < piece.end
  pub inner : HasInner piece.kind piece

inner_of : (asked : Extensions) (text : List ℕ) (piece : Piece) (len : ℕ) → piece.end ≡ piece.start + len → (kind : PieceKind)
    → BeginsAt asked text piece.start piece.start kind len → HasInner kind piece
inner_of asked text piece len ends K.Text begins = tt
inner_of asked text piece len ends K.Escape begins = tt
inner_of asked text piece len ends K.HardBreak begins = tt
inner_of asked text piece len ends K.SoftBreak begins = tt
inner_of asked text piece len ends K.Reference begins = tt
inner_of asked text piece len ends (K.Code backticks) begins = tt
inner_of asked text piece len ends K.Uri begins =
    let uri = begins.is_uri in
    omega (arith, ends, begins.counted, ap length uri.spelled, length-append uri.scheme (colon ∷ uri.address))
inner_of asked text piece len ends K.Email begins =
    let email = begins.1.is_address in
    omega (arith, ends, begins.1.counted, ap length email.spelled, length-append email.local (at_sign ∷ email.domain))
inner_of asked text piece len ends K.Html begins = tt
inner_of asked text piece len ends (K.Delimiters run) begins = tt
inner_of asked text piece len ends K.LinkOpener begins = tt
inner_of asked text piece len ends K.ImageOpener begins = tt
inner_of asked text piece len ends K.Closer begins = tt

read_bytes : (setting : Setting) (reading : Reading) (piece : Piece) (next : Reading) → ReadAs setting reading piece next → HasBytes piece
read_bytes setting reading piece next (inl is) = record {
  some = is.is_text.some;
  inner = subst (λ k. HasInner k piece) (sym is.kind_is) tt;
}
read_bytes setting reading piece next (inr (inl is)) = record {
  some = closer_some setting.known reading.openers reading piece.start piece.end next is.closed;
  inner = subst (λ k. HasInner k piece) (sym is.kind_is) tt;
}
read_bytes setting reading piece next (inr (inr is)) =
    let within = begins_within setting.asked reading.text piece.start piece.start piece.kind is.at.len is.at.begins in
    let part = piece_part setting.asked reading.text piece.start piece.start piece.kind is.at.len (omega (arith, within)) is.at.begins in
    record {
      some = omega (arith, part.some, is.at.end_is);
      inner = inner_of setting.asked reading.text piece is.at.len is.at.end_is piece.kind is.at.begins;
    }

pieces_bytes : (setting : Setting) (offset : ℕ) (reading : Reading) (pieces : List Piece) (last : Reading) → AreRead setting offset reading pieces last
    → AllByRecursion HasBytes pieces
pieces_bytes setting offset reading [] last is = tt
pieces_bytes setting offset reading (piece ∷ later) last is = (
  read_bytes setting reading piece is.1 (read_as setting reading piece is.1 piece.kind refl is.2),
  pieces_bytes setting piece.end is.1 later last is.3,
)

-- ---- inlines

-- what a wikilink shows stands before its link text, and is some bytes
abbrev pub ShowsBefore : LinkTarget → Link → Type 0
ShowsBefore (Wiki range) it = (it.source.start ≤ range.start) × (range.start < range.end) × (range.end ≤ it.text.start)
ShowsBefore target it = ⊤

-- An inline has some bytes: a piece, the delimiters of emphasis and strikethrough, and the opener of a link.
abbrev pub IsFilled : List (Option Link) → Inline → Type 0
IsFilled links (I.Leaf piece) = HasBytes piece
IsFilled links (I.StartEmphasis offset count) = 0 < count
IsFilled links (I.EndEmphasis offset count) = 0 < count
IsFilled links (I.StartStrikethrough offset count) = 0 < count
IsFilled links (I.EndStrikethrough offset count) = 0 < count
IsFilled links (I.StartLink number) =
    (it : Link) × (slice_get links number ≡ Some (Some it)) × (it.source.start < it.text.start) × ShowsBefore it.target it
IsFilled links (I.EndLink piece) = piece.start < piece.end

shows_before : (text : List ℕ) (known : Known) (it : Link) → IsAimed text known it → ShowsBefore it.target it
shows_before text known it (inl is) = no_wiki it.target is
  where
    no_wiki : (target : LinkTarget) → IsTarget text known it.text.start it.text.end target it.source.end → ShowsBefore target it
    no_wiki (Within destination title) is = tt
    no_wiki (Full range) is = tt
    no_wiki Collapsed is = tt
    no_wiki Shortcut is = tt
    no_wiki (Wiki range) is = absurd is
shows_before text known it (inr (range, same, head, closes, end)) = subst (λ t. ShowsBefore t it) (sym same) (
  omega (arith, head.begins, bracket_later it.is_image),
  head.some,
  elim head.ends [ inl piped ↦ omega (arith, piped.1) | inr bare ↦ omega (arith, bare.1) ],
)
  where
    bracket_later : (is_image : Bool) → it.source.start ≤ (if is_image then it.source.start + 1 else it.source.start)
    bracket_later true = omega arith
    bracket_later false = omega arith

module _ (links : List (Option Link)) (emphasis : List Emphasis)
    (found : (n : ℕ) (a : Link) → slice_get links n ≡ Some (Some a) → (a.source.start < a.text.start) × ShowsBefore a.target a) where
  opener_filled : (number : ℕ) (piece : Piece) (test : Bool) → begins_link links number ≡ test → HasBytes piece
      → IsFilled links (if test then I.StartLink number else I.Leaf piece)
  opener_filled number piece false none bytes = bytes
  opener_filled number piece true begins bytes =
      let it = defined (get_or links number None) begins in
      let there : slice_get links number ≡ Some (Some it.0) = slice_get-get_or links number None (below number it.0 it.1) ∙ ap (λ o. Some o) it.1 in
      let known = found number it.0 there in
      (it.0, there, known.0, known.1)
    where
      below : (n : ℕ) (it : Link) → get_or links n None ≡ Some it → n < length links
      below n it is = elim (cases_lt n (length links)) [
        | inl inside ↦ inside
        | inr past ↦ (let none : None ≡ Some it = sym (get_or-eq_default links None past) ∙ is in absurd cc)
      ]

  closer_filled : (test : Bool) (piece : Piece) → HasBytes piece → IsFilled links (if test then I.EndLink piece else I.Leaf piece)
  closer_filled true piece bytes = bytes.some
  closer_filled false piece bytes = bytes

  byte_filled : (offset : ℕ) → HasBytes (record { kind = K.Text; start = offset; end = offset + 1 })
  byte_filled offset = record { some = omega arith; inner = tt }

  delimiter_filled : (mark : Mark) (offset : ℕ) → AllByRecursion (IsFilled links) (delimiter_with mark offset)
  delimiter_filled M.Nothing offset = (byte_filled offset, tt)
  delimiter_filled M.OpensEmphasis offset = (omega arith, tt)
  delimiter_filled M.OpensStrong offset = (omega arith, tt)
  delimiter_filled M.ClosesEmphasis offset = (omega arith, tt)
  delimiter_filled M.ClosesStrong offset = (omega arith, tt)
  delimiter_filled M.OpensStrikethrough offset = (omega arith, tt)
  delimiter_filled M.OpensStrikethroughOfTwo offset = (omega arith, tt)
  delimiter_filled M.ClosesStrikethrough offset = (omega arith, tt)
  delimiter_filled M.ClosesStrikethroughOfTwo offset = (omega arith, tt)
  delimiter_filled M.Second offset = tt

  run_filled : (n offset : ℕ) → AllByRecursion (IsFilled links) (flat_map (delimiter_at emphasis) (range_with_len offset n))
  run_filled zero offset = tt
  run_filled (suc n) offset =
      all_both (IsFilled links) (delimiter_at emphasis offset) (flat_map (delimiter_at emphasis) (range_with_len (offset + 1) n))
      (delimiter_filled (marks_by emphasis offset) offset) (run_filled n (offset + 1))

  piece_filled : (kind : PieceKind) (number : ℕ) (piece : Piece) → HasBytes piece
      → AllByRecursion (IsFilled links) (inlines_at kind links emphasis number piece)
  piece_filled K.Text number piece bytes = (bytes, tt)
  piece_filled K.Escape number piece bytes = (bytes, tt)
  piece_filled K.HardBreak number piece bytes = (bytes, tt)
  piece_filled K.SoftBreak number piece bytes = (bytes, tt)
  piece_filled K.Reference number piece bytes = (bytes, tt)
  piece_filled (K.Code backticks) number piece bytes = (bytes, tt)
  piece_filled K.Uri number piece bytes = (bytes, tt)
  piece_filled K.Email number piece bytes = (bytes, tt)
  piece_filled K.Html number piece bytes = (bytes, tt)
  piece_filled (K.Delimiters run) number piece bytes = run_filled (piece.end - piece.start) piece.start
  piece_filled K.LinkOpener number piece bytes = (opener_filled number piece (begins_link links number) refl bytes, tt)
  piece_filled K.ImageOpener number piece bytes = (opener_filled number piece (begins_link links number) refl bytes, tt)
  piece_filled K.Closer number piece bytes = (closer_filled (ends_link links piece.start) piece bytes, tt)

  all_filled : (number : ℕ) (pieces : List Piece) → AllByRecursion HasBytes pieces
      → AllByRecursion (IsFilled links) (inlines_from links emphasis number pieces)
  all_filled number [] bytes = tt
  all_filled number (piece ∷ later) bytes =
      all_both (IsFilled links) (inlines_at piece.kind links emphasis number piece) (inlines_from links emphasis (counted piece.kind number) later)
      (piece_filled piece.kind number piece bytes.0) (all_filled (counted piece.kind number) later bytes.1)

-- each inline of a text has some bytes
pub inlines_filled : (text : List ℕ) (setting : Setting) (inlines : List Inline) (links : List (Option Link)) → AreInlines text setting inlines links
    → AllByRecursion (IsFilled links) inlines
inlines_filled text setting inlines links are =
    subst (AllByRecursion (IsFilled links)) (sym are.inlines_are)
    (all_filled links are.emphasis
    (λ n a is. (
      links_opened text setting are.pieces links are.emphasis are.cut n a is,
      shows_before text setting.known a (links_aimed text setting are.pieces links are.emphasis are.cut n a is),
    ))
    0 are.pieces (pieces_bytes setting 0 (at_start text) are.pieces are.cut.last are.cut.read))
