-- A text has one cut.
use Rattle.std.proofs.Common.{ℕ, List, [], ◌∷◌, ◌++◌, ◌≡◌, ◌<◌, ◌≤◌, ◌∙◌, ◌⊎◌, inl, inr, length, arith, refl, sym, ap, subst}
use Rattle.std.proofs.Common.{Option, ◌+◌}
use Rattle.std.specs.declared.ops.Range.{Range}
use Rattle.std.proofs.lemmas.Bool.{cases_lt}
use Rattle.std.proofs.Math.ListN.{get_or-eq_default}
use Rattle.markdown_inlines.specs.Emphasis.{emphasis_of}
use Rattle.markdown_inlines.specs.Links.{Known}
use Rattle.markdown_inlines.specs.Inlines.{Reading, at_start, with_piece, with_link, bracket_of, LeadsTo, IsLink, EndsLink, EndsNone, IsClosed}
use Rattle.markdown_inlines.specs.Inlines.{Setting, IsTextPiece, IsPieceAt, IsRead, AreRead, IsCut}
use Rattle.markdown_inlines.specs.Pieces.{BeginsAt}
use Rattle.markdown_inlines.specs.WikiLinks.{IsHead}
use Rattle.markdown_inlines.specs.declared.emphasis.Emphasis.{Emphasis}
use Rattle.markdown_values.specs.declared.values.extensions.Extensions.{Extensions}
use Rattle.markdown_inlines.specs.declared.links.Link.{Link}
use Rattle.markdown_inlines.specs.declared.links.LinkTarget.{LinkTarget}
use Rattle.markdown_inlines.specs.declared.links.LinkTarget.TheVariants.{Wiki}
use Rattle.markdown_inlines.specs.declared.pieces.Piece.{Piece}
use Rattle.markdown_inlines.specs.declared.pieces.PieceKind.{PieceKind}
use Rattle.markdown_inlines.specs.declared.pieces.PieceKind.TheVariants as K
use Rattle.markdown_inlines.specs.declared.reading.Opener.{Opener}
use Rattle.markdown_inlines.proofs.link_targets.OneTarget.{one_target}
use Rattle.markdown_inlines.proofs.pieces.OnePiece.{one_piece, same_piece}
use Rattle.markdown_inlines.proofs.pieces.Openings.{begins_class, byte_class, no_kind}
use Rattle.markdown_inlines.proofs.wiki_links.WikiLinkLemmas.{head_ends, one_head}

-- a piece begins within the text
pub begins_within : (asked : Extensions) (text : List ℕ) (from offset : ℕ) (kind : PieceKind) (len : ℕ)
    → BeginsAt asked text from offset kind len → offset < length text
begins_within asked text from offset kind len begins = elim (cases_lt offset (length text)) [
  | inl inside ↦ inside
  | inr past ↦ absurd (no_kind kind (sym (ap byte_class (get_or-eq_default text 0 past)) ∙ begins_class asked text from offset kind len begins))
]

-- ---- what a right bracket does

-- an opener is a bracket, or the head of a wikilink
pub not_both : (text : List ℕ) (opener : Opener) (range : Range ℕ) → opener.text ≡ bracket_of opener + 1
    → ¬ IsHead text (bracket_of opener) range opener.text
not_both text opener range single is = omega (arith, single, (head_ends text (bracket_of opener) range opener.text is).later)

pub one_lead : (text : List ℕ) (known : Known) (opener : Opener) (close : ℕ) (target target' : LinkTarget) (end end' : ℕ)
    → LeadsTo text known opener close target end → LeadsTo text known opener close target' end' → (target ≡ target') × (end ≡ end')
one_lead text known opener close target target' end end' (inl is) (inl is') =
    one_target text known opener.text close target target' end end' is.1 is'.1
one_lead text known opener close target target' end end' (inl is) (inr is') = absurd (not_both text opener is'.0 is.0 is'.2)
one_lead text known opener close target target' end end' (inr is) (inl is') = absurd (not_both text opener is.0 is'.0 is.2)
one_lead text known opener close target target' end end' (inr is) (inr is') =
    let same = one_head text (bracket_of opener) is.0 is'.0 opener.text opener.text is.2 is'.2 in
    (is.1 ∙ (ap (λ range. Wiki range) same.0 ∙ sym is'.1), is.4 ∙ sym is'.4)

one_link : (text : List ℕ) (known : Known) (opener : Opener) (close : ℕ) (link link' : Link) → IsLink text known opener close link
    → IsLink text known opener close link' → link ≡ link'
one_link text known opener close link link' is is' =
    let target = one_lead text known opener close link.target link'.target link.source.end link'.source.end is.target is'.target in
    let image = is.is_image ∙ sym is'.is_image in
    let begins = is.begins ∙ sym is'.begins in
    let from = is.text_begins ∙ sym is'.text_begins in
    let to = is.text_ends ∙ sym is'.text_ends in
    λ i. record {
      is_image = image i;
      source = record { start = begins i; end = target.1 i };
      text = record { start = from i; end = to i };
      target = target.0 i;
    }

module _ (known : Known) (opener : Opener) (outer : List Opener) (reading : Reading) (close end end' : ℕ) (next next' : Reading) where
  both_end : EndsLink known opener outer reading close end next → EndsLink known opener outer reading close end' next'
      → (end ≡ end') × (next ≡ next')
  both_end is is' =
      let same = one_link reading.text known opener close is.link is'.link is.is_link is'.is_link in (
        is.end_is ∙ (ap (λ (l : Link). l.source.end) same ∙ sym is'.end_is),
        is.next_is ∙ (ap (λ l. with_link l opener outer reading) same ∙ sym is'.next_is),
      )

  one_ended : EndsLink known opener outer reading close end next ⊎ EndsNone known opener outer reading close end next
      → EndsLink known opener outer reading close end' next' ⊎ EndsNone known opener outer reading close end' next'
      → (end ≡ end') × (next ≡ next')
  one_ended (inl is) (inl is') = both_end is is'
  one_ended (inl is) (inr is') = absurd (is'.no_link is.may_begin is.link is.is_link)
  one_ended (inr is) (inl is') = absurd (is.no_link is'.may_begin is'.link is'.is_link)
  one_ended (inr is) (inr is') = (is.end_is ∙ sym is'.end_is, is.next_is ∙ sym is'.next_is)

one_closed : (known : Known) (openers : List Opener) (reading : Reading) (close end end' : ℕ) (next next' : Reading)
    → IsClosed known openers reading close end next → IsClosed known openers reading close end' next' → (end ≡ end') × (next ≡ next')
one_closed known [] reading close end end' next next' is is' = (is.0 ∙ sym is'.0, is.1 ∙ sym is'.1)
one_closed known (opener ∷ outer) reading close end end' next next' is is' =
    one_ended known opener outer reading close end end' next next' is is'

-- ---- text

text_within : (asked : Extensions) (text : List ℕ) (from to : ℕ) → IsTextPiece asked text from to → to ≤ length text
text_within asked text from to is = elim is.ends [
  | inl whole ↦ omega (arith, whole)
  | inr begins ↦ omega (arith, begins_within asked text from to begins.0 begins.1 begins.2)
]

-- text does not end within text
not_shorter : (asked : Extensions) (text : List ℕ) (from to to' : ℕ) → IsTextPiece asked text from to → IsTextPiece asked text from to' → ¬ (to < to')
not_shorter asked text from to to' is is' less = elim is.ends [
  | inl whole ↦ omega (arith, whole, less, text_within asked text from to' is')
  | inr begins ↦ is'.only_text to (omega (arith, is.some)) less begins.0 begins.1 begins.2
]

one_text : (asked : Extensions) (text : List ℕ) (from to to' : ℕ) → IsTextPiece asked text from to → IsTextPiece asked text from to' → to ≡ to'
one_text asked text from to to' is is' = elim (cases_lt to to') [
  | inl less ↦ absurd (not_shorter asked text from to to' is is' less)
  | inr not_less ↦ elim (cases_lt to' to) [
    | inl more ↦ absurd (not_shorter asked text from to' to is' is more)
    | inr not_more ↦ omega (arith, not_less, not_more)
  ]
]

-- ---- a piece that is read

-- text, a right bracket, or another kind
abbrev pub kind_number : PieceKind → ℕ
kind_number K.Text = 0
kind_number K.Closer = 1
kind_number kind = 2

pub record IsTextRead (setting : Setting) (reading : Reading) (piece : Piece) (next : Reading) : Type 0 where
  pub kind_is : piece.kind ≡ K.Text
  pub is_text : IsTextPiece setting.asked reading.text piece.start piece.end
  pub next_is : next ≡ reading

pub record IsCloserRead (setting : Setting) (reading : Reading) (piece : Piece) (next : Reading) : Type 0 where
  pub kind_is : piece.kind ≡ K.Closer
  pub begins : BeginsAt setting.asked reading.text piece.start piece.start piece.kind 1
  pub closed : IsClosed setting.known reading.openers reading piece.start piece.end next

pub record IsOtherRead (setting : Setting) (reading : Reading) (piece : Piece) (next : Reading) : Type 0 where
  pub kind_is : kind_number piece.kind ≡ 2
  pub at : IsPieceAt setting.asked reading.text piece
  pub next_is : next ≡ with_piece piece.kind piece reading

module _ (setting : Setting) (reading : Reading) (piece : Piece) (next : Reading) where
  abbrev pub ReadAs : Type 0
  ReadAs = IsTextRead setting reading piece next ⊎ (IsCloserRead setting reading piece next ⊎ IsOtherRead setting reading piece next)

  other_as : (kind : PieceKind) → piece.kind ≡ kind → kind_number kind ≡ 2 → IsPieceAt setting.asked reading.text piece
      → next ≡ with_piece kind piece reading → ReadAs
  other_as kind is number at next_is = inr (inr (record {
    kind_is = ap kind_number is ∙ number;
    at = at;
    next_is = next_is ∙ ap (λ k. with_piece k piece reading) (sym is);
  }))

  pub read_as : (kind : PieceKind) → piece.kind ≡ kind → IsRead kind setting reading piece next → ReadAs
  read_as K.Text is read = inl (record { kind_is = is; is_text = read.0; next_is = read.1 })
  read_as K.Closer is read = inr (inl (record {
    kind_is = is;
    begins = subst (λ k. BeginsAt setting.asked reading.text piece.start piece.start k 1) (sym is) (read.0, refl);
    closed = read.1;
  }))
  read_as K.Escape is read = other_as K.Escape is refl read.0 read.1
  read_as K.HardBreak is read = other_as K.HardBreak is refl read.0 read.1
  read_as K.SoftBreak is read = other_as K.SoftBreak is refl read.0 read.1
  read_as K.Reference is read = other_as K.Reference is refl read.0 read.1
  read_as (K.Code backticks) is read = other_as (K.Code backticks) is refl read.0 read.1
  read_as K.Uri is read = other_as K.Uri is refl read.0 read.1
  read_as K.Email is read = other_as K.Email is refl read.0 read.1
  read_as K.Html is read = other_as K.Html is refl read.0 read.1
  read_as (K.Delimiters run) is read = other_as (K.Delimiters run) is refl read.0 read.1
  read_as K.LinkOpener is read = other_as K.LinkOpener is refl read.0 read.1
  read_as K.ImageOpener is read = other_as K.ImageOpener is refl read.0 read.1

  -- a piece that is read begins within the text
  as_within : ReadAs → piece.start < length reading.text
  as_within (inl is) = omega (arith, is.is_text.some, text_within setting.asked reading.text piece.start piece.end is.is_text)
  as_within (inr (inl is)) = begins_within setting.asked reading.text piece.start piece.start piece.kind 1 is.begins
  as_within (inr (inr is)) = begins_within setting.asked reading.text piece.start piece.start piece.kind is.at.len is.at.begins

module _ (setting : Setting) (reading : Reading) (piece piece' : Piece) (next next' : Reading) (start : piece.start ≡ piece'.start) where
  abbrev Same : Type 0
  Same = (piece ≡ piece') × (next ≡ next')

  -- where text stands nothing else begins
  not_text : IsTextRead setting reading piece next → (len : ℕ) → ¬ BeginsAt setting.asked reading.text piece'.start piece'.start piece'.kind len
  not_text is len begins =
      let moved = subst (λ p. BeginsAt setting.asked reading.text p p piece'.kind len) (sym start) begins in
      is.is_text.only_text piece.start (omega arith) is.is_text.some piece'.kind len moved

  one_begins : (len len' : ℕ) → BeginsAt setting.asked reading.text piece.start piece.start piece.kind len
      → BeginsAt setting.asked reading.text piece'.start piece'.start piece'.kind len' → (piece.kind ≡ piece'.kind) × (len ≡ len')
  one_begins len len' begins begins' =
      let moved = subst (λ p. BeginsAt setting.asked reading.text p p piece'.kind len') (sym start) begins' in
      one_piece setting.asked reading.text piece.start piece.start len' piece.kind len piece'.kind begins moved

  both_text : IsTextRead setting reading piece next → IsTextRead setting reading piece' next' → Same
  both_text is is' =
      let moved = subst (λ p. IsTextPiece setting.asked reading.text p piece'.end) (sym start) is'.is_text in
      let end = one_text setting.asked reading.text piece.start piece.end piece'.end is.is_text moved in
      (same_piece (is.kind_is ∙ sym is'.kind_is) start end, is.next_is ∙ sym is'.next_is)

  both_closers : IsCloserRead setting reading piece next → IsCloserRead setting reading piece' next' → Same
  both_closers is is' =
      let moved = subst (λ p. IsClosed setting.known reading.openers reading p piece'.end next') (sym start) is'.closed in
      let same = one_closed setting.known reading.openers reading piece.start piece.end piece'.end next next' is.closed moved in
      (same_piece (is.kind_is ∙ sym is'.kind_is) start same.0, same.1)

  both_others : IsOtherRead setting reading piece next → IsOtherRead setting reading piece' next' → Same
  both_others is is' =
      let same = one_begins is.at.len is'.at.len is.at.begins is'.at.begins in
      let end : piece.end ≡ piece'.end = omega (arith, is.at.end_is, is'.at.end_is, start, same.1) in
      let pieces : piece ≡ piece' = same_piece same.0 start end in
      (pieces, is.next_is ∙ (ap (λ (p : Piece). with_piece p.kind p reading) pieces ∙ sym is'.next_is))

  closer_other : IsCloserRead setting reading piece next → IsOtherRead setting reading piece' next' → ⊥
  closer_other is is' =
      let same = one_begins 1 is'.at.len is.begins is'.at.begins in
      omega (arith, ap kind_number is.kind_is, is'.kind_is, ap kind_number same.0)

  other_closer : IsOtherRead setting reading piece next → IsCloserRead setting reading piece' next' → ⊥
  other_closer is is' =
      let same = one_begins is.at.len 1 is.at.begins is'.begins in
      omega (arith, is.kind_is, ap kind_number is'.kind_is, ap kind_number same.0)

not_text' : (setting : Setting) (reading : Reading) (piece piece' : Piece) (next next' : Reading) → piece.start ≡ piece'.start
    → IsTextRead setting reading piece' next' → (len : ℕ) → ¬ BeginsAt setting.asked reading.text piece.start piece.start piece.kind len
not_text' setting reading piece piece' next next' start = not_text setting reading piece' piece next' next (sym start)

one_as : (setting : Setting) (reading : Reading) (piece piece' : Piece) (next next' : Reading) → piece.start ≡ piece'.start
    → ReadAs setting reading piece next → ReadAs setting reading piece' next' → (piece ≡ piece') × (next ≡ next')
one_as setting reading p p' n n' start (inl is) (inl is') = both_text setting reading p p' n n' start is is'
one_as setting reading p p' n n' start (inl is) (inr (inl is')) = absurd (not_text setting reading p p' n n' start is 1 is'.begins)
one_as setting reading p p' n n' start (inl is) (inr (inr is')) =
    absurd (not_text setting reading p p' n n' start is is'.at.len is'.at.begins)
one_as setting reading p p' n n' start (inr (inl is)) (inl is') = absurd (not_text' setting reading p p' n n' start is' 1 is.begins)
one_as setting reading p p' n n' start (inr (inr is)) (inl is') =
    absurd (not_text' setting reading p p' n n' start is' is.at.len is.at.begins)
one_as setting reading p p' n n' start (inr (inl is)) (inr (inl is')) = both_closers setting reading p p' n n' start is is'
one_as setting reading p p' n n' start (inr (inl is)) (inr (inr is')) = absurd (closer_other setting reading p p' n n' start is is')
one_as setting reading p p' n n' start (inr (inr is)) (inr (inl is')) = absurd (other_closer setting reading p p' n n' start is is')
one_as setting reading p p' n n' start (inr (inr is)) (inr (inr is')) = both_others setting reading p p' n n' start is is'

-- ---- the whole text

-- at the end of the text no piece is read
none_at_end : (setting : Setting) (offset : ℕ) (reading : Reading) (piece : Piece) (later : List Piece) (last : Reading)
    → offset ≡ length reading.text → ¬ AreRead setting offset reading (piece ∷ later) last
none_at_end setting offset reading piece later last end is =
    let within = as_within setting reading piece is.1 (read_as setting reading piece is.1 piece.kind refl is.2) in
    omega (arith, end, is.0, within)

one_read : (setting : Setting) (offset : ℕ) (reading : Reading) (pieces pieces' : List Piece) (last last' : Reading)
    → AreRead setting offset reading pieces last → AreRead setting offset reading pieces' last' → (pieces ≡ pieces') × (last ≡ last')
one_read setting offset reading [] [] last last' is is' = (refl, is.1 ∙ sym is'.1)
one_read setting offset reading [] (piece ∷ later) last last' is is' =
    absurd (none_at_end setting offset reading piece later last' is.0 is')
one_read setting offset reading (piece ∷ later) [] last last' is is' =
    absurd (none_at_end setting offset reading piece later last is'.0 is)
one_read setting offset reading (piece ∷ later) (piece' ∷ later') last last' is is' =
    let view = read_as setting reading piece is.1 piece.kind refl is.2 in
    let view' = read_as setting reading piece' is'.1 piece'.kind refl is'.2 in
    let same = one_as setting reading piece piece' is.1 is'.1 (is.0 ∙ sym is'.0) view view' in
    let rest = subst (λ next. AreRead setting piece'.end next later' last') (sym same.1) is'.3 in
    let moved = subst (λ (p : Piece). AreRead setting p.end is.1 later' last') (sym same.0) rest in
    let more = one_read setting piece.end is.1 later later' last last' is.3 moved in
    (λ i. same.0 i ∷ more.0 i, more.1)

-- a text has one cut
pub one_cut : (text : List ℕ) (setting : Setting) (pieces pieces' : List Piece) (links links' : List (Option Link))
    (emphasis emphasis' : List Emphasis) → IsCut text setting pieces links emphasis → IsCut text setting pieces' links' emphasis'
    → (pieces ≡ pieces') × (links ≡ links') × (emphasis ≡ emphasis')
one_cut text setting pieces pieces' links links' emphasis emphasis' is is' =
    let same = one_read setting 0 (at_start text) pieces pieces' is.last is'.last is.read is'.read in (
      same.0,
      is.links_are ∙ (ap (λ (r : Reading). r.links) same.1 ∙ sym is'.links_are),
      is.emphasis_is ∙ (ap (λ (r : Reading). r.emphasis ++ emphasis_of r.runs) same.1 ∙ sym is'.emphasis_is),
    )
