-- Nothing is a wikilink unless it is asked for.
use Rattle.std.proofs.Common.{ℕ, zero, suc, Bool, true, false, List, [], ◌∷◌, ◌≡◌, ◌+◌, inl, inr, arith, refl, sym, subst}
use Rattle.std.proofs.Common.{Option, Some, None, IsTrue, slice_set, if◌then◌else◌}
use Rattle.std.specs.Option.{IfSome}
use Rattle.std.specs.List.{AllByRecursion}
use Rattle.std.specs.declared.ops.Range.{Range}
use Rattle.markdown_inlines.specs.InlineLaws.{HasNoWikilinks}
use Rattle.markdown_inlines.specs.Inlines.{Setting, Reading, at_start, with_opener, with_piece, bracket_of, IsClosed, LeadsTo}
use Rattle.markdown_inlines.specs.Inlines.{AreRead, IsCut}
use Rattle.markdown_inlines.specs.Links.{Known, IsTarget}
use Rattle.markdown_inlines.specs.Pieces.{BeginsAt}
use Rattle.markdown_inlines.specs.declared.emphasis.Emphasis.{Emphasis}
use Rattle.markdown_inlines.specs.declared.links.Link.{Link}
use Rattle.markdown_inlines.specs.declared.links.LinkTarget.{LinkTarget}
use Rattle.markdown_inlines.specs.declared.links.LinkTarget.TheVariants.{Wiki}
use Rattle.markdown_inlines.specs.declared.pieces.Piece.{Piece}
use Rattle.markdown_inlines.specs.declared.pieces.PieceKind.{PieceKind}
use Rattle.markdown_inlines.specs.declared.pieces.PieceKind.TheVariants as K
use Rattle.markdown_inlines.specs.declared.reading.Opener.{Opener}
use Rattle.markdown_inlines.proofs.cut.OneCut.{ReadAs, not_both, read_as}
use Rattle.markdown_inlines.proofs.emphasis.NestLemmas.{all_both}

abbrev IsNoWikilink : Option Link → Type 0
IsNoWikilink link = IfSome link (λ l. (target : Range ℕ) → ¬ (l.target ≡ Wiki target))

all_set : {X : Type 0} (P : X → Type 0) (xs : List X) (n : ℕ) (x : X) → AllByRecursion P xs → P x → AllByRecursion P (slice_set xs n x)
all_set P [] n x all is = tt
all_set P (y ∷ ys) zero x all is = (is, all.1)
all_set P (y ∷ ys) (suc n) x all is = (all.0, all_set P ys n x all.1 is)

-- an opener that is one bracket
abbrev IsSingle : Opener → Type 0
IsSingle opener = opener.text ≡ bracket_of opener + 1

record Holds (reading : Reading) : Type 0 where
  openers : AllByRecursion IsSingle reading.openers
  links : HasNoWikilinks reading.links

module _ (setting : Setting) (none : ¬ IsTrue setting.asked.wikilinks) where
  opened : (is_image : Bool) (piece : Piece) (reading : Reading) → Holds reading
      → piece.end ≡ (if is_image then piece.start + 1 else piece.start) + 1 → Holds (with_opener is_image piece reading)
  opened is_image piece reading holds single = record {
    openers = (single, holds.openers);
    links = all_both IsNoWikilink reading.links (None ∷ []) holds.links (tt, tt);
  }

  with_piece_holds : (piece : Piece) (reading : Reading) → Holds reading → (kind : PieceKind) (len : ℕ)
      → BeginsAt setting.asked reading.text piece.start piece.start kind len → piece.end ≡ piece.start + len
      → Holds (with_piece kind piece reading)
  with_piece_holds piece reading holds K.Text len begins end = holds
  with_piece_holds piece reading holds K.Escape len begins end = holds
  with_piece_holds piece reading holds K.HardBreak len begins end = holds
  with_piece_holds piece reading holds K.SoftBreak len begins end = holds
  with_piece_holds piece reading holds K.Reference len begins end = holds
  with_piece_holds piece reading holds (K.Code backticks) len begins end = holds
  with_piece_holds piece reading holds K.Uri len begins end = holds
  with_piece_holds piece reading holds K.Email len begins end = holds
  with_piece_holds piece reading holds K.Html len begins end = holds
  with_piece_holds piece reading holds (K.Delimiters run) len begins end = record { openers = holds.openers; links = holds.links }
  with_piece_holds piece reading holds K.LinkOpener len begins end = elim begins.1 [
    | inl head ↦ absurd (none head.0)
    | inr single ↦ opened false piece reading holds (omega (arith, end, single.1))
  ]
  with_piece_holds piece reading holds K.ImageOpener len begins end = elim begins.1 [
    | inl head ↦ absurd (none head.0)
    | inr single ↦ opened true piece reading holds (omega (arith, end, single.1))
  ]
  with_piece_holds piece reading holds K.Closer len begins end = holds

  -- a link with a target of CommonMark
  no_wiki : (text : List ℕ) (known : Known) (from close : ℕ) (target : LinkTarget) (end : ℕ) → IsTarget text known from close target end
      → (range : Range ℕ) → ¬ (target ≡ Wiki range)
  no_wiki text known from close target end is range wiki = subst (λ t. IsTarget text known from close t end) wiki is

  leads_to_none : (text : List ℕ) (known : Known) (opener : Opener) (close : ℕ) (target : LinkTarget) (end : ℕ) → IsSingle opener
      → LeadsTo text known opener close target end → (range : Range ℕ) → ¬ (target ≡ Wiki range)
  leads_to_none text known opener close target end single (inl is) range = no_wiki text known opener.text close target end is.1 range
  leads_to_none text known opener close target end single (inr is) range = absurd (not_both text opener is.0 single is.2)

  closed_holds : (openers : List Opener) (reading next : Reading) (close end : ℕ) → Holds reading → AllByRecursion IsSingle openers
      → IsClosed setting.known openers reading close end next → Holds next
  closed_holds [] reading next close end holds singles is = subst Holds (sym is.1) holds
  closed_holds (opener ∷ outer) reading next close end holds singles (inl is) =
      subst Holds (sym is.next_is) (record {
        openers = singles.1;
        links = all_set IsNoWikilink reading.links opener.number (Some is.link) holds.links
            (leads_to_none reading.text setting.known opener close is.link.target is.link.source.end singles.0 is.is_link.target);
      })
  closed_holds (opener ∷ outer) reading next close end holds singles (inr is) =
      subst Holds (sym is.next_is) (record { openers = singles.1; links = holds.links })

  read_holds : (reading : Reading) (piece : Piece) (next : Reading) → ReadAs setting reading piece next → Holds reading → Holds next
  read_holds reading piece next (inl is) holds = subst Holds (sym is.next_is) holds
  read_holds reading piece next (inr (inl is)) holds =
      closed_holds reading.openers reading next piece.start piece.end holds holds.openers is.closed
  read_holds reading piece next (inr (inr is)) holds =
      subst Holds (sym is.next_is) (with_piece_holds piece reading holds piece.kind is.at.len is.at.begins is.at.end_is)

  all_hold : (offset : ℕ) (reading : Reading) (pieces : List Piece) (last : Reading) → AreRead setting offset reading pieces last → Holds reading
      → Holds last
  all_hold offset reading [] last is holds = subst Holds (sym is.1) holds
  all_hold offset reading (piece ∷ later) last is holds =
      all_hold piece.end is.1 later last is.3
      (read_holds reading piece is.1 (read_as setting reading piece is.1 piece.kind refl is.2) holds)

  -- in a text where wikilinks are not asked for none is one
  pub no_wikilink_unasked : (text : List ℕ) (pieces : List Piece) (links : List (Option Link)) (emphasis : List Emphasis)
      → IsCut text setting pieces links emphasis → HasNoWikilinks links
  no_wikilink_unasked text pieces links emphasis is =
      let holds = all_hold 0 (at_start text) pieces is.last is.read (record { openers = tt; links = tt }) in
      subst HasNoWikilinks (sym is.links_are) holds.links
