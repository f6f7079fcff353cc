-- No link holds a link.
use Rattle.std.proofs.Common.{ℕ, zero, suc, Bool, true, false, not, ◌||◌, List, [], ◌∷◌, ◌++◌, ◌≡◌, ◌<◌, ◌≤◌, ◌+◌, ◌∙◌, ◌⊎◌, inl, inr}
use Rattle.std.proofs.Common.{arith, refl, sym, ap, subst, Option, Some, None, IsTrue, nat_lt, if◌then◌else◌, slice_set}
use Rattle.std.specs.Prelude.{⊤, slice_get}
use Rattle.std.proofs.lemmas.Bool.{ltb-false}
use Rattle.markdown_inlines.specs.InlineLaws.{IsLinkOf, StandApart, HoldNoLinks}
use Rattle.markdown_inlines.specs.Inlines.{Reading, at_start, with_opener, with_piece, with_link, may_begin, IsLink, LeadsTo}
use Rattle.markdown_inlines.specs.Inlines.{Setting, IsClosed, AreRead, IsCut}
use Rattle.markdown_inlines.specs.Links.{Known, IsTarget}
use Rattle.markdown_inlines.specs.Pieces.{BeginsAt}
use Rattle.markdown_inlines.specs.declared.emphasis.Emphasis.{Emphasis}
use Rattle.markdown_values.specs.declared.values.extensions.Extensions.{Extensions}
use Rattle.markdown_inlines.specs.declared.links.Link.{Link}
use Rattle.markdown_inlines.specs.declared.links.LinkTarget.{LinkTarget}
use Rattle.markdown_inlines.specs.declared.links.LinkTarget.TheVariants.{Inline, Full, Collapsed, Shortcut, Wiki}
use Rattle.markdown_inlines.specs.declared.pieces.Piece.{Piece}
use Rattle.markdown_inlines.specs.declared.pieces.PieceKind.{PieceKind}
use Rattle.markdown_inlines.specs.declared.pieces.PieceKind.TheVariants as K
use Rattle.markdown_inlines.specs.declared.reading.Opener.{Opener}
use Rattle.markdown_inlines.proofs.cut.OneCut.{ReadAs, read_as}
use Rattle.markdown_inlines.proofs.wiki_links.WikiLinkLemmas.{opener_later}

-- ---- the links of openers

-- with another link or none at a number, each is that or was there
pub put_in : (links : List (Option Link)) (number n : ℕ) (put : Option Link) (a : Link)
    → slice_get (slice_set links number put) n ≡ Some (Some a) → ((n ≡ number) × (put ≡ Some a)) ⊎ (slice_get links n ≡ Some (Some a))
put_in [] number n put a is = inr is
put_in (x ∷ links) zero zero put a is = inl (refl, (let same : Some put ≡ Some (Some a) = is in cc))
put_in (x ∷ links) zero (suc n) put a is = inr is
put_in (x ∷ links) (suc number) zero put a is = inr is
put_in (x ∷ links) (suc number) (suc n) put a is = elim (put_in links number n put a is) [
  | inl here ↦ inl (ap suc here.0, here.1)
  | inr other ↦ inr other
]

-- with an opener that begins none, each was there
pub added_in : (links : List (Option Link)) (n : ℕ) (a : Link) → slice_get (links ++ None ∷ []) n ≡ Some (Some a)
    → slice_get links n ≡ Some (Some a)
added_in [] zero a is = (let none : Some None ≡ Some (Some a) = is in cc)
added_in [] (suc n) a is = is
added_in (x ∷ links) zero a is = is
added_in (x ∷ links) (suc n) a is = added_in links n a is

-- ---- what holds while a text is read

-- each link begins after an opener, or ends before it
abbrev IsOutside : List (Option Link) → Opener → Type 0
IsOutside links opener = (n : ℕ) (a : Link) → IsLinkOf links n a → (opener.start < a.source.start) ⊎ (a.source.end ≤ opener.start)

-- so it is for these, which begin before an offset, the innermost last
abbrev AreOutside : List (Option Link) → ℕ → List Opener → Type 0
AreOutside links offset [] = ⊤
AreOutside links offset (opener ∷ outer) = (opener.start < offset) × IsOutside links opener × AreOutside links opener.start outer

record Holds (reading : Reading) (offset : ℕ) : Type 0 where
  apart : HoldNoLinks reading.links
  begun : (n : ℕ) (a : Link) → IsLinkOf reading.links n a → (a.source.start ≤ reading.last_link) × (a.source.end ≤ offset)
  still_open : AreOutside reading.links offset reading.openers

further : (links : List (Option Link)) (openers : List Opener) (offset offset' : ℕ) → offset ≤ offset' → AreOutside links offset openers
    → AreOutside links offset' openers
further links [] offset offset' later are = tt
further links (opener ∷ outer) offset offset' later are = (omega (arith, later, are.0), are.1, are.2)

-- with links that begin after the openers
with_later : (links links' : List (Option Link)) (openers : List Opener) (offset : ℕ)
    → ((n : ℕ) (a : Link) → IsLinkOf links' n a → (offset ≤ a.source.start) ⊎ IsLinkOf links n a) → AreOutside links offset openers
    → AreOutside links' offset openers
with_later links links' [] offset each are = tt
with_later links links' (opener ∷ outer) offset each are =
    (are.0, λ n a is. this n a (each n a is), with_later links links' outer opener.start (λ n a is. before n a (each n a is)) are.2)
  where
    this : (n : ℕ) (a : Link) → (offset ≤ a.source.start) ⊎ IsLinkOf links n a → (opener.start < a.source.start) ⊎ (a.source.end ≤ opener.start)
    this n a (inl later) = inl (omega (arith, later, are.0))
    this n a (inr old) = are.1 n a old

    before : (n : ℕ) (a : Link) → (offset ≤ a.source.start) ⊎ IsLinkOf links n a → (opener.start ≤ a.source.start) ⊎ IsLinkOf links n a
    before n a (inl later) = inl (omega (arith, later, are.0))
    before n a (inr old) = inr old

-- ---- pieces that are no right bracket

module _ (piece : Piece) (reading : Reading) (holds : Holds reading piece.start) where
  moved : (offset : ℕ) → piece.start ≤ offset → Holds reading offset
  moved offset later = record {
    apart = holds.apart;
    begun = λ n a is. let was = holds.begun n a is in (was.0, omega (arith, was.1, later));
    still_open = further reading.links reading.openers piece.start offset later holds.still_open;
  }

  opened : (is_image : Bool) → piece.start < piece.end → Holds (with_opener is_image piece reading) piece.end
  opened is_image some = record {
    apart = λ m n a b other is is'. holds.apart m n a b other (old m a is) (old n b is');
    begun = λ n a is. let was = holds.begun n a (old n a is) in (was.0, omega (arith, was.1, some));
    still_open = (
      some,
      λ n a is. inr (holds.begun n a (old n a is)).1,
      with_later reading.links (reading.links ++ None ∷ []) reading.openers piece.start (λ n a is. inr (old n a is)) holds.still_open,
    );
  }
    where
      old : (n : ℕ) (a : Link) → IsLinkOf (reading.links ++ None ∷ []) n a → IsLinkOf reading.links n a
      old n a is = (added_in reading.links n a is.0, is.1)

  with_piece_holds : (asked : Extensions) (text : List ℕ) (kind : PieceKind) (len : ℕ)
      → BeginsAt asked text piece.start piece.start kind len → piece.end ≡ piece.start + len
      → Holds (with_piece kind piece reading) piece.end
  with_piece_holds asked text K.Text len begins end = moved piece.end (omega (arith, end))
  with_piece_holds asked text K.Escape len begins end = moved piece.end (omega (arith, end))
  with_piece_holds asked text K.HardBreak len begins end = moved piece.end (omega (arith, end))
  with_piece_holds asked text K.SoftBreak len begins end = moved piece.end (omega (arith, end))
  with_piece_holds asked text K.Reference len begins end = moved piece.end (omega (arith, end))
  with_piece_holds asked text (K.Code backticks) len begins end = moved piece.end (omega (arith, end))
  with_piece_holds asked text K.Uri len begins end = moved piece.end (omega (arith, end))
  with_piece_holds asked text K.Email len begins end = moved piece.end (omega (arith, end))
  with_piece_holds asked text K.Html len begins end = moved piece.end (omega (arith, end))
  with_piece_holds asked text (K.Delimiters run) len begins end =
      let same = moved piece.end (omega (arith, end)) in
      record { apart = same.apart; begun = same.begun; still_open = same.still_open }
  with_piece_holds asked text K.LinkOpener len begins end =
      opened false (omega (arith, end, opener_later asked text piece.start (piece.start + len) begins.1))
  with_piece_holds asked text K.ImageOpener len begins end =
      opened true (omega (arith, end, opener_later asked text (piece.start + 1) (piece.start + len) begins.1))
  with_piece_holds asked text K.Closer len begins end = moved piece.end (omega (arith, end))

-- ---- right brackets

ends_after : (text : List ℕ) (known : Known) (from close : ℕ) (target : LinkTarget) (end : ℕ) → IsTarget text known from close target end → close < end
ends_after text known from close (Inline destination title) end is = omega (arith, is.3)
ends_after text known from close (Full label) end is = omega (arith, is.2, is.1.ends, is.1.known_after.1.1.closed)
ends_after text known from close Collapsed end is = omega (arith, is.4)
ends_after text known from close Shortcut end is = omega (arith, is.4)
ends_after text known from close (Wiki target) end is = absurd is

pub link_ends_after : (text : List ℕ) (known : Known) (opener : Opener) (close : ℕ) (target : LinkTarget) (end : ℕ)
    → LeadsTo text known opener close target end → close < end
link_ends_after text known opener close target end (inl is) = ends_after text known opener.text close target end is.1
link_ends_after text known opener close target end (inr is) = omega (arith, is.4)

not_true : (b : Bool) → not b ≡ true → b ≡ false
not_true true is = (let lost : false ≡ true = is in cc)
not_true false is = refl

module _ (known : Known) (reading : Reading) (opener : Opener) (outer : List Opener) (close : ℕ) (holds : Holds reading close)
    (still : AreOutside reading.links close (opener ∷ outer)) (link : Link) (may : IsTrue (may_begin opener reading))
    (is_link : IsLink reading.text known opener close link) where
  abbrev links' : List (Option Link)
  links' = slice_set reading.links opener.number (Some link)

  abbrev last' : ℕ
  last' = if link.is_image then reading.last_link else link.source.start

  abbrev Found : ℕ → Link → Type 0
  Found n a = ((n ≡ opener.number) × (link ≡ a)) ⊎ IsLinkOf reading.links n a

  found : (n : ℕ) (a : Link) → IsLinkOf links' n a → Found n a
  found n a is = elim (put_in reading.links opener.number n (Some link) a is.0) [
    | inl here ↦ inl (here.0, (let same : Some link ≡ Some a = here.1 in cc))
    | inr other ↦ inr (other, is.1)
  ]

  -- no link begins after the opener of a link
  late : link.is_image ≡ false → reading.last_link ≤ link.source.start
  late no_image =
      let not_before = subst (λ b. (b || not (nat_lt opener.start reading.last_link)) ≡ true) (sym is_link.is_image ∙ no_image) may in
      let least = ltb-false opener.start reading.last_link (not_true (nat_lt opener.start reading.last_link) not_before) in
      omega (arith, least, is_link.begins)

  last_is : (b : Bool) → link.is_image ≡ b → (reading.last_link ≤ last') × (link.is_image ≡ false → link.source.start ≤ last')
  last_is true image = (
    omega (arith, ap (λ b. if b then reading.last_link else link.source.start) image),
    λ no_image. absurd (let lost : true ≡ false = sym image ∙ no_image in cc),
  )
  last_is false no_image =
      let last = ap (λ b. if b then reading.last_link else link.source.start) no_image in
      (omega (arith, last, late no_image), λ _. omega (arith, last))

  -- all others end before it begins
  others_end : (n : ℕ) (b : Link) → link.is_image ≡ false → IsLinkOf reading.links n b → b.source.end ≤ link.source.start
  others_end n b no_image is = elim (still.1 n b is) [
    | inl before ↦ absurd (omega (arith, before, (holds.begun n b is).0, late no_image, is_link.begins))
    | inr after ↦ omega (arith, after, is_link.begins)
  ]

  no_image_is : (a : Link) → link ≡ a → a.is_image ≡ false → link.is_image ≡ false
  no_image_is a same no_image = ap (λ (l : Link). l.is_image) same ∙ no_image

  apart_by : (m n : ℕ) (a b : Link) → ¬ (m ≡ n) → a.is_image ≡ false → b.is_image ≡ false → Found m a → Found n b → StandApart a b
  apart_by m n a b other image image' (inl here) (inl here') = absurd (other (here.0 ∙ sym here'.0))
  apart_by m n a b other image image' (inl here) (inr old) =
      let ends = others_end n b (no_image_is a here.1 image) old in
      inr (omega (arith, ends, ap (λ (l : Link). l.source.start) here.1))
  apart_by m n a b other image image' (inr old) (inl here) =
      let ends = others_end m a (no_image_is b here.1 image') old in
      inl (omega (arith, ends, ap (λ (l : Link). l.source.start) here.1))
  apart_by m n a b other image image' (inr old) (inr old') = holds.apart m n a b other old old'

  begun_by : (n : ℕ) (a : Link) → a.is_image ≡ false → Found n a → (a.source.start ≤ last') × (a.source.end ≤ link.source.end)
  begun_by n a image (inl here) =
      let least = (last_is link.is_image refl).1 (no_image_is a here.1 image) in (
        omega (arith, least, ap (λ (l : Link). l.source.start) here.1),
        omega (arith, ap (λ (l : Link). l.source.end) here.1),
      )
  begun_by n a image (inr old) =
      let was = holds.begun n a old in
      let end = link_ends_after reading.text known opener close link.target link.source.end is_link.target in
      (omega (arith, was.0, (last_is link.is_image refl).0), omega (arith, was.1, end))

  later_by : (n : ℕ) (a : Link) → Found n a → (opener.start ≤ a.source.start) ⊎ IsLinkOf reading.links n a
  later_by n a (inl here) = inl (omega (arith, is_link.begins, ap (λ (l : Link). l.source.start) here.1))
  later_by n a (inr old) = inr old

  link_holds : Holds (with_link link opener outer reading) link.source.end
  link_holds =
      let end = link_ends_after reading.text known opener close link.target link.source.end is_link.target in
      let begin_before = with_later reading.links links' outer opener.start (λ n a is. later_by n a (found n a is)) still.2 in
      record {
        apart = λ m n a b other is is'. apart_by m n a b other is.1 is'.1 (found m a is) (found n b is');
        begun = λ n a is. begun_by n a is.1 (found n a is);
        still_open = further links' outer opener.start link.source.end (omega (arith, still.0, end)) begin_before;
      }

none_holds : (reading : Reading) (opener : Opener) (outer : List Opener) (close end : ℕ) → Holds reading close
    → AreOutside reading.links close (opener ∷ outer) → close ≤ end → Holds (record reading { openers = outer }) end
none_holds reading opener outer close end holds still later = record {
  apart = holds.apart;
  begun = λ n a is. let was = holds.begun n a is in (was.0, omega (arith, was.1, later));
  still_open = further reading.links outer opener.start end (omega (arith, still.0, later)) still.2;
}

closed_holds : (known : Known) (openers : List Opener) (reading : Reading) (piece : Piece) (next : Reading) → reading.openers ≡ openers
    → Holds reading piece.start → IsClosed known openers reading piece.start piece.end next → Holds next piece.end
closed_holds known [] reading piece next are holds is =
    subst (λ r. Holds r piece.end) (sym is.1) (moved piece reading holds piece.end (omega (arith, is.0)))
closed_holds known (opener ∷ outer) reading piece next are holds (inl is) =
    let still = subst (AreOutside reading.links piece.start) are holds.still_open in
    let after = link_holds known reading opener outer piece.start holds still is.link is.may_begin is.is_link in
    subst (λ r. Holds r piece.end) (sym is.next_is) (subst (Holds (with_link is.link opener outer reading)) (sym is.end_is) after)
closed_holds known (opener ∷ outer) reading piece next are holds (inr is) =
    let still = subst (AreOutside reading.links piece.start) are holds.still_open in
    subst (λ r. Holds r piece.end) (sym is.next_is)
    (none_holds reading opener outer piece.start piece.end holds still (omega (arith, is.end_is)))

-- ---- the whole text

read_holds : (setting : Setting) (reading : Reading) (piece : Piece) (next : Reading) → ReadAs setting reading piece next
    → Holds reading piece.start → Holds next piece.end
read_holds setting reading piece next (inl is) holds =
    subst (λ r. Holds r piece.end) (sym is.next_is) (moved piece reading holds piece.end (omega (arith, is.is_text.some)))
read_holds setting reading piece next (inr (inl is)) holds = closed_holds setting.known reading.openers reading piece next refl holds is.closed
read_holds setting reading piece next (inr (inr is)) holds =
    subst (λ r. Holds r piece.end) (sym is.next_is)
    (with_piece_holds piece reading holds setting.asked reading.text piece.kind is.at.len is.at.begins is.at.end_is)

all_hold : (setting : Setting) (offset : ℕ) (reading : Reading) (pieces : List Piece) (last : Reading) → AreRead setting offset reading pieces last
    → Holds reading offset → HoldNoLinks last.links
all_hold setting offset reading [] last is holds = subst (λ (r : Reading). HoldNoLinks r.links) (sym is.1) holds.apart
all_hold setting offset reading (piece ∷ later) last is holds =
    let view = read_as setting reading piece is.1 piece.kind refl is.2 in
    let after = read_holds setting reading piece is.1 view (subst (Holds reading) (sym is.0) holds) in
    all_hold setting piece.end is.1 later last is.3 after

start_holds : (text : List ℕ) → Holds (at_start text) 0
start_holds text = record {
  apart = λ m n a b other is is'. absurd (let none : None ≡ Some (Some a) = is.0 in cc);
  begun = λ n a is. absurd (let none : None ≡ Some (Some a) = is.0 in cc);
  still_open = tt;
}

-- of the links of a text none holds another
pub links_hold_none : (text : List ℕ) (setting : Setting) (pieces : List Piece) (links : List (Option Link)) (emphasis : List Emphasis)
    → IsCut text setting pieces links emphasis → HoldNoLinks links
links_hold_none text setting pieces links emphasis is =
    subst HoldNoLinks (sym is.links_are) (all_hold setting 0 (at_start text) pieces is.last is.read (start_holds text))
