-- What is known of the pieces and the links of a text that is cut.
use Rattle.std.proofs.Common.{ℕ, zero, suc, Bool, true, false, List, [], ◌∷◌, ◌++◌, ◌≡◌, ◌<◌, ◌≤◌, ◌+◌, ◌⊎◌, ◌∙◌, inl, inr, length}
use Rattle.std.proofs.Common.{arith, refl}
use Rattle.std.proofs.Common.{sym, ap, subst, if◌then◌else◌}
use Rattle.std.proofs.Common.{Option, Some, None, slice_set, length-append}
use Rattle.std.specs.Prelude.{⊤, slice_get}
use Rattle.std.specs.List.{AllByRecursion}
use Rattle.std.specs.Str.{IsUtf8, IsCharBoundary}
use Rattle.std.proofs.lemmas.List.{length-set}
use Rattle.std.proofs.lemmas.Str.{IsCharBoundary-start, IsCharBoundary-end}
use Rattle.markdown_inlines.specs.Inlines.{Reading, at_start, with_opener, with_piece, with_link, IsLink, IsClosed, Setting, AreRead, IsCut}
use Rattle.markdown_inlines.specs.Inlines.{IsWikiTarget, bracket_of}
use Rattle.markdown_inlines.specs.Links.{Known, IsTarget}
use Rattle.markdown_inlines.specs.Pieces.{BeginsAt}
use Rattle.markdown_inlines.specs.declared.emphasis.Emphasis.{Emphasis}
use Rattle.markdown_inlines.specs.declared.links.Link.{Link}
use Rattle.markdown_inlines.specs.declared.pieces.Piece.{Piece}
use Rattle.markdown_inlines.specs.declared.pieces.PieceKind.{PieceKind}
use Rattle.markdown_inlines.specs.declared.pieces.PieceKind.TheVariants as K
use Rattle.markdown_inlines.specs.declared.reading.Opener.{Opener}
use Rattle.markdown_inlines.proofs.cut.LinkLaws.{put_in, added_in, link_ends_after}
use Rattle.markdown_inlines.proofs.cut.OneCut.{ReadAs, read_as, begins_within}
use Rattle.markdown_inlines.proofs.pieces.PieceEnds.{starts_cut}
use Rattle.markdown_events.specs.Found.{HasParts, IsAimed, link_bracket}
use Rattle.markdown_events.proofs.found.PieceFacts.{IsKnown, HasDelimiters, known_other}

-- ---- elements of lists

other_at : (links : List (Option Link)) (number n : ℕ) (put a : Option Link) → ¬ (n ≡ number) → slice_get links n ≡ Some a
    → slice_get (slice_set links number put) n ≡ Some a
other_at [] number n put a other is = is
other_at (x ∷ links) zero zero put a other is = absurd (other refl)
other_at (x ∷ links) zero (suc n) put a other is = is
other_at (x ∷ links) (suc number) zero put a other is = is
other_at (x ∷ links) (suc number) (suc n) put a other is = other_at links number n put a (λ same. other (ap suc same)) is

put_at : (links : List (Option Link)) (number : ℕ) (put old : Option Link) → slice_get links number ≡ Some old
    → slice_get (slice_set links number put) number ≡ Some put
put_at [] number put old is = (let none : None ≡ Some old = is in cc)
put_at (x ∷ links) zero put old is = refl
put_at (x ∷ links) (suc number) put old is = put_at links number put old is

more_at : (links : List (Option Link)) (more : Option Link) (n : ℕ) (a : Option Link) → slice_get links n ≡ Some a
    → slice_get (links ++ more ∷ []) n ≡ Some a
more_at [] more n a is = (let none : None ≡ Some a = is in cc)
more_at (x ∷ links) more zero a is = is
more_at (x ∷ links) more (suc n) a is = more_at links more n a is

last_at : (links : List (Option Link)) (more : Option Link) → slice_get (links ++ more ∷ []) (length links) ≡ Some more
last_at [] more = refl
last_at (x ∷ links) more = last_at links more

-- ---- openers that begin no link yet

abbrev AreUnused : List (Option Link) → ℕ → List Opener → Type 0
AreUnused links bound [] = ⊤
AreUnused links bound (opener ∷ outer) =
    (opener.number < bound) × (slice_get links opener.number ≡ Some None) × AreUnused links opener.number outer

unused_below : (links : List (Option Link)) (bound bound' : ℕ) (openers : List Opener) → bound ≤ bound' → AreUnused links bound openers
    → AreUnused links bound' openers
unused_below links bound bound' [] later are = tt
unused_below links bound bound' (opener ∷ outer) later are = (omega (arith, later, are.0), are.1, are.2)

unused_more : (links : List (Option Link)) (bound : ℕ) (openers : List Opener) → AreUnused links bound openers
    → AreUnused (links ++ None ∷ []) bound openers
unused_more links bound [] are = tt
unused_more links bound (opener ∷ outer) are =
    (are.0, more_at links None opener.number None are.1, unused_more links opener.number outer are.2)

unused_put : (links : List (Option Link)) (number : ℕ) (put : Option Link) (bound : ℕ) (openers : List Opener) → bound ≤ number
    → AreUnused links bound openers → AreUnused (slice_set links number put) bound openers
unused_put links number put bound [] least are = tt
unused_put links number put bound (opener ∷ outer) least are = (
  are.0,
  other_at links number opener.number put None (λ same. absurd (omega (arith, same, are.0, least))) are.1,
  unused_put links number put opener.number outer (omega (arith, are.0, least)) are.2,
)

-- ---- what holds while a text is read

-- each link is there later
abbrev IsKept : List (Option Link) → List (Option Link) → Type 0
IsKept links links' = (n : ℕ) (a : Link) → slice_get links n ≡ Some (Some a) → slice_get links' n ≡ Some (Some a)

abbrev pub AreAimed : List ℕ → Known → List (Option Link) → Type 0
AreAimed text known links = (n : ℕ) (a : Link) → slice_get links n ≡ Some (Some a) → IsAimed text known a

-- each link has an opener of some bytes
abbrev pub HaveOpeners : List (Option Link) → Type 0
HaveOpeners links = (n : ℕ) (a : Link) → slice_get links n ≡ Some (Some a) → a.source.start < a.text.start

-- a right bracket ends what has some bytes
pub closer_some : (known : Known) (openers : List Opener) (reading : Reading) (start end : ℕ) (next : Reading)
    → IsClosed known openers reading start end next → start < end
closer_some known [] reading start end next is = omega (arith, is.0)
closer_some known (opener ∷ outer) reading start end next (inl is) =
    omega (arith, link_ends_after reading.text known opener start is.link.target is.link.source.end is.is_link.target, is.end_is)
closer_some known (opener ∷ outer) reading start end next (inr is) = omega (arith, is.end_is)

module _ (text : List ℕ) (known : Known) where
  record Holds (reading : Reading) : Type 0 where
    text_is : reading.text ≡ text
    unused : AreUnused reading.links (length reading.links) reading.openers
    aimed : AreAimed text known reading.links
    begun : HaveOpeners reading.links

  -- what a step of the reading does
  record Steps (reading next : Reading) : Type 0 where
    kept : IsKept reading.links next.links
    holds : Holds next

  stays : (reading next : Reading) → next ≡ reading → Holds reading → Steps reading next
  stays reading next same holds = record {
    kept = λ n a is. subst (λ (r : Reading). slice_get r.links n ≡ Some (Some a)) (sym same) is;
    holds = subst Holds (sym same) holds;
  }

  opened : (is_image : Bool) (piece : Piece) (reading : Reading) → Holds reading → Steps reading (with_opener is_image piece reading)
  opened is_image piece reading holds = record {
    kept = λ n a is. more_at reading.links None n (Some a) is;
    holds = record {
      text_is = holds.text_is;
      unused = (
        omega (arith, length-append reading.links (None ∷ [])),
        last_at reading.links None,
        unused_more reading.links (length reading.links) reading.openers holds.unused,
      );
      aimed = λ n a is. holds.aimed n a (added_in reading.links n a is);
      begun = λ n a is. holds.begun n a (added_in reading.links n a is);
    };
  }

  with_piece_steps : (kind : PieceKind) (piece : Piece) (reading : Reading) → Holds reading → Steps reading (with_piece kind piece reading)
  with_piece_steps K.Text piece reading holds = stays reading reading refl holds
  with_piece_steps K.Escape piece reading holds = stays reading reading refl holds
  with_piece_steps K.HardBreak piece reading holds = stays reading reading refl holds
  with_piece_steps K.SoftBreak piece reading holds = stays reading reading refl holds
  with_piece_steps K.Reference piece reading holds = stays reading reading refl holds
  with_piece_steps (K.Code backticks) piece reading holds = stays reading reading refl holds
  with_piece_steps K.Uri piece reading holds = stays reading reading refl holds
  with_piece_steps K.Email piece reading holds = stays reading reading refl holds
  with_piece_steps K.Html piece reading holds = stays reading reading refl holds
  with_piece_steps (K.Delimiters run) piece reading holds = record {
    kept = λ n a is. is;
    holds = record { text_is = holds.text_is; unused = holds.unused; aimed = holds.aimed; begun = holds.begun };
  }
  with_piece_steps K.LinkOpener piece reading holds = opened false piece reading holds
  with_piece_steps K.ImageOpener piece reading holds = opened true piece reading holds
  with_piece_steps K.Closer piece reading holds = stays reading reading refl holds

  module _ (reading : Reading) (opener : Opener) (outer : List Opener) (close : ℕ) (holds : Holds reading)
      (unused : AreUnused reading.links (length reading.links) (opener ∷ outer)) where
    outer_unused : AreUnused reading.links (length reading.links) outer
    outer_unused = unused_below reading.links opener.number (length reading.links) outer (omega (arith, unused.0)) unused.2

    ended : (link : Link) → IsLink reading.text known opener close link → Steps reading (with_link link opener outer reading)
    ended link is = record {
      kept = λ n a old. other_at reading.links opener.number n (Some link) (Some a)
          (λ same. (let both : Some (Some a) ≡ Some None = sym old ∙ (ap (slice_get reading.links) same ∙ unused.1) in cc)) old;
      holds = record {
        text_is = holds.text_is;
        unused = unused_below (slice_set reading.links opener.number (Some link)) opener.number
            (length (slice_set reading.links opener.number (Some link))) outer
            (omega (arith, unused.0, length-set reading.links opener.number (Some link)))
            (unused_put reading.links opener.number (Some link) opener.number outer (omega arith) unused.2);
        aimed = λ n a there. by n a (put_in reading.links opener.number n (Some link) a there);
        begun = λ n a there. begins n a (put_in reading.links opener.number n (Some link) a there);
      };
    }
      where
        bracket : bracket_of opener ≡ link_bracket link
        bracket = ap (λ n. if opener.is_image then n + 1 else n) (sym is.begins)
            ∙ ap (λ (b : Bool). if b then link.source.start + 1 else link.source.start) (sym is.is_image)

        here : IsAimed text known link
        here = elim is.target [
          | inl target ↦ inl (subst (λ n. IsTarget text known link.text.start n link.target link.source.end) (sym is.text_ends)
              (subst (λ n. IsTarget text known n close link.target link.source.end) (sym is.text_begins)
              (subst (λ t. IsTarget t known opener.text close link.target link.source.end) holds.text_is target.1)))
          | inr wiki ↦ inr (subst (λ n. IsWikiTarget text (link_bracket link) link.text.start n link.target link.source.end) (sym is.text_ends)
              (subst (λ n. IsWikiTarget text (link_bracket link) n close link.target link.source.end) (sym is.text_begins)
              (subst (λ n. IsWikiTarget text n opener.text close link.target link.source.end) bracket
              (subst (λ t. IsWikiTarget t (bracket_of opener) opener.text close link.target link.source.end) holds.text_is wiki))))
        ]

        by : (n : ℕ) (a : Link) → ((n ≡ opener.number) × (Some link ≡ Some a)) ⊎ (slice_get reading.links n ≡ Some (Some a)) → IsAimed text known a
        by n a (inl (at, same)) = subst (IsAimed text known) (let it : link ≡ a = cc in it) here
        by n a (inr old) = holds.aimed n a old

        -- its opener is a bracket, or the head of a wikilink
        bracket_later : (is_image : Bool) → opener.start ≤ (if is_image then opener.start + 1 else opener.start)
        bracket_later true = omega arith
        bracket_later false = omega arith

        some_opener : link.source.start < link.text.start
        some_opener = elim is.target [
          | inl target ↦ omega (arith, is.begins, is.text_begins, target.0, bracket_later opener.is_image)
          | inr wiki ↦ elim wiki.2.ends [
            | inl piped ↦ omega (arith, is.begins, is.text_begins, bracket_later opener.is_image, wiki.2.begins, wiki.2.some, piped.1)
            | inr bare ↦ omega (arith, is.begins, is.text_begins, bracket_later opener.is_image, wiki.2.begins, wiki.2.some, bare.1)
          ]
        ]

        begins : (n : ℕ) (a : Link) → ((n ≡ opener.number) × (Some link ≡ Some a)) ⊎ (slice_get reading.links n ≡ Some (Some a))
            → a.source.start < a.text.start
        begins n a (inl (at, same)) = subst (λ (l : Link). l.source.start < l.text.start) (let it : link ≡ a = cc in it) some_opener
        begins n a (inr old) = holds.begun n a old

    none_ended : Steps reading (record reading { openers = outer })
    none_ended = record {
      kept = λ n a is. is;
      holds = record { text_is = holds.text_is; unused = outer_unused; aimed = holds.aimed; begun = holds.begun };
    }

  -- a right bracket, and where a text may be cut after it
  record Closes (reading : Reading) (piece : Piece) (next : Reading) : Type 0 where
    steps : Steps reading next
    some : piece.start < piece.end
    end : (piece.end ≡ piece.start + 1) ⊎ ((n : ℕ) × (a : Link) × (slice_get next.links n ≡ Some (Some a)) × (piece.end ≡ a.source.end))

  closed : (openers : List Opener) (reading : Reading) (piece : Piece) (next : Reading) → reading.openers ≡ openers → Holds reading
      → IsClosed known openers reading piece.start piece.end next → Closes reading piece next
  closed [] reading piece next are holds is = record {
    steps = stays reading next is.1 holds;
    some = closer_some known [] reading piece.start piece.end next is;
    end = inl is.0;
  }
  closed (opener ∷ outer) reading piece next are holds (inl is) =
      let unused = subst (AreUnused reading.links (length reading.links)) are holds.unused in
      let steps = ended reading opener outer piece.start holds unused is.link is.is_link in
      record {
        steps = subst (Steps reading) (sym is.next_is) steps;
        some = closer_some known (opener ∷ outer) reading piece.start piece.end next (inl is);
        end = inr (
          opener.number,
          is.link,
          subst (λ (r : Reading). slice_get r.links opener.number ≡ Some (Some is.link)) (sym is.next_is)
              (put_at reading.links opener.number (Some is.link) None unused.1),
          is.end_is,
        );
      }
  closed (opener ∷ outer) reading piece next are holds (inr is) =
      let unused = subst (AreUnused reading.links (length reading.links)) are holds.unused in
      let steps = none_ended reading opener outer piece.start holds unused in
      record { steps = subst (Steps reading) (sym is.next_is) steps; some = omega (arith, is.end_is); end = inl is.end_is }

  -- ---- the whole text

  module _ (setting : Setting) (known_is : setting.known ≡ known) where
    step_of : (reading : Reading) (piece : Piece) (next : Reading) → ReadAs setting reading piece next → Holds reading → Steps reading next
    step_of reading piece next (inl is) holds = stays reading next is.next_is holds
    step_of reading piece next (inr (inl is)) holds =
        (closed reading.openers reading piece next refl holds
        (subst (λ k. IsClosed k reading.openers reading piece.start piece.end next) known_is is.closed)).steps
    step_of reading piece next (inr (inr is)) holds =
        subst (Steps reading) (sym is.next_is) (with_piece_steps piece.kind piece reading holds)

    all_steps : (offset : ℕ) (reading : Reading) (pieces : List Piece) (last : Reading) → AreRead setting offset reading pieces last → Holds reading
        → Steps reading last
    all_steps offset reading [] last is holds = stays reading last is.1 holds
    all_steps offset reading (piece ∷ later) last is holds =
        let step = step_of reading piece is.1 (read_as setting reading piece is.1 piece.kind refl is.2) holds in
        let rest = all_steps piece.end is.1 later last is.3 step.holds in
        record { kept = λ n a at. rest.kept n a (step.kept n a at); holds = rest.holds }

    module _ (utf8 : IsUtf8 text) where
      -- the text may be cut where a piece ends
      known_step : (reading : Reading) (piece : Piece) (next : Reading) → ReadAs setting reading piece next → Holds reading
          → IsCharBoundary text piece.start
          → ((n : ℕ) (a : Link) → slice_get next.links n ≡ Some (Some a) → IsCharBoundary text a.source.end)
          → IsKnown text piece
      known_step reading piece next (inl is) holds cut ends = record {
        source = record { some = is.is_text.some; begins = cut; ends = end };
        parts = subst (λ k. HasParts k text piece) (sym is.kind_is) tt;
        delimiters = subst (λ k. HasDelimiters k text piece) (sym is.kind_is) tt;
      }
        where
          end : IsCharBoundary text piece.end
          end = elim is.is_text.ends [
            | inl whole ↦ subst (λ t. IsCharBoundary t piece.end) holds.text_is
                (subst (IsCharBoundary reading.text) (sym whole) (IsCharBoundary-end reading.text))
            | inr begins ↦ subst (λ t. IsCharBoundary t piece.end) holds.text_is
                (starts_cut setting.asked reading.text piece.start piece.end begins.0 begins.1 begins.2
                (omega (arith, begins_within setting.asked reading.text piece.start piece.end begins.0 begins.1 begins.2)))
          ]
      known_step reading piece next (inr (inl is)) holds cut ends = record {
        source = record { some = closes.some; begins = cut; ends = end };
        parts = subst (λ k. HasParts k text piece) (sym is.kind_is) tt;
        delimiters = subst (λ k. HasDelimiters k text piece) (sym is.kind_is) tt;
      }
        where
          alone : IsKnown text (record piece { end = piece.start + 1 })
          alone = known_other setting.asked text (record piece { end = piece.start + 1 }) 1 utf8 cut.0 refl
              (subst (λ t. BeginsAt setting.asked t piece.start piece.start piece.kind 1) holds.text_is is.begins)

          closes : Closes reading piece next
          closes = closed reading.openers reading piece next refl holds
              (subst (λ k. IsClosed k reading.openers reading piece.start piece.end next) known_is is.closed)

          end : IsCharBoundary text piece.end
          end = elim closes.end [
            | inl next_byte ↦ subst (IsCharBoundary text) (sym next_byte) alone.source.ends
            | inr link ↦ subst (IsCharBoundary text) (sym link.3) (ends link.0 link.1 link.2)
          ]
      known_step reading piece next (inr (inr is)) holds cut ends =
          known_other setting.asked text piece is.at.len utf8 cut.0 is.at.end_is
          (subst (λ t. BeginsAt setting.asked t piece.start piece.start piece.kind is.at.len) holds.text_is is.at.begins)

      all_known : (offset : ℕ) (reading : Reading) (pieces : List Piece) (last : Reading) → AreRead setting offset reading pieces last
          → Holds reading → IsCharBoundary text offset
          → ((n : ℕ) (a : Link) → slice_get last.links n ≡ Some (Some a) → IsCharBoundary text a.source.end)
          → AllByRecursion (IsKnown text) pieces
      all_known offset reading [] last is holds cut ends = tt
      all_known offset reading (piece ∷ later) last is holds cut ends =
          let view = read_as setting reading piece is.1 piece.kind refl is.2 in
          let step = step_of reading piece is.1 view holds in
          let rest = all_steps piece.end is.1 later last is.3 step.holds in
          let here = known_step reading piece is.1 view holds (subst (IsCharBoundary text) (sym is.0) cut)
          (λ n a at. ends n a (rest.kept n a at)) in
          (here, all_known piece.end is.1 later last is.3 step.holds here.source.ends ends)

start_holds : (text : List ℕ) (known : Known) → Holds text known (at_start text)
start_holds text known = record {
  text_is = refl;
  unused = tt;
  aimed = λ n a is. absurd (let none : None ≡ Some (Some a) = is in cc);
  begun = λ n a is. absurd (let none : None ≡ Some (Some a) = is in cc);
}

-- each link leads where its text is followed
pub links_aimed : (text : List ℕ) (setting : Setting) (pieces : List Piece) (links : List (Option Link)) (emphasis : List Emphasis)
    → IsCut text setting pieces links emphasis → AreAimed text setting.known links
links_aimed text setting pieces links emphasis is =
    subst (AreAimed text setting.known) (sym is.links_are)
    (all_steps text setting.known setting refl 0 (at_start text) pieces is.last is.read (start_holds text setting.known)).holds.aimed

-- and has an opener
pub links_opened : (text : List ℕ) (setting : Setting) (pieces : List Piece) (links : List (Option Link)) (emphasis : List Emphasis)
    → IsCut text setting pieces links emphasis → HaveOpeners links
links_opened text setting pieces links emphasis is =
    subst HaveOpeners (sym is.links_are)
    (all_steps text setting.known setting refl 0 (at_start text) pieces is.last is.read (start_holds text setting.known)).holds.begun

-- each piece stands in the text
pub pieces_known : (text : List ℕ) (setting : Setting) (pieces : List Piece) (links : List (Option Link)) (emphasis : List Emphasis)
    → IsUtf8 text → IsCut text setting pieces links emphasis
    → ((n : ℕ) (a : Link) → slice_get links n ≡ Some (Some a) → IsCharBoundary text a.source.end)
    → AllByRecursion (IsKnown text) pieces
pieces_known text setting pieces links emphasis utf8 is ends =
    all_known text setting.known setting refl utf8 0 (at_start text) pieces is.last is.read (start_holds text setting.known)
    (IsCharBoundary-start text utf8) (subst (λ (l : List (Option Link)). (n : ℕ) (a : Link)
    → slice_get l n ≡ Some (Some a) → IsCharBoundary text a.source.end) is.links_are ends)
