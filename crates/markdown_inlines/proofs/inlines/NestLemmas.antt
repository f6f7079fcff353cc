-- The inlines of pieces nest where the spans fit.
use Rattle.std.proofs.Common.{ℕ, zero, suc, Bool, true, false, List, [], ◌∷◌, ◌++◌, ◌≡◌, ◌<◌}
use Rattle.std.proofs.Common.{◌≤◌, ◌+◌, ◌-◌, ◌⊎◌, ◌∙◌, inl, inr, arith, refl, sym, ap, subst}
use Rattle.std.proofs.Common.{Option, Some, None, slice_get, get_or, if◌then◌else◌, map}
use Rattle.std.specs.List.{flat_map, range_with_len}
use Rattle.std.specs.Option.{is_some}
use Rattle.markdown_inlines.specs.Marks.{ends_link, marks_by}
use Rattle.markdown_inlines.specs.Nesting.{AreNestedIn}
use Rattle.markdown_inlines.specs.Output.{counted, inlines_at, inlines_from, delimiter_at, delimiter_with, closer_as}
use Rattle.markdown_inlines.specs.declared.emphasis.Emphasis.{Emphasis}
use Rattle.markdown_inlines.specs.declared.inlines.Inline.{Inline}
use Rattle.markdown_inlines.specs.declared.inlines.Inline.TheVariants as I
use Rattle.markdown_inlines.specs.declared.links.Link.{Link}
use Rattle.markdown_inlines.specs.declared.marks.Mark.{Mark}
use Rattle.markdown_inlines.specs.declared.marks.Mark.TheVariants as M
use Rattle.markdown_inlines.specs.declared.pieces.Piece.{Piece}
use Rattle.markdown_inlines.specs.declared.pieces.PieceKind.{PieceKind}
use Rattle.markdown_inlines.specs.declared.pieces.PieceKind.TheVariants as K
use Rattle.markdown_inlines.proofs.inlines.MarkedLemmas.{link_there, ends_there, HasAt, IsFree, IsSecond, MarkedAs, marked}
use Rattle.markdown_inlines.proofs.inlines.NumberedPieces.{numbered, Follow, ends_before, one_there, one_opener, opener_kind, HasPieces}
use Rattle.markdown_inlines.proofs.inlines.OpenSpans.{Touches, wider, AreOpenAt, begins_alone, ends_alone, passed, begun, ended}
use Rattle.markdown_inlines.proofs.inlines.Spans.{IsIn, Span, start, to, end, start_of, start_with, IsSpan, IsWhole, Fit}

-- The spans of a text fit, and begin and end with pieces of it.
pub record AreLaid (links : List (Option Link)) (emphasis : List Emphasis) (pieces : List Piece) (len : ℕ) : Type 0 where
  pub follow : Follow 0 pieces len
  pub fit : (s t : Span) → IsSpan links emphasis s → IsSpan links emphasis t → (s ≡ t) ⊎ Fit s t
  pub whole : (s : Span) → IsSpan links emphasis s → IsWhole s
  pub has : (s : Span) → IsSpan links emphasis s → HasPieces (numbered 0 pieces) s
  pub counts : (e : Emphasis) → IsIn e emphasis → (e.count ≡ 1) ⊎ (e.count ≡ 2)

-- openers, right brackets, delimiter runs, and what holds no others
abbrev pub class : PieceKind → ℕ
class K.LinkOpener = 1
class K.ImageOpener = 1
class K.Closer = 2
class (K.Delimiters run) = 3
class kind = 0

opener_class : (is_image : Bool) → class (opener_kind is_image) ≡ 1
opener_class true = refl
opener_class false = refl

pub opener_counts : (is_image : Bool) (number : ℕ) → counted (opener_kind is_image) number ≡ number + 1
opener_counts true number = refl
opener_counts false number = refl

pub link_at : (links : List (Option Link)) (number : ℕ) (link : Link) → get_or links number None ≡ Some link
    → slice_get links number ≡ Some (Some link)
link_at [] number link is = (let none : None ≡ Some link = is in cc)
link_at (x ∷ links) zero link is = ap Some is
link_at (x ∷ links) (suc number) link is = link_at links number link is

at_link : (links : List (Option Link)) (number : ℕ) (link : Link) → slice_get links number ≡ Some (Some link)
    → get_or links number None ≡ Some link
at_link [] number link is = (let none : None ≡ Some (Some link) = is in cc)
at_link (x ∷ links) zero link is = (let same : Some x ≡ Some (Some link) = is in cc)
at_link (x ∷ links) (suc number) link is = at_link links number link is

-- the piece that a span begins or ends with
abbrev IsTouched : ℕ × Piece → Span → Type 0
IsTouched x (inl e) = class x.1.kind ≡ 3
IsTouched x (inr link) =
    ((class x.1.kind ≡ 1) × (x.0 ≡ link.0)) ⊎ ((class x.1.kind ≡ 2) × (x.1.start ≡ link.1.text.end) × (x.1.end ≡ link.1.source.end))

module _ (links : List (Option Link)) (emphasis : List Emphasis) (pieces : List Piece) (len : ℕ)
    (laid : AreLaid links emphasis pieces len) where
  abbrev all : List (ℕ × Piece)
  all = numbered 0 pieces

  abbrev Open : ℕ → List Span → Type 0
  Open offset spans = AreOpenAt links emphasis laid.fit laid.whole offset spans

  touched : (x : ℕ × Piece) → IsIn x all → (s : Span) → IsSpan links emphasis s → Touches x.1.start x.1.end s → IsTouched x s
  touched x is_in (inl e) is (inl touch) =
      let run = (laid.has (inl e) is).0 in
      let w = laid.whole (inl e) is in
      let y : ℕ × Piece = (run.number, record { kind = K.Delimiters run.run; start = run.first; end = run.last }) in
      let same : x ≡ y =
      one_there pieces 0 len 0 x y laid.follow is_in run.is_in (omega (arith, touch.0, run.ends, w.opens)) (omega (arith, touch.1, run.begins)) in
      ap (λ (z : ℕ × Piece). class z.1.kind) same
  touched x is_in (inl e) is (inr touch) =
      let run = (laid.has (inl e) is).1 in
      let w = laid.whole (inl e) is in
      let y : ℕ × Piece = (run.number, record { kind = K.Delimiters run.run; start = run.first; end = run.last }) in
      let same : x ≡ y =
      one_there pieces 0 len 0 x y laid.follow is_in run.is_in (omega (arith, touch.0, run.ends, w.closes)) (omega (arith, touch.1, run.begins)) in
      ap (λ (z : ℕ × Piece). class z.1.kind) same
  touched x is_in (inr link) is (inl touch) =
      let has = (laid.has (inr link) is).0 in
      let w = laid.whole (inr link) is in
      let y : ℕ × Piece = (link.0, record { kind = opener_kind link.1.is_image; start = link.1.source.start; end = link.1.text.start }) in
      let same : x ≡ y =
      one_there pieces 0 len 0 x y laid.follow is_in has (omega (arith, touch.0, w.opens)) (omega (arith, touch.1)) in
      inl (ap (λ (z : ℕ × Piece). class z.1.kind) same ∙ opener_class link.1.is_image, ap (λ (z : ℕ × Piece). z.0) same)
  touched x is_in (inr link) is (inr touch) =
      let has = (laid.has (inr link) is).1 in
      let w = laid.whole (inr link) is in
      let y : ℕ × Piece = (has.number, record { kind = K.Closer; start = link.1.text.end; end = link.1.source.end }) in
      let same : x ≡ y =
      one_there pieces 0 len 0 x y laid.follow is_in has.is_in (omega (arith, touch.0, w.closes)) (omega (arith, touch.1)) in
      inr (
        ap (λ (z : ℕ × Piece). class z.1.kind) same,
        ap (λ (z : ℕ × Piece). z.1.start) same,
        ap (λ (z : ℕ × Piece). z.1.end) same,
      )

  -- the first delimiter of two begins or ends what the second might
  pub second_alone : (offset : ℕ) (e : Emphasis) → IsIn e emphasis → IsSecond e offset → (d : Emphasis) → IsIn d emphasis
      → ¬ Touches offset (offset + 1) (inl d)
  second_alone offset e is (two, inl there) d is' touch =
      let same : inl d ≡ inl e =
      begins_alone links emphasis laid.fit laid.whole (inl e) (inl d) e.opening (e.opening + 2) is is' refl (omega (arith, two))
      (wider e.opening (e.opening + 2) offset (offset + 1) (inl d) (omega (arith, there)) (omega (arith, there)) touch) in
      apart touch (ap start same) (ap to same) (laid.whole (inl e) is)
    where
      apart : Touches offset (offset + 1) (inl d) → d.opening ≡ e.opening → d.closing ≡ e.closing → IsWhole (inl e) → ⊥
      apart (inl at) o c w = omega (arith, at.0, o, there)
      apart (inr at) o c w = omega (arith, at.1, c, there, w.in_order, two)
  second_alone offset e is (two, inr there) d is' touch =
      let same : inl d ≡ inl e =
      ends_alone links emphasis laid.fit laid.whole (inl e) (inl d) e.closing (e.closing + 2) is is' refl (omega (arith, two))
      (wider e.closing (e.closing + 2) offset (offset + 1) (inl d) (omega (arith, there)) (omega (arith, there)) touch) in
      apart touch (ap start same) (ap to same) (laid.whole (inl e) is)
    where
      apart : Touches offset (offset + 1) (inl d) → d.opening ≡ e.opening → d.closing ≡ e.closing → IsWhole (inl e) → ⊥
      apart (inl at) o c w = omega (arith, at.0, o, there, w.in_order, two)
      apart (inr at) o c w = omega (arith, at.0, c, there)

  module _ (number : ℕ) (piece : Piece) (is_in : IsIn (number, piece) all) (is_run : class piece.kind ≡ 3) where
    -- no link begins or ends within the run
    no_link : (offset : ℕ) → piece.start ≤ offset → offset < piece.end → (link : ℕ × Link) → IsSpan links emphasis (inr link)
        → ¬ Touches offset (offset + 1) (inr link)
    no_link offset least most link is touch =
        by (touched (number, piece) is_in (inr link) is
        (wider piece.start piece.end offset (offset + 1) (inr link) least (omega (arith, most)) touch))
      where
        by : IsTouched (number, piece) (inr link) → ⊥
        by (inl opener) = omega (arith, is_run, opener.0)
        by (inr closer) = omega (arith, is_run, closer.0)

  module _ (number : ℕ) (piece : Piece) (is_in : IsIn (number, piece) all) (later : piece.start ≤ piece.end) (spans : List Span)
      (is_open : Open piece.start spans) (rest : List Inline)
      (next : (spans' : List Span) → Open piece.end spans' → AreNestedIn links (map start_of spans') rest) where
    abbrev Nested : List Inline → Type 0
    Nested inlines = AreNestedIn links (map start_of spans) inlines

    -- a piece at which nothing begins or ends
    clear_step : ((s : Span) → IsSpan links emphasis s → ¬ IsTouched (number, piece) s) → Nested rest
    clear_step clear =
        next spans (passed links emphasis laid.fit laid.whole piece.start piece.end spans later
        (λ s is touch. clear s is (touched (number, piece) is_in s is touch)) is_open)

    leaf_step : class piece.kind ≡ 0 → Nested rest
    leaf_step none = clear_step clear
      where
        clear : (s : Span) → IsSpan links emphasis s → ¬ IsTouched (number, piece) s
        clear (inl e) is touch = omega (arith, none, touch)
        clear (inr link) is (inl touch) = omega (arith, none, touch.0)
        clear (inr link) is (inr touch) = omega (arith, none, touch.0)

    opener_step : class piece.kind ≡ 1 → counted piece.kind number ≡ number + 1
        → Nested ((if is_some (get_or links number None) then I.StartLink number else I.Leaf piece) ∷ rest)
    opener_step is_opener counts = by (get_or links number None) refl
      where
        by : (found : Option Link) → get_or links number None ≡ found
            → Nested ((if is_some found then I.StartLink number else I.Leaf piece) ∷ rest)
        by None none = clear_step clear
          where
            clear : (s : Span) → IsSpan links emphasis s → ¬ IsTouched (number, piece) s
            clear (inl e) is touch = omega (arith, is_opener, touch)
            clear (inr link) is (inl touch) =
                let found = at_link links link.0 link.1 is in
                let same : None ≡ Some link.1 = sym none ∙ (ap (λ n. get_or links n None) touch.1 ∙ found) in cc
            clear (inr link) is (inr touch) = omega (arith, is_opener, touch.0)
        by (Some link) found =
            let is : IsSpan links emphasis (inr (number, link)) = link_at links number link found in
            let has = (laid.has (inr (number, link)) is).0 in
            let w = laid.whole (inr (number, link)) is in
            let opener : Piece = record { kind = opener_kind link.is_image; start = link.source.start; end = link.text.start } in
            let same : piece ≡ opener = one_opener pieces 0 number piece opener is_in has counts (opener_counts link.is_image number) in
            next (inr (number, link) ∷ spans)
            (begun links emphasis laid.fit laid.whole (inr (number, link)) piece.start piece.end spans is
            (ap (λ (p : Piece). p.start) (sym same))
            (omega (arith, w.opens, ap (λ (p : Piece). p.start) same, ap (λ (p : Piece). p.end) same))
            (omega (arith, ap (λ (p : Piece). p.end) same)) is_open)

    closer_step : class piece.kind ≡ 2 → piece.start < piece.end → Nested (closer_as links piece ∷ rest)
    closer_step is_closer some = by (ends_link links piece.start) refl
      where
        by : (test : Bool) → ends_link links piece.start ≡ test → Nested ((if test then I.EndLink piece else I.Leaf piece) ∷ rest)
        by true ends =
            let there = link_there links piece.start ends in
            let s : Span = inr (there.0, there.1) in
            let w = laid.whole s there.2 in
            let touch : IsTouched (number, piece) s =
            touched (number, piece) is_in s there.2 (inr (omega (arith, there.3), omega (arith, there.3, some))) in
            let last : piece.end ≡ there.1.source.end = elim touch [
              | inl opener ↦ absurd (omega (arith, opener.0, is_closer))
              | inr closer ↦ closer.2
            ] in
            let after =
            ended links emphasis laid.fit laid.whole s piece.start piece.end spans there.2 (sym there.3) some (omega (arith, last)) is_open in (
              I.StartLink there.0,
              map start_of after.0,
              ap (map start_of) after.1,
              (there.1, there.2, there.3, last),
              next after.0 after.2,
            )
        by false none = clear_step clear
          where
            clear : (s : Span) → IsSpan links emphasis s → ¬ IsTouched (number, piece) s
            clear (inl e) is touch = omega (arith, is_closer, touch)
            clear (inr link) is (inl touch) = omega (arith, is_closer, touch.0)
            clear (inr link) is (inr touch) =
                let same : false ≡ true = sym none ∙ (ap (ends_link links) touch.1 ∙ ends_there links link.0 link.1 is) in cc

    -- ---- delimiter runs

    module _ (is_run : class piece.kind ≡ 3) where
      module _ (offset : ℕ) (least : piece.start ≤ offset) (most : offset < piece.end) (spans' : List Span) (is_open' : Open offset spans')
          (more : List Inline)
          (go : (spans'' : List Span) → Open (offset + 1) spans'' → AreNestedIn links (map start_of spans'') (more ++ rest)) where
        clear_by : ((e : Emphasis) → IsIn e emphasis → ¬ Touches offset (offset + 1) (inl e)) → (s : Span) → IsSpan links emphasis s
            → ¬ Touches offset (offset + 1) s
        clear_by clear (inl e) is touch = clear e is touch
        clear_by clear (inr link) is touch = no_link number piece is_in is_run offset least most link is touch

        goes_on : ((e : Emphasis) → IsIn e emphasis → ¬ Touches offset (offset + 1) (inl e))
            → AreNestedIn links (map start_of spans') (more ++ rest)
        goes_on clear =
            go spans' (passed links emphasis laid.fit laid.whole offset (offset + 1) spans' (omega arith)
            (λ s is touch. clear_by clear s is touch) is_open')

        free : (e : Emphasis) → IsFree e offset → ¬ Touches offset (offset + 1) (inl e)
        free e is (inl touch) = is.no_opening (omega (arith, touch.0, touch.1))
        free e is (inr touch) = is.no_closing (omega (arith, touch.0, touch.1))

        opens : (struck : Bool) (count : ℕ) → HasAt struck (λ e. e.opening) emphasis count offset
            → AreNestedIn links (start_with struck offset count ∷ map start_of spans') (more ++ rest)
        opens struck count (e, is, here, counts, byte) =
            let w = laid.whole (inl e) is in
            let after =
            begun links emphasis laid.fit laid.whole (inl e) offset (offset + 1) spans' is here (omega arith) (omega (arith, here, w.opens)) is_open' in
            let same = ap (λ b. start_with b e.opening e.count) byte
            ∙ (ap (λ k. start_with struck k e.count) here ∙ ap (λ k. start_with struck offset k) counts) in
            subst (λ start. AreNestedIn links (start ∷ map start_of spans') (more ++ rest)) same (go (inl e ∷ spans') after)

        closes : (struck : Bool) (count : ℕ) → HasAt struck (λ e. e.closing) emphasis count offset
            → (e : Emphasis) × (outer : List Inline) × (map start_of spans' ≡ start_with struck e.opening e.count ∷ outer)
            × (count ≡ e.count) × AreNestedIn links outer (more ++ rest)
        closes struck count (e, is, here, counts, byte) =
            let w = laid.whole (inl e) is in
            let after =
            ended links emphasis laid.fit laid.whole (inl e) offset (offset + 1) spans' is here (omega arith) (omega (arith, here, w.closes)) is_open' in
            let begun_so = ap (λ b. start_with b e.opening e.count ∷ map start_of after.0) byte in
            (e, map start_of after.0, ap (map start_of) after.1 ∙ begun_so, sym counts, go after.0 after.2)

        emphasis_closes : (count : ℕ) → HasAt false (λ e. e.closing) emphasis count offset
            → AreNestedIn links (map start_of spans') (I.EndEmphasis offset count ∷ (more ++ rest))
        emphasis_closes count is =
            let end = closes false count is in (I.StartEmphasis end.0.opening end.0.count, end.1, end.2, end.3, end.4)

        strikethrough_closes : (count : ℕ) → HasAt true (λ e. e.closing) emphasis count offset
            → AreNestedIn links (map start_of spans') (I.EndStrikethrough offset count ∷ (more ++ rest))
        strikethrough_closes count is =
            let end = closes true count is in (I.StartStrikethrough end.0.opening end.0.count, end.1, end.2, end.3, end.4)

        by_mark : (mark : Mark) → MarkedAs emphasis offset mark
            → AreNestedIn links (map start_of spans') ((delimiter_with mark offset ++ more) ++ rest)
        by_mark M.Nothing is = goes_on (λ e in_all. free e (is e in_all))
        by_mark M.OpensEmphasis is = opens false 1 is
        by_mark M.OpensStrong is = opens false 2 is
        by_mark M.ClosesEmphasis is = emphasis_closes 1 is
        by_mark M.ClosesStrong is = emphasis_closes 2 is
        by_mark M.OpensStrikethrough is = opens true 1 is
        by_mark M.OpensStrikethroughOfTwo is = opens true 2 is
        by_mark M.ClosesStrikethrough is = strikethrough_closes 1 is
        by_mark M.ClosesStrikethroughOfTwo is = strikethrough_closes 2 is
        by_mark M.Second is = goes_on (second_alone offset is.0 is.1 is.2)

        delimiter_step : AreNestedIn links (map start_of spans') ((delimiter_at emphasis offset ++ more) ++ rest)
        delimiter_step = by_mark (marks_by emphasis offset) (marked emphasis offset laid.counts)

      run_step : (n offset : ℕ) (spans' : List Span) → piece.start ≤ offset → offset + n ≡ piece.end → Open offset spans'
          → AreNestedIn links (map start_of spans') (flat_map (delimiter_at emphasis) (range_with_len offset n) ++ rest)
      run_step zero offset spans' least last is_open' = next spans' (subst (λ p. Open p spans') (omega (arith, last)) is_open')
      run_step (suc n) offset spans' least last is_open' =
          delimiter_step offset least (omega (arith, last)) spans' is_open' (flat_map (delimiter_at emphasis) (range_with_len (offset + 1) n))
          (λ spans'' is'. run_step n (offset + 1) spans'' (omega (arith, least)) (omega (arith, last)) is')

    -- ---- any piece

    step : (kind : PieceKind) → piece.kind ≡ kind → (kind ≡ K.Closer → piece.start < piece.end)
        → Nested (inlines_at kind links emphasis number piece ++ rest)
    step K.Text is some = leaf_step (ap class is)
    step K.Escape is some = leaf_step (ap class is)
    step K.HardBreak is some = leaf_step (ap class is)
    step K.SoftBreak is some = leaf_step (ap class is)
    step K.Reference is some = leaf_step (ap class is)
    step (K.Code backticks) is some = leaf_step (ap class is)
    step K.Uri is some = leaf_step (ap class is)
    step K.Email is some = leaf_step (ap class is)
    step K.Html is some = leaf_step (ap class is)
    step (K.Delimiters run) is some =
        run_step (ap class is) (piece.end - piece.start) piece.start spans (omega arith) (omega (arith, later)) is_open
    step K.LinkOpener is some = opener_step (ap class is) (ap (λ k. counted k number) is)
    step K.ImageOpener is some = opener_step (ap class is) (ap (λ k. counted k number) is)
    step K.Closer is some = closer_step (ap class is) (some refl)

  nest_from : (rest : List Piece) (number offset : ℕ) (spans : List Span) → Follow offset rest len
      → ((x : ℕ × Piece) → IsIn x (numbered number rest) → IsIn x all) → Open offset spans
      → AreNestedIn links (map start_of spans) (inlines_from links emphasis number rest)
  nest_from [] number offset spans follow are_in is_open = by spans is_open
    where
      by : (spans : List Span) → Open offset spans → map start_of spans ≡ []
      by [] is_open = refl
      by (s ∷ outer) is_open = absurd (past s is_open.still.0 is_open.still.2)
        where
          before : (s : Span) → HasPieces all s → end s ≤ len
          before (inl e) has = omega (arith, has.1.ends, ends_before pieces 0 len 0 _ laid.follow has.1.is_in)
          before (inr link) has = ends_before pieces 0 len 0 _ laid.follow has.1.is_in

          past : (s : Span) → IsSpan links emphasis s → offset ≤ to s → ⊥
          past s is still = omega (arith, still, (laid.whole s is).closes, before s (laid.has s is), follow)
  nest_from (piece ∷ later) number offset spans follow are_in is_open =
      step number piece (are_in (number, piece) (inl refl)) follow.1.0 spans (subst (λ p. Open p spans) (sym follow.0) is_open)
      (inlines_from links emphasis (counted piece.kind number) later)
      (λ spans' is_open'. nest_from later (counted piece.kind number) piece.end spans' follow.2 (λ x is. are_in x (inr is)) is_open')
      piece.kind refl follow.1.1

  pub laid_nest : AreNestedIn links [] (inlines_from links emphasis 0 pieces)
  laid_nest = nest_from pieces 0 0 [] laid.follow (λ x is. is) (record {
    still = tt;
    each = λ s is before still. absurd (omega (arith, before));
  })
