-- The inlines of pieces stand one after another where the spans fit.
use Rattle.std.proofs.Common.{ℕ, zero, suc, Bool, true, false, List, [], ◌∷◌, ◌++◌, ◌≡◌, ◌<◌, ◌≤◌, ◌+◌, ◌-◌}
use Rattle.std.proofs.Common.{◌⊎◌, ◌∙◌, inl, inr, arith, refl, sym, ap, subst}
use Rattle.std.proofs.Common.{Option, Some, None, get_or, if◌then◌else◌}
use Rattle.std.specs.List.{flat_map, range_with_len}
use Rattle.std.specs.Option.{is_some}
use Rattle.markdown_inlines.specs.Marks.{ends_link, marks_by}
use Rattle.markdown_inlines.specs.Nesting.{StandFrom}
use Rattle.markdown_inlines.specs.Output.{counted, inlines_at, inlines_from, delimiter_at, delimiter_with}
use Rattle.markdown_inlines.specs.declared.emphasis.Emphasis.{Emphasis}
use Rattle.markdown_inlines.specs.declared.inlines.Inline.{Inline}
use Rattle.markdown_inlines.specs.declared.inlines.Inline.TheVariants as I
use Rattle.markdown_inlines.specs.declared.links.Link.{Link}
use Rattle.markdown_inlines.specs.declared.marks.Mark.{Mark}
use Rattle.markdown_inlines.specs.declared.marks.Mark.TheVariants as M
use Rattle.markdown_inlines.specs.declared.pieces.Piece.{Piece}
use Rattle.markdown_inlines.specs.declared.pieces.PieceKind.{PieceKind}
use Rattle.markdown_inlines.specs.declared.pieces.PieceKind.TheVariants as K
use Rattle.markdown_inlines.proofs.inlines.MarkedLemmas.{IsSecond, MarkedAs, marked}
use Rattle.markdown_inlines.proofs.inlines.NestLemmas.{AreLaid, opener_counts, link_at, second_alone}
use Rattle.markdown_inlines.proofs.inlines.NumberedPieces.{numbered, Follow, one_there, one_opener, opener_kind, HasRun}
use Rattle.markdown_inlines.proofs.inlines.OpenSpans.{Touches, begins_alone, ends_alone}
use Rattle.markdown_inlines.proofs.inlines.Spans.{IsIn, Span}

-- how many delimiters a span has on a side
abbrev count_of : Span → ℕ
count_of (inl e) = e.count
count_of (inr link) = 0

module _ (links : List (Option Link)) (emphasis : List Emphasis) (pieces : List Piece) (len : ℕ)
    (laid : AreLaid links emphasis pieces len) where
  abbrev all : List (ℕ × Piece)
  all = numbered 0 pieces

  abbrev IsNoSecond : ℕ → Type 0
  IsNoSecond offset = (e : Emphasis) → IsIn e emphasis → ¬ IsSecond e offset

  -- two delimiters of one side have no second at the offset after one that begins or ends emphasis with one
  after_one : (offset : ℕ) (e : Emphasis) → IsIn e emphasis → e.count ≡ 1 → (e.opening ≡ offset) ⊎ (e.closing ≡ offset)
      → IsNoSecond (offset + 1)
  after_one offset e is one here d is' (two, at) = by here at
    where
      by : (e.opening ≡ offset) ⊎ (e.closing ≡ offset) → (offset + 1 ≡ d.opening + 1) ⊎ (offset + 1 ≡ d.closing + 1) → ⊥
      by (inl begins) at =
          let same = begins_alone links emphasis laid.fit laid.whole (inl e) (inl d) offset (offset + 1) is is' begins
          (omega (arith, begins, one)) (touch at) in
          omega (arith, ap count_of same, one, two)
        where
          touch : (offset + 1 ≡ d.opening + 1) ⊎ (offset + 1 ≡ d.closing + 1) → Touches offset (offset + 1) (inl d)
          touch (inl first) = inl (omega (arith, first), omega (arith, first))
          touch (inr first) = inr (omega (arith, first), omega (arith, first))
      by (inr ends) at =
          let same = ends_alone links emphasis laid.fit laid.whole (inl e) (inl d) offset (offset + 1) is is' ends
          (omega (arith, ends, one)) (touch at) in
          omega (arith, ap count_of same, one, two)
        where
          touch : (offset + 1 ≡ d.opening + 1) ⊎ (offset + 1 ≡ d.closing + 1) → Touches offset (offset + 1) (inl d)
          touch (inl first) = inl (omega (arith, first), omega (arith, first))
          touch (inr first) = inr (omega (arith, first), omega (arith, first))

  -- nor after a second, nor after a delimiter that is text
  touch_before : (offset : ℕ) (d : Emphasis) → IsSecond d (offset + 1) → Touches offset (offset + 1) (inl d)
  touch_before offset d (two, inl first) = inl (omega (arith, first), omega (arith, first))
  touch_before offset d (two, inr first) = inr (omega (arith, first), omega (arith, first))

  after_second : (offset : ℕ) (e : Emphasis) → IsIn e emphasis → IsSecond e offset → IsNoSecond (offset + 1)
  after_second offset e is second d is' at =
      second_alone links emphasis pieces len laid offset e is second d is' (touch_before offset d at)

  after_text : (offset : ℕ) → ((e : Emphasis) → IsIn e emphasis → ¬ (e.opening ≡ offset) × ¬ (e.closing ≡ offset)) → IsNoSecond (offset + 1)
  after_text offset free d is (two, inl first) = (free d is).0 (omega (arith, first))
  after_text offset free d is (two, inr first) = (free d is).1 (omega (arith, first))

  module _ (number : ℕ) (piece : Piece) (is_in : IsIn (number, piece) all) (later : piece.start ≤ piece.end)
      (rest : List Inline) (next : StandFrom links piece.end rest len) where
    abbrev Stands : List Inline → Type 0
    Stands inlines = StandFrom links piece.start inlines len

    leaf : Stands (I.Leaf piece ∷ rest)
    leaf = (piece.end, (refl, refl), next)

    opener : counted piece.kind number ≡ number + 1
        → Stands ((if is_some (get_or links number None) then I.StartLink number else I.Leaf piece) ∷ rest)
    opener counts = by (get_or links number None) refl
      where
        by : (found : Option Link) → get_or links number None ≡ found
            → Stands ((if is_some found then I.StartLink number else I.Leaf piece) ∷ rest)
        by None none = leaf
        by (Some link) found =
            let is = link_at links number link found in
            let has = (laid.has (inr (number, link)) is).0 in
            let opener : Piece = record { kind = opener_kind link.is_image; start = link.source.start; end = link.text.start } in
            let same : piece ≡ opener = one_opener pieces 0 number piece opener is_in has counts (opener_counts link.is_image number) in
            (piece.end, (link, is, ap (λ (p : Piece). p.start) (sym same), ap (λ (p : Piece). p.end) (sym same)), next)

    closer : (test : Bool) → Stands ((if test then I.EndLink piece else I.Leaf piece) ∷ rest)
    closer true = (piece.end, (refl, refl), next)
    closer false = leaf

    -- ---- delimiter runs

    -- a side of emphasis that has a byte in the piece stands in it
    side_within : (e : Emphasis) (side : ℕ) → HasRun all side (side + e.count) → e.count ≡ 2 → piece.start < side + 2 → side < piece.end
        → (piece.start ≤ side) × (side + 2 ≤ piece.end)
    side_within e side run two before after =
        let y : ℕ × Piece = (run.number, record { kind = K.Delimiters run.run; start = run.first; end = run.last }) in
        let x : ℕ × Piece = (number, piece) in
        let same : x ≡ y = one_there pieces 0 len 0 x y laid.follow is_in run.is_in (omega (arith, before, run.ends, two))
        (omega (arith, after, run.begins)) in
        (omega (arith, run.begins, ap (λ (z : ℕ × Piece). z.1.start) same), omega (arith, run.ends, two, ap (λ (z : ℕ × Piece). z.1.end) same))

    no_second_first : IsNoSecond piece.start
    no_second_first e is (two, inl at) =
        omega (arith, (side_within e e.opening (laid.has (inl e) is).0 two (omega (arith, at)) (omega (arith, at, later))).0, at)
    no_second_first e is (two, inr at) =
        omega (arith, (side_within e e.closing (laid.has (inl e) is).1 two (omega (arith, at)) (omega (arith, at, later))).0, at)

    no_second_last : piece.start < piece.end → IsNoSecond piece.end
    no_second_last some e is (two, inl at) =
        omega (arith, (side_within e e.opening (laid.has (inl e) is).0 two (omega (arith, at, some)) (omega (arith, at))).1, at)
    no_second_last some e is (two, inr at) =
        omega (arith, (side_within e e.closing (laid.has (inl e) is).1 two (omega (arith, at, some)) (omega (arith, at))).1, at)

    -- up to where the inlines stand when the delimiters before an offset are read
    abbrev Reached : ℕ → ℕ → Type 0
    Reached offset reached =
        ((reached ≡ offset) × IsNoSecond offset)
        ⊎ ((reached ≡ offset + 1) × (piece.start < offset) × (e : Emphasis) × IsIn e emphasis × IsSecond e offset)

    module _ (offset : ℕ) (least : piece.start ≤ offset) (more : List Inline)
        (go : (reached : ℕ) → Reached (offset + 1) reached → StandFrom links reached (more ++ rest) len) where
      -- on a side of strikethrough one tilde stands, or two
      one_tilde : (e : Emphasis) → IsIn e emphasis → (e.opening ≡ offset) ⊎ (e.closing ≡ offset) → e.count ≡ 1
          → (to : ℕ) × ((offset ≡ offset) × (offset + 1 ≡ to)) × StandFrom links to (more ++ rest) len
      one_tilde e is here one = (offset + 1, (refl, refl), go (offset + 1) (inl (refl, after_one offset e is one here)))

      two_tildes : (e : Emphasis) → IsIn e emphasis → (e.opening ≡ offset) ⊎ (e.closing ≡ offset) → e.count ≡ 2
          → (to : ℕ) × ((offset ≡ offset) × (offset + 2 ≡ to)) × StandFrom links to (more ++ rest) len
      two_tildes e is here two =
          (offset + 2, (refl, refl), go (offset + 2) (inr (omega arith, omega (arith, least), e, is, (two, second_of here))))
        where
          second_of : (e.opening ≡ offset) ⊎ (e.closing ≡ offset) → (offset + 1 ≡ e.opening + 1) ⊎ (offset + 1 ≡ e.closing + 1)
          second_of (inl opens) = inl (omega (arith, opens))
          second_of (inr closes) = inr (omega (arith, closes))

      first : (mark : Mark) → MarkedAs emphasis offset mark → IsNoSecond offset
          → StandFrom links offset ((delimiter_with mark offset ++ more) ++ rest) len
      first M.Nothing is none = (
        offset + 1,
        (refl, refl),
        go (offset + 1) (inl (refl, after_text offset (λ e in_all. ((is e in_all).no_opening, (is e in_all).no_closing)))),
      )
      first M.OpensEmphasis (e, is, here, one, byte) none =
          (offset + 1, (refl, refl), go (offset + 1) (inl (refl, after_one offset e is one (inl here))))
      first M.OpensStrong (e, is, here, two, byte) none = (
        offset + 2,
        (refl, refl),
        go (offset + 2) (inr (omega arith, omega (arith, least), e, is, (two, inl (omega (arith, here))))),
      )
      first M.ClosesEmphasis (e, is, here, one, byte) none =
          (offset + 1, (refl, refl), go (offset + 1) (inl (refl, after_one offset e is one (inr here))))
      first M.ClosesStrong (e, is, here, two, byte) none = (
        offset + 2,
        (refl, refl),
        go (offset + 2) (inr (omega arith, omega (arith, least), e, is, (two, inr (omega (arith, here))))),
      )
      first M.OpensStrikethrough (e, is, here, one, byte) none = one_tilde e is (inl here) one
      first M.OpensStrikethroughOfTwo (e, is, here, two, byte) none = two_tildes e is (inl here) two
      first M.ClosesStrikethrough (e, is, here, one, byte) none = one_tilde e is (inr here) one
      first M.ClosesStrikethroughOfTwo (e, is, here, two, byte) none = two_tildes e is (inr here) two
      first M.Second (e, is, second) none = absurd (none e is second)

      -- at the second of two delimiters no inline stands
      later_by : (mark : Mark) → MarkedAs emphasis offset mark → (e : Emphasis) → IsIn e emphasis → IsSecond e offset
          → StandFrom links (offset + 1) ((delimiter_with mark offset ++ more) ++ rest) len
      later_by M.Nothing is e in_all second = absurd ((is e in_all).no_second second)
      later_by M.OpensEmphasis (d, is, here, one, byte) e in_all second =
          absurd (second_alone links emphasis pieces len laid offset e in_all second d is (inl (omega (arith, here), omega (arith, here))))
      later_by M.OpensStrong (d, is, here, two, byte) e in_all second =
          absurd (second_alone links emphasis pieces len laid offset e in_all second d is (inl (omega (arith, here), omega (arith, here))))
      later_by M.ClosesEmphasis (d, is, here, one, byte) e in_all second =
          absurd (second_alone links emphasis pieces len laid offset e in_all second d is (inr (omega (arith, here), omega (arith, here))))
      later_by M.ClosesStrong (d, is, here, two, byte) e in_all second =
          absurd (second_alone links emphasis pieces len laid offset e in_all second d is (inr (omega (arith, here), omega (arith, here))))
      later_by M.OpensStrikethrough (d, is, here, counts, byte) e in_all second =
          absurd (second_alone links emphasis pieces len laid offset e in_all second d is (inl (omega (arith, here), omega (arith, here))))
      later_by M.OpensStrikethroughOfTwo (d, is, here, counts, byte) e in_all second =
          absurd (second_alone links emphasis pieces len laid offset e in_all second d is (inl (omega (arith, here), omega (arith, here))))
      later_by M.ClosesStrikethrough (d, is, here, counts, byte) e in_all second =
          absurd (second_alone links emphasis pieces len laid offset e in_all second d is (inr (omega (arith, here), omega (arith, here))))
      later_by M.ClosesStrikethroughOfTwo (d, is, here, counts, byte) e in_all second =
          absurd (second_alone links emphasis pieces len laid offset e in_all second d is (inr (omega (arith, here), omega (arith, here))))
      later_by M.Second is e in_all second = go (offset + 1) (inl (refl, after_second offset e in_all second))

      delimiter : (reached : ℕ) → Reached offset reached → StandFrom links reached ((delimiter_at emphasis offset ++ more) ++ rest) len
      delimiter reached (inl (here, none)) =
          subst (λ n. StandFrom links n ((delimiter_at emphasis offset ++ more) ++ rest) len) (sym here)
          (first (marks_by emphasis offset) (marked emphasis offset laid.counts) none)
      delimiter reached (inr (here, some, e, is, second)) =
          subst (λ n. StandFrom links n ((delimiter_at emphasis offset ++ more) ++ rest) len) (sym here)
          (later_by (marks_by emphasis offset) (marked emphasis offset laid.counts) e is second)

    run : (n offset reached : ℕ) → piece.start ≤ offset → offset + n ≡ piece.end → Reached offset reached
        → StandFrom links reached (flat_map (delimiter_at emphasis) (range_with_len offset n) ++ rest) len
    run zero offset reached least last at = by at
      where
        here : offset ≡ piece.end
        here = omega (arith, last)

        by : Reached offset reached → StandFrom links reached rest len
        by (inl (same, none)) = subst (λ n. StandFrom links n rest len) (sym here ∙ sym same) next
        by (inr (same, some, e, is, second)) =
            absurd (no_second_last (omega (arith, some, here)) e is (subst (IsSecond e) here second))
    run (suc n) offset reached least last at =
        delimiter offset least (flat_map (delimiter_at emphasis) (range_with_len (offset + 1) n))
        (λ reached' at'. run n (offset + 1) reached' (omega (arith, least)) (omega (arith, last)) at')
        reached at

    -- ---- any piece

    stand_step : (kind : PieceKind) → piece.kind ≡ kind → Stands (inlines_at kind links emphasis number piece ++ rest)
    stand_step K.Text is = leaf
    stand_step K.Escape is = leaf
    stand_step K.HardBreak is = leaf
    stand_step K.SoftBreak is = leaf
    stand_step K.Reference is = leaf
    stand_step (K.Code backticks) is = leaf
    stand_step K.Uri is = leaf
    stand_step K.Email is = leaf
    stand_step K.Html is = leaf
    stand_step (K.Delimiters r) is =
        run (piece.end - piece.start) piece.start piece.start (omega arith) (omega (arith, later)) (inl (refl, no_second_first))
    stand_step K.LinkOpener is = opener (ap (λ k. counted k number) is)
    stand_step K.ImageOpener is = opener (ap (λ k. counted k number) is)
    stand_step K.Closer is = closer (ends_link links piece.start)

  stand_from : (rest : List Piece) (number offset : ℕ) → Follow offset rest len → ((x : ℕ × Piece) → IsIn x (numbered number rest) → IsIn x all)
      → StandFrom links offset (inlines_from links emphasis number rest) len
  stand_from [] number offset follow are_in = follow
  stand_from (piece ∷ later) number offset follow are_in =
      subst (λ n. StandFrom links n (inlines_from links emphasis number (piece ∷ later)) len) follow.0
      (stand_step number piece (are_in (number, piece) (inl refl)) follow.1.0 (inlines_from links emphasis (counted piece.kind number) later)
      (stand_from later (counted piece.kind number) piece.end follow.2 (λ x is. are_in x (inr is))) piece.kind refl)

  pub laid_stand : StandFrom links 0 (inlines_from links emphasis 0 pieces) len
  laid_stand = stand_from pieces 0 0 laid.follow (λ x is. is)
