-- A page that is UTF-8 may be cut where its blocks begin and end.
use Rattle.std.proofs.Common.{ℕ, zero, suc, ◌+◌, ◌-◌, ◌<◌, ◌≤◌, ◌≡◌, ◌≢◌, ◌∙◌, List, [], ◌∷◌, ◌++◌, length, take, drop, get_or, map, replicate}
use Rattle.std.proofs.Common.{Bool, true, false, inl, inr, refl, ap, arith, subst, sym, append_assoc, append-nil}
use Rattle.std.specs.List.{concat}
use Rattle.std.specs.Str.{IsUtf8, IsCharBoundary}
use Rattle.std.proofs.lemmas.List.{drop-drop, get_or_append_left, length-append, length-drop, take-append-drop}
use Rattle.std.proofs.lemmas.List.Folds.{concat-append}
use Rattle.std.proofs.lemmas.Str.{IsCharBoundary-from_drop, IsCharBoundary-from_rest, IsCharBoundary-start, IsUtf8-drop, IsUtf8-take}
use Rattle.markdown_scanners_tree.specs.line.State.{LineState, after_space}
use Rattle.markdown_scanners_tree.specs.scanners.TextLines.{lines_of}
use Rattle.markdown_scanners_tree.proofs.ForCallers.{cut_after_ascii, lines_joined}
use Rattle.markdown_blocks.specs.byte_order_mark.ByteOrderMark.{text_start}
use Rattle.markdown_blocks.proofs.byte_order_mark.MarkLemmas.{text_utf8, text_within}
use Rattle.markdown_blocks.specs.blocks.Pages.{OpensAfter, Piece, AreBlocks, lines_in, opened_by, root}
use Rattle.markdown_blocks.specs.containers.Containers.{Between, Opens, Rest, after_marker, asked_between, match_line, marker_start}
use Rattle.markdown_blocks.specs.containers.Containers.{rest_at, without_terms}
use Rattle.markdown_blocks.specs.declared.blocks.BlockKind.{BlockKind}
use Rattle.markdown_blocks.specs.declared.blocks.BlockKind.TheVariants.{Definition}
use Rattle.markdown_values.specs.declared.values.extensions.Extensions.{Extensions}
use Rattle.markdown_blocks.specs.declared.containers.Container.{Container}
use Rattle.markdown_blocks.specs.events.Events.{AreEvents, AreLeaves, Event, IsEventsOf, LeafBlock, Part, ends, first_of, first_rest}
use Rattle.markdown_blocks.specs.events.Events.{later_lines, leaf, leaf_of, lines_taken, open_after, part_of, piece_content, started}
use Rattle.markdown_blocks.specs.laws.Characters.{AreCutOut, IsCutOut}
use Rattle.markdown_blocks.proofs.containers.ContainerLemmas.{begun_by_all}
use Rattle.markdown_blocks.proofs.content.CutMoves.{cut_of_first}
use Rattle.markdown_blocks.proofs.content.ReachedLemmas.{Reached, after_some}
use Rattle.markdown_blocks.proofs.content.ReachedPlaces.{begun_reached, after_reached}
use Rattle.markdown_blocks.proofs.content.Utf8Lemmas.{rest_utf8}
use Rattle.markdown_blocks.proofs.laws.OrderLaw.{cons_first, first_kept, some_kept, some_taken}
use Rattle.markdown_blocks.proofs.lists.PageLemmas.{regroup}
use Rattle.markdown_blocks.proofs.taken.LineCuts.{first_after, first_utf8, line_cut, page_after}

-- ---- lines

-- what stands after lines is UTF-8
after_utf8 : (lines : List (List ℕ)) (text : List ℕ) (rest : List (List ℕ)) → lines_of text ≡ lines ++ rest → IsUtf8 text
    → IsUtf8 (drop (length (concat lines)) text)
after_utf8 [] text rest is utf8 = utf8
after_utf8 (line ∷ lines) text rest is utf8 =
    subst IsUtf8 (drop-drop (length (concat lines)) (length line) text ∙ ap (λ n. drop n text) (sym (length-append line (concat lines))))
    (after_utf8 lines (drop (length line) text) rest (first_after text line (lines ++ rest) is)
    (IsUtf8-drop text (length line) utf8 (line_cut text line (lines ++ rest) is utf8)))

-- an offset that is reached in the first line of a text
offset_in_text : (text line : List ℕ) (later : List (List ℕ)) (s : LineState) → lines_of text ≡ line ∷ later → IsUtf8 text → Reached line s
    → IsCharBoundary text s.offset
offset_in_text text line later s is utf8 r = by s.offset r.within r.after_ascii
  where
    whole : text ≡ line ++ concat later
    whole = sym (lines_joined text) ∙ ap concat is

    by : (n : ℕ) → n ≤ length line → (0 < n → get_or line (n - 1) 0 < 128) → IsCharBoundary text n
    by zero within low = IsCharBoundary-start text utf8
    by (suc n) within low =
        let byte : get_or text (suc n - 1) 0 ≡ get_or line (suc n - 1) 0 =
        ap (λ t. get_or t (suc n - 1) 0) whole ∙ get_or_append_left line (concat later) 0 (suc n - 1) (omega (arith, within)) in
        cut_after_ascii text (suc n) utf8 (omega (arith, within, ap length whole, length-append line (concat later))) (omega arith)
        (subst (λ b. b < 128) (sym byte) (low (omega arith)))

module _ (page : List ℕ) where
  -- lines that begin there, before which so many bytes of the page stand
  record Stand (start : ℕ) (lines rest : List (List ℕ)) : Type 0 where
    within : start ≤ length page
    stands : lines_of (drop start page) ≡ lines ++ rest
    utf8 : IsUtf8 (drop start page)

  sizes : (start : ℕ) (lines rest : List (List ℕ)) → Stand start lines rest → start + length (concat lines) ≤ length page
  sizes start lines rest stand =
      let inside = stand.within in
      let all = ap length (sym (lines_joined (drop start page)) ∙ ap concat stand.stands ∙ concat-append lines rest)
      ∙ length-append (concat lines) (concat rest) in
      omega (arith, inside, all, length-drop start page)

  later_stand : (start : ℕ) (lines more rest : List (List ℕ)) → Stand start lines (more ++ rest) → Stand (start + length (concat lines)) more rest
  later_stand start lines more rest stand = record {
    within = sizes start lines (more ++ rest) stand;
    stands = page_after page start lines (more ++ rest) stand.stands;
    utf8 = subst IsUtf8 (drop-drop (length (concat lines)) start page) (after_utf8 lines (drop start page) (more ++ rest) stand.stands stand.utf8);
  }

  -- the offset after the containers in the first line of a block
  record IsReached (line : List ℕ) (words : Rest) : Type 0 where
    position : LineState
    reached : Reached line position
    is_rest : words ≡ rest_at position

  leaf_cut : (kind : BlockKind) (part : Part) (others : List (List ℕ)) → part.lines ≢ [] → Stand part.start part.lines others
      → IsReached (first_of part.lines) part.words → IsCutOut page (leaf_of kind part)
  leaf_cut kind part others some stand r =
      let first = first_of part.lines in
      let bytes = length (concat part.lines) in
      let after = later_stand part.start part.lines [] others stand in
      let there = after_some first r.position r.reached 4 in
      let inside = there.within in
      let text = drop part.start page in
      let lines : lines_of text ≡ first ∷ (drop 1 part.lines ++ others) = stand.stands ∙ ap (λ ls. ls ++ others) (cons_first part.lines some) in
      let words = ap (λ (w : Rest). length w.text) r.is_rest in
      let size : length (rest_at r.position).text ≡ length first - (after_space 4 r.position).offset =
      length-drop (after_space 4 r.position).offset (after_space 4 r.position).bytes
      ∙ ap (λ (l : List ℕ). length l - (after_space 4 r.position).offset) there.of_line in
      let source : (after_space 4 r.position).offset ≡ length first - length part.words.text = omega (arith, words, size, inside) in
      let ends = IsCharBoundary-from_drop page (part.start + bytes) after.within after.utf8 in
      record {
        begins = IsCharBoundary-from_drop page part.start stand.within stand.utf8;
        ends = ends;
        lines = IsUtf8-take text bytes stand.utf8 (IsCharBoundary-from_drop text bytes
            (omega (arith, sizes part.start part.lines others stand, length-drop part.start page))
            (subst IsUtf8 (sym (drop-drop bytes part.start page)) after.utf8));
        offset = IsCharBoundary-from_rest page part.start (length first - length part.words.text) stand.within
            (subst (IsCharBoundary text) source (offset_in_text text first (drop 1 part.lines ++ others) (after_space 4 r.position) lines stand.utf8 there));
        text = subst (λ (w : Rest). IsUtf8 w.text) (sym r.is_rest)
            (rest_utf8 first (first_utf8 text first (drop 1 part.lines ++ others) lines stand.utf8) (after_space 4 r.position) there);
        in_text = λ offset cut.
            let more = concat (drop 1 part.lines ++ others) in
            let whole : text ≡ first ++ more = sym (lines_joined text) ∙ ap concat lines in
            let own = first_utf8 text first (drop 1 part.lines ++ others) lines stand.utf8 in
            let left : part.words.text ≡ drop (after_space 4 r.position).offset first =
            ap (λ (w : Rest). w.text) r.is_rest ∙ ap (drop (after_space 4 r.position).offset) there.of_line in
            let in_line : IsCharBoundary first ((after_space 4 r.position).offset + offset) =
            IsCharBoundary-from_rest first (after_space 4 r.position).offset offset inside (subst (λ (t : List ℕ). IsCharBoundary t offset) left cut) in
            let in_lines : IsCharBoundary text ((after_space 4 r.position).offset + offset) =
            subst (λ (t : List ℕ). IsCharBoundary t ((after_space 4 r.position).offset + offset)) (sym whole)
            (cut_of_first first more ((after_space 4 r.position).offset + offset) (subst IsUtf8 whole stand.utf8) own in_line) in
            let at : part.start + ((after_space 4 r.position).offset + offset) ≡ part.start + (length first - length part.words.text) + offset =
            omega (arith, source) in
            subst (IsCharBoundary page) at
            (IsCharBoundary-from_rest page part.start ((after_space 4 r.position).offset + offset) stand.within in_lines);
      }

  rest_reached : (outer : List Container) (lines : List (List ℕ)) → lines ≢ [] → IsReached (first_of lines) (first_rest outer lines)
  rest_reached outer [] some = absurd (some refl)
  rest_reached outer (line ∷ lines) some = record { position = (match_line outer line).state; reached = after_reached line outer; is_rest = refl }

  leaves_cut : (outer : List Container) (kind : BlockKind) (leaves : List LeafBlock) (part : Part) (content : List ℕ) (others : List (List ℕ))
      (rest : List Event) → AreLeaves outer kind part content leaves → Stand part.start part.lines others
      → (part.lines ≢ [] → IsReached (first_of part.lines) part.words) → AreCutOut page rest → AreCutOut page (map leaf leaves ++ rest)
  leaves_cut outer kind [] part content others rest none stand reached cut = cut
  leaves_cut outer kind (block ∷ more) part content others rest (some, inl (definition, is, first, later)) stand reached cut =
      let n = lines_taken content definition in
      let count = some_taken content definition is in
      let left : Stand part.start (take n part.lines) (drop n part.lines ++ others) = record {
        within = stand.within;
        stands = stand.stands ∙ ap (λ ls. ls ++ others) (sym (take-append-drop n part.lines))
            ∙ append_assoc (take n part.lines) (drop n part.lines) others;
        utf8 = stand.utf8;
      } in
      subst (λ b. AreCutOut page (leaf b ∷ map leaf more ++ rest)) (sym first) (
        leaf_cut Definition (record part { lines = take n part.lines }) (drop n part.lines ++ others) (some_kept n part.lines count some) left
            (subst (λ l. IsReached l part.words) (sym (first_kept n part.lines count)) (reached some)),
        leaves_cut outer kind more (later_lines outer n part) (drop definition.len content) others rest later
            (later_stand part.start (take n part.lines) (drop n part.lines) others left) (rest_reached outer (drop n part.lines)) cut,
      )
  leaves_cut outer kind (block ∷ more) part content others rest (some, inr (none, only, last)) stand reached cut =
      subst (λ b. AreCutOut page (leaf b ∷ map leaf more ++ rest)) (sym only) (
        leaf_cut kind part others some stand (reached some),
        subst (λ (m : List LeafBlock). AreCutOut page (map leaf m ++ rest)) (sym last) cut,
      )

  started_cut : (line : ℕ) (first : List ℕ) (later : List (List ℕ)) → Stand line (first ∷ later) [] → (asked : Extensions)
      (containers : List Container) (s last : LineState) (rest : List Event) → Reached first s → Opens asked s containers last
      → (Reached first last → AreCutOut page rest) → AreCutOut page (started line s containers ++ rest)
  started_cut line first later stand asked [] s last rest r opens cut = cut (subst (Reached first) (sym opens.1) r)
  started_cut line first later stand asked (c ∷ inner) s last rest r (next, begins, opens) cut =
      let all = begun_by_all asked s (c, next) begins in
      let after : next ≡ after_marker s = rw (after_marker, all) refl in
      let there = begun_reached first s next c r all in (
        IsCharBoundary-from_rest page line (marker_start s) stand.within
            (offset_in_text (drop line page) first (later ++ []) (after_space 4 s) stand.stands stand.utf8 (after_some first s r 4)),
        subst (λ z. AreCutOut page (started line z inner ++ rest)) after
            (started_cut line first later stand (without_terms asked) inner next last rest there opens cut),
      )

  started_after_cut : (header : Bool) (line : ℕ) (first : List ℕ) (later : List (List ℕ)) → Stand line (first ∷ later) [] → (asked : Extensions)
      (containers : List Container) (s last : LineState) (rest : List Event) → Reached first s → OpensAfter header asked s containers last
      → (Reached first last → AreCutOut page rest) → AreCutOut page (started line s containers ++ rest)
  started_after_cut false line first later stand asked containers s last rest r opens cut =
      started_cut line first later stand asked containers s last rest r opens cut
  started_after_cut true line first later stand asked containers s last rest r opens cut =
      subst (λ cs. AreCutOut page (started line s cs ++ rest)) (sym opens.0) (cut (subst (Reached first) (sym opens.1) r))

  ends_cut : (count : ℕ) (rest : List Event) → AreCutOut page rest → AreCutOut page (replicate count ends ++ rest)
  ends_cut zero rest cut = cut
  ends_cut (suc count) rest cut = ends_cut count rest cut

  -- ---- the page

  pieces_cut : (pieces : List Piece) (before : Between) (line start : ℕ) (events rest : List Event) → AreBlocks before pieces []
      → AreEvents before.containers line start pieces events → Stand start (lines_in pieces) [] → AreCutOut page rest
      → AreCutOut page (events ++ rest)
  pieces_cut [] before line start events rest each are stand cut = subst (λ (es : List Event). AreCutOut page (es ++ rest)) (sym are) cut
  pieces_cut (piece ∷ later) before line start events rest each (leaves, more, are, is, after) stand cut =
      let lines = piece.first ∷ piece.later in
      let opened = each.0.opened in
      let s = (match_line before.containers piece.first).state in
      let here : Stand start lines (lines_in later ++ []) = record {
        within = stand.within;
        stands = stand.stands ∙ append_assoc lines (lines_in later) [];
        utf8 = stand.utf8;
      } in
      let next = pieces_cut later (opened_by before piece) _ (start + length (concat lines)) more rest each.1 after
      (later_stand start lines (lines_in later) [] here) cut in
      let gone = replicate (length before.containers - length piece.kept) ends in
      subst (λ (es : List Event). AreCutOut page (es ++ rest)) (sym is)
      (subst (AreCutOut page) (sym (regroup gone (started start s piece.begun) (map leaf leaves) more rest))
      (ends_cut (length before.containers - length piece.kept) _
      (started_after_cut piece.header start piece.first (piece.later ++ lines_in later) stand (asked_between before piece.first) piece.begun s opened.position _
      (after_reached piece.first before.containers) opened.begins
      (λ reached. leaves_cut (piece.kept ++ piece.begun) piece.kind leaves (part_of line start piece) (piece_content piece) (lines_in later ++ [])
      (more ++ rest) are here (λ some. record { position = opened.position; reached = reached; is_rest = opened.is_rest }) next))))

  all_ended : (count : ℕ) → AreCutOut page (replicate count ends)
  all_ended zero = tt
  all_ended (suc count) = all_ended count

-- A page that is UTF-8 may be cut where its blocks begin and end, and these are UTF-8.
pub page_cut_out : (asked : Extensions) (page : List ℕ) (events : List Event) → IsEventsOf asked page events → IsUtf8 page
    → AreCutOut page events
page_cut_out asked page events (pieces, blocks, is_page, are, is) utf8 =
    subst (AreCutOut page) (sym is)
    (pieces_cut page pieces (root asked) 0 (text_start page) blocks (replicate (open_after 0 pieces) ends) is_page.each are
    (record { within = text_within page; stands = sym is_page.joined ∙ sym (append-nil (lines_in pieces)); utf8 = text_utf8 page utf8 })
    (all_ended page (open_after 0 pieces)))
