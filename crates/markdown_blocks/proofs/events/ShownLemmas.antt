-- What is written in the definitions of a page, event by event.
use Rattle.std.proofs.Common.{ℕ, zero, suc, ◌≡◌, List, [], ◌∷◌, ◌++◌, ◌+◌, inl, inr, Option, Some, None, length, drop, refl, sym, ap, ◌∙◌, subst}
use Rattle.std.specs.Prelude.{replicate}
use Rattle.std.specs.List.{concat}
use Rattle.std.proofs.lemmas.List.{drop-drop, map-append}
use Rattle.markdown_scanners_tree.proofs.ForCallers.{one_reference_definition}
use Rattle.markdown_scanners_tree.specs.declared.scanners.reference_definitions.ReferenceDefinition.{ReferenceDefinition}
use Rattle.markdown_blocks.specs.byte_order_mark.ByteOrderMark.{text_start}
use Rattle.markdown_blocks.specs.blocks.Pages.{Piece, root}
use Rattle.markdown_blocks.specs.containers.Containers.{Between}
use Rattle.markdown_values.specs.declared.values.extensions.Extensions.{Extensions}
use Rattle.markdown_blocks.specs.declared.containers.Container.{Container}
use Rattle.markdown_blocks.specs.declared.step.Step.{Step}
use Rattle.markdown_blocks.specs.definitions.Definitions.{IsDefinition, most_nested}
use Rattle.markdown_blocks.specs.events.Events.{Event, starts, leaf, ends, AreEvents, IsEventsOf, open_after, part_of, piece_content, piece_events}
use Rattle.markdown_blocks.specs.events.Shown.{AreShown, AreShownOf, IsShownOf, IsWrittenIn, Shown, Written, end_shown, events_in, written_of}
use Rattle.markdown_blocks.specs.events.Used.{IsUsedBy}
use Rattle.markdown_blocks.specs.walk.Walk.{IsContentOf, IsGathered, IsStep}
use Rattle.markdown_blocks.proofs.blocks.OneText.{one_page}
use Rattle.markdown_blocks.proofs.definitions.DefinitionLemmas.{no_text}
use Rattle.markdown_blocks.proofs.events.EventLemmas.{piece_gathered}
use Rattle.markdown_blocks.proofs.events.OneEvents.{one_list_of_leaves}

-- the events themselves
pub shown_events : (content : List ℕ) (events : List Event) (shown : List Shown) → AreShown content events shown → events_in shown ≡ events
shown_events content [] shown none = ap events_in none
shown_events content (event ∷ events) shown (written, rest, later, is, all, more) =
    ap events_in all ∙ ap (λ es. event ∷ es) (shown_events rest events later more)

pieces_shown : (outer : List Container) (line start : ℕ) (pieces : List Piece) (shown : List Shown) → AreShownOf outer line start pieces shown
    → AreEvents outer line start pieces (events_in shown)
pieces_shown outer line start [] shown none = ap events_in none
pieces_shown outer line start (piece ∷ pieces) shown (leaves, here, more, are, written, all, later) = (
  leaves,
  events_in more,
  are,
  ap events_in all ∙ map-append (λ (s : Shown). s.event) here more
      ∙ ap (λ es. es ++ events_in more) (shown_events (piece_content piece) (piece_events outer start piece leaves) here written),
  pieces_shown (piece.kept ++ piece.begun) (line + length (piece.first ∷ piece.later)) (start + length (concat (piece.first ∷ piece.later))) pieces more
      later,
)

ends_in : (count : ℕ) → events_in (replicate count end_shown) ≡ replicate count ends
ends_in zero = refl
ends_in (suc count) = ap (λ es. ends ∷ es) (ends_in count)

pub page_shown : (asked : Extensions) (page : List ℕ) (shown : List Shown) → IsShownOf asked page shown → IsEventsOf asked page (events_in shown)
page_shown asked page shown (pieces, blocks, is, are, all) = (
  pieces,
  events_in blocks,
  is,
  pieces_shown [] 0 (text_start page) pieces blocks are,
  ap events_in all ∙ map-append (λ (s : Shown). s.event) blocks (replicate (open_after 0 pieces) end_shown)
      ∙ ap (λ es. events_in blocks ++ es) (ends_in (open_after 0 pieces)),
)

-- what is written in the next event, where so much of the content is used
pub shown_next : (content : List ℕ) (old new : ℕ) (event : Event) → IsUsedBy content old event new
    → (written : Option Written) × IsWrittenIn (drop old content) event written (drop new content)
shown_next content old new (starts container offset) used = (None, (refl, ap (λ n. drop n content) used))
shown_next content old new ends used = (None, (refl, ap (λ n. drop n content) used))
shown_next content old new (leaf block) (inl (definition, is, used)) = (
  Some (written_of (drop old content) definition),
  (definition, is, refl, ap (λ n. drop n content) used ∙ sym (drop-drop definition.len old content)),
)
shown_next content old new (leaf block) (inr (none, used)) = (None, (none, ap (λ n. drop n content) used))

-- of a content that begins with no definition nothing is written
nothing_shown : (content : List ℕ) → ((definition : ReferenceDefinition) → ¬ IsDefinition content definition) → (events : List Event) (shown : List Shown)
    → AreShown [] events shown → AreShown content events shown
nothing_shown content plain [] shown none = none
nothing_shown content plain (starts container offset ∷ events) shown (written, rest, later, is, all, more) =
    (written, content, later, (is.0, refl), all, nothing_shown content plain events later (subst (λ r. AreShown r events later) is.1 more))
nothing_shown content plain (ends ∷ events) shown (written, rest, later, is, all, more) =
    (written, content, later, (is.0, refl), all, nothing_shown content plain events later (subst (λ r. AreShown r events later) is.1 more))
nothing_shown content plain (leaf block ∷ events) shown (None, rest, later, is, all, more) =
    (None, content, later, (plain, refl), all, nothing_shown content plain events later (subst (λ r. AreShown r events later) is.1 more))
nothing_shown content plain (leaf block ∷ events) shown (Some written, rest, later, is, all, more) = absurd (no_text is.0 is.1)

-- what is gathered of a content shows what is written in it
gathered_shown : (content gathered : List ℕ) (events : List Event) (shown : List Shown) → IsGathered content gathered → AreShown gathered events shown
    → AreShown content events shown
gathered_shown content gathered events shown (inl whole) are = subst (λ t. AreShown t events shown) whole are
gathered_shown content gathered events shown (inr plain) are =
    nothing_shown content plain.1 events shown (subst (λ t. AreShown t events shown) plain.0 are)

pub step_shown : (old new : Between) (lines : List ℕ) (more : List (List ℕ)) (step : Step) (s : IsStep old lines more step new) (content : List ℕ)
    → IsContentOf step new.containers content → (events : List Event) (shown : List Shown) → AreShown content events shown
    → AreShown (piece_content s.piece) events shown
step_shown old new lines more step s content gathered events shown are =
    gathered_shown (piece_content s.piece) content events shown (piece_gathered old new lines more step s content gathered) are

-- one text is written in an event, and one content is left
pub one_written : (content : List ℕ) (event : Event) (written other : Option Written) (rest left : List ℕ) → IsWrittenIn content event written rest
    → IsWrittenIn content event other left → (written ≡ other) × (rest ≡ left)
one_written content (starts container offset) written other rest left is is' = (is.0 ∙ sym is'.0, is.1 ∙ sym is'.1)
one_written content ends written other rest left is is' = (is.0 ∙ sym is'.0, is.1 ∙ sym is'.1)
one_written content (leaf block) None None rest left is is' = (refl, is.1 ∙ sym is'.1)
one_written content (leaf block) None (Some other) rest left is is' = absurd (is.0 is'.0 is'.1)
one_written content (leaf block) (Some written) None rest left is is' = absurd (is'.0 is.0 is.1)
one_written content (leaf block) (Some written) (Some other) rest left is is' =
    let same : is.0 ≡ is'.0 = one_reference_definition most_nested content is.0 is'.0 is.1 is'.1 in (
      ap Some (is.2 ∙ ap (written_of content) same ∙ sym is'.2),
      is.3 ∙ ap (λ (d : ReferenceDefinition). drop d.len content) same ∙ sym is'.3,
    )

one_block_shown : (content : List ℕ) (events : List Event) (shown others : List Shown) → AreShown content events shown → AreShown content events others
    → shown ≡ others
one_block_shown content [] shown others none none' = none ∙ sym none'
one_block_shown content (event ∷ events) shown others (written, rest, later, is, all, more) (other, left, last, is', all', more') =
    let same = one_written content event written other rest left is is' in
    let one : Option Written → List Shown → List Shown = λ w ls. record { event = event; written = w } ∷ ls in
    all ∙ ap (λ w. one w later) same.0
    ∙ ap (one other) (one_block_shown left events later last (subst (λ r. AreShown r events later) same.1 more) more') ∙ sym all'

one_shown : (outer : List Container) (line start : ℕ) (pieces : List Piece) (shown others : List Shown) → AreShownOf outer line start pieces shown
    → AreShownOf outer line start pieces others → shown ≡ others
one_shown outer line start [] shown others none none' = none ∙ sym none'
one_shown outer line start (piece ∷ later) shown others (leaves, here, more, are, written, all, rest) (leaves', here', more', are', written', all', rest') =
    let same = one_list_of_leaves (piece.kept ++ piece.begun) piece.kind (part_of line start piece) (piece_content piece) leaves leaves' are are' in
    let front = one_block_shown (piece_content piece) (piece_events outer start piece leaves') here here'
    (subst (λ ls. AreShown (piece_content piece) (piece_events outer start piece ls) here) same written) written' in
    let back = one_shown (piece.kept ++ piece.begun) (line + length (piece.first ∷ piece.later))
    (start + length (concat (piece.first ∷ piece.later))) later more more' rest rest' in
    all ∙ ap (λ ss. ss ++ more) front ∙ ap (λ ss. here' ++ ss) back ∙ sym all'

-- a page has one list of them
pub one_list_of_shown : (asked : Extensions) (page : List ℕ) (shown others : List Shown) → IsShownOf asked page shown
    → IsShownOf asked page others → shown ≡ others
one_list_of_shown asked page shown others (pieces, blocks, is, are, all) (pieces', blocks', is', are', all') =
    let same = one_page (root asked) pieces pieces' (is.joined ∙ sym is'.joined) is.each is'.each in
    let start = text_start page in
    let front = one_shown [] 0 start pieces' blocks blocks' (subst (λ ps. AreShownOf [] 0 start ps blocks) same are) are' in
    all ∙ ap (λ ss. ss ++ replicate (open_after 0 pieces) end_shown) front
    ∙ ap (λ ps. blocks' ++ replicate (open_after 0 ps) end_shown) same ∙ sym all'
