-- How many blocks a page has by its bytes.
use Rattle.std.proofs.Common.{ℕ, zero, suc, Bool, true, false, ◌+◌, ◌-◌, ◌<◌, ◌≤◌, ◌≡◌, ◌^◌, ◌∙◌, List, [], ◌∷◌, ◌++◌, length, map, take, drop, replicate}
use Rattle.std.proofs.Common.{Option, Some, None, ap, refl, sym, subst, inl, inr, arith, length-append, ◌==◌, if◌then◌else◌}
use Rattle.std.specs.Prelude.{◌≢◌, ⊤}
use Rattle.std.specs.List.{AllByRecursion, concat}
use Rattle.std.specs.Option.{option_map}
use Rattle.markdown_scanners_tree.specs.line.State.{LineState, after_space, bytes_further, space_within, unscanned}
use Rattle.markdown_scanners_tree.specs.line.Outcome.{after_quote, definition_outcome, not_found, space_or_end_follows}
use Rattle.markdown_scanners_tree.specs.scanners.list_items.ListMarker.{Marker, list_marker}
use Rattle.markdown_scanners_tree.specs.scanners.TextLines.{ends_line, lines_of, with_first}
use Rattle.markdown_scanners_tree.specs.Bytes.{begins_with}
use Rattle.markdown_scanners_tree.specs.Ascii.{greater_than_sign}
use Rattle.markdown_blocks.specs.blocks.Pages.{OpensAfter, Piece, AreBlocks, IsPage, lines_in, opened_by, root}
use Rattle.markdown_blocks.specs.byte_order_mark.ByteOrderMark.{text_of, text_start}
use Rattle.markdown_blocks.specs.containers.Containers.{Between, Opens, after_marker, begun_at, either_begun, extension_of, footnote_by, footnote_of}
use Rattle.markdown_blocks.specs.containers.Containers.{item_of, match_line, term_definition_by, term_definition_of, without_terms}
use Rattle.markdown_blocks.specs.containers.Footnotes.{footnote_label}
use Rattle.markdown_blocks.specs.containers.ItemMarkers.{further_spaces, item_outcome, item_outcome_after, item_outcome_by}
use Rattle.markdown_blocks.specs.declared.blocks.BlockKind.{BlockKind}
use Rattle.markdown_blocks.specs.declared.containers.Container.{Container}
use Rattle.markdown_blocks.specs.declared.containers.Container.TheVariants.{Quote}
use Rattle.markdown_values.specs.declared.values.extensions.Extensions.{Extensions}
use Rattle.markdown_blocks.specs.events.Events.{AreEvents, AreLeaves, Event, IsEventsOf, LeafBlock, Part, ends, first_lines, later_lines, leaf, leaf_of}
use Rattle.markdown_blocks.specs.events.Events.{lines_taken, open_after, part_of, piece_content, started, starts}
use Rattle.markdown_blocks.specs.laws.Order.{Follow}
use Rattle.markdown_blocks.specs.laws.Sizes.{HasBytes, HasFewDigits, HaveBytes, HaveFewDigits, containers_begun}
use Rattle.markdown_blocks.proofs.containers.StartLemmas.{marker_small}
use Rattle.markdown_blocks.proofs.content.EndingLemmas.{all_first}
use Rattle.markdown_blocks.proofs.laws.OrderLaw.{page_in_order}

-- ---- containers

begun_in : (page : List ℕ) (events : List Event) (line passed : ℕ) → Follow page line passed events
    → containers_begun events + passed ≤ length page
begun_in page [] line passed follow = omega (arith, follow.1)
begun_in page (starts container offset ∷ later) line passed (after, within, follow) =
    omega (arith, after, begun_in page later line (suc offset) follow)
begun_in page (leaf block ∷ later) line passed (begins, follow) =
    omega (arith, begins.after, begins.in_line, begins.whole, begun_in page later _ _ follow)
begun_in page (ends ∷ later) line passed follow = begun_in page later line passed follow

-- A page has no more containers than bytes.
pub few_containers : (asked : Extensions) (page : List ℕ) (events : List Event) → IsEventsOf asked page events
    → containers_begun events ≤ length page
few_containers asked page events are =
    omega (arith, begun_in page events (text_start page) (text_start page) (page_in_order asked page events are))

-- ---- leaf blocks

abbrev IsSome : List ℕ → Type 0
IsSome line = 0 < length line

first_some : (b : ℕ) (lines : List (List ℕ)) → AllByRecursion IsSome lines → AllByRecursion IsSome (with_first b lines)
first_some b [] all = (omega arith, tt)
first_some b (line ∷ lines) all = (omega arith, all.1)

lines_some : (text : List ℕ) → AllByRecursion IsSome (lines_of text)
lines_some [] = tt
lines_some (b ∷ bs) = by (ends_line (b ∷ bs)) refl (lines_some bs)
  where
    by : (ends : Bool) → ends_line (b ∷ bs) ≡ ends → AllByRecursion IsSome (lines_of bs) → AllByRecursion IsSome (lines_of (b ∷ bs))
    by true is all = rw is (omega arith, all)
    by false is all = rw is (first_some b (lines_of bs) all)

drop_some : (count : ℕ) (lines : List (List ℕ)) → AllByRecursion IsSome lines → AllByRecursion IsSome (drop count lines)
drop_some zero lines all = all
drop_some (suc count) [] all = tt
drop_some (suc count) (line ∷ lines) all = drop_some count lines all.1

joined_some : (lines : List (List ℕ)) → lines ≢ [] → AllByRecursion IsSome lines → 0 < length (concat lines)
joined_some [] some all = absurd (some refl)
joined_some (line ∷ lines) some all = omega (arith, all.0, length-append line (concat lines))

leaves_some : (leaves : List LeafBlock) (outer : List Container) (kind : BlockKind) (part : Part) (content : List ℕ)
    → AllByRecursion IsSome part.lines → AreLeaves outer kind part content leaves → HaveBytes (map leaf leaves)
leaves_some [] outer kind part content all are = tt
leaves_some (block ∷ more) outer kind part content all (some, inl (definition, is, same, rest)) = (
  inl (ap (λ (b : LeafBlock). b.kind) same),
  leaves_some more outer kind (later_lines outer (lines_taken content definition) part) _
      (drop_some (lines_taken content definition) part.lines all) rest,
)
leaves_some (block ∷ more) outer kind part content all (some, inr (none, same, last)) = (
  inr (omega (arith, ap (λ (b : LeafBlock). b.bytes) same, joined_some part.lines some all)),
  subst (λ (bs : List LeafBlock). HaveBytes (map leaf bs)) (sym last) tt,
)

both_some : (a b : List Event) → HaveBytes a → HaveBytes b → HaveBytes (a ++ b)
both_some [] b these those = those
both_some (leaf block ∷ a) b these those = (these.0, both_some a b these.1 those)
both_some (starts container offset ∷ a) b these those = both_some a b these those
both_some (ends ∷ a) b these those = both_some a b these those

ends_some : (count : ℕ) → HaveBytes (replicate count ends)
ends_some zero = tt
ends_some (suc count) = ends_some count

started_some : (start : ℕ) (s : LineState) (containers : List Container) → HaveBytes (started start s containers)
started_some start s [] = tt
started_some start s (c ∷ inner) = started_some start (after_marker s) inner

pieces_some : (pieces : List Piece) (outer : List Container) (line start : ℕ) (events : List Event) → AllByRecursion IsSome (lines_in pieces)
    → AreEvents outer line start pieces events → HaveBytes events
pieces_some [] outer line start events all are = subst HaveBytes (sym are) tt
pieces_some (piece ∷ later) outer line start events all (leaves, more, are, is, after) =
    let s = (match_line outer piece.first).state in
    let own = all_first IsSome (piece.first ∷ piece.later) (lines_in later) all in
    let gone = replicate (length outer - length piece.kept) ends in
    let begun = started start s piece.begun in
    subst HaveBytes (sym is)
    (both_some ((gone ++ begun) ++ map leaf leaves) more
    (both_some (gone ++ begun) (map leaf leaves) (both_some gone begun (ends_some (length outer - length piece.kept)) (started_some start s piece.begun))
    (leaves_some leaves (piece.kept ++ piece.begun) piece.kind (part_of line start piece) (piece_content piece) own are))
    (pieces_some later (piece.kept ++ piece.begun) _ _ more (all_later (piece.first ∷ piece.later) (lines_in later) all) after))
  where
    all_later : (xs ys : List (List ℕ)) → AllByRecursion IsSome (xs ++ ys) → AllByRecursion IsSome ys
    all_later [] ys both = both
    all_later (x ∷ xs) ys both = all_later xs ys both.1

-- Each leaf block of a page is a link reference definition or has some bytes.
pub leaves_have_bytes : (asked : Extensions) (page : List ℕ) (events : List Event) → IsEventsOf asked page events → HaveBytes events
leaves_have_bytes asked page events (pieces, blocks, is_page, are, is) =
    subst HaveBytes (sym is)
    (both_some blocks (replicate (open_after 0 pieces) ends)
    (pieces_some pieces [] 0 (text_start page) blocks (subst (AllByRecursion IsSome) (sym is_page.joined) (lines_some (text_of page))) are)
    (ends_some (open_after 0 pieces)))

-- ---- the numbers of items

abbrev IsFew : Container × LineState → Type 0
IsFew begun = HasFewDigits begun.0

-- whatever is there is so
abbrev AreFew : Option (Container × LineState) → Type 0
AreFew found = (begun : Container × LineState) → found ≡ Some begun → IsFew begun

none_few : AreFew None
none_few begun is = absurd cc

some_few : (here : Container × LineState) → IsFew here → AreFew (Some here)
some_few here few begun is =
    let same : here ≡ begun = cc in
    subst IsFew same few

mapped_few : {A : Type 0} (f : A → Container × LineState) (found : Option A) → ((a : A) → found ≡ Some a → IsFew (f a)) → AreFew (option_map f found)
mapped_few f None few = none_few
mapped_few f (Some a) few = some_few (f a) (few a refl)

either_few : (first second : Option (Container × LineState)) → AreFew first → AreFew second → AreFew (either_begun first second)
either_few None second few more = more
either_few (Some begun) second few more = few

if_few : (test : Bool) (first second : Option (Container × LineState)) → AreFew first → AreFew second → AreFew (if test then first else second)
if_few true first second few more = few
if_few false first second few more = more

few_digits : (m : Marker) (s : LineState) → list_marker (unscanned s) ≡ Some m → m.start < 10 ^ 9
few_digits m s is = omega (arith, marker_small (unscanned s) m is)

outcome_few : (indent : ℕ) (s : LineState) (found : Option Marker) → ((m : Marker) → found ≡ Some m → m.start < 10 ^ 9) → (r : ℕ × ℕ × ℕ)
    → (item_outcome_by indent s found).answer ≡ Some r → r.1 < 10 ^ 9
outcome_few indent s None small r is = absurd (let none : None ≡ Some r = is in cc)
outcome_few indent s (Some m) small r is = by (space_or_end_follows (bytes_further m.width s)) is
  where
    by : (follows : Bool) → (if follows then item_outcome_after indent m (after_space 1 (bytes_further m.width s)) else not_found s).answer ≡ Some r
        → r.1 < 10 ^ 9
    by false is = absurd (let none : None ≡ Some r = is in cc)
    by true is =
        let further = further_spaces (after_space 1 (bytes_further m.width s)) in
        let made : ℕ × ℕ × ℕ = (m.delimiter, m.start, indent + m.width + 1 + further) in
        let some : Some made ≡ Some r = is in
        let same : made ≡ r = cc in
        omega (arith, small m refl, ap (λ (x : ℕ × ℕ × ℕ). x.1) same)

item_few : (indent : ℕ) (s : LineState) → AreFew (item_of (item_outcome indent s))
item_few indent s =
    mapped_few _ (item_outcome indent s).answer (outcome_few indent s (list_marker (unscanned s)) (λ m is. few_digits m s is))

extension_few : (asked : Extensions) (indent : ℕ) (s : LineState) → AreFew (extension_of asked indent s)
extension_few asked indent s =
    either_few (footnote_of asked s) (term_definition_of asked indent s)
    (if_few asked.footnotes (footnote_by s (footnote_label (unscanned s))) None (mapped_few _ (footnote_label (unscanned s)) (λ label is. tt)) none_few)
    (if_few asked.definition_lists (term_definition_by (definition_outcome indent s)) None
    (mapped_few _ (definition_outcome indent s).answer (λ width is. tt)) none_few)

begun_few : (asked : Extensions) (s : LineState) → AreFew (begun_at asked s)
begun_few asked s =
    let t = after_space 4 s in
    let n = space_within 4 s in
    let other = either_begun (item_of (item_outcome n t)) (extension_of asked n t) in
    let here = begins_with (λ b. b == greater_than_sign) (unscanned t) in
    if_few (n == 4) None (if here then Some (Quote, after_quote t) else other) none_few
    (if_few here (Some (Quote, after_quote t)) other (some_few (Quote, after_quote t) tt)
    (either_few (item_of (item_outcome n t)) (extension_of asked n t) (item_few n t) (extension_few asked n t)))

opened_few : (begun : List Container) (asked : Extensions) (s after : LineState) → Opens asked s begun after → AllByRecursion HasFewDigits begun
opened_few [] asked s after opens = tt
opened_few (c ∷ inner) asked s after (next, is, more) =
    (begun_few asked s (c, next) is, opened_few inner (without_terms asked) next after more)

after_few : (header : Bool) (begun : List Container) (asked : Extensions) (s after : LineState) → OpensAfter header asked s begun after
    → AllByRecursion HasFewDigits begun
after_few true begun asked s after (none, same) = subst (AllByRecursion HasFewDigits) (sym none) tt
after_few false begun asked s after opens = opened_few begun asked s after opens

started_few : (start : ℕ) (s : LineState) (containers : List Container) → AllByRecursion HasFewDigits containers
    → HaveFewDigits (started start s containers)
started_few start s [] few = tt
started_few start s (c ∷ inner) few = (few.0, started_few start (after_marker s) inner few.1)

both_few : (a b : List Event) → HaveFewDigits a → HaveFewDigits b → HaveFewDigits (a ++ b)
both_few [] b these those = those
both_few (starts container offset ∷ a) b these those = (these.0, both_few a b these.1 those)
both_few (leaf block ∷ a) b these those = both_few a b these those
both_few (ends ∷ a) b these those = both_few a b these those

ends_few : (count : ℕ) → HaveFewDigits (replicate count ends)
ends_few zero = tt
ends_few (suc count) = ends_few count

leaves_few : (leaves : List LeafBlock) → HaveFewDigits (map leaf leaves)
leaves_few [] = tt
leaves_few (block ∷ leaves) = leaves_few leaves

pieces_few : (pieces : List Piece) (before : Between) (rest : List (List ℕ)) (outer : List Container) (line start : ℕ) (events : List Event)
    → AreBlocks before pieces rest → AreEvents outer line start pieces events → HaveFewDigits events
pieces_few [] before rest outer line start events blocks are = subst HaveFewDigits (sym are) tt
pieces_few (piece ∷ later) before rest outer line start events (is_piece, blocks) (leaves, more, are, is, after) =
    let s = (match_line outer piece.first).state in
    let gone = replicate (length outer - length piece.kept) ends in
    let begun = started start s piece.begun in
    subst HaveFewDigits (sym is)
    (both_few ((gone ++ begun) ++ map leaf leaves) more
    (both_few (gone ++ begun) (map leaf leaves)
    (both_few gone begun (ends_few (length outer - length piece.kept)) (started_few start s piece.begun (after_few piece.header piece.begun _ _ _ is_piece.opened.begins)))
    (leaves_few leaves))
    (pieces_few later (opened_by before piece) rest (piece.kept ++ piece.begun) _ _ more blocks after))

-- The number of each item of a page has few digits.
pub items_have_few_digits : (asked : Extensions) (page : List ℕ) (events : List Event) → IsEventsOf asked page events → HaveFewDigits events
items_have_few_digits asked page events (pieces, blocks, is_page, are, is) =
    subst HaveFewDigits (sym is)
    (both_few blocks (replicate (open_after 0 pieces) ends) (pieces_few pieces (root asked) [] [] 0 (text_start page) blocks is_page.each are)
    (ends_few (open_after 0 pieces)))
