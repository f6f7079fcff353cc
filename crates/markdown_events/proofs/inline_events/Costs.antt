-- What the events of a text cost, where each event has a cost: no more than so much for each of its bytes.
use Rattle.std.proofs.Common.{ℕ, ◌+◌, ◌-◌, ◌*◌, ◌<◌, ◌≤◌, ◌≡◌, List, [], ◌∷◌, ◌++◌, length, drop, ap, refl, sym, subst, ◌∙◌, arith}
use Rattle.std.proofs.Common.{Option, Some, None, true, false}
use Rattle.std.specs.Prelude.{slice_get, get_or, ◌==◌, Bool, if◌then◌else◌}
use Rattle.std.specs.List.{AllByRecursion}
use Rattle.std.proofs.lemmas.Option.{get_or_from_slice_get}
use Rattle.markdown_values.specs.values.Events.{EventView, start, end}
use Rattle.markdown_values.specs.values.Tags.{TagView, emphasis, strong, strikethrough}
use Rattle.markdown_values.specs.declared.values.tags.TagEnd.{TagEnd}
use Rattle.markdown_inlines.proofs.ForCallers.{inlines_nest, inlines_stand}
use Rattle.markdown_inlines.specs.Links.{Known}
use Rattle.markdown_inlines.specs.Nesting.{AreNestedIn, EndsIt, StandFrom}
use Rattle.markdown_inlines.specs.declared.inlines.Inline.{Inline}
use Rattle.markdown_inlines.specs.declared.inlines.Inline.TheVariants as I
use Rattle.markdown_inlines.specs.declared.links.Link.{Link}
use Rattle.markdown_inlines.specs.declared.pieces.Piece.{Piece}
use Rattle.markdown_events.specs.Found.{IsAimed}
use Rattle.markdown_events.specs.InlineEvents.{AreEvents, AreInlineEvents, ArePieceEvents, Begins, EventSetting, RangedEvent, closing, shown_target}
use Rattle.markdown_events.specs.Meanings.{IsLinkTag}
use Rattle.markdown_events.specs.TagEnds.{tag_end}
use Rattle.markdown_events.specs.Targets.{Targets, leads}
use Rattle.markdown_events.specs.declared.elements.Element.{Element}
use Rattle.markdown_events.proofs.found.CutFacts.{links_aimed, links_opened}
use Rattle.markdown_events.proofs.found.FilledFacts.{HasBytes, IsFilled, inlines_filled}

-- ---- costs

-- what each event costs
abbrev pub Cost : Type 0
Cost = EventView (List ℕ) → ℕ

-- what events cost together
abbrev pub total : Cost → List RangedEvent → ℕ
total cost [] = 0
total cost (event ∷ later) = cost event.0 + total cost later

pub total_both : (cost : Cost) (a b : List RangedEvent) → total cost (a ++ b) ≡ total cost a + total cost b
total_both cost [] b = omega arith
total_both cost (event ∷ later) b = omega (arith, total_both cost later b)

-- what is known of a link of a text
pub record IsSound (source : List ℕ) (known : Known) (it : Link) : Type 0 where
  pub opens : it.source.start < it.text.start
  pub aimed : IsAimed source known it

-- A byte of a text pays so much, and so much of that of each byte after a link text is for the link's start. No end costs more than an
-- edge, and no start of emphasis.
pub record IsInlineCost (cost : Cost) (byte tail edge : ℕ) : Type 0 where
  pub closes : (from to : ℕ) → from < to → edge + tail * (to - from) + byte * from ≤ byte * to
  pub ends : (tag : TagEnd) → cost (end tag) ≤ edge
  pub of_emphasis : cost (start emphasis) ≤ edge
  pub of_strong : cost (start strong) ≤ edge
  pub of_strikethrough : cost (start strikethrough) ≤ edge
  pub of_piece : (source : List ℕ) (piece : Piece) (here : List RangedEvent) → HasBytes piece → ArePieceEvents piece.kind source piece here
      → total cost here + byte * piece.start ≤ byte * piece.end
  pub of_link : (source : List ℕ) (known : Known) (targets : Targets) (it : Link) (tag : TagView (List ℕ)) → IsSound source known it
      → IsLinkTag source targets it tag
      → cost (start tag) + total cost (shown_target source it.text it.target) + byte * it.source.start
      ≤ byte * it.text.start + tail * (it.source.end - it.text.end)

-- ---- inlines

-- how many bytes a link has after its link text
abbrev tail_len : Option Link → ℕ
tail_len None = 0
tail_len (Some it) = it.source.end - it.text.end

abbrev tail_of : List (Option Link) → Inline → ℕ
tail_of links (I.StartLink number) = tail_len (get_or links number None)
tail_of links begun = 0

-- what the ends of links pay for the starts that are open
abbrev owed : ℕ → List (Option Link) → List Inline → ℕ
owed tail links [] = 0
owed tail links (begun ∷ outer) = tail * tail_of links begun + owed tail links outer

module _ (cost : Cost) (byte tail edge : ℕ) (is : IsInlineCost cost byte tail edge) (source : List ℕ) (known : Known) (targets : Targets)
    (links : List (Option Link)) (sound : (n : ℕ) (it : Link) → slice_get links n ≡ Some (Some it) → IsSound source known it) where
  -- an edge is paid by what has some bytes
  edge_paid : (from to : ℕ) → from < to → edge + byte * from ≤ byte * to
  edge_paid from to some = omega (arith, is.closes from to some)

  ends_paid : (elements : List Element) → total cost (closing elements) ≤ edge
  ends_paid [] = omega arith
  ends_paid (element ∷ outer) = omega (arith, is.ends element.tag)

  abbrev Costs : List Inline → Type 0
  Costs inlines = (from last : ℕ) (starts : List Inline) (elements : List Element) (events : List RangedEvent) → StandFrom links from inlines last
      → AllByRecursion (IsFilled links) inlines → AreNestedIn links starts inlines → AreEvents source targets links elements inlines events
      → total cost events + owed tail links starts + byte * from ≤ byte * last

  emphasis_paid : (is_strong : Bool) → cost (start (if is_strong then strong else emphasis)) ≤ edge
  emphasis_paid true = is.of_strong
  emphasis_paid false = is.of_emphasis

  -- what is paid between two offsets, known by other names
  between : (paid a b from to : ℕ) → a ≡ from → b ≡ to → paid + byte * a ≤ byte * b → paid + byte * from ≤ byte * to
  between paid a b from to first last low =
      subst (λ n. paid + byte * n ≤ byte * to) first (subst (λ n. paid + byte * a ≤ byte * n) last low)

  -- the start of emphasis or strikethrough owes nothing to its end
  emphasis_owes : (begun : Inline) (offset count : ℕ) → EndsIt links begun (I.EndEmphasis offset count) → tail * tail_of links begun ≡ 0
  emphasis_owes (I.StartEmphasis at few) offset count ends = omega arith
  emphasis_owes (I.Leaf piece) offset count ends = absurd ends
  emphasis_owes (I.EndEmphasis at few) offset count ends = absurd ends
  emphasis_owes (I.StartStrikethrough at few) offset count ends = absurd ends
  emphasis_owes (I.EndStrikethrough at few) offset count ends = absurd ends
  emphasis_owes (I.StartLink number) offset count ends = absurd ends
  emphasis_owes (I.EndLink piece) offset count ends = absurd ends

  strikethrough_owes : (begun : Inline) (offset count : ℕ) → EndsIt links begun (I.EndStrikethrough offset count) → tail * tail_of links begun ≡ 0
  strikethrough_owes (I.StartStrikethrough at few) offset count ends = omega arith
  strikethrough_owes (I.Leaf piece) offset count ends = absurd ends
  strikethrough_owes (I.StartEmphasis at few) offset count ends = absurd ends
  strikethrough_owes (I.EndEmphasis at few) offset count ends = absurd ends
  strikethrough_owes (I.EndStrikethrough at few) offset count ends = absurd ends
  strikethrough_owes (I.StartLink number) offset count ends = absurd ends
  strikethrough_owes (I.EndLink piece) offset count ends = absurd ends

  tail_is : (number : ℕ) (it : Link) → slice_get links number ≡ Some (Some it) → tail_of links (I.StartLink number) ≡ it.source.end - it.text.end
  tail_is number it there = ap tail_len (get_or_from_slice_get links number (Some it) None there)

  -- the start of a link is owed what its end has more than an edge
  link_owes : (begun : Inline) (piece : Piece) → EndsIt links begun (I.EndLink piece) → tail_of links begun ≡ piece.end - piece.start
  link_owes (I.StartLink number) piece (it, there, first, last) = omega (arith, tail_is number it there, first, last)
  link_owes (I.Leaf other) piece ends = absurd ends
  link_owes (I.StartEmphasis at few) piece ends = absurd ends
  link_owes (I.EndEmphasis at few) piece ends = absurd ends
  link_owes (I.StartStrikethrough at few) piece ends = absurd ends
  link_owes (I.EndStrikethrough at few) piece ends = absurd ends
  link_owes (I.EndLink other) piece ends = absurd ends

  -- an end of emphasis or strikethrough, of so many delimiters
  mark_ends : (offset count from to : ℕ) (elements : List Element) → 0 < count → offset ≡ from → offset + count ≡ to
      → total cost (closing elements) + byte * from ≤ byte * to
  mark_ends offset count from to elements some first last =
      omega (arith, ends_paid elements, edge_paid from to (omega (arith, some, first, last)))

  -- a start of them
  mark_starts : (offset count from to : ℕ) (tag : TagView (List ℕ)) → 0 < count → offset ≡ from → offset + count ≡ to → cost (start tag) ≤ edge
      → cost (start tag) + byte * from ≤ byte * to
  mark_starts offset count from to tag some first last few =
      omega (arith, few, edge_paid from to (omega (arith, some, first, last)))

  costs : (inlines : List Inline) → Costs inlines
  costs [] from last starts elements events stands filled nested are =
      omega (arith, ap (λ n. byte * n) stands, ap (total cost) are, ap (owed tail links) nested)
  costs (I.Leaf piece ∷ later) from last starts elements events (to, at, stands) filled nested (here, rest, are, gives, all) =
      omega (
        arith,
        ap (total cost) all,
        total_both cost here rest,
        between (total cost here) piece.start piece.end from to at.0 at.1 (is.of_piece source piece here filled.0 are),
        costs later to last starts elements rest stands filled.1 nested gives,
      )
  costs (I.EndEmphasis offset count ∷ later) from last starts elements events (to, at, stands) filled (begun, outer, open_are, ends, nested)
      (rest, gives, all) =
      omega (
        arith,
        ap (total cost) all,
        total_both cost (closing elements) rest,
        ap (owed tail links) open_are,
        emphasis_owes begun offset count ends,
        mark_ends offset count from to elements filled.0 at.0 at.1,
        costs later to last outer (drop 1 elements) rest stands filled.1 nested gives,
      )
  costs (I.EndStrikethrough offset count ∷ later) from last starts elements events (to, at, stands) filled (begun, outer, open_are, ends, nested)
      (rest, gives, all) =
      omega (
        arith,
        ap (total cost) all,
        total_both cost (closing elements) rest,
        ap (owed tail links) open_are,
        strikethrough_owes begun offset count ends,
        mark_ends offset count from to elements filled.0 at.0 at.1,
        costs later to last outer (drop 1 elements) rest stands filled.1 nested gives,
      )
  costs (I.EndLink piece ∷ later) from last starts elements events (to, at, stands) filled (begun, outer, open_are, ends, nested)
      (rest, gives, all) =
      omega (
        arith,
        ap (total cost) all,
        total_both cost (closing elements) rest,
        ends_paid elements,
        ap (owed tail links) open_are,
        ap (λ n. tail * n) (link_owes begun piece ends),
        between (edge + tail * (piece.end - piece.start)) piece.start piece.end from to at.0 at.1 (is.closes piece.start piece.end filled.0),
        costs later to last outer (drop 1 elements) rest stands filled.1 nested gives,
      )
  costs (I.StartEmphasis offset count ∷ later) from last starts elements events (to, at, stands) filled nested
      (offset', tag, shown, rest, begins, gives, all) =
      omega (
        arith,
        ap (total cost) all,
        ap (λ (es : List RangedEvent). total cost (es ++ rest)) begins.2,
        mark_starts offset count from to tag filled.0 at.0 at.1
            (subst (λ (t : TagView (List ℕ)). cost (start t) ≤ edge) (sym begins.1) (emphasis_paid (count == 2))),
        costs later to last (I.StartEmphasis offset count ∷ starts) _ rest stands filled.1 nested gives,
      )
  costs (I.StartStrikethrough offset count ∷ later) from last starts elements events (to, at, stands) filled nested
      (offset', tag, shown, rest, begins, gives, all) =
      omega (
        arith,
        ap (total cost) all,
        ap (λ (es : List RangedEvent). total cost (es ++ rest)) begins.2,
        mark_starts offset count from to tag filled.0 at.0 at.1
            (subst (λ (t : TagView (List ℕ)). cost (start t) ≤ edge) (sym begins.1) is.of_strikethrough),
        costs later to last (I.StartStrikethrough offset count ∷ starts) _ rest stands filled.1 nested gives,
      )
  costs (I.StartLink number ∷ later) from last starts elements events (to, (other, other_there, first, ends), stands) filled nested
      (offset', tag, shown, rest, (it, there, at, is_tag, shows), gives, all) =
      let same : other ≡ it = cc in
      let begins : it.source.start ≡ from = ap (λ (l : Link). l.source.start) (sym same) ∙ first in
      let goes_on : it.text.start ≡ to = ap (λ (l : Link). l.text.start) (sym same) ∙ ends in
      omega (
        arith,
        ap (total cost) all,
        total_both cost shown rest,
        ap (total cost) shows,
        ap (λ n. tail * n) (tail_is number it there),
        ap (λ n. byte * n) begins,
        ap (λ n. byte * n) goes_on,
        is.of_link source known targets it tag (sound number it there) is_tag,
        costs later to last (I.StartLink number ∷ starts) _ rest stands filled.1 nested gives,
      )

-- The events of a text cost no more than its bytes pay.
pub inlines_cost : (cost : Cost) (byte tail edge : ℕ) → IsInlineCost cost byte tail edge → (source : List ℕ) (setting : EventSetting)
    → (events : List RangedEvent) → AreInlineEvents source setting events → total cost events ≤ byte * length source
inlines_cost cost byte tail edge is source setting events are =
    let cut = are.are_inlines.cut in
    let known = leads setting.targets in
    let all = costs cost byte tail edge is source known setting.targets are.links
    (λ n it there. record {
      opens = links_opened source _ are.are_inlines.pieces are.links are.are_inlines.emphasis cut n it there;
      aimed = links_aimed source _ are.are_inlines.pieces are.links are.are_inlines.emphasis cut n it there;
    })
    are.inlines 0 (length source) [] [] events (inlines_stand source _ are.inlines are.links are.are_inlines)
    (inlines_filled source _ are.inlines are.links are.are_inlines) (inlines_nest source _ are.inlines are.links are.are_inlines) are.are_events in
    omega (arith, all)
