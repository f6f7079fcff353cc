-- The ranges of events begin and end at character boundaries of the text.
use Rattle.std.proofs.Common.{ℕ, Bool, true, false, List, [], ◌∷◌, ◌++◌, ◌≡◌, ◌∙◌, drop, sym, ap, subst, Option, Some, length}
use Rattle.std.proofs.Common.{slice_index, if◌then◌else◌}
use Rattle.std.specs.List.{AllByRecursion}
use Rattle.std.specs.Str.{IsUtf8, IsCharBoundary}
use Rattle.std.specs.declared.ops.Range.{Range}
use Rattle.std.proofs.lemmas.Str.{IsCharBoundary-end, IsCharBoundary-start}
use Rattle.markdown_values.specs.values.Events.{EventView, start, text}
use Rattle.markdown_values.specs.values.Tags.{TagView}
use Rattle.markdown_inlines.specs.Nesting.{StandFrom, StandsAt}
use Rattle.markdown_inlines.specs.Sources.{IsSource}
use Rattle.markdown_inlines.specs.declared.inlines.Inline.{Inline}
use Rattle.markdown_inlines.specs.declared.inlines.Inline.TheVariants as I
use Rattle.markdown_inlines.specs.declared.links.Link.{Link}
use Rattle.markdown_inlines.specs.declared.links.LinkTarget.{LinkTarget}
use Rattle.markdown_inlines.specs.declared.links.LinkTarget.TheVariants.{Inline as Within, Full, Collapsed, Shortcut, Wiki}
use Rattle.markdown_inlines.specs.declared.pieces.Piece.{Piece}
use Rattle.markdown_inlines.specs.declared.pieces.PieceKind.{PieceKind}
use Rattle.markdown_inlines.specs.declared.pieces.PieceKind.TheVariants as K
use Rattle.markdown_inlines.proofs.ForCallers.{inlines_stand}
use Rattle.markdown_events.specs.EventLaws.{AreAtBoundaries}
use Rattle.markdown_events.specs.Found.{HasParts, IsThereWith}
use Rattle.markdown_events.specs.InlineEvents.{AreEvents, AreInlineEvents, ArePieceEvents, EventSetting, RangedEvent}
use Rattle.markdown_events.specs.InlineEvents.{closing, end_in, open_ends, ranged, shown_target}
use Rattle.markdown_events.specs.Meanings.{has_pipe, within}
use Rattle.markdown_events.specs.TagEnds.{tag_end}
use Rattle.markdown_events.specs.Targets.{Targets}
use Rattle.markdown_events.specs.declared.elements.Element.{Element}
use Rattle.markdown_events.proofs.found.BoundaryFacts.{BeginsCut, IsShownCut, inlines_cut}

pub both_at : (source : List ℕ) (xs ys : List RangedEvent) → AreAtBoundaries source xs → AreAtBoundaries source ys → AreAtBoundaries source (xs ++ ys)
both_at source [] ys these those = those
both_at source (x ∷ xs) ys these those = (these.0, both_at source xs ys these.1 those)

module _ (source : List ℕ) where
  abbrev Cut : ℕ → Type 0
  Cut = IsCharBoundary source

  -- ---- pieces

  alone_at : (piece : Piece) → IsSource source piece → (here : List RangedEvent) (event : EventView (List ℕ)) → here ≡ ranged event piece.start piece.end ∷ []
      → AreAtBoundaries source here
  alone_at piece is here event same = subst (AreAtBoundaries source) (sym same) ((is.begins, is.ends), tt)

  piece_at : (kind : PieceKind) (piece : Piece) (here : List RangedEvent) → IsSource source piece → HasParts kind source piece
      → ArePieceEvents kind source piece here → AreAtBoundaries source here
  piece_at K.Text piece here is parts are = alone_at piece is here _ are
  piece_at K.Escape piece here is parts are = alone_at piece is here _ are
  piece_at K.HardBreak piece here is parts are = alone_at piece is here _ are
  piece_at K.SoftBreak piece here is parts are = alone_at piece is here _ are
  piece_at K.Reference piece here is parts are = alone_at piece is here _ are.3
  piece_at (K.Code backticks) piece here is parts are = alone_at piece is here _ are
  piece_at K.Uri piece here is parts are =
      subst (AreAtBoundaries source) (sym are) ((is.begins, is.ends), ((parts.1, parts.2), ((is.begins, is.ends), tt)))
  piece_at K.Email piece here is parts are =
      subst (AreAtBoundaries source) (sym are) ((is.begins, is.ends), ((parts.1, parts.2), ((is.begins, is.ends), tt)))
  piece_at K.Html piece here is parts are = alone_at piece is here _ are
  piece_at (K.Delimiters run) piece here is parts are = alone_at piece is here _ are
  piece_at K.LinkOpener piece here is parts are = alone_at piece is here _ are
  piece_at K.ImageOpener piece here is parts are = alone_at piece is here _ are
  piece_at K.Closer piece here is parts are = alone_at piece is here _ are

  -- ---- elements

  -- an element begins and ends at character boundaries
  abbrev IsElementCut : Element → Type 0
  IsElementCut element = Cut element.from × Cut element.to

  later_all : {X : Type 0} (P : X → Type 0) (xs : List X) → AllByRecursion P xs → AllByRecursion P (drop 1 xs)
  later_all P [] all = tt
  later_all P (x ∷ xs) all = all.1

  closing_at : (elements : List Element) → AllByRecursion IsElementCut elements → AreAtBoundaries source (closing elements)
  closing_at [] all = tt
  closing_at (element ∷ outer) all = (all.0, tt)

  shown_at : (words : Range ℕ) (target : LinkTarget) → IsShownCut source target → AreAtBoundaries source (shown_target source words target)
  shown_at words (Wiki target) cut = by (has_pipe words target)
    where
      by : (test : Bool) → AreAtBoundaries source (if test then [] else ranged (text (within source target)) target.start target.end ∷ [])
      by true = tt
      by false = (cut, tt)
  shown_at words (Within destination title) cut = tt
  shown_at words (Full label) cut = tt
  shown_at words Collapsed cut = tt
  shown_at words Shortcut cut = tt

  module _ (utf8 : IsUtf8 source) (targets : Targets) (links : List (Option Link)) where
    abbrev Fact : Inline → Type 0
    Fact = IsThereWith source links (BeginsCut source)

    -- ---- where inlines stand

    begins_cut : (inline : Inline) (from to : ℕ) → Fact inline → StandsAt links inline from to → Cut from
    begins_cut (I.Leaf piece) from to fact is = subst Cut is.0 fact.0.begins
    begins_cut (I.StartEmphasis offset count) from to fact is = subst Cut is.0 fact
    begins_cut (I.EndEmphasis offset count) from to fact is = subst Cut is.0 fact
    begins_cut (I.StartStrikethrough offset count) from to fact is = subst Cut is.0 fact
    begins_cut (I.EndStrikethrough offset count) from to fact is = subst Cut is.0 fact
    begins_cut (I.StartLink number) from to fact is =
        let both : Some (Some fact.0) ≡ Some (Some is.0) = sym fact.1 ∙ is.1 in
        let same : fact.0 ≡ is.0 = cc in
        subst Cut (ap (λ (l : Link). l.source.start) same ∙ is.2) fact.2.0
    begins_cut (I.EndLink piece) from to fact is = subst Cut is.0 fact.begins

    stand_cut : (inlines : List Inline) (from last : ℕ) → AllByRecursion Fact inlines → StandFrom links from inlines last → Cut last → Cut from
    stand_cut [] from last facts is cut = subst Cut (sym is) cut
    stand_cut (inline ∷ later) from last facts is cut = begins_cut inline from is.0 facts.0 is.1

    -- elements end at character boundaries
    ends_cut : (inlines : List Inline) (from last : ℕ) → AllByRecursion Fact inlines → StandFrom links from inlines last → Cut last
        → AllByRecursion Cut (open_ends inlines)
    ends_cut [] from last facts is cut = tt
    ends_cut (I.Leaf piece ∷ later) from last facts is cut = ends_cut later is.0 last facts.1 is.2 cut
    ends_cut (I.EndEmphasis offset count ∷ later) from last facts is cut =
        (subst Cut (sym is.1.1) (stand_cut later is.0 last facts.1 is.2 cut), ends_cut later is.0 last facts.1 is.2 cut)
    ends_cut (I.EndStrikethrough offset count ∷ later) from last facts is cut =
        (subst Cut (sym is.1.1) (stand_cut later is.0 last facts.1 is.2 cut), ends_cut later is.0 last facts.1 is.2 cut)
    ends_cut (I.EndLink piece ∷ later) from last facts is cut = (facts.0.ends, ends_cut later is.0 last facts.1 is.2 cut)
    ends_cut (I.StartEmphasis offset count ∷ later) from last facts is cut =
        later_all Cut (open_ends later) (ends_cut later is.0 last facts.1 is.2 cut)
    ends_cut (I.StartStrikethrough offset count ∷ later) from last facts is cut =
        later_all Cut (open_ends later) (ends_cut later is.0 last facts.1 is.2 cut)
    ends_cut (I.StartLink number ∷ later) from last facts is cut =
        later_all Cut (open_ends later) (ends_cut later is.0 last facts.1 is.2 cut)

    first_cut : (offsets : List ℕ) → AllByRecursion Cut offsets → Cut (slice_index offsets 0)
    first_cut [] all = IsCharBoundary-start source utf8
    first_cut (offset ∷ offsets) all = all.0

    -- ---- events

    abbrev AreAt : List Inline → Type 0
    AreAt inlines = (elements : List Element) (from last : ℕ) (events : List RangedEvent) → AllByRecursion Fact inlines
        → StandFrom links from inlines last → Cut last → AllByRecursion IsElementCut elements
        → AreEvents source targets links elements inlines events → AreAtBoundaries source events

    ended_at : (later : List Inline) → AreAt later → (elements : List Element) (from last : ℕ) (events rest : List RangedEvent)
        → AllByRecursion Fact later → StandFrom links from later last → Cut last → AllByRecursion IsElementCut elements
        → AreEvents source targets links (drop 1 elements) later rest → events ≡ closing elements ++ rest → AreAtBoundaries source events
    ended_at later at elements from last events rest facts stand cut all are is =
        subst (AreAtBoundaries source) (sym is)
        (both_at source (closing elements) rest (closing_at elements all)
        (at (drop 1 elements) from last rest facts stand cut (later_all IsElementCut elements all) are))

    begun_at : (later : List Inline) → AreAt later → (elements : List Element) (from next last : ℕ) (events shown rest : List RangedEvent)
        (tag : TagView (List ℕ)) → AllByRecursion Fact later → StandFrom links next later last → Cut last → AllByRecursion IsElementCut elements
        → Cut from → AreAtBoundaries source shown
        → AreEvents source targets links (record { tag = tag_end tag; from = from; to = end_in later } ∷ elements) later rest
        → events ≡ ranged (start tag) from (end_in later) ∷ (shown ++ rest) → AreAtBoundaries source events
    begun_at later at elements from next last events shown rest tag facts stand cut all begins shows are is =
        let ends = first_cut (open_ends later) (ends_cut later next last facts stand cut) in
        subst (AreAtBoundaries source) (sym is)
        ((begins, ends), both_at source shown rest shows (at _ next last rest facts stand cut ((begins, ends), all) are))

    events_at : (inlines : List Inline) → AreAt inlines
    events_at [] elements from last events facts stand cut all is = subst (AreAtBoundaries source) (sym is) tt
    events_at (I.Leaf piece ∷ later) elements from last events facts (to, at, stand) cut all (here, rest, are, are_rest, is) =
        subst (AreAtBoundaries source) (sym is)
        (both_at source here rest (piece_at piece.kind piece here facts.0.0 facts.0.1 are)
        (events_at later elements to last rest facts.1 stand cut all are_rest))
    events_at (I.EndEmphasis offset count ∷ later) elements from last events facts (to, at, stand) cut all (rest, are, is) =
        ended_at later (events_at later) elements to last events rest facts.1 stand cut all are is
    events_at (I.EndStrikethrough offset count ∷ later) elements from last events facts (to, at, stand) cut all (rest, are, is) =
        ended_at later (events_at later) elements to last events rest facts.1 stand cut all are is
    events_at (I.EndLink piece ∷ later) elements from last events facts (to, at, stand) cut all (rest, are, is) =
        ended_at later (events_at later) elements to last events rest facts.1 stand cut all are is
    events_at (I.StartEmphasis p count ∷ later) elements from last events facts (to, at, stand) cut all
        (offset, tag, shown, rest, begins, are, is) =
        begun_at later (events_at later) elements offset to last events shown rest tag facts.1 stand cut all
        (subst Cut (sym begins.0) facts.0) (subst (AreAtBoundaries source) (sym begins.2) tt) are is
    events_at (I.StartStrikethrough p count ∷ later) elements from last events facts (to, at, stand) cut all
        (offset, tag, shown, rest, begins, are, is) =
        begun_at later (events_at later) elements offset to last events shown rest tag facts.1 stand cut all
        (subst Cut (sym begins.0) facts.0) (subst (AreAtBoundaries source) (sym begins.2) tt) are is
    events_at (I.StartLink number ∷ later) elements from last events facts (to, at, stand) cut all
        (offset, tag, shown, rest, begins, are, is) =
        let fact = facts.0 in
        let both : Some (Some fact.0) ≡ Some (Some begins.0) = sym fact.1 ∙ begins.1 in
        let same : fact.0 ≡ begins.0 = cc in
        let known = subst (BeginsCut source) same fact.2 in
        begun_at later (events_at later) elements offset to last events shown rest tag facts.1 stand cut all
        (subst Cut (sym begins.2) known.0)
        (subst (AreAtBoundaries source) (sym begins.4) (shown_at begins.0.text begins.0.target known.1)) are is

-- The ranges of the events of a text that is UTF-8 begin and end at its character boundaries.
pub events_at_boundaries : (source : List ℕ) (setting : EventSetting) (events : List RangedEvent) → IsUtf8 source
    → AreInlineEvents source setting events → AreAtBoundaries source events
events_at_boundaries source setting events utf8 are =
    events_at source utf8 setting.targets are.links are.inlines [] 0 (length source) events
    (inlines_cut source _ are.inlines are.links utf8 are.are_inlines) (inlines_stand source _ are.inlines are.links are.are_inlines)
    (IsCharBoundary-end source) tt are.are_events
