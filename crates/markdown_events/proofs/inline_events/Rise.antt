-- The ranges of events rise, and lie within those of the elements that hold them; no element is empty.
use Rattle.std.proofs.Common.{ℕ, suc, Bool, true, false, List, [], ◌∷◌, ◌++◌, ◌≡◌, ◌<◌, ◌≤◌, ◌+◌, ◌-◌, ◌∙◌, length, drop, arith, refl, sym, ap, subst, Option}
use Rattle.std.proofs.Common.{Some, slice_index, if◌then◌else◌}
use Rattle.std.proofs.lemmas.List.{length-append, length-map}
use Rattle.std.specs.Prelude.{⊤, map}
use Rattle.std.specs.List.{AllByRecursion}
use Rattle.markdown_values.specs.values.Events.{start, end, text}
use Rattle.markdown_values.specs.values.Tags.{TagView}
use Rattle.markdown_inlines.specs.Nesting.{AreNestedIn, StandFrom, StandsAt}
use Rattle.markdown_inlines.specs.declared.inlines.Inline.{Inline}
use Rattle.markdown_inlines.specs.declared.inlines.Inline.TheVariants as I
use Rattle.markdown_inlines.specs.declared.links.Link.{Link}
use Rattle.markdown_inlines.specs.declared.links.LinkTarget.{LinkTarget}
use Rattle.markdown_inlines.specs.declared.links.LinkTarget.TheVariants.{Inline as Within, Full, Collapsed, Shortcut, Wiki}
use Rattle.markdown_inlines.specs.declared.pieces.Piece.{Piece}
use Rattle.markdown_inlines.specs.declared.pieces.PieceKind.{PieceKind}
use Rattle.markdown_inlines.specs.declared.pieces.PieceKind.TheVariants as K
use Rattle.markdown_events.specs.EventLaws.{RiseIn}
use Rattle.markdown_events.specs.InlineEvents.{RangedEvent, AreEvents, ArePieceEvents, Begins, closing, end_in, open_ends, ranged, shown_target}
use Rattle.markdown_events.specs.Meanings.{has_pipe, within}
use Rattle.markdown_events.specs.TagEnds.{tag_end}
use Rattle.markdown_events.specs.Targets.{Targets}
use Rattle.markdown_events.specs.declared.elements.Element.{Element}
use Rattle.markdown_events.proofs.found.FilledFacts.{HasInner, IsFilled, ShowsBefore}
use Rattle.markdown_events.proofs.inline_events.Filled.{RiseFilled, filled_from}

abbrev tos : List Element → List ℕ
tos elements = map (λ (e : Element). e.to) elements

-- offsets that rise from one on
abbrev Rising : ℕ → List ℕ → Type 0
Rising from [] = ⊤
Rising from (to ∷ later) = (from ≤ to) × Rising to later

rising_from : (from from' : ℕ) (offsets : List ℕ) → from ≤ from' → Rising from' offsets → Rising from offsets
rising_from from from' [] less are = tt
rising_from from from' (to ∷ later) less are = (omega (arith, less, are.0), are.1)

rising_rest : (from last : ℕ) (offsets : List ℕ) → Rising from (offsets ++ last ∷ []) → Rising from (drop 1 offsets ++ last ∷ [])
rising_rest from last [] are = are
rising_rest from last (to ∷ later) are = rising_from from to (later ++ last ∷ []) are.0 are.1

nonempty : (offsets : List ℕ) (last : ℕ) → (to : ℕ) × (outer : List ℕ) × (offsets ++ last ∷ [] ≡ to ∷ outer)
nonempty [] last = (last, [], refl)
nonempty (to ∷ later) last = (to, later ++ last ∷ [], refl)

first_of : (offsets : List ℕ) (n : ℕ) → length offsets ≡ suc n → offsets ≡ slice_index offsets 0 ∷ drop 1 offsets
first_of [] n is = absurd (omega (arith, is))
first_of (to ∷ later) n is = refl

-- from an earlier offset on
pub rise_from : (ends : List ℕ) (from from' : ℕ) (events : List RangedEvent) → from ≤ from' → RiseIn ends from' events → RiseIn ends from events
rise_from ends from from' [] less is = tt
rise_from [] from from' (event ∷ later) less is = absurd is
rise_from (to ∷ outer) from from' ((start tag, range) ∷ later) less is =
    (record { begins = omega (arith, less, is.0.begins); in_order = is.0.in_order; ends = is.0.ends }, is.1)
rise_from (to ∷ outer) from from' ((end closer, range) ∷ later) less is = (omega (arith, less, is.0), is.1, is.2)
rise_from (to ∷ outer) from from' ((event, range) ∷ later) less is =
    (record { begins = omega (arith, less, is.0.begins); in_order = is.0.in_order; ends = is.0.ends }, is.1)

-- what an element shows before what it holds stands between its beginning and that
abbrev Shows : List RangedEvent → ℕ → ℕ → Type 0
Shows shown from next = (to : ℕ) (outer : List ℕ) (rest : List RangedEvent) → next ≤ to → RiseFilled (to ∷ outer) next rest
    → RiseFilled (to ∷ outer) from (shown ++ rest)

shows_none : (from next : ℕ) → from ≤ next → Shows [] from next
shows_none from next less = λ to outer rest inside gives. filled_from (to ∷ outer) from next rest less gives

target_shows : (source : List ℕ) (it : Link) → it.source.start < it.text.start → (target : LinkTarget) → ShowsBefore target it
    → Shows (shown_target source it.text target) it.source.start it.text.start
target_shows source it less (Wiki target) before = choose (has_pipe it.text target)
  where
    choose : (test : Bool) → Shows (if test then [] else ranged (text (within source target)) target.start target.end ∷ [])
        it.source.start it.text.start
    choose true = shows_none it.source.start it.text.start (omega (arith, less))
    choose false = λ to outer rest inside gives. (
      before.0,
      omega (arith, before.1),
      omega (arith, before.2, inside),
      omega (arith, before.1, before.2, inside),
      filled_from (to ∷ outer) target.end it.text.start rest before.2 gives,
    )
target_shows source it less (Within destination title) before = shows_none it.source.start it.text.start (omega (arith, less))
target_shows source it less (Full label) before = shows_none it.source.start it.text.start (omega (arith, less))
target_shows source it less Collapsed before = shows_none it.source.start it.text.start (omega (arith, less))
target_shows source it less Shortcut before = shows_none it.source.start it.text.start (omega (arith, less))

module _ (source : List ℕ) (piece : Piece) (to : ℕ) (outer : List ℕ) (rest : List RangedEvent) (some : piece.start < piece.end)
    (inside : piece.end ≤ to) (gives : RiseFilled (to ∷ outer) piece.end rest) where
  abbrev Adds : List RangedEvent → Type 0
  Adds here = RiseFilled (to ∷ outer) piece.start (here ++ rest)

  -- one event
  lies : (piece.start ≤ piece.start) × (piece.start ≤ piece.end) × (piece.end ≤ to) × (piece.start < to) × RiseFilled (to ∷ outer) piece.end rest
  lies = (omega arith, omega (arith, some), inside, omega (arith, some, inside), gives)

  -- an address stands within its angle brackets
  angled : piece.start + 1 ≤ piece.end - 1
      → (piece.start ≤ piece.start) × (piece.start < piece.end) × (piece.end ≤ to)
      × ((piece.start ≤ piece.start + 1) × (piece.start + 1 ≤ piece.end - 1) × (piece.end - 1 ≤ piece.end) × (piece.start + 1 < piece.end)
      × ((piece.end - 1 ≤ piece.end) × (piece.start < piece.end) × (piece.end ≡ piece.end) × RiseFilled (to ∷ outer) piece.end rest))
  angled inner =
      (omega arith, some, inside, (omega arith, inner, omega arith, omega (arith, inner, some), (omega arith, some, refl, gives)))

  leaf_rises : (kind : PieceKind) (here : List RangedEvent) → HasInner kind piece → ArePieceEvents kind source piece here → Adds here
  leaf_rises K.Text here inner is = subst Adds (sym is) lies
  leaf_rises K.Escape here inner is = subst Adds (sym is) lies
  leaf_rises K.HardBreak here inner is = subst Adds (sym is) lies
  leaf_rises K.SoftBreak here inner is = subst Adds (sym is) lies
  leaf_rises K.Reference here inner is = subst Adds (sym is.3) lies
  leaf_rises (K.Code backticks) here inner is = subst Adds (sym is) lies
  leaf_rises K.Uri here inner is = subst Adds (sym is) (angled (omega (arith, inner)))
  leaf_rises K.Email here inner is = subst Adds (sym is) (angled (omega (arith, inner)))
  leaf_rises K.Html here inner is = subst Adds (sym is) lies
  leaf_rises (K.Delimiters run) here inner is = subst Adds (sym is) lies
  leaf_rises K.LinkOpener here inner is = subst Adds (sym is) lies
  leaf_rises K.ImageOpener here inner is = subst Adds (sym is) lies
  leaf_rises K.Closer here inner is = subst Adds (sym is) lies

-- an element ends after it begins
abbrev HasRange : Element → Type 0
HasRange element = element.from < element.to

module _ (source : List ℕ) (targets : Targets) (links : List (Option Link)) where
  abbrev Fact : Inline → Type 0
  Fact = IsFilled links

  stands_after : (inline : Inline) (from to : ℕ) → Fact inline → StandsAt links inline from to → from < to
  stands_after (I.Leaf piece) from to fact is = omega (arith, fact.some, is.0, is.1)
  stands_after (I.StartEmphasis offset count) from to fact is = omega (arith, fact, is.0, is.1)
  stands_after (I.EndEmphasis offset count) from to fact is = omega (arith, fact, is.0, is.1)
  stands_after (I.StartStrikethrough offset count) from to fact is = omega (arith, fact, is.0, is.1)
  stands_after (I.EndStrikethrough offset count) from to fact is = omega (arith, fact, is.0, is.1)
  stands_after (I.StartLink number) from to fact is =
      let both : Some (Some fact.0) ≡ Some (Some is.0) = sym fact.1 ∙ is.1 in
      let same : fact.0 ≡ is.0 = cc in
      omega (arith, fact.2, is.2, is.3, ap (λ (l : Link). l.source.start) same, ap (λ (l : Link). l.text.start) same)
  stands_after (I.EndLink piece) from to fact is = omega (arith, fact, is.0, is.1)

  -- the elements end where the inlines say, in order
  ends_rise : (inlines : List Inline) (from last : ℕ) → AllByRecursion Fact inlines → StandFrom links from inlines last
      → Rising from (open_ends inlines ++ last ∷ [])
  ends_rise [] from last facts is = (omega (arith, is), tt)
  ends_rise (I.Leaf piece ∷ later) from last facts is =
      rising_from from is.0 (open_ends later ++ last ∷ [])
      (omega (arith, stands_after (I.Leaf piece) from is.0 facts.0 is.1))
      (ends_rise later is.0 last facts.1 is.2)
  ends_rise (I.EndEmphasis offset count ∷ later) from last facts is =
      (omega (arith, is.1.0), rising_from (offset + count) is.0 (open_ends later ++ last ∷ []) (omega (arith, is.1.1)) (ends_rise later is.0 last facts.1 is.2))
  ends_rise (I.EndStrikethrough offset count ∷ later) from last facts is =
      (omega (arith, is.1.0), rising_from (offset + count) is.0 (open_ends later ++ last ∷ []) (omega (arith, is.1.1)) (ends_rise later is.0 last facts.1 is.2))
  ends_rise (I.EndLink piece ∷ later) from last facts is = (
    omega (arith, is.1.0, facts.0),
    rising_from piece.end is.0 (open_ends later ++ last ∷ []) (omega (arith, is.1.1)) (ends_rise later is.0 last facts.1 is.2),
  )
  ends_rise (I.StartEmphasis offset count ∷ later) from last facts is =
      rising_from from is.0 (drop 1 (open_ends later) ++ last ∷ [])
      (omega (arith, stands_after (I.StartEmphasis offset count) from is.0 facts.0 is.1))
      (rising_rest is.0 last (open_ends later) (ends_rise later is.0 last facts.1 is.2))
  ends_rise (I.StartStrikethrough offset count ∷ later) from last facts is =
      rising_from from is.0 (drop 1 (open_ends later) ++ last ∷ [])
      (omega (arith, stands_after (I.StartStrikethrough offset count) from is.0 facts.0 is.1))
      (rising_rest is.0 last (open_ends later) (ends_rise later is.0 last facts.1 is.2))
  ends_rise (I.StartLink number ∷ later) from last facts is =
      rising_from from is.0 (drop 1 (open_ends later) ++ last ∷ [])
      (omega (arith, stands_after (I.StartLink number) from is.0 facts.0 is.1))
      (rising_rest is.0 last (open_ends later) (ends_rise later is.0 last facts.1 is.2))

  -- as many elements are open
  ends_counted : (inlines starts : List Inline) → AreNestedIn links starts inlines → length (open_ends inlines) ≡ length starts
  ends_counted [] starts is = sym (ap length is)
  ends_counted (I.Leaf piece ∷ later) starts is = ends_counted later starts is
  ends_counted (I.EndEmphasis offset count ∷ later) starts (first, outer, are, ends, nested) =
      ap suc (ends_counted later outer nested) ∙ sym (ap length are)
  ends_counted (I.EndStrikethrough offset count ∷ later) starts (first, outer, are, ends, nested) =
      ap suc (ends_counted later outer nested) ∙ sym (ap length are)
  ends_counted (I.EndLink piece ∷ later) starts (first, outer, are, ends, nested) =
      ap suc (ends_counted later outer nested) ∙ sym (ap length are)
  ends_counted (I.StartEmphasis offset count ∷ later) starts is = one_less (open_ends later) (ends_counted later _ is)
    where
      one_less : (offsets : List ℕ) → length offsets ≡ suc (length starts) → length (drop 1 offsets) ≡ length starts
      one_less [] counted = absurd (omega (arith, counted))
      one_less (to ∷ more) counted = omega (arith, counted)
  ends_counted (I.StartStrikethrough offset count ∷ later) starts is = one_less (open_ends later) (ends_counted later _ is)
    where
      one_less : (offsets : List ℕ) → length offsets ≡ suc (length starts) → length (drop 1 offsets) ≡ length starts
      one_less [] counted = absurd (omega (arith, counted))
      one_less (to ∷ more) counted = omega (arith, counted)
  ends_counted (I.StartLink number ∷ later) starts is = one_less (open_ends later) (ends_counted later _ is)
    where
      one_less : (offsets : List ℕ) → length offsets ≡ suc (length starts) → length (drop 1 offsets) ≡ length starts
      one_less [] counted = absurd (omega (arith, counted))
      one_less (to ∷ more) counted = omega (arith, counted)

  -- ---- events

  module _ (last : ℕ) where
    abbrev Rises : List Inline → Type 0
    Rises inlines = (starts : List Inline) (elements : List Element) (to : ℕ) (outer : List ℕ) (from : ℕ) (events : List RangedEvent)
        → AllByRecursion Fact inlines → AreNestedIn links starts inlines → StandFrom links from inlines last
        → open_ends inlines ++ last ∷ [] ≡ to ∷ outer → tos elements ++ last ∷ [] ≡ to ∷ outer → AllByRecursion HasRange elements
        → AreEvents source targets links elements inlines events → RiseFilled (to ∷ outer) from events

    -- the innermost end is no earlier than what stands before it
    top : (inlines : List Inline) (from to : ℕ) (outer : List ℕ) → AllByRecursion Fact inlines → StandFrom links from inlines last
        → open_ends inlines ++ last ∷ [] ≡ to ∷ outer → from ≤ to
    top inlines from to outer facts is ends = (subst (Rising from) ends (ends_rise inlines from last facts is)).0

    ended : (later : List Inline) → Rises later → (starts : List Inline) (elements : List Element) (to : ℕ) (outer : List ℕ) (from next : ℕ)
        (events rest : List RangedEvent) → AllByRecursion Fact later → AreNestedIn links starts later → StandFrom links next later last
        → from ≤ next → next ≡ to → open_ends later ++ last ∷ [] ≡ outer → length (open_ends later) + 1 ≡ length elements
        → tos elements ++ last ∷ [] ≡ to ∷ outer → AllByRecursion HasRange elements
        → AreEvents source targets links (drop 1 elements) later rest → events ≡ closing elements ++ rest → RiseFilled (to ∷ outer) from events
    ended later rises starts [] to outer from next events rest facts nested stands less same ends counted tos_are some gives is =
        absurd (omega (arith, counted))
    ended later rises starts (element ∷ elements) to outer from next events rest facts nested stands less same ends counted tos_are some gives is =
        let shown : element.to ∷ (tos elements ++ last ∷ []) ≡ to ∷ outer = tos_are in
        let first : element.to ≡ to = cc in
        let others : tos elements ++ last ∷ [] ≡ outer = cc in
        let shape = nonempty (open_ends later) last in
        let outer_is : outer ≡ shape.0 ∷ shape.1 = sym ends ∙ shape.2 in
        let after = rises starts elements shape.0 shape.1 next rest facts nested stands shape.2 (others ∙ outer_is) some.1 gives in
        subst (RiseFilled (to ∷ outer) from) (sym is) (
          omega (arith, less, same),
          some.0,
          first,
          subst (λ n. RiseFilled outer n rest) same (subst (λ (o : List ℕ). RiseFilled o next rest) (sym outer_is) after),
        )

    begun : (later : List Inline) → Rises later → (first : Inline) (starts : List Inline) (elements : List Element) (to : ℕ) (outer : List ℕ)
        (from next : ℕ) (events shown rest : List RangedEvent) (tag : TagView (List ℕ)) → Shows shown from next → AllByRecursion Fact later
        → AreNestedIn links (first ∷ starts) later → StandFrom links next later last → from < next
        → drop 1 (open_ends later) ++ last ∷ [] ≡ to ∷ outer → tos elements ++ last ∷ [] ≡ to ∷ outer → AllByRecursion HasRange elements
        → AreEvents source targets links (record { tag = tag_end tag; from = from; to = end_in later } ∷ elements) later rest
        → events ≡ ranged (start tag) from (end_in later) ∷ (shown ++ rest) → RiseFilled (to ∷ outer) from events
    begun later rises first starts elements to outer from next events shown rest tag shows facts nested stands less ends tos_are some gives is =
        let shape = first_of (open_ends later) (length starts) (ends_counted later (first ∷ starts) nested) in
        let all : open_ends later ++ last ∷ [] ≡ end_in later ∷ to ∷ outer =
        ap (λ (l : List ℕ). l ++ last ∷ []) shape ∙ ap (λ (l : List ℕ). end_in later ∷ l) ends in
        let rising = subst (Rising next) all (ends_rise later next last facts stands) in
        let after = rises (first ∷ starts) _ (end_in later) (to ∷ outer) next rest facts nested stands all
        (ap (λ (l : List ℕ). end_in later ∷ l) tos_are) (omega (arith, rising.0, less), some) gives in
        subst (RiseFilled (to ∷ outer) from) (sym is) (
          omega arith,
          omega (arith, rising.0, less),
          rising.1.0,
          shows (end_in later) (to ∷ outer) rest rising.0 after,
        )

    -- where an element begins, its opener stands
    opens_at : (inline : Inline) (from next offset : ℕ) (tag : TagView (List ℕ)) (shown : List RangedEvent)
        → Begins source targets links inline offset tag shown
        → StandsAt links inline from next → offset ≡ from
    opens_at (I.StartEmphasis p count) from next offset tag shown begins is = begins.0 ∙ is.0
    opens_at (I.StartStrikethrough p count) from next offset tag shown begins is = begins.0 ∙ is.0
    opens_at (I.StartLink number) from next offset tag shown begins is =
        let both : Some (Some begins.0) ≡ Some (Some is.0) = sym begins.1 ∙ is.1 in
        let same : begins.0 ≡ is.0 = cc in
        begins.2 ∙ (ap (λ (l : Link). l.source.start) same ∙ is.2)
    opens_at (I.Leaf piece) from next offset tag shown begins is = absurd begins
    opens_at (I.EndEmphasis p count) from next offset tag shown begins is = absurd begins
    opens_at (I.EndStrikethrough p count) from next offset tag shown begins is = absurd begins
    opens_at (I.EndLink piece) from next offset tag shown begins is = absurd begins

    shows : (inline : Inline) (from next offset : ℕ) (tag : TagView (List ℕ)) (shown : List RangedEvent) → Fact inline
        → Begins source targets links inline offset tag shown → StandsAt links inline from next → Shows shown offset next
    shows (I.StartEmphasis p count) from next offset tag shown fact begins is =
        subst (λ (s : List RangedEvent). Shows s offset next) (sym begins.2) (shows_none offset next (omega (arith, begins.0, is.1)))
    shows (I.StartStrikethrough p count) from next offset tag shown fact begins is =
        subst (λ (s : List RangedEvent). Shows s offset next) (sym begins.2) (shows_none offset next (omega (arith, begins.0, is.1)))
    shows (I.StartLink number) from next offset tag shown fact begins is =
        let both : Some (Some begins.0) ≡ Some (Some is.0) = sym begins.1 ∙ is.1 in
        let same : begins.0 ≡ is.0 = cc in
        let both' : Some (Some begins.0) ≡ Some (Some fact.0) = sym begins.1 ∙ fact.1 in
        let same' : begins.0 ≡ fact.0 = cc in
        let text_is : begins.0.text.start ≡ next = ap (λ (l : Link). l.text.start) same ∙ is.3 in
        let opener = subst (λ (l : Link). l.source.start < l.text.start) (sym same') fact.2 in
        let before = subst (λ (l : Link). ShowsBefore l.target l) (sym same') fact.3 in
        subst (λ (s : List RangedEvent). Shows s offset next) (sym begins.4)
        (subst (λ n. Shows (shown_target source begins.0.text begins.0.target) n next) (sym begins.2)
        (subst (λ n. Shows (shown_target source begins.0.text begins.0.target) begins.0.source.start n) text_is
        (target_shows source begins.0 opener begins.0.target before)))
    shows (I.Leaf piece) from next offset tag shown fact begins is = absurd begins
    shows (I.EndEmphasis p count) from next offset tag shown fact begins is = absurd begins
    shows (I.EndStrikethrough p count) from next offset tag shown fact begins is = absurd begins
    shows (I.EndLink piece) from next offset tag shown fact begins is = absurd begins

    open_counted : (offsets : List ℕ) (elements : List Element) (to : ℕ) (outer : List ℕ) → offsets ++ last ∷ [] ≡ to ∷ outer
        → tos elements ++ last ∷ [] ≡ to ∷ outer → length offsets ≡ length elements
    open_counted offsets elements to outer ends tos_are =
        let lengths = ap length (ends ∙ sym tos_are) in
        omega (
          arith,
          lengths,
          length-append offsets (last ∷ []),
          length-append (tos elements) (last ∷ []),
          length-map elements (λ (e : Element). e.to),
        )

    begins_rise : (inline : Inline) (later : List Inline) → Rises later → (starts : List Inline) (elements : List Element) (to : ℕ)
        (outer : List ℕ) (from next offset : ℕ) (events shown rest : List RangedEvent) (tag : TagView (List ℕ)) → Fact inline
        → AllByRecursion Fact later → AreNestedIn links (inline ∷ starts) later → StandsAt links inline from next
        → StandFrom links next later last → drop 1 (open_ends later) ++ last ∷ [] ≡ to ∷ outer
        → tos elements ++ last ∷ [] ≡ to ∷ outer → AllByRecursion HasRange elements → Begins source targets links inline offset tag shown
        → AreEvents source targets links (record { tag = tag_end tag; from = offset; to = end_in later } ∷ elements) later rest
        → events ≡ ranged (start tag) offset (end_in later) ∷ (shown ++ rest) → RiseFilled (to ∷ outer) from events
    begins_rise inline later rises starts elements to outer from next offset events shown rest tag fact facts nested at stands ends tos_are some begins
        gives is =
        let here = opens_at inline from next offset tag shown begins at in
        let less = stands_after inline from next fact at in
        subst (λ n. RiseFilled (to ∷ outer) n events) here
        (begun later rises inline starts elements to outer offset next events shown rest tag
        (shows inline from next offset tag shown fact begins at) facts nested stands (omega (arith, here, less)) ends tos_are some gives is)

    rises : (inlines : List Inline) → Rises inlines
    rises [] starts elements to outer from events facts nested stands ends tos_are some is = subst (RiseFilled (to ∷ outer) from) (sym is) tt
    rises (I.Leaf piece ∷ later) starts elements to outer from events facts nested (next, at, stands) ends tos_are some (here, rest, are, gives, is) =
        let after = rises later starts elements to outer next rest facts.1 nested stands ends tos_are some gives in
        let inside : piece.end ≤ to = omega (arith, top later next to outer facts.1 stands ends, at.1) in
        let leaf = leaf_rises source piece to outer rest facts.0.some inside (subst (λ n. RiseFilled (to ∷ outer) n rest) (sym at.1) after)
        piece.kind here facts.0.inner are in
        subst (RiseFilled (to ∷ outer) from) (sym is) (subst (λ n. RiseFilled (to ∷ outer) n (here ++ rest)) at.0 leaf)
    rises (I.EndEmphasis offset count ∷ later) starts elements to outer from events facts (first, inner, are, ends_it, nested)
        (next, at, stands) ends tos_are some (rest, gives, is) =
        let shown : (offset + count) ∷ (open_ends later ++ last ∷ []) ≡ to ∷ outer = ends in
        let there : offset + count ≡ to = cc in
        let others : open_ends later ++ last ∷ [] ≡ outer = cc in
        ended later (rises later) inner elements to outer from next events rest facts.1 nested stands (omega (arith, at.0, at.1))
        (omega (arith, at.1, there)) others (omega (arith, open_counted (open_ends (I.EndEmphasis offset count ∷ later)) elements to outer ends tos_are))
        tos_are some gives is
    rises (I.EndStrikethrough offset count ∷ later) starts elements to outer from events facts (first, inner, are, ends_it, nested)
        (next, at, stands) ends tos_are some (rest, gives, is) =
        let shown : (offset + count) ∷ (open_ends later ++ last ∷ []) ≡ to ∷ outer = ends in
        let there : offset + count ≡ to = cc in
        let others : open_ends later ++ last ∷ [] ≡ outer = cc in
        ended later (rises later) inner elements to outer from next events rest facts.1 nested stands (omega (arith, at.0, at.1))
        (omega (arith, at.1, there)) others (omega (arith, open_counted (open_ends (I.EndStrikethrough offset count ∷ later)) elements to outer ends tos_are))
        tos_are some gives is
    rises (I.EndLink piece ∷ later) starts elements to outer from events facts (first, inner, are, ends_it, nested)
        (next, at, stands) ends tos_are some (rest, gives, is) =
        let shown : piece.end ∷ (open_ends later ++ last ∷ []) ≡ to ∷ outer = ends in
        let there : piece.end ≡ to = cc in
        let others : open_ends later ++ last ∷ [] ≡ outer = cc in
        ended later (rises later) inner elements to outer from next events rest facts.1 nested stands (omega (arith, at.0, at.1, facts.0))
        (omega (arith, at.1, there)) others (omega (arith, open_counted (open_ends (I.EndLink piece ∷ later)) elements to outer ends tos_are))
        tos_are some gives is
    rises (I.StartEmphasis p count ∷ later) starts elements to outer from events facts nested (next, at, stands) ends tos_are some
        (offset, tag, shown, rest, begins, gives, is) =
        begins_rise (I.StartEmphasis p count) later (rises later) starts elements to outer from next offset events shown rest tag facts.0 facts.1 nested
        at stands
        ends tos_are some begins gives is
    rises (I.StartStrikethrough p count ∷ later) starts elements to outer from events facts nested (next, at, stands) ends tos_are some
        (offset, tag, shown, rest, begins, gives, is) =
        begins_rise (I.StartStrikethrough p count) later (rises later) starts elements to outer from next offset events shown rest tag facts.0 facts.1 nested
        at stands
        ends tos_are some begins gives is
    rises (I.StartLink number ∷ later) starts elements to outer from events facts nested (next, at, stands) ends tos_are some
        (offset, tag, shown, rest, begins, gives, is) =
        begins_rise (I.StartLink number) later (rises later) starts elements to outer from next offset events shown rest tag facts.0 facts.1 nested
        at stands
        ends tos_are some begins gives is

    -- from the beginning of a text
    pub all_rise : (inlines : List Inline) (events : List RangedEvent) → AllByRecursion Fact inlines → AreNestedIn links [] inlines
        → StandFrom links 0 inlines last → AreEvents source targets links [] inlines events → RiseFilled (last ∷ []) 0 events
    all_rise inlines events facts nested stands are =
        rises inlines [] [] last [] 0 events facts nested stands (alone (open_ends inlines) (ends_counted inlines [] nested)) refl tt are
      where
        alone : (offsets : List ℕ) → length offsets ≡ 0 → offsets ++ last ∷ [] ≡ last ∷ []
        alone [] none = refl
        alone (to ∷ more) none = absurd (omega (arith, none))
