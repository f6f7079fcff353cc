-- Where no label is defined, references add nothing.
use Rattle.std.proofs.Common.{ℕ, Bool, true, false, ◌+◌, ◌==◌, List, [], ◌∷◌, ◌++◌, length, map, Option, Some, None, ◌≡◌, ◌∙◌, refl, sym, subst, arith}
use Rattle.std.proofs.Common.{if◌then◌else◌}
use Rattle.std.specs.declared.ops.Range.{Range}
use Rattle.markdown_values.specs.values.Events.{EventView, end, html, start, text}
use Rattle.markdown_values.specs.values.Tags.{TagView, code_block, emphasis, html_block, paragraph, strong, table, table_cell}
use Rattle.markdown_values.specs.declared.values.LinkType.TheVariants as Kind
use Rattle.markdown_blocks.specs.cells.Contents.{content_of_cell}
use Rattle.markdown_blocks.specs.declared.blocks.BlockKind.{BlockKind}
use Rattle.markdown_blocks.specs.declared.blocks.BlockKind.TheVariants.{Blank, Break, Heading, Setext, Indented, Fenced, Html, Paragraph, Definition, Table}
use Rattle.markdown_blocks.specs.declared.cells.Cell.{Cell}
use Rattle.markdown_blocks.specs.declared.containers.Container.{Container}
use Rattle.markdown_blocks.specs.declared.first_blocks.Task.{Task}
use Rattle.markdown_blocks.specs.events.Events.{LeafBlock}
use Rattle.markdown_blocks.specs.cells.Cells.{cells_of}
use Rattle.markdown_blocks.specs.rows.Rows.{TextAt}
use Rattle.markdown_blocks.specs.link_definitions.LinkDefinitions.{Target}
use Rattle.markdown_inlines.specs.declared.inlines.Inline.{Inline}
use Rattle.markdown_inlines.specs.declared.inlines.Inline.TheVariants as I
use Rattle.markdown_inlines.specs.declared.links.Link.{Link}
use Rattle.markdown_inlines.specs.declared.links.LinkTarget.{LinkTarget}
use Rattle.markdown_inlines.specs.declared.links.LinkTarget.TheVariants.{Inline as Within, Full, Collapsed, Shortcut, Wiki}
use Rattle.markdown_inlines.specs.declared.pieces.Piece.{Piece}
use Rattle.markdown_inlines.specs.declared.pieces.PieceKind.{PieceKind}
use Rattle.markdown_inlines.specs.declared.pieces.PieceKind.TheVariants as K
use Rattle.markdown_events.specs.InlineEvents.{AreEvents, AreInlineEvents, ArePieceEvents, Begins, EventSetting, RangedEvent, closing, ranged, shown_target}
use Rattle.markdown_events.specs.Meanings.{IsLinkTag, IsWrittenTarget, has_pipe, link_or_image, link_type, within}
use Rattle.markdown_events.specs.TagEnds.{tag_end}
use Rattle.markdown_events.specs.Targets.{nowhere}
use Rattle.markdown_events.specs.declared.elements.Element.{Element}
use Rattle.markdown_events.specs.declared.page.table_events.Columns.{Columns}
use Rattle.markdown_events.specs.page.LeafEvents.{AreLeafEventsOf, Place, in_paragraph, line_events, lines_offset, placed, plain_heading}
use Rattle.markdown_events.specs.page.Places.{element}
use Rattle.markdown_events.specs.page.References.{added, added_by, without_references}
use Rattle.markdown_events.specs.page.Spans.{block_end}
use Rattle.markdown_events.specs.page.TableEvents.{AreCellEvents, AreRowEvents, columns_of, row_len, row_tag, rows_in, shown_cells}
use Rattle.markdown_events.specs.page.TaskEvents.{AreBlockEvents, AreEventsWith, after_marker, marker_event, task_here}
use Rattle.markdown_events.proofs.page.RoomLemmas.{added_both}

-- these events add nothing
abbrev pub AddNothing : List RangedEvent → Type 0
AddNothing events = added events ≡ 0

-- ---- inlines

module _ (source : List ℕ) (rest : List RangedEvent) (none : AddNothing rest) where
  abbrev More : List RangedEvent → Type 0
  More here = AddNothing (here ++ rest)

  piece_adds : (kind : PieceKind) (piece : Piece) (here : List RangedEvent) → ArePieceEvents kind source piece here → More here
  piece_adds K.Text piece here is = subst More (sym is) (omega (arith, none))
  piece_adds K.Escape piece here is = subst More (sym is) (omega (arith, none))
  piece_adds K.HardBreak piece here is = subst More (sym is) (omega (arith, none))
  piece_adds K.SoftBreak piece here is = subst More (sym is) (omega (arith, none))
  piece_adds K.Reference piece here is = subst More (sym is.3) (omega (arith, none))
  piece_adds (K.Code backticks) piece here is = subst More (sym is) (omega (arith, none))
  piece_adds K.Uri piece here is = subst More (sym is) (omega (arith, none))
  piece_adds K.Email piece here is = subst More (sym is) (omega (arith, none))
  piece_adds K.Html piece here is = subst More (sym is) (omega (arith, none))
  piece_adds (K.Delimiters run) piece here is = subst More (sym is) (omega (arith, none))
  piece_adds K.LinkOpener piece here is = subst More (sym is) (omega (arith, none))
  piece_adds K.ImageOpener piece here is = subst More (sym is) (omega (arith, none))
  piece_adds K.Closer piece here is = subst More (sym is) (omega (arith, none))

  end_adds : (elements : List Element) → More (closing elements)
  end_adds [] = none
  end_adds (element ∷ outer) = omega (arith, none)

  shown_adds : (words : Range ℕ) (target : LinkTarget) → More (shown_target source words target)
  shown_adds words (Wiki target) = choose (has_pipe words target)
    where
      choose : (test : Bool) → More (if test then [] else ranged (text (within source target)) target.start target.end ∷ [])
      choose true = none
      choose false = omega (arith, none)
  shown_adds words (Within destination title) = none
  shown_adds words (Full label) = none
  shown_adds words Collapsed = none
  shown_adds words Shortcut = none

plain_emphasis : (is_strong : Bool) → added_by (start (if is_strong then strong else emphasis)) ≡ 0
plain_emphasis true = refl
plain_emphasis false = refl

none_is_not : {A : Type 0} (a : A) → None ≡ Some a → ⊥
none_is_not a e = cc

-- a link whose target stands in the text itself
own_link : (is_image : Bool) (destination title label : List ℕ) → added_by (start (link_or_image is_image Kind.Inline destination title label)) ≡ 0
own_link true destination title label = refl
own_link false destination title label = refl

wiki_link : (is_image has_pothole : Bool) (destination title label : List ℕ)
    → added_by (start (link_or_image is_image (Kind.WikiLink has_pothole) destination title label)) ≡ 0
wiki_link true has_pothole destination title label = refl
wiki_link false has_pothole destination title label = refl

link_adds : (source : List ℕ) (is_image : Bool) (words : Range ℕ) (target : LinkTarget) (label : List ℕ) (leads : Target)
    → (destination title : List ℕ) → IsWrittenTarget source nowhere words target label leads
    → added_by (start (link_or_image is_image (link_type words target) destination title label)) ≡ 0
link_adds source is_image words (Within d t) label leads destination title is = own_link is_image destination title label
link_adds source is_image words (Full range) label leads destination title is = absurd (none_is_not leads is.1)
link_adds source is_image words Collapsed label leads destination title is = absurd (none_is_not leads is.1)
link_adds source is_image words Shortcut label leads destination title is = absurd (none_is_not leads is.1)
link_adds source is_image words (Wiki range) label leads destination title is = wiki_link is_image (has_pipe words range) destination title label

module _ (source : List ℕ) (links : List (Option Link)) where
  tag_adds : (it : Link) (tag : TagView (List ℕ)) → IsLinkTag source nowhere it tag → added_by (start tag) ≡ 0
  tag_adds it tag is =
      subst (λ (t : TagView (List ℕ)). added_by (start t) ≡ 0) (sym is.tag_is)
      (link_adds source it.is_image it.text it.target is.label is.target is.destination is.title is.leads)

  element_adds : (inline : Inline) (from : ℕ) (tag : TagView (List ℕ)) (shown rest : List RangedEvent)
      → Begins source nowhere links inline from tag shown → AddNothing rest → (added_by (start tag) ≡ 0) × AddNothing (shown ++ rest)
  element_adds (I.StartEmphasis offset count) from tag shown rest begins none = (
    subst (λ (t : TagView (List ℕ)). added_by (start t) ≡ 0) (sym begins.1) (plain_emphasis (count == 2)),
    subst (λ (s : List RangedEvent). AddNothing (s ++ rest)) (sym begins.2) none,
  )
  element_adds (I.StartStrikethrough offset count) from tag shown rest begins none = (
    subst (λ (t : TagView (List ℕ)). added_by (start t) ≡ 0) (sym begins.1) refl,
    subst (λ (s : List RangedEvent). AddNothing (s ++ rest)) (sym begins.2) none,
  )
  element_adds (I.StartLink number) from tag shown rest begins none = (
    tag_adds begins.0 tag begins.3,
    subst (λ (s : List RangedEvent). AddNothing (s ++ rest)) (sym begins.4) (shown_adds source rest none begins.0.text begins.0.target),
  )
  element_adds (I.Leaf piece) from tag shown rest begins none = absurd begins
  element_adds (I.EndEmphasis offset count) from tag shown rest begins none = absurd begins
  element_adds (I.EndStrikethrough offset count) from tag shown rest begins none = absurd begins
  element_adds (I.EndLink piece) from tag shown rest begins none = absurd begins

  started_adds : (inline : Inline) (from to : ℕ) (tag : TagView (List ℕ)) (shown rest events : List RangedEvent)
      → Begins source nowhere links inline from tag shown → events ≡ ranged (start tag) from to ∷ (shown ++ rest) → AddNothing rest → AddNothing events
  started_adds inline from to tag shown rest events begins same none =
      let both = element_adds inline from tag shown rest begins none in
      subst AddNothing (sym same) (omega (arith, both.0, both.1))

  inlines_add : (inlines : List Inline) (elements : List Element) (events : List RangedEvent) → AreEvents source nowhere links elements inlines events
      → AddNothing events
  inlines_add [] elements events is = subst AddNothing (sym is) refl
  inlines_add (I.Leaf piece ∷ later) elements events (here, rest, are, gives, is) =
      subst AddNothing (sym is) (piece_adds source rest (inlines_add later elements rest gives) piece.kind piece here are)
  inlines_add (I.EndEmphasis offset count ∷ later) elements events (rest, gives, is) =
      subst AddNothing (sym is) (end_adds source rest (inlines_add later _ rest gives) elements)
  inlines_add (I.EndStrikethrough offset count ∷ later) elements events (rest, gives, is) =
      subst AddNothing (sym is) (end_adds source rest (inlines_add later _ rest gives) elements)
  inlines_add (I.EndLink piece ∷ later) elements events (rest, gives, is) =
      subst AddNothing (sym is) (end_adds source rest (inlines_add later _ rest gives) elements)
  inlines_add (I.StartEmphasis offset count ∷ later) elements events (from, tag, shown, rest, begins, gives, is) =
      started_adds (I.StartEmphasis offset count) from _ tag shown rest events begins is (inlines_add later _ rest gives)
  inlines_add (I.StartStrikethrough offset count ∷ later) elements events (from, tag, shown, rest, begins, gives, is) =
      started_adds (I.StartStrikethrough offset count) from _ tag shown rest events begins is (inlines_add later _ rest gives)
  inlines_add (I.StartLink number ∷ later) elements events (from, tag, shown, rest, begins, gives, is) =
      started_adds (I.StartLink number) from _ tag shown rest events begins is (inlines_add later _ rest gives)

-- ---- in the page

placed_add : (before : ℕ) (offsets : List ℕ) (events : List RangedEvent) → added (map (placed before offsets) events) ≡ added events
placed_add before offsets [] = refl
placed_add before offsets (event ∷ later) = omega (arith, placed_add before offsets later)

module _ (page : List ℕ) (setting : EventSetting) where
  abbrev Text : EventSetting
  Text = without_references setting

  text_adds : (source : List ℕ) (before : ℕ) (offsets : List ℕ) (inlines : List RangedEvent) → AreInlineEvents source Text inlines
      → AddNothing (map (placed before offsets) inlines)
  text_adds source before offsets inlines are =
      placed_add before offsets inlines ∙ inlines_add source are.links are.inlines [] inlines are.are_events

  -- an element that is no link adds what it holds
  element_holds : (tag : TagView (List ℕ)) (from to : ℕ) (inner : List RangedEvent) → added_by (start tag) ≡ 0 → AddNothing inner
      → AddNothing (element tag from to inner)
  element_holds tag from to inner plain none = omega (arith, plain, none, added_both inner (ranged (end (tag_end tag)) from to ∷ []))

  paragraph_holds : (is_tight : Bool) (block : LeafBlock) (inner : List RangedEvent) → AddNothing inner → AddNothing (in_paragraph is_tight block inner)
  paragraph_holds true block inner none = none
  paragraph_holds false block inner none = element_holds paragraph _ _ inner refl none

  lines_add : (event : List ℕ → EventView (List ℕ)) → ((line : List ℕ) → added_by (event line) ≡ 0) → (from : ℕ) (lines : List (List ℕ))
      → AddNothing (line_events event from lines)
  lines_add event plain from [] = refl
  lines_add event plain from (line ∷ lines) = omega (arith, plain line, lines_add event plain (from + length line) lines)

  -- ---- tables

  cells_add : (before : ℕ) (row : List ℕ) (cells : List Cell) (events : List RangedEvent) → AreCellEvents Text before row cells events → AddNothing events
  cells_add before row [] events is = subst AddNothing (sym is) refl
  cells_add before row (cell ∷ later) events (inlines, rest, are, are_rest, is) =
      let content = content_of_cell row cell in
      let own = element_holds table_cell (before + cell.start) (before + cell.end) (map (placed before content.offsets) inlines) refl
      (text_adds content.text before content.offsets inlines are) in
      subst AddNothing (sym is) (omega (
        arith,
        own,
        cells_add before row later rest are_rest,
        added_both (element table_cell (before + cell.start)
            (before + cell.end) (map (placed before content.offsets) inlines)) rest,
      ))

  row_is_plain : (is_head : Bool) → added_by (start (row_tag is_head)) ≡ 0
  row_is_plain true = refl
  row_is_plain false = refl

  rows_add : (columns : Columns) (before : ℕ) (is_head : Bool) (rows : List TextAt) (events : List RangedEvent)
      → AreRowEvents Text columns before is_head rows events
      → AddNothing events
  rows_add columns before is_head [] events is = subst AddNothing (sym is) refl
  rows_add columns before is_head (row ∷ later) events (cells, rest, are, are_rest, is) =
      let from = before + row.offset in
      let to = from + row_len row.text in
      let own = element_holds (row_tag is_head) from to cells (row_is_plain is_head)
      (cells_add from row.text (shown_cells columns.are_filled columns.count (row_len row.text) (cells_of row.text)) cells are) in
      subst AddNothing (sym is) (omega (arith, own, rows_add columns before false later rest are_rest, added_both (element (row_tag is_head) from to cells) rest))

  -- ---- leaf blocks

  leaf_adds : (kind : BlockKind) (here : Place) (block : LeafBlock) (events : List RangedEvent) → AreLeafEventsOf kind page Text here block events
      → AddNothing events
  leaf_adds Blank here block events is = subst AddNothing (sym is) refl
  leaf_adds Definition here block events is = subst AddNothing (sym is) refl
  leaf_adds Break here block events is = subst AddNothing (sym is) refl
  leaf_adds (Heading level) here block events (inner, are, is) =
      subst AddNothing (sym is) (element_holds (plain_heading level) block.offset (block_end block) inner refl (subst AddNothing (sym are.are_events) (text_adds _ _ _ are.inlines are.are_inlines)))
  leaf_adds (Setext level) here block events (inner, are, is) =
      subst AddNothing (sym is) (element_holds (plain_heading level) block.offset (block_end block) inner refl (subst AddNothing (sym are.are_events) (text_adds _ _ _ are.inlines are.are_inlines)))
  leaf_adds Paragraph here block events (inner, are, is) =
      subst AddNothing (sym is)
      (paragraph_holds here.is_tight block inner (subst AddNothing (sym are.are_events) (text_adds _ _ _ are.inlines are.are_inlines)))
  leaf_adds Indented here block events (inner, are, is) =
      subst AddNothing (sym is)
      (element_holds (code_block None) (lines_offset block inner) (block_end block) inner refl (subst AddNothing (sym are.are_events) (placed_add _ _ _ ∙ lines_add text (λ line. refl) 0 _)))
  leaf_adds (Fenced count byte) here block events (inner, info, are, meaning, is) =
      subst AddNothing (sym is)
      (element_holds (code_block (Some info)) (lines_offset block inner) (block_end block) inner refl (subst AddNothing (sym are.are_events) (placed_add _ _ _ ∙ lines_add text (λ line. refl) 0 _)))
  leaf_adds (Html kind) here block events (inner, are, is) =
      subst AddNothing (sym is)
      (element_holds html_block (lines_offset block inner) (block_end block) inner refl (subst AddNothing (sym are.are_events) (placed_add _ _ _ ∙ lines_add html (λ line. refl) 0 _)))
  leaf_adds (Table columns) here block events are =
      subst AddNothing (sym are.are_events) (element_holds (table are.alignments) block.offset (block_end block) are.rows refl
      (rows_add (columns_of setting.cells columns (rows_in page here block)) block.start true (rows_in page here block) are.rows are.are_rows))

  pub with_adds : (task : Option Task) (here : Place) (block : LeafBlock) (events : List RangedEvent) → AreEventsWith task page Text here block events
      → AddNothing events
  with_adds None here block events are = leaf_adds block.kind here block events are
  with_adds (Some task) here block events are =
      let content = after_marker task are.content in
      let inlines = map (placed block.start content.offsets) are.inlines in
      let none = text_adds content.text block.start content.offsets are.inlines are.are_inlines in
      let marked : AddNothing (marker_event task ∷ inlines) = omega (arith, none) in
      subst AddNothing (sym are.are_events) (paragraph_holds here.is_tight block (marker_event task ∷ inlines) marked)

  -- a block whose references are text adds nothing
  pub text_adds_nothing : (here : Place) (waiting : Option Container) (block : LeafBlock) (events : List RangedEvent)
      → AreBlockEvents page (without_references setting) here waiting block events → added events ≡ 0
  text_adds_nothing here waiting block events are = with_adds (task_here setting.asked.tasks waiting block) here block events are
