-- Among the events of inlines no table begins, nor a part of one.
use Rattle.std.proofs.Common.{ℕ, Bool, true, false, not, List, [], ◌∷◌, ◌++◌, Option, refl, sym, subst}
use Rattle.std.specs.Prelude.{⊤, IsTrue, ◌==◌, if◌then◌else◌}
use Rattle.std.specs.declared.ops.Range.{Range}
use Rattle.markdown_values.specs.declared.values.LinkType.{LinkType}
use Rattle.markdown_values.specs.values.Events.{start, text}
use Rattle.markdown_values.specs.values.Tags.{emphasis, strong}
use Rattle.markdown_inlines.specs.declared.inlines.Inline.{Inline}
use Rattle.markdown_inlines.specs.declared.inlines.Inline.TheVariants as I
use Rattle.markdown_inlines.specs.declared.links.Link.{Link}
use Rattle.markdown_inlines.specs.declared.links.LinkTarget.{LinkTarget}
use Rattle.markdown_inlines.specs.declared.links.LinkTarget.TheVariants.{Inline as Within, Full, Collapsed, Shortcut, Wiki}
use Rattle.markdown_inlines.specs.declared.pieces.Piece.{Piece}
use Rattle.markdown_inlines.specs.declared.pieces.PieceKind.{PieceKind}
use Rattle.markdown_inlines.specs.declared.pieces.PieceKind.TheVariants as K
use Rattle.markdown_events.specs.InlineEvents.{AreEvents, AreInlineEvents, ArePieceEvents, Begins, EventSetting, RangedEvent, closing, ranged}
use Rattle.markdown_events.specs.InlineEvents.{shown_target}
use Rattle.markdown_events.specs.Meanings.{has_pipe, link_or_image, within}
use Rattle.markdown_events.specs.Nesting.{Tag, is_in_table}
use Rattle.markdown_events.specs.Targets.{Targets}
use Rattle.markdown_events.specs.declared.elements.Element.{Element}

-- neither a table nor a part of one
abbrev pub IsOther : Tag → Type 0
IsOther tag = IsTrue (not (is_in_table tag))

-- none begins
abbrev pub BeginNoTable : List RangedEvent → Type 0
BeginNoTable [] = ⊤
BeginNoTable ((start tag, range) ∷ later) = IsOther tag × BeginNoTable later
BeginNoTable ((event, range) ∷ later) = BeginNoTable later

module _ (source : List ℕ) (rest : List RangedEvent) (none : BeginNoTable rest) where
  abbrev Adds : List RangedEvent → Type 0
  Adds here = BeginNoTable (here ++ rest)

  piece_begins : (kind : PieceKind) (piece : Piece) (here : List RangedEvent) → ArePieceEvents kind source piece here → Adds here
  piece_begins K.Text piece here is = subst Adds (sym is) none
  piece_begins K.Escape piece here is = subst Adds (sym is) none
  piece_begins K.HardBreak piece here is = subst Adds (sym is) none
  piece_begins K.SoftBreak piece here is = subst Adds (sym is) none
  piece_begins K.Reference piece here is = subst Adds (sym is.3) none
  piece_begins (K.Code backticks) piece here is = subst Adds (sym is) none
  piece_begins K.Uri piece here is = subst Adds (sym is) (refl, none)
  piece_begins K.Email piece here is = subst Adds (sym is) (refl, none)
  piece_begins K.Html piece here is = subst Adds (sym is) none
  piece_begins (K.Delimiters run) piece here is = subst Adds (sym is) none
  piece_begins K.LinkOpener piece here is = subst Adds (sym is) none
  piece_begins K.ImageOpener piece here is = subst Adds (sym is) none
  piece_begins K.Closer piece here is = subst Adds (sym is) none

  end_begins : (elements : List Element) → Adds (closing elements)
  end_begins [] = none
  end_begins (element ∷ outer) = none

  shown_begins : (words : Range ℕ) (target : LinkTarget) → Adds (shown_target source words target)
  shown_begins words (Wiki target) = choose (has_pipe words target)
    where
      choose : (test : Bool) → Adds (if test then [] else ranged (text (within source target)) target.start target.end ∷ [])
      choose true = none
      choose false = none
  shown_begins words (Within destination title) = none
  shown_begins words (Full label) = none
  shown_begins words Collapsed = none
  shown_begins words Shortcut = none

-- ---- elements

other_emphasis : (is_strong : Bool) → IsOther (if is_strong then strong else emphasis)
other_emphasis true = refl
other_emphasis false = refl

other_link : (is_image : Bool) (kind : LinkType) (destination title label : List ℕ) → IsOther (link_or_image is_image kind destination title label)
other_link true kind destination title label = refl
other_link false kind destination title label = refl

module _ (source : List ℕ) (targets : Targets) (links : List (Option Link)) where
  abbrev Shows : List RangedEvent → List RangedEvent → Type 0
  Shows rest shown = BeginNoTable (shown ++ rest)

  element_begins : (inline : Inline) (from : ℕ) (tag : Tag) (shown rest : List RangedEvent) → Begins source targets links inline from tag shown
      → BeginNoTable rest → IsOther tag × BeginNoTable (shown ++ rest)
  element_begins (I.StartEmphasis offset count) from tag shown rest begins none =
      (subst IsOther (sym begins.1) (other_emphasis (count == 2)), subst (Shows rest) (sym begins.2) none)
  element_begins (I.StartStrikethrough offset count) from tag shown rest begins none =
      (subst IsOther (sym begins.1) refl, subst (Shows rest) (sym begins.2) none)
  element_begins (I.StartLink number) from tag shown rest begins none = (
    subst IsOther (sym begins.3.tag_is) (other_link begins.0.is_image _ _ _ _),
    subst (Shows rest) (sym begins.4) (shown_begins source rest none begins.0.text begins.0.target),
  )
  element_begins (I.Leaf piece) from tag shown rest begins none = absurd begins
  element_begins (I.EndEmphasis offset count) from tag shown rest begins none = absurd begins
  element_begins (I.EndStrikethrough offset count) from tag shown rest begins none = absurd begins
  element_begins (I.EndLink piece) from tag shown rest begins none = absurd begins

  begin_none : (inlines : List Inline) (elements : List Element) (events : List RangedEvent) → AreEvents source targets links elements inlines events
      → BeginNoTable events
  begin_none [] elements events is = subst BeginNoTable (sym is) tt
  begin_none (I.Leaf piece ∷ later) elements events (here, rest, are, gives, is) =
      subst BeginNoTable (sym is) (piece_begins source rest (begin_none later elements rest gives) piece.kind piece here are)
  begin_none (I.EndEmphasis offset count ∷ later) elements events (rest, gives, is) =
      subst BeginNoTable (sym is) (end_begins source rest (begin_none later _ rest gives) elements)
  begin_none (I.EndStrikethrough offset count ∷ later) elements events (rest, gives, is) =
      subst BeginNoTable (sym is) (end_begins source rest (begin_none later _ rest gives) elements)
  begin_none (I.EndLink piece ∷ later) elements events (rest, gives, is) =
      subst BeginNoTable (sym is) (end_begins source rest (begin_none later _ rest gives) elements)
  begin_none (I.StartEmphasis offset count ∷ later) elements events (from, tag, shown, rest, begins, gives, is) =
      subst BeginNoTable (sym is) (element_begins (I.StartEmphasis offset count) from tag shown rest begins (begin_none later _ rest gives))
  begin_none (I.StartStrikethrough offset count ∷ later) elements events (from, tag, shown, rest, begins, gives, is) =
      subst BeginNoTable (sym is) (element_begins (I.StartStrikethrough offset count) from tag shown rest begins (begin_none later _ rest gives))
  begin_none (I.StartLink number ∷ later) elements events (from, tag, shown, rest, begins, gives, is) =
      subst BeginNoTable (sym is) (element_begins (I.StartLink number) from tag shown rest begins (begin_none later _ rest gives))

pub inlines_begin_none : (source : List ℕ) (setting : EventSetting) (events : List RangedEvent) → AreInlineEvents source setting events
    → BeginNoTable events
inlines_begin_none source setting events are = begin_none source setting.targets are.links are.inlines [] events are.are_events
